-- A trade that a book judges by searches is answered by the table, and leaves what it should.
use Rattle.std.proofs.Common.{w64, SFits, to_z, of_z, ◌≡◌, ◌≢◌, ℕ, ◌+◌, ◌<◌, ◌≤◌, true, false, cond, eqb, ltb, List, ◌∷◌, map, length, get_or, set, nat_abs, Ok, Err, sym, ◌∙◌, subst, arith}
use Rattle.std.proofs.lemmas.Int.{to_z-of_z}
use Rattle.std.proofs.lemmas.Bool.Decides.{nat_tests}
use mathlib.Core.Logic.{∥∥₁_elim, ∥∥₁_map}
use native.Mathlib.Bridge.{le_prop}
use Rattle.std.proofs.ByRecursion.{All-from_get_or, All-get_or}
use Rattle.std.proofs.lemmas.List.{get_or_default, get_or-map, get_or-set_other, get_or-set_same, get_or-take, length-map, length-set, same_lists}
use Rattle.std.proofs.lemmas.Bool.{cases_eq, cases_order}
use Rattle.std.specs.List.{AllByRecursion}
use Rattle.refusals.specs.declared.Refusal.TheVariants.{NotListed}
use Rattle.tables.specs.Finding.{Ascending, Found}
use Rattle.tally.specs.Deals.{buyer_of, seller_of, sound_deal}
use Rattle.tally.specs.History.{History, traded}
use Rattle.tally.specs.Keys.{before}
use Rattle.tally.specs.Table.{Answer, accepted, trade_rows}
use Rattle.tally.specs.declared.deals.Deal.{Deal}
use Rattle.book.proofs.Ascents.{positions_ascend, swaptions_ascend}
use Rattle.book.proofs.Held.{as_many_as_count}
use Rattle.book.proofs.Figures.{listed_terms_found, listed_terms_missing, missing_found}
use Rattle.book.proofs.RecordedTrades.{nets_capped, trade_fair, trade_recorded}
use Rattle.book.specs.Calls.{trade_says}
use Rattle.book.specs.Held.{rows_in}
use Rattle.book.specs.Judging.{Placed}
use Rattle.book.specs.Places.{missing_at}
use Rattle.book.specs.Records.{Led, Recorded}
use Rattle.book.specs.Rows.{AllFair, Fair, blank, traded_positions, traded_swaptions, with_volume}
use Rattle.book.specs.declared.books.Book.{Book}
use Rattle.book.specs.declared.places.TradePlaces.{TradePlaces}
use Rattle.book.specs.declared.row_tables.Table.{Table}
use Rattle.book.specs.declared.positions.Position.{Position}
use Rattle.book.specs.declared.swaptions.Swaption.{Swaption}

-- ---- one swaption's row written
module _ (rows : List Swaption) (asc : Ascending (λ s. s.terms.number) ltb rows) (n i : ℕ) (f : Found (λ s. s.terms.number) ltb rows n (Ok i)) (change : Swaption → Swaption) (d : Swaption) where
  -- every other row has another number
  others_differ : (m : ℕ) (e : Swaption) → m ≢ i → m < length rows → eqb n (get_or rows m e).terms.number ≡ false
  others_differ m e apart in' = grind (arith, nat_tests, apart, in', f.0, f.1 e, asc m i e, asc i m e, cases_order m i)

  abbrev by_number : Swaption → Swaption
  by_number s = cond (eqb n s.terms.number) (change s) s

  written_by_number : set rows i (change (get_or rows i d)) ≡ map by_number rows
  written_by_number =
      let v = change (get_or rows i d) in
      same_lists (set rows i v) (map by_number rows) (length-set rows i v ∙ sym (length-map rows by_number))
      (λ m e h.
      let in' : m < length rows = omega (arith, length-set rows i v) in
      grind (arith, nat_tests, cases_eq m i, get_or-map by_number rows m e e in', get_or-set_same rows i v e f.0, get_or-set_other rows i m v e, get_or_default rows i d e f.0, f.1 e, others_differ m e))

module _ (book : Book) (deal : Deal) where
  abbrev S : List Swaption
  S = rows_in book.swaptions

  abbrev P : List Position
  P = rows_in book.positions

  pub positions_capped : AllByRecursion (λ p. nat_abs p.net ≤ 2000000000) P
  positions_capped =
      All-from_get_or (λ p. nat_abs p.net ≤ 2000000000) P blank
      (λ i h. ∥∥₁_elim book.led le_prop (λ x. All-get_or (λ p. nat_abs p.net ≤ 2000000000) P i blank h (nets_capped x.0 book.swaptions book.positions book.latest deal x.1)))

  -- a sound trade in a swaption that is not listed
  pub book_misses_swaption : sound_deal deal ≡ true → (i : ℕ) → Found (λ s. s.terms.number) ltb S deal.swaption (Err i) → Err NotListed ≡ trade_says S P book.latest deal
  book_misses_swaption sound i f = grind (arith, sound, listed_terms_missing S (swaptions_ascend book) deal.swaption i f)

  -- what was judged of a sound trade in a listed swaption, by what the searches found
  module _ (places : TradePlaces) (row : Swaption) (sound : sound_deal deal ≡ true) (listed_at : Found (λ s. s.terms.number) ltb S deal.swaption (Ok places.swaption)) (row_is : row ≡ get_or S places.swaption row) (buyer_found : Found (λ p. p.key) before P (buyer_of deal) places.buyer) (seller_found : Found (λ p. p.key) before P (seller_of deal) places.seller) (answer : Answer) (ones others : ℕ) (one : ones ≡ missing_at places.buyer) (other : others ≡ missing_at places.seller) (says : answer ≡ trade_rows deal row.terms book.latest row.traded (ones + others) book.positions.count) where
    pub trade_judged : answer ≡ trade_says S P book.latest deal
    trade_judged =
        let found = listed_terms_found S (swaptions_ascend book) deal.swaption places.swaption row listed_at in
        let buyers = missing_found P (positions_ascend book) (buyer_of deal) blank places.buyer buyer_found in
        let sellers = missing_found P (positions_ascend book) (seller_of deal) blank places.seller seller_found in
        grind (arith, says, sound, found, row_is, buyers, sellers, one, other, length-map P (λ p. p.key), as_many_as_count book.positions)

    pub trade_placed : answer ≡ accepted → Placed S P book.latest deal places
    trade_placed ok = record { says = sym trade_judged ∙ ok; listed_at = listed_at; buyer_found = buyer_found; seller_found = seller_found }

  -- what follows for an accepted trade
  module _ (places : TradePlaces) (j : Placed S P book.latest deal places) where
    -- there is room for the positions that are missing
    pub trade_room : length P + missing_at places.buyer + missing_at places.seller ≤ 256
    trade_room = grind (arith, nat_tests, j.says, length-map P (λ p. p.key), missing_found P (positions_ascend book) (buyer_of deal) blank places.buyer j.buyer_found, missing_found P (positions_ascend book) (seller_of deal) blank places.seller j.seller_found)

    -- the amount without its sign, as it is read of the deal's bits
    module _ (amount : ℕ) (fits : SFits w64 deal.amount) (read : amount ≡ nat_abs (to_z w64 (of_z w64 deal.amount))) where
      -- what is traded in the swaption stays within its bound
      pub volume_capped : (d : Swaption) → (get_or S places.swaption d).traded + amount ≤ 2000000000
      volume_capped d = grind (arith, nat_tests, j.says, read, to_z-of_z w64 deal.amount fits, (listed_terms_found S (swaptions_ascend book) deal.swaption places.swaption d j.listed_at).1)

      -- the swaption's row with the amount added
      pub swaptions_traded : (d : Swaption) → set S places.swaption (with_volume amount (get_or S places.swaption d)) ≡ traded_swaptions deal S
      swaptions_traded d = rw (read, to_z-of_z w64 deal.amount fits) (written_by_number S (swaptions_ascend book) deal.swaption places.swaption j.listed_at (with_volume (nat_abs deal.amount)) d)

    module _ (new_swaptions : Table Swaption 16) (new_positions : Table Position 256) (s : rows_in new_swaptions ≡ traded_swaptions deal S) (p : rows_in new_positions ≡ traded_positions deal P) where
      pub led_by_trade : Led new_swaptions new_positions deal.moment
      led_by_trade = ∥∥₁_map book.led (λ x. (traded deal ∷ x.0, trade_recorded x.0 book.swaptions book.positions book.latest deal x.1 j.says new_swaptions new_positions s p))

      was_fair : AllByRecursion Fair P
      was_fair = All-from_get_or Fair P blank (λ i h. grind (arith, h, as_many_as_count book.positions, get_or-take book.positions.count book.positions.rows i blank, book.fair i))

      fair_after : AllByRecursion Fair (traded_positions deal P) → (i : ℕ) → i < new_positions.count → Fair (get_or new_positions.rows i blank)
      fair_after t i h = subst Fair (get_or-take new_positions.count new_positions.rows i blank h) (All-get_or Fair (rows_in new_positions) i blank (omega (arith, h, as_many_as_count new_positions)) (rw p t))

      pub fair_by_trade : AllFair new_positions.rows new_positions.count
      fair_by_trade i h =
          let after = λ (x : (t : History) × Recorded t book.swaptions book.positions book.latest). fair_after (trade_fair x.0 book.swaptions book.positions book.latest deal x.1 j.says was_fair) i h in
          (∥∥₁_elim book.led le_prop (λ x. (after x).0), ∥∥₁_elim book.led le_prop (λ x. (after x).1))
