-- A book that records a history records it with one more accepted trade.
use Rattle.std.proofs.Common.{pos, ◌≡◌, ℕ, ◌≤◌, Bool, true, false, cond, eqb, List, [], ◌∷◌, map, ℤ, ◌+ℤ◌, ◌-ℤ◌, neg_ℤ, nat_abs, Some, sym, refl, ap, ◌∙◌, arith}
use Rattle.std.proofs.ByRecursion.{All-map}
use Rattle.std.proofs.lemmas.Int.{ints}
use Rattle.std.proofs.lemmas.Bool.{eq-eqb}
use Rattle.std.proofs.lemmas.Bool.Decides.{nat_tests}
use Rattle.std.specs.List.{AllByRecursion}
use Rattle.tables.proofs.Comparisons.{by_order, equal_not_less, less_not_greater}
use Rattle.tables.proofs.Entries.{above_cons, above_tail, ascending_head, ascending_tail, all_entered}
use Rattle.tables.specs.Finding.{Above, Ascending}
use Rattle.tally.proofs.Ascents.{keys_ascend, with_key_ascends}
use Rattle.tally.proofs.Bounds.{net_elsewhere, quiet_in_trade, quiet_stance}
use Rattle.tally.proofs.Nets.{net_within, stranger_net, traded_capped}
use Rattle.tally.specs.Orders.{among_with_key, before_differs, before_one, before_transitive, same_itself}
use Rattle.tally.specs.Deals.{buyer_of, seller_of, sound_deal}
use Rattle.tally.specs.History.{History, traded, amount_if, assignment_of, listed_terms, net_of, position_keys, recorded_stance, terms_with, traded_in, with_key}
use Rattle.tally.specs.Keys.{before, same_key}
use Rattle.tally.specs.Table.{accepted}
use Rattle.tally.specs.Tally.{Kept, answer_to_trade, is_among}
use Rattle.tally.specs.declared.deals.Deal.{Deal}
use Rattle.tally.specs.declared.keys.PositionKey.{PositionKey}
use Rattle.tally.specs.declared.listings.Terms.{Terms}
use Rattle.book.proofs.RecordedLists.{taken_back, terms_recorded}
use Rattle.book.specs.Calls.{keys_of_rows, trade_says, volume_in}
use Rattle.book.specs.Held.{rows_in}
use Rattle.book.specs.Records.{Recorded, position_of, swaption_of}
use Rattle.book.specs.Rows.{Fair, fresh, moved, netted, traded_positions, traded_swaptions}
use Rattle.book.specs.declared.swaptions.Swaption.{Swaption}
use Rattle.book.specs.declared.row_tables.Table.{Table}
use Rattle.book.specs.declared.positions.Position.{Position}

-- keys above one are others
above_not_among : (k : PositionKey) (keys : List PositionKey) → Above (λ j. j) before keys k 0 → is_among k keys ≡ false
above_not_among k [] a = refl
above_not_among k (j ∷ keys) a = grind (arith, (before_differs k j (a 0 j (omega arith) (omega arith))).1, above_not_among k keys (above_tail (λ j. j) before k j keys a))

-- ---- the rows of keys, with the net of one changed
module _ (f g : PositionKey → Position) (k : PositionKey) (change : ℤ) (named : (j : PositionKey) → (f j).key ≡ j) (others : (j : PositionKey) → same_key k j ≡ false → g j ≡ f j) (here : g k ≡ moved change (f k)) where
  rows_above : (keys : List PositionKey) → Above (λ j. j) before keys k 0 → map g keys ≡ map f keys
  rows_above [] a = refl
  rows_above (j ∷ keys) a = grind (arith, others j (before_differs k j (a 0 j (omega arith) (omega arith))).0, rows_above keys (above_tail (λ j. j) before k j keys a))

  rows_netted : (keys : List PositionKey) → Ascending (λ j. j) before keys → (is_among k keys ≡ false → f k ≡ fresh k) → map g (with_key k keys) ≡ netted k change (map f keys)
  rows_netted [] asc new = grind (arith, here, new refl)
  rows_netted (x ∷ keys) asc new =
      let head = ascending_head (λ j. j) before x keys asc in
      by_order before before_one k x
      (λ (under : before k x ≡ true).
      let above = above_cons (λ j. j) before k x keys under (λ i d le in'. before_transitive k x _ under (head i d le in')) in
      grind (arith, under, named x, here, new (above_not_among k (x ∷ keys) above), rows_above (x ∷ keys) above))
      (λ (at : k ≡ x). grind (arith, at, equal_not_less before before_one x x refl, named x, here, rows_above keys (rw at head)))
      (λ (over : before x k ≡ true).
      grind (arith, over, less_not_greater before before_one x k over, named x, others x (before_differs x k over).1, rows_netted keys (ascending_tail (λ j. j) before x keys asc) (λ e. new (grind (arith, before_differs x k over, e)))))

-- ---- the two sides of a sound deal
pub sides_differ : (deal : Deal) → sound_deal deal ≡ true → same_key (buyer_of deal) (seller_of deal) ≡ false
sides_differ deal s = grind (arith, nat_tests)

-- ---- figures of a book that records a history
volume_back : (t : History) (n : ℕ) (all : List Terms) (terms : Terms) → terms_with n all ≡ Some terms → volume_in n (map (swaption_of t) all) ≡ traded_in t n
volume_back t n [] terms e = grind arith
volume_back t n (x ∷ all) terms e = grind (arith, nat_tests, volume_back t n all terms)

module _ (t : History) (swaptions : Table Swaption 16) (positions : Table Position 256) (latest : ℕ) (deal : Deal) (h : Recorded t swaptions positions latest) where
  keys_recorded : keys_of_rows (rows_in positions) ≡ position_keys t
  keys_recorded = ap keys_of_rows h.netted ∙ taken_back (position_of t) (λ p. p.key) (λ _. refl) (position_keys t)

  -- the book's answer to a trade is the tally's
  pub trade_answer_same : trade_says (rows_in swaptions) (rows_in positions) latest deal ≡ answer_to_trade t deal
  trade_answer_same =
      grind (arith, nat_tests, h.moment, keys_recorded, terms_recorded t swaptions positions latest h, ap (volume_in deal.swaption) h.listed, volume_back t deal.swaption (listed_terms t))

  module _ (ok : trade_says (rows_in swaptions) (rows_in positions) latest deal ≡ accepted) where
    trade_kept : Kept (traded deal ∷ t)
    trade_kept = (h.kept, sym trade_answer_same ∙ ok)

    -- a stranger in the swaption of a trade has a fresh row
    fresh_stranger : (k : PositionKey) → eqb deal.swaption k.swaption ≡ true → is_among k (position_keys t) ≡ false → position_of t k ≡ fresh k
    fresh_stranger k e none =
        let q = quiet_in_trade deal t k trade_kept e in
        grind (arith, stranger_net t k none, quiet_stance t k q, q.4)

    same_number : eqb deal.swaption deal.swaption ≡ true
    same_number = eq-eqb deal.swaption deal.swaption refl

    -- the rows once the buyer has bought
    abbrev bought : PositionKey → Position
    bought k = cond (same_key (buyer_of deal) k) (moved deal.amount (position_of t k)) (position_of t k)

    abbrev with_net : PositionKey → ℤ → Position
    with_net k z = record { key = k; net = z; stance = recorded_stance t k; assignment = assignment_of t k }

    sold_row : (k : PositionKey) (b : Bool) → with_net k (net_of t k +ℤ amount_if b deal.amount -ℤ pos 0) ≡ cond b (moved deal.amount (position_of t k)) (position_of t k)
    sold_row k true = ap (with_net k) (omega (arith, ints))
    sold_row k false = ap (with_net k) (omega (arith, ints))

    differ : same_key (buyer_of deal) (seller_of deal) ≡ false
    differ = sides_differ deal (grind (arith, ok))

    once_bought : map bought (with_key (buyer_of deal) (position_keys t)) ≡ netted (buyer_of deal) deal.amount (map (position_of t) (position_keys t))
    once_bought =
        rows_netted (position_of t) bought (buyer_of deal) deal.amount (λ _. refl)
        (λ j ne. grind (arith, ne)) (grind (arith, same_itself (buyer_of deal)))
        (position_keys t) (keys_ascend t) (fresh_stranger (buyer_of deal) same_number)

    once_sold : map (position_of (traded deal ∷ t)) (position_keys (traded deal ∷ t)) ≡ netted (seller_of deal) (neg_ℤ deal.amount) (map bought (with_key (buyer_of deal) (position_keys t)))
    once_sold =
        rows_netted bought (position_of (traded deal ∷ t)) (seller_of deal) (neg_ℤ deal.amount) (λ k. grind arith)
        (λ j ne. rw ne (sold_row j (same_key (buyer_of deal) j)))
        (rw (differ, same_itself (seller_of deal)) (ap (with_net (seller_of deal)) (omega (arith, ints))))
        (with_key (buyer_of deal) (position_keys t))
        (with_key_ascends (buyer_of deal) (position_keys t) (keys_ascend t))
        (λ none. rw differ (fresh_stranger (seller_of deal) same_number (grind (arith, none, among_with_key (seller_of deal) (buyer_of deal) (position_keys t)))))

    positions_after : traded_positions deal (rows_in positions) ≡ map (position_of (traded deal ∷ t)) (position_keys (traded deal ∷ t))
    positions_after = rw (h.netted, sym once_bought, sym once_sold) refl

    swaptions_after : (all : List Terms) → traded_swaptions deal (map (swaption_of t) all) ≡ map (swaption_of (traded deal ∷ t)) all
    swaptions_after [] = refl
    swaptions_after (x ∷ all) = grind (arith, swaptions_after all)

    pub trade_recorded : (new_swaptions : Table Swaption 16) (new_positions : Table Position 256) → rows_in new_swaptions ≡ traded_swaptions deal (rows_in swaptions) → rows_in new_positions ≡ traded_positions deal (rows_in positions) → Recorded (traded deal ∷ t) new_swaptions new_positions deal.moment
    trade_recorded new_swaptions new_positions s p = record {
      kept = trade_kept;
      moment = refl;
      listed = s ∙ ap (traded_swaptions deal) h.listed ∙ swaptions_after (listed_terms t);
      netted = p ∙ positions_after;
    }

    -- a row in the swaption of a trade is silent, with nothing assigned
    fair_in_trade : (k : PositionKey) → eqb deal.swaption k.swaption ≡ true → Fair (position_of (traded deal ∷ t) k)
    fair_in_trade k e =
        let q = quiet_in_trade deal t k trade_kept e in
        grind (arith, quiet_stance t k q, q.4)

    fair_still : (k : PositionKey) → Fair (position_of t k) → Fair (position_of (traded deal ∷ t) k)
    fair_still k f = grind (arith, fair_in_trade k, net_elsewhere deal t k, f)

    pub trade_fair : AllByRecursion Fair (rows_in positions) → AllByRecursion Fair (traded_positions deal (rows_in positions))
    trade_fair fair =
        rw positions_after (All-map Fair (position_of (traded deal ∷ t)) (position_keys (traded deal ∷ t))
        (all_entered (λ k. Fair (position_of (traded deal ∷ t) k)) (λ j. j) before (seller_of deal) (λ j. j) (seller_of deal) (fair_in_trade (seller_of deal) same_number) (λ x f. f) (with_key (buyer_of deal) (position_keys t))
        (all_entered (λ k. Fair (position_of (traded deal ∷ t) k)) (λ j. j) before (buyer_of deal) (λ j. j) (buyer_of deal) (fair_in_trade (buyer_of deal) same_number) (λ x f. f) (position_keys t)
        (still (position_keys t) (rw h.netted at fair)))))
      where
        still : (keys : List PositionKey) → AllByRecursion Fair (map (position_of t) keys) → AllByRecursion (λ k. Fair (position_of (traded deal ∷ t) k)) keys
        still [] a = tt
        still (k ∷ keys) a = (fair_still k a.0, still keys a.1)

  -- no net passes 2,000,000,000
  pub nets_capped : AllByRecursion (λ p. nat_abs p.net ≤ 2000000000) (rows_in positions)
  nets_capped =
      rw h.netted (All-map (λ p. nat_abs p.net ≤ 2000000000) (position_of t) (position_keys t) (all_of (position_keys t)))
    where
      all_of : (keys : List PositionKey) → AllByRecursion (λ k. nat_abs (net_of t k) ≤ 2000000000) keys
      all_of [] = tt
      all_of (k ∷ keys) = (omega (arith, net_within t k, traded_capped t k.swaption h.kept), all_of keys)
