-- A book that records a history records it with one more accepted list.
use Rattle.std.proofs.Common.{◌≡◌, ℕ, ltb, List, [], ◌∷◌, map, Some, sym, refl, ap, ◌∙◌, arith}
use Rattle.std.proofs.lemmas.Bool.Decides.{nat_tests}
use Rattle.tables.specs.Entering.{entered}
use Rattle.tally.proofs.Unlisted.{untouched}
use Rattle.tally.specs.History.{History, listed, listed_terms}
use Rattle.tally.specs.Table.{accepted}
use Rattle.tally.specs.Tally.{Kept, list_among}
use Rattle.tally.specs.declared.listings.Terms.{Terms}
use Rattle.book.specs.Calls.{list_says, terms_of_rows}
use Rattle.book.specs.Held.{rows_in}
use Rattle.book.specs.Records.{Recorded, swaption_of}
use Rattle.book.specs.Rows.{fresh_swaption, with_swaption}
use Rattle.book.specs.declared.positions.Position.{Position}
use Rattle.book.specs.declared.row_tables.Table.{Table}
use Rattle.book.specs.declared.swaptions.Swaption.{Swaption}

-- what a function takes back of each row
pub taken_back : {X Y : Type 0} (f : X → Y) (g : Y → X) → ((x : X) → g (f x) ≡ x) → (xs : List X) → map g (map f xs) ≡ xs
taken_back f g back [] = refl
taken_back f g back (x ∷ xs) = grind (arith, back x, taken_back f g back xs)

-- the terms in the book are those listed in the history
pub terms_recorded : (t : History) (swaptions : Table Swaption 16) (positions : Table Position 256) (latest : ℕ) → Recorded t swaptions positions latest → terms_of_rows (rows_in swaptions) ≡ listed_terms t
terms_recorded t swaptions positions latest h = ap terms_of_rows h.listed ∙ taken_back (swaption_of t) (λ s. s.terms) (λ _. refl) (listed_terms t)

-- rows that a history gives, with one more entered
rows_with_one_more : (t : History) (terms : Terms) (all : List Terms) → map (swaption_of t) (entered (λ x. x.number) ltb terms.number (λ x. x) terms all) ≡ entered (λ s. s.terms.number) ltb terms.number (λ s. s) (swaption_of t terms) (map (swaption_of t) all)
rows_with_one_more t terms [] = refl
rows_with_one_more t terms (x ∷ all) = grind (arith, rows_with_one_more t terms all)

module _ (t : History) (swaptions new : Table Swaption 16) (positions : Table Position 256) (latest : ℕ) (terms : Terms) (h : Recorded t swaptions positions latest) (ok : list_says (rows_in swaptions) (Some terms) ≡ accepted) where
  list_kept : Kept (listed terms ∷ t)
  list_kept = (h.kept, ap (λ all. list_among all (Some terms)) (sym (terms_recorded t swaptions positions latest h)) ∙ ok)

  fresh_is : swaption_of t terms ≡ fresh_swaption terms
  fresh_is =
      let u = untouched t terms.number h.kept (grind (arith, nat_tests, list_kept.1)) in
      grind (arith, u)

  pub list_recorded : rows_in new ≡ with_swaption terms (rows_in swaptions) → Recorded (listed terms ∷ t) new positions latest
  list_recorded is = record {
    kept = list_kept;
    moment = h.moment;
    listed = grind (arith, is, h.listed, fresh_is, rows_with_one_more t terms (listed_terms t));
    netted = h.netted;
  }
