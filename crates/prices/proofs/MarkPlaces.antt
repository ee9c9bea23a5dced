-- The price of the mark that a search finds.
use Rattle.std.proofs.Common.{◌≡◌, ℕ, ltb, List, get_or, Some, None, Ok, Err, Result, is_some, ap, refl, arith}
use Rattle.std.proofs.lemmas.Bool.{both_ways, eq-eqb}
use Rattle.std.proofs.lemmas.Bool.Decides.{nat_tests}
use Rattle.std.specs.Result.{result_ok}
use Rattle.tables.specs.Finding.{Found, InOrder}
use Rattle.prices.specs.LastPrices.{last_at, last_none}
use Rattle.prices.specs.Quotes.{marked, of_index}
use Rattle.prices.specs.declared.marks.Mark.{Mark}

module _ (rows : List Mark) (index : ℕ) (order : InOrder (λ mark. mark.index) ltb rows) where
  pub marked_found : (place : ℕ) (d : Mark) → Found (λ mark. mark.index) ltb rows index (Ok place) → marked rows index ≡ Some (get_or rows place d).price
  marked_found place d found =
      last_at (of_index index) (λ mark. mark.price) rows place d found.0 (eq-eqb _ _ (found.1 d))
      (λ i e gt lt. grind (arith, nat_tests, found.2 order i e))

  pub marked_missing : (r : Result ℕ ℕ) → Found (λ mark. mark.index) ltb rows index r → result_ok r ≡ None → marked rows index ≡ None
  marked_missing (Ok place) found none = absurd (both_ways _ (ap is_some none) refl)
  marked_missing (Err place) found none =
      let parts = found.1 order in
      last_none (of_index index) (λ mark. mark.price) rows
      (λ i d lt. grind (arith, nat_tests, parts.0 i d, parts.1 i d))
