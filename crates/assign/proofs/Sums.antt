-- The sum of amounts in the library's word.
use Rattle.std.proofs.Common.{◌≡◌, ℕ, List, [], ◌∷◌, sum, refl, arith}
use Rattle.std.proofs.lemmas.List.Sums.{sum_by-cons}
use Rattle.assignment.specs.Asks.{sum_of}

pub sum_is_sum_of : (xs : List ℕ) → sum xs ≡ sum_of xs
sum_is_sum_of [] = refl
sum_is_sum_of (x ∷ xs) = omega (arith, sum_by-cons (λ n. n) x xs, sum_is_sum_of xs)
