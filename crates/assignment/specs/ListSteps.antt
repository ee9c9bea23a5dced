-- Facts on lists that the rules share.
use Rattle.std.specs.Prelude.{◌≡◌, ℕ, zero, suc, ◌<◌, ◌≤◌, List, [], ◌∷◌, length, drop, slice_index}
use Rattle.std.proofs.Common.{sym, ap, ◌∙◌, arith, add-zero}
use Rattle.std.proofs.lemmas.List.{get_or-drop}
use Rattle.assignment.specs.Asks.{sum_of}

pub get_or_le_sum : (xs : List ℕ) (i : ℕ) → i < length xs → slice_index xs i ≤ sum_of xs
get_or_le_sum [] i h = absurd (omega arith)
get_or_le_sum (x ∷ xs) zero h = omega arith
get_or_le_sum (x ∷ xs) (suc i) h = let rest = get_or_le_sum xs i (omega arith) in omega arith

-- an element that no write has reached
pub rest_at : (out before : List ℕ) (i : ℕ) → drop i out ≡ drop i before → slice_index out i ≡ slice_index before i
rest_at out before i e = ap (λ k. slice_index out k) (sym (add-zero i)) ∙ sym (get_or-drop i out 0 0) ∙ ap (λ ys. slice_index ys 0) e ∙ get_or-drop i before 0 0 ∙ ap (λ k. slice_index before k) (add-zero i)
