-- One word more of those that are numbers.
use Rattle.std.proofs.Common.{◌≡◌, ℕ, ◌+◌, ◌<◌, List, [], ◌∷◌, ◌++◌, map, length, get_or, drop, Some, None, append_assoc, sym, ap, ◌∙◌, arith}
use Rattle.std.specs.List.{enumerate_from}
use Rattle.std.proofs.lemmas.List.{at_drop_more}
use Rattle.std.proofs.lemmas.List.FromFn.{length-enumerate_from, get_or-enumerate_from}
use Rattle.asktext.specs.Format.{value_of, first_fault}
use Rattle.asktext.specs.Parts.{number_of_word}

-- the word at a place, counted from 0
pub word_at : (ws : List (List ℕ)) (n place : ℕ) (word : List ℕ) → (n < length (enumerate_from 0 ws)) × ((place, word) ≡ get_or (enumerate_from 0 ws) n (place, word)) → (place ≡ n) × (drop n ws ≡ word ∷ drop (n + 1) ws)
word_at ws n place word turn =
    let inside : n < length ws = omega (arith, length-enumerate_from 0 ws, turn.0) in
    let same = turn.1 ∙ get_or-enumerate_from 0 ws n (place, word) inside in
    let here : place ≡ 0 + n = ap (λ p. p.0) same in
    (omega (arith, here), at_drop_more (λ us. us) ws n word inside ∙ ap (λ w. w ∷ drop (n + 1) ws) (sym (ap (λ p. p.1) same)))

pub first_fault_more : (k n : ℕ) (w : List ℕ) (ws : List (List ℕ)) → Some n ≡ number_of_word w → first_fault k (w ∷ ws) ≡ first_fault (k + 1) ws
first_fault_more k n w ws is = grind arith

pub first_fault_here : (k : ℕ) (w : List ℕ) (ws : List (List ℕ)) → None ≡ number_of_word w → first_fault k (w ∷ ws) ≡ Some k
first_fault_here k w ws is = grind arith

pub values_more : (found : List ℕ) (n : ℕ) (w : List ℕ) (ws : List (List ℕ)) → Some n ≡ number_of_word w → found ++ map value_of (w ∷ ws) ≡ (found ++ n ∷ []) ++ map value_of ws
values_more found n w ws is = rw append_assoc (grind arith)
