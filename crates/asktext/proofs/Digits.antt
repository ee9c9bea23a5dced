-- A word's number, read from the left.
use Rattle.std.proofs.Common.{◌≡◌, ℕ, ◌+◌, ◌-◌, ◌*◌, ◌≤◌, cond, ◌&&◌, leb, List, [], ◌∷◌, Some, None, Option, arith}
use Rattle.asktext.specs.Format.{all_digits, value_after}
use Rattle.asktext.specs.Parts.{grown_by}

-- what a word is whose digits so far write n, and whose other bytes are bs
abbrev pub number_after : ℕ → List ℕ → Option ℕ
number_after n bs = cond (all_digits bs && leb (value_after n bs) 4294967295) (Some (value_after n bs)) None

-- more digits make no smaller number
value_after_grows : (n : ℕ) (bs : List ℕ) → n ≤ value_after n bs
value_after_grows n [] = omega arith
value_after_grows n (b ∷ bs) = omega (arith, value_after_grows (n * 10 + (b - 48)) bs)

-- a byte with which there is no number
pub number_after_none : (n b : ℕ) (bs : List ℕ) → None ≡ grown_by n b → number_after n (b ∷ bs) ≡ None
number_after_none n b bs is = let grows = value_after_grows (n * 10 + (b - 48)) bs in grind arith
