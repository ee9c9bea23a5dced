-- Changes of one row among others.
use Rattle.std.specs.Prelude.{ℕ, ◌+◌, ◌-◌, Bool, cond, ◌&&◌, List, codes, length, take, nat_le, nat_lt}
use Rattle.std.specs.List.{insert}

-- The rows with one put in at a place, those from there on moved up by one over what stood last; as they were if there is no such place.
abbrev pub moved_up : {X : Type 0} → List X → ℕ → X → List X
moved_up rows at row = cond (nat_lt at (length rows)) (insert (take (length rows - 1) rows) at row) rows

-- Whether two rows can be put in at two places of so many rows, the second not below the first.
abbrev pub two_fit : ℕ → ℕ → ℕ → Bool
two_fit size low high = nat_le low high && nat_lt (high + 1) size

-- The rows with two put in, at places counted before, those above moved up over what stood in the last two places; as they were if there are no such places.
abbrev pub moved_up_twice : {X : Type 0} → List X → ℕ → X → ℕ → X → List X
moved_up_twice rows low first high second = cond (two_fit (length rows) low high) (insert (insert (take (length rows - 2) rows) high second) low first) rows

-- What is written of a place that is not there.
abbrev pub refusal_shown : List ℕ
refusal_shown = codes "no such place"
