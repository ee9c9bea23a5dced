-- Rule 1: amounts by running sums.
use Rattle.std.specs.Prelude.{ℕ, ◌+◌, ◌-◌, ◌*◌, ◌/◌, List, [], ◌∷◌}
use Rattle.assignment.specs.Asks.{sum_of}

-- The amounts of the sellers from one on, where the positions before that one add up to `before`.
abbrev pub running_from : ℕ → ℕ → ℕ → List ℕ → List ℕ
running_from total all before [] = []
running_from total all before (o ∷ os) =
    (total * (before + o) / all - total * before / all) ∷ running_from total all (before + o) os

-- Each seller's amount: the part of the total due to the positions up to and with its own, the fraction
-- dropped, less the same for the positions before it.
abbrev pub running : ℕ → List ℕ → List ℕ
running total positions = running_from total (sum_of positions) 0 positions
