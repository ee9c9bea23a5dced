use Rattle.std.proofs.Common.{◌≡◌, ℕ, ◌+◌, ◌<◌, ◌≤◌, get_or, drop}
use Rattle.assignment.specs.Asks.{sum_of}
use Rattle.assignment.proofs.asks.open_sum.Given as goal

abbrev pub invariant-loop-position : goal.invariant-loop-position
invariant-loop-position l =
    (l.sum ≤ 2000000000) × (l.sum + sum_of (drop l.position-index l.open) ≡ sum_of l.open) × ((k : ℕ) → k < l.position-index → 1 ≤ get_or l.open k 0)
