use Rattle.std.proofs.Common.{◌-◌, ◌≤◌, length}
use Rattle.tables.specs.Finding.{InOrder, UpTo, Above}
use Rattle.tables.proofs.finds.end_of.Given as goal

-- the rows before `low` have no greater keys, and those from `high` on have greater ones
abbrev pub invariant-loop-low : goal.invariant-loop-low
invariant-loop-low g l =
    let key = g.T.Keyed.named in
    let less = g.T.Key.Key.less in
    (l.low ≤ l.high) × (l.high ≤ length l.rows) × (InOrder key less l.rows → UpTo key less l.rows l.key l.low × Above key less l.rows l.key l.high)

abbrev pub decreases-loop-low : goal.decreases-loop-low
decreases-loop-low g l = l.high - l.low
