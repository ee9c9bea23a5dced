use Rattle.std.proofs.Common.{◌≡◌, ◌*◌, ◌≤◌, take, sum_by}
use Rattle.tables.proofs.totals.total.Given as goal

-- the sum of the rows so far, each less than 2 ^ 64
abbrev pub invariant-loop-row : goal.invariant-loop-row
invariant-loop-row g l = (l.sum ≡ sum_by g.T.Counted.counts (take l.row-index l.rows)) × (l.sum ≤ l.row-index * 18446744073709551615)
