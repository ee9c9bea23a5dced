use Rattle.std.proofs.Common.{◌≡◌, ◌≤◌, length, None}
use Rattle.std.specs.Iterator.Adapters.{enumerate_count, enumerate_source, zip_first, zip_second}
use Rattle.std.specs.Slice.Iter.{iter_rest}
use Rattle.assignment.specs.BlockShares.{strongest_from}
use Rattle.assignment.proofs.block_shares.Terms.strongest.Given as goal

abbrev pub invariant-loop-i : goal.invariant-loop-i
invariant-loop-i l =
    let rest = enumerate_source l.i-iterator in
    (goal.iterator-loop-i).can_next l.i-iterator
    × (goal.iterator-loop-i).is_finite l.i-iterator
    × (length (iter_rest (zip_first rest)) ≤ length l.«open»)
    × (strongest_from l.self (enumerate_count l.i-iterator) l.best (iter_rest (zip_first rest)) (iter_rest (zip_second rest)) ≡ strongest_from l.self 0 None l.«open» l.held)
