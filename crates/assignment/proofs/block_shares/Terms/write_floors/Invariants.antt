use Rattle.std.proofs.Common.{◌≡◌, ◌+◌, ◌++◌, map, take, drop}
use Rattle.assignment.specs.Asks.{sum_of}
use Rattle.assignment.specs.BlockShares.{floor_share}
use Rattle.assignment.proofs.block_shares.Terms.write_floors.Given as goal

abbrev pub invariant-loop-i : goal.invariant-loop-i
invariant-loop-i l = record {
  left : l.left + sum_of (map (floor_share l.self) l.«open») ≡ l.self.total + sum_of (map (floor_share l.self) (drop l.i l.«open»));
  written : take l.i l.answer ++ map (floor_share l.self) (drop l.i l.«open») ≡ map (floor_share l.self) l.«open»;
}
