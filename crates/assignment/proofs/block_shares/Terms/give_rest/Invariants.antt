use Rattle.std.proofs.Common.{◌≡◌, ◌++◌, take, drop}
use Rattle.assignment.specs.BlockShares.{last_pass}
use Rattle.assignment.proofs.block_shares.Terms.give_rest.Given as goal

abbrev pub invariant-loop-i : goal.invariant-loop-i
invariant-loop-i l = record {
  unchanged : drop l.i l.answer ≡ drop l.i l.initial.answer;
  written : take l.i l.answer ++ last_pass l.self l.left (drop l.i l.«open») (drop l.i l.held) ≡ last_pass l.self l.initial.left l.«open» l.held;
}
