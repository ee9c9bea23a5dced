use Rattle.std.proofs.Common.{◌≡◌, length}
use Rattle.assignment.specs.BlockShares.{State, by_remainder, rounds, state}
use Rattle.assignment.specs.BlockSteps.{Granted}
use Rattle.assignment.proofs.block_shares.Terms.give_blocks.Given as goal

abbrev pub invariant-loop-left : goal.invariant-loop-left
invariant-loop-left l = record {
  granted : Granted l.self l.open l.held l.answer;
  to_come : ◌≡◌ {A = State} (rounds by_remainder l.self l.open (length l.open) (state l.left l.held)) (rounds by_remainder l.self l.open (length l.open) (state l.initial.left l.initial.held));
}

abbrev pub decreases-loop-left : goal.decreases-loop-left
decreases-loop-left l = l.left
