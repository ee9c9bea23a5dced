use Rattle.std.proofs.Common.{sym, ◌∙◌, arith}
use Rattle.assignment.proofs.BlockTurns.{block_given, rounds_given, rounds_short, rounds_unclaimed}
use Rattle.assignment.proofs.block_shares.Terms.give_blocks.Goals as goal

pub overflow_add-answer : goal.overflow_add-answer
overflow_add-answer c =
    omega (arith, (block_given c.loop-left.invariant.granted c.in-Some.ensures.waits).room, c.type_inv.open c.in-Some.next.seller)

pub loop-left-preserved : goal.loop-left-preserved
loop-left-preserved c =
    let inv = c.loop-left.invariant in
    record {
      granted = (block_given inv.granted c.in-Some.ensures.waits).granted;
      to_come = rounds_given inv.granted.standing c.in-Some.ensures.value c.loop-left-test.true ∙ inv.to_come;
    }

pub returns-after-loop-left-clause-rounds : goal.returns-after-loop-left-clause-rounds
returns-after-loop-left-clause-rounds c =
    let inv = c.loop-left.invariant in
    sym (rounds_short inv.granted.standing c.loop-left-test.false) ∙ inv.to_come

pub returns-in_default-clause-rounds : goal.returns-in_default-clause-rounds
returns-in_default-clause-rounds c =
    let inv = c.loop-left.invariant in
    sym (rounds_unclaimed inv.granted.standing c.in_default.ensures.value) ∙ inv.to_come
