use Rattle.std.proofs.Common.{rules, arith}
use Rattle.std.proofs.Output.{has_written_append}
use Rattle.std.proofs.lemmas.Iterator.Consumers.{YieldsList-turn, YieldsList-end}
use Rattle.assign.proofs.StepLines.{lines_more, lines_all, sellers_yielded, sum_positive}
use Rattle.assign.proofs.report.StepsDisplay.fmt.Goals as goal

pub invariant_of-pro_rata : goal.invariant_of-pro_rata
invariant_of-pro_rata g c =
    let shown = c.args.self.now.0 in
    let turn = YieldsList-turn (sellers_yielded shown.«open».now shown.amounts.now (cc) (cc) (cc)) c.loop-place.yielded _ c.loop-place.yielded_by _ c.next.new.self (c.in-Some.place, (c.in-Some.position, c.in-Some.amount)) c.in-Some.is c.next.ensures.steps in
    record { some_open = omega (arith, sum_positive shown.«open».now shown.amounts.now _ shown.opens turn.0, c.sum-sum.ensures) }

pub loop-place-preserved : goal.loop-place-preserved
loop-place-preserved g c = (
  search rules,
  search rules,
  λ plain. rw lines_more (has_written_append _ _ _ _ _ _ (c.loop-place.invariant.2 plain) (search (rules, c.step-step.ensures))),
)

pub returns-clause-writes : goal.returns-clause-writes
returns-clause-writes g c = λ plain done.
    let shown = c.args.self.now.0 in
    let end = YieldsList-end (sellers_yielded shown.«open».now shown.amounts.now (cc) (cc) (cc)) c.loop-place.yielded _ c.loop-place.yielded_by _ c.next.new.self c.in-None.is c.next.ensures.steps in
    rw (← c.sum-sum.ensures, ← lines_all shown.total c.sum-sum.result c.loop-place.yielded shown.«open».now shown.amounts.now end.0) (c.loop-place.invariant.2 plain)
