use Rattle.std.proofs.Common.{vec_items}
use Rattle.book.proofs.CallByCall.{ended, one_more}
use Rattle.book.proofs.runs.run.Goals as goal

pub loop-call-preserved : goal.loop-call-preserved
loop-call-preserved g c w =
    let calls = c.args.calls.now in
    let i = c.loop-call.call-index in
    let s = c.loop-call.invariant w in
    let next = one_more w c.new-book.result calls i c.call-item.result (vec_items c.loop-call.answers) c.apply-answer.result c.loop-call.book c.apply-answer.new.self c.loop-call-test.true c.call-item.is s (c.apply-answer.ensures w _ s.recorded) in
    rw c.in_ok-push.ensures.items next

pub returns : goal.returns
returns g c w = ended w c.new-book.result c.args.calls.now c.loop-call.call-index (vec_items c.loop-call.answers) c.loop-call.book c.loop-call-test.false (c.loop-call.invariant w)
