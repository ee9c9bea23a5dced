use Rattle.std.proofs.Common.{vec_items}
use Rattle.tally.specs.Tally.{World}
use Rattle.book.proofs.CallByCall.{Sofar}
use Rattle.book.proofs.runs.run.Given as goal

abbrev pub invariant-loop-call : goal.invariant-loop-call
invariant-loop-call g l = (w : World _) → Sofar w l.initial.book l.calls l.call-index (vec_items l.answers) l.book
