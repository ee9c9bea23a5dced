use Rattle.std.specs.Fmt.{HasWritten, IsPlainFormatter}
use Rattle.assign.proofs.StepLines.{lines_so_far}
use Rattle.assign.proofs.report.StepsDisplay.fmt.Given as goal

abbrev pub invariant-loop-place : goal.invariant-loop-place
invariant-loop-place g l =
    (goal.iterator-loop-place g).can_next l.place-iterator
    × (goal.iterator-loop-place g).is_finite l.place-iterator
    × (IsPlainFormatter l.initial.f → HasWritten g.W.Write.write_str_gives l.initial.f (lines_so_far l.total l.sum l.yielded) l.f)
