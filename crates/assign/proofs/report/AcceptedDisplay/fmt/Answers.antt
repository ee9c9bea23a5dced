use Rattle.std.proofs.Common.{append_assoc}
use Rattle.assign.specs.Report.{accepted_shown}
use Rattle.assign.proofs.report.AcceptedDisplay.fmt.Goals as goal

pub returns-clause-writes : goal.returns-clause-writes
unfolding accepted_shown
returns-clause-writes g c = λ plain done. simp append_assoc (rw (c.sum-positions.ensures, c.sum-assigned.ensures) at (c.write.ensures.writes plain done))
