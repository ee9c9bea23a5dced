use Rattle.std.proofs.Common.{◌≡◌, ◌+◌, ◌*◌, ◌/◌, ◌++◌, take, drop}
use Rattle.assignment.specs.Asks.{sum_of}
use Rattle.assignment.specs.RunningSums.{running, running_from}
use Rattle.assignment.proofs.running_sums.RunningFitRule.ask.Given as goal

abbrev pub invariant-loop-i : goal.invariant-loop-i
invariant-loop-i l =
    let os = l.ask.«open».now in record {
      part : l.before + sum_of (drop l.i os) ≡ sum_of os;
      due : l.paid ≡ l.ask.total * l.before / l.sum;
      written : take l.i l.answer ++ running_from l.ask.total l.sum l.before (drop l.i os) ≡ running l.ask.total os;
    }
