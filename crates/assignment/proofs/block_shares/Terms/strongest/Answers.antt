use Rattle.std.proofs.Common.{◌<◌, ◌∙◌, length, None, sym, refl, arith}
use Rattle.std.specs.Iterator.Adapters.{enumerate_source}
use Rattle.std.proofs.lemmas.Grind.{common_steps}
use Rattle.std.proofs.lemmas.Slice.Zip.{either_empty_from_Zip}
use Rattle.assignment.specs.BlockDuties.{apt_of}
use Rattle.assignment.specs.BlockOrder.{strongest_waits}
use Rattle.assignment.proofs.BlockTurns.{strongest_of_none}
use Rattle.assignment.proofs.block_shares.Terms.strongest.Goals as goal

pub claim-requires : goal.claim-requires
claim-requires c =
    let some : 0 < length c.args.«open».now = grind (arith, common_steps) in
    apt_of c.args.self c.args.«open».now 0 c.requires.terms some

pub returns : goal.returns
returns c =
    let last = rw c.in-None.is at c.next.ensures.steps in
    let over = either_empty_from_Zip (enumerate_source c.loop-i.i-iterator) (enumerate_source c.next.new.self) None refl last.0 in
    let is = sym (strongest_of_none c.args.self _ c.loop-i.best _ _ over) ∙ c.loop-i.invariant.3 in
    record { value = is; waits = strongest_waits c.args.self c.args.«open».now c.args.held.now c.loop-i.best c.requires.long is }
