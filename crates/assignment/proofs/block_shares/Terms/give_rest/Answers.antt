use Rattle.std.proofs.Common.{◌<◌, get_or, length, arith}
use Rattle.std.proofs.lemmas.Grind.{common_steps}
use Rattle.assignment.specs.BlockDuties.{apt_of, share_le}
use Rattle.assignment.proofs.BlockTurns.{granted_before, granted_places}
use Rattle.assignment.proofs.block_shares.Terms.give_rest.Goals as goal

pub part-part-requires : goal.part-part-requires
part-part-requires c =
    let t = c.args.self in
    let os = c.args.«open».now in
    let i = c.loop-i.i in
    let all = granted_places c.requires in
    let h : i < length os = omega arith in
    let has = granted_before c.loop-i.answer i c.requires h c.loop-i.invariant.unchanged in
    let le = share_le t (apt_of t os i c.requires.standing.terms h) (get_or os i 0) in
    grind (arith, common_steps)

pub loop-i-preserved : goal.loop-i-preserved
loop-i-preserved c =
    let all = granted_places c.requires in
    let has = granted_before c.loop-i.answer c.loop-i.i c.requires (omega arith) c.loop-i.invariant.unchanged in
    record { unchanged = grind (arith, common_steps); written = grind (arith, common_steps) }

pub returns : goal.returns
returns c =
    let all = granted_places c.requires in
    grind (arith, common_steps)
