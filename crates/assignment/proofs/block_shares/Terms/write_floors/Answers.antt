use Rattle.std.proofs.Common.{arith}
use Rattle.std.proofs.lemmas.Grind.{common_steps}
use Rattle.assignment.specs.BlockDuties.{apt_of, floors_le}
use Rattle.assignment.proofs.block_shares.Terms.write_floors.Goals as goal

pub share-share-requires : goal.share-share-requires
share-share-requires c = apt_of c.args.self c.args.«open».now c.loop-i.i c.requires.terms c.loop-i-test.true

pub overflow_sub-left : goal.overflow_sub-left
overflow_sub-left c =
    let apt = apt_of c.args.self c.args.«open».now c.loop-i.i c.requires.terms c.loop-i-test.true in
    let le = floors_le c.args.self c.args.«open».now c.requires.terms apt in
    grind (arith, common_steps)

pub loop-i-preserved : goal.loop-i-preserved
loop-i-preserved c =
    let apt = apt_of c.args.self c.args.«open».now c.loop-i.i c.requires.terms c.loop-i-test.true in
    let le = floors_le c.args.self c.args.«open».now c.requires.terms apt in
    record { left = grind (arith, common_steps); written = grind (arith, common_steps) }
