use Rattle.std.proofs.Common.{◌-◌, arith}
use Rattle.std.proofs.lemmas.Bool.Decides.{nat_tests}
use Rattle.prices.proofs.rows.check_rows.Goals as goal

pub returns-then-not-may_follow : goal.returns-then-not-may_follow
returns-then-not-may_follow g c =
    let n = c.loop-place.place in
    let x = c.index-rows-place.result in
    let inv = c.loop-place.invariant in
    (omega arith, inv.0, λ sound. grind (arith, nat_tests, c.index-rows-place.is, c.rank-rank.ensures, c.price.ensures, c.may_follow.ensures, c.if-not-may_follow.true, inv.1 x, inv.2, sound.0 n x, sound.1 (n - 1) x))
