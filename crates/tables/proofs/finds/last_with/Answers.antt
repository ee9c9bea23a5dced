use Rattle.std.proofs.Common.{◌≡◌, ◌+◌, ◌-◌, ◌<◌, true, false, length, ap, ◌∙◌, subst, arith}
use Rattle.std.specs.Ordering.{MatchOrdering}
use Rattle.tables.specs.Finding.{Below}
use Rattle.tables.proofs.Comparisons.{ranked_less}
use Rattle.tables.proofs.Searches.{below_past}
use Rattle.tables.proofs.finds.last_with.Goals as goal

pub returns-in_default : goal.returns-in_default
returns-in_default g c =
    let key = g.T.Keyed.named in
    let less = g.T.Key.Key.less in
    let laws = g.met.T.Key.Key in
    let rows = c.args.rows.now in
    let k = c.args.key.now in
    let x = c.index-rows-end.result in
    let end = c.end_of-end.result in
    let in' : end - 1 < length rows = omega (arith, c.end_of-end.ensures.within) in (
      c.end_of-end.ensures.within,
      λ order.
          let parts = c.end_of-end.ensures.parts order in
          let up_to : less k (key x) ≡ false = ap (λ y. less k (key y)) c.index-rows-end.is ∙ parts.0 (end - 1) x (omega arith) in
          let lesser : less (key x) k ≡ true = ranked_less less laws.exactly_one (key x) k c.compare.result (subst (λ a. MatchOrdering c.compare.result (less a k ≡ true) (a ≡ k) (less k a ≡ true)) c.key.ensures c.compare.ensures) c.in_default.not-Equal up_to in
          let below = below_past key less laws.exactly_one laws.transitive rows k order (end - 1) x in' c.index-rows-end.is lesser in
          let same : end - 1 + 1 ≡ end = omega arith in
          (subst (Below key less rows k) same below, parts.1),
    )
