use Rattle.std.proofs.Common.{◌≡◌, true, false, subst, arith}
use Rattle.tables.specs.Finding.{Above}
use Rattle.tables.proofs.Comparisons.{ranked_up_to}
use Rattle.tables.proofs.Searches.{up_to_past, above_from}
use Rattle.tables.proofs.finds.end_of.Goals as goal

pub loop-low-preserved-in-Greater : goal.loop-low-preserved-in-Greater
loop-low-preserved-in-Greater g c =
    let key = g.T.Keyed.named in
    let less = g.T.Key.Key.less in
    let laws = g.met.T.Key.Key in
    let k = c.args.key.now in
    let x = c.index-rows-mid.result in
    let greater : less k (key x) ≡ true = subst (λ a. less k a ≡ true) c.key.ensures c.in-Greater.ensures in (
      omega arith,
      omega arith,
      λ order. ((c.loop-low.invariant.2 order).0, above_from key less laws.exactly_one laws.transitive c.args.rows.now k order _ x (omega arith) c.index-rows-mid.is greater),
    )

pub loop-low-preserved : goal.loop-low-preserved
loop-low-preserved g c =
    let key = g.T.Keyed.named in
    let less = g.T.Key.Key.less in
    let laws = g.met.T.Key.Key in
    let k = c.args.key.now in
    let x = c.index-rows-mid.result in
    let up_to : less k (key x) ≡ false = subst (λ a. less k a ≡ false) c.key.ensures (ranked_up_to less laws.exactly_one c.key.result k c.compare.result c.compare.ensures c.in_default.not-Greater) in (
      omega arith,
      omega arith,
      λ order. (up_to_past key less laws.exactly_one laws.transitive c.args.rows.now k order _ x (omega arith) c.index-rows-mid.is up_to, (c.loop-low.invariant.2 order).1),
    )

pub returns : goal.returns
returns g c =
    let key = g.T.Keyed.named in
    let less = g.T.Key.Key.less in
    let same : c.loop-low.high ≡ c.loop-low.low = omega arith in
    record {
      within = omega arith;
      parts = λ order. ((c.loop-low.invariant.2 order).0, subst (Above key less c.args.rows.now c.args.key.now) same (c.loop-low.invariant.2 order).1);
    }
