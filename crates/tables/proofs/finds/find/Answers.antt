use Rattle.tables.proofs.Searches.{found_once}
use Rattle.tables.proofs.finds.find.Goals as goal

pub returns : goal.returns
returns g c = record {
  found = c.last_with.ensures;
  same = λ order other f. found_once g.T.Keyed.named g.T.Key.Key.less g.met.T.Key.Key.exactly_one c.args.rows.now c.args.key.now order c.last_with.result other c.last_with.ensures f;
}
