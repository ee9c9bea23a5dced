use Rattle.std.proofs.Common.{rules}
use Rattle.tables.proofs.Pairs.{put_twice}
use Rattle.tables.proofs.changes.insert_two.Goals as goal

pub returns-clause-put : goal.returns-clause-put
returns-clause-put g c =
    let p = c.copy_within.ensures in
    let q = c.copy_within-2.ensures in
    put_twice c.args.rows.now c.copy_within.new.self c.copy_within-2.new.self c.args.low c.args.high c.in_ok-end.end c.args.first c.args.second (search rules) (search rules) (search rules) p.len (search rules) (search rules) q.len (search rules) (search rules) (search rules) _ c.replace.ensures.put
