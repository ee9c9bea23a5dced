use Rattle.std.proofs.Common.{arith, rules}
use Rattle.tables.proofs.Insertions.{copied_moved_up}
use Rattle.tables.proofs.changes.insert_at.Goals as goal

pub returns-clause-put : goal.returns-clause-put
returns-clause-put g c =
    copied_moved_up c.args.rows.now c.copy_within.new.self c.args.at c.args.row (omega arith) c.copy_within.ensures.len (search rules) (search rules) _ c.replace.ensures.put
