use Rattle.std.proofs.Common.{arith}
use Rattle.std.proofs.Math.Seq.{take-set-lt}
use Rattle.book.proofs.Held.{as_many_as_count}
use Rattle.book.proofs.row_tables.Table.write.Goals as goal

pub returns : goal.returns
returns g c =
    let table = c.args.self.now in
    take-set-lt table.count table.rows c.args.at c.args.row (omega (arith, c.requires, as_many_as_count table))
