-- How many rows a table holds.
use Rattle.std.proofs.Common.{◌≡◌, ℕ, length, arith}
use Rattle.std.proofs.lemmas.List.{length-take-le}
use Rattle.book.specs.Held.{rows_in}
use Rattle.book.specs.declared.row_tables.Table.{Table}

pub as_many_as_count : {X : Type 0} {N : ℕ} (table : Table X N) → length (rows_in table) ≡ table.count
as_many_as_count table = length-take-le table.count table.rows (omega (arith, table.whole, table.few))
