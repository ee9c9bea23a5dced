-- The rows that a table holds.
use Rattle.std.specs.Prelude.{ℕ, List, take}
use Rattle.book.specs.declared.row_tables.Table.{Table}

-- The rows that a table holds: the first so many of its array.
abbrev pub rows_in : {X : Type 0} {N : ℕ} → Table X N → List X
rows_in table = take table.count table.rows
