-- Places of rows in a table of positions, as a search answers them.
use Rattle.std.specs.Prelude.{ℕ, ◌<◌, ◌≤◌, List, Ok, Err, Result, slice_index_or, slice_set}
use Rattle.std.specs.List.{insert}
use Rattle.tally.specs.declared.keys.PositionKey.{PositionKey}
use Rattle.book.specs.Rows.{fresh}
use Rattle.book.specs.declared.positions.Position.{Position}

-- A place among so many rows: of one of them, or where one can be put in.
abbrev pub Fits : Result ℕ ℕ → ℕ → Type 0
Fits (Ok i) count = i < count
Fits (Err i) count = i ≤ count

-- How many rows are missing at a place: none or one.
abbrev pub missing_at : Result ℕ ℕ → ℕ
missing_at (Ok i) = 0
missing_at (Err i) = 1

-- The row at a place, or a fresh one if it is missing.
abbrev pub row_or_fresh : List Position → Result ℕ ℕ → PositionKey → Position
row_or_fresh rows (Ok i) k = slice_index_or rows i (fresh k)
row_or_fresh rows (Err i) k = fresh k

-- The rows with one written at its place, or put in there.
abbrev pub placed : Result ℕ ℕ → Position → List Position → List Position
placed (Ok i) row rows = slice_set rows i row
placed (Err i) row rows = insert rows i row

-- A place that a lesser key has beside that of a greater one: what is put in or written at the greater one's does not
-- move it.
abbrev pub Ordered : Result ℕ ℕ → Result ℕ ℕ → Type 0
Ordered (Ok i) (Ok j) = i < j
Ordered (Ok i) (Err j) = i < j
Ordered (Err i) (Ok j) = i ≤ j
Ordered (Err i) (Err j) = i ≤ j
