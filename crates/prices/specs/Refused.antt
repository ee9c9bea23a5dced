-- What is written of what prices refuse.
use Rattle.std.specs.Prelude.{ℕ, List, ◌++◌, codes, decimal}
use Rattle.prices.specs.declared.payoffs.UnknownKind.{UnknownKind}
use Rattle.prices.specs.declared.rows.UnsoundRow.{UnsoundRow}

-- What is written of a row that is not sound: its place.
abbrev pub unsound_shown : UnsoundRow → List ℕ
unsound_shown row = codes "the row at place " ++ (decimal row.0 ++ codes " is not sound")

-- What is written of a number that stands for no kind: the number.
abbrev pub unknown_shown : UnknownKind → List ℕ
unknown_shown unknown = codes "no kind of swaption has number " ++ decimal unknown.0
