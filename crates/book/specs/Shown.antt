-- How a position is written.
use Rattle.std.specs.Prelude.{ℕ, List, ◌++◌, codes, decimal}
use Rattle.std.specs.Fmt.{signed_decimal}
use Rattle.tally.specs.Shown.{key_shown}
use Rattle.book.specs.Rows.{bound_of}
use Rattle.book.specs.declared.positions.Position.{Position}

-- Its key, its net, what it is bound to and what it was assigned, a blank between each two.
abbrev pub position_shown : Position → List ℕ
position_shown p =
    key_shown p.key ++ (codes " " ++ (signed_decimal p.net ++ (codes " " ++ (decimal (bound_of p) ++ (codes " " ++ decimal p.assignment)))))
