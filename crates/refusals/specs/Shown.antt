-- How a refusal is written.
use Rattle.std.specs.Prelude.{ℕ, List, [], ◌++◌, Some, None, codes, decimal, Option}
use Rattle.refusals.specs.declared.Refusal.{Refusal}
use Rattle.refusals.specs.Numbers.{number_of, place_of}

-- A blank and the place, or nothing.
abbrev pub place_shown : Option ℕ → List ℕ
place_shown None = []
place_shown (Some place) = codes " " ++ decimal place

-- The word "refused", the number, and the place if there is one.
abbrev pub shown_as : Refusal → List ℕ
shown_as refusal = codes "refused " ++ (decimal (number_of refusal) ++ place_shown (place_of refusal))
