-- The price that rows answer.
use Rattle.std.specs.Prelude.{◌≡◌, ℕ, Bool, true, cond, ◌&&◌, List, [], ◌∷◌, Some, None, Option, ◌==◌, nat_le}
use Rattle.std.specs.List.{ContainsAt as Has}
use Rattle.std.specs.Option.{option_or}
use Rattle.prices.specs.declared.marks.Mark.{Mark}
use Rattle.prices.specs.declared.tapes.TapeRow.{TapeRow}

-- The price of the last row that applies, if one does.
abbrev pub last_price : {X : Type 0} → (X → Bool) → (X → ℕ) → List X → Option ℕ
last_price applies price [] = None
last_price applies price (x ∷ xs) = option_or (last_price applies price xs) (cond (applies x) (Some (price x)) None)

-- A mark applies to an index if it is of that index.
abbrev pub of_index : ℕ → Mark → Bool
of_index index mark = mark.index == index

-- The price that marks answer for an index: that of the last mark of the index.
abbrev pub marked : List Mark → ℕ → Option ℕ
marked rows index = last_price (of_index index) (λ mark. mark.price) rows

-- A row of a tape applies to an index at a moment if it is of that index and its moment is not after that moment.
abbrev pub known_by : ℕ → ℕ → TapeRow → Bool
known_by index moment row = row.index == index && nat_le row.moment moment

-- The price that a tape answers for an index at a moment: that of the last row of the index whose moment is not after it.
abbrev pub taped : List TapeRow → ℕ → ℕ → Option ℕ
taped rows index moment = last_price (known_by index moment) (λ row. row.price) rows

-- Some row applies and has the price.
abbrev pub Priced : {X : Type 0} → (X → Bool) → (X → ℕ) → List X → ℕ → Type 0
Priced {X} applies price rows p = (x : X) × Has rows x × (applies x ≡ true) × (price x ≡ p)
