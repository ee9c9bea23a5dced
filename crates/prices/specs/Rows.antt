-- Rows of prices as they are handed over.
use Rattle.std.specs.Prelude.{ℕ, ◌+◌, ◌<◌, ◌≤◌, List, length, slice_index_or}

-- The highest price, in hundred-thousandths of par.
abbrev pub highest_price : ℕ
highest_price = 200000

-- None of the first n rows has a price above the highest.
abbrev pub InRange : {X : Type 0} → (X → ℕ) → List X → ℕ → Type 0
InRange {X} price rows n = (i : ℕ) (d : X) → i < n → price (slice_index_or rows i d) ≤ highest_price

-- Of the first n rows none has a rank below that of the row before it.
abbrev pub NeverFalling : {X : Type 0} → (X → ℕ) → List X → ℕ → Type 0
NeverFalling {X} rank rows n = (i : ℕ) (d : X) → i + 1 < n → rank (slice_index_or rows i d) ≤ rank (slice_index_or rows (i + 1) d)

-- The first n rows are sound: no price is above the highest, and no rank falls.
abbrev pub SoundTo : {X : Type 0} → (X → ℕ) → (X → ℕ) → List X → ℕ → Type 0
SoundTo rank price rows n = InRange price rows n × NeverFalling rank rows n

-- All rows are sound.
abbrev pub Sound : {X : Type 0} → (X → ℕ) → (X → ℕ) → List X → Type 0
Sound rank price rows = SoundTo rank price rows (length rows)

-- The rows before the place are sound, and with the row at the place they are not.
abbrev pub FirstUnsound : {X : Type 0} → (X → ℕ) → (X → ℕ) → List X → ℕ → Type 0
FirstUnsound rank price rows place = (place < length rows) × SoundTo rank price rows place × (SoundTo rank price rows (place + 1) → ⊥)
