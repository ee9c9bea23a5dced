-- Rows in the order of their keys, and what a search for a key answers.
use Rattle.std.specs.Prelude.{◌≡◌, ℕ, ◌+◌, ◌<◌, ◌≤◌, Bool, true, false, List, length, Ok, Err, Result, slice_index_or}

-- The rows are in order: no later row has a less key than an earlier one. Equal keys are allowed.
abbrev pub InOrder : {X K : Type 0} → (X → K) → (K → K → Bool) → List X → Type 0
InOrder {X} key less rows = (i j : ℕ) (d : X) → i < j → j < length rows → less (key (slice_index_or rows j d)) (key (slice_index_or rows i d)) ≡ false

-- The keys ascend: every later row has a greater key than every earlier one.
abbrev pub Ascending : {X K : Type 0} → (X → K) → (K → K → Bool) → List X → Type 0
Ascending {X} key less rows = (i j : ℕ) (d : X) → i < j → j < length rows → less (key (slice_index_or rows i d)) (key (slice_index_or rows j d)) ≡ true

-- The rows before the place have less keys.
abbrev pub Below : {X K : Type 0} → (X → K) → (K → K → Bool) → List X → K → ℕ → Type 0
Below {X} key less rows k place = (i : ℕ) (d : X) → i < place → less (key (slice_index_or rows i d)) k ≡ true

-- The rows before the place have no greater keys.
abbrev pub UpTo : {X K : Type 0} → (X → K) → (K → K → Bool) → List X → K → ℕ → Type 0
UpTo {X} key less rows k place = (i : ℕ) (d : X) → i < place → less k (key (slice_index_or rows i d)) ≡ false

-- The rows from the place on have greater keys.
abbrev pub Above : {X K : Type 0} → (X → K) → (K → K → Bool) → List X → K → ℕ → Type 0
Above {X} key less rows k place = (i : ℕ) (d : X) → place ≤ i → i < length rows → less k (key (slice_index_or rows i d)) ≡ true

-- The answer to a search: the place of a row, or a place where one belongs.
abbrev pub Answer : Type 0
Answer = Result ℕ ℕ

-- What a search for a key answers: a row that has it, the last one if the rows are in order; or else, if they are in order, the place between the lesser and the greater, and no row has the key.
abbrev pub Found : {X K : Type 0} → (X → K) → (K → K → Bool) → List X → K → Answer → Type 0
Found {X} key less rows k (Ok place) = (place < length rows) × ((d : X) → key (slice_index_or rows place d) ≡ k) × (InOrder key less rows → Above key less rows k (place + 1))
Found {X} key less rows k (Err place) = (place ≤ length rows) × (InOrder key less rows → Below key less rows k place × Above key less rows k place)
