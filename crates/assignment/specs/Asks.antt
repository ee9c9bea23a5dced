-- Asks: when one is sound, what an answer to it is, and which amounts fit it.
use Rattle.std.specs.Prelude.{◌≡◌, ℕ, ◌+◌, ◌*◌, ◌<◌, ◌≤◌, List, [], ◌∷◌, length, Ok, Err, Result, slice_index}
use Rattle.refusals.specs.Numbers.{number_of}
use Rattle.refusals.specs.declared.Refusal.{Refusal}

-- The sum of a list of amounts.
abbrev pub sum_of : List ℕ → ℕ
sum_of [] = 0
sum_of (x ∷ xs) = x + sum_of xs

-- Open positions: each is at least 1, and they add up to at most 2,000,000,000.
pub record Opens (positions : List ℕ) : Type 0 where
  pub each_open : (i : ℕ) → i < length positions → 1 ≤ slice_index positions i
  pub capped : sum_of positions ≤ 2000000000

-- A total, a block and at most 256 open positions that can be assigned.
pub record Sound (total block : ℕ) (positions : List ℕ) : Type 0 where
  pub few : length positions ≤ 256
  pub opens : Opens positions
  pub covered : total ≤ sum_of positions
  pub block_least : 1 ≤ block
  pub block_most : block ≤ 2000000000

-- The same with an answer list of so many places: one for each position.
pub record SoundAsk (total block : ℕ) (positions : List ℕ) (places : ℕ) : Type 0 where
  pub sound : Sound total block positions
  pub roomy : places ≡ length positions

-- The duties of a fit rule's amounts for a sound ask. The pro-rata level of a seller with the open position o
-- is total × o ÷ sum: an amount strays from it by at most a block, and both sides are multiplied by the sum here.
pub record Fit (total block : ℕ) (positions amounts : List ℕ) : Type 0 where
  pub long : length amounts ≡ length positions
  pub whole : sum_of amounts ≡ total
  pub within : (i : ℕ) → i < length positions → slice_index amounts i ≤ slice_index positions i
  pub not_over : (i : ℕ) → i < length positions → slice_index amounts i * sum_of positions ≤ total * slice_index positions i + block * sum_of positions
  pub not_under : (i : ℕ) → i < length positions → total * slice_index positions i ≤ slice_index amounts i * sum_of positions + block * sum_of positions

-- What an ask is answered: a sound one is accepted, and the answer list then holds its amounts; any other is
-- refused with number 15, and the answer list holds what it held before.
abbrev pub Answered : Result (Unit {0}) Refusal → Type 0 → List ℕ → List ℕ → List ℕ → Type 0
Answered (Ok _) sound amounts before after = sound × (after ≡ amounts)
Answered (Err refusal) sound amounts before after = (sound → ⊥) × (number_of refusal ≡ 15) × (after ≡ before)
