-- Worked asks: what each rule answers, by the definitions that the rules' contracts cite.
use Rattle.std.specs.Prelude.{ℕ, List, [], ◌∷◌, length, Some, None, Ok, Err, Option}
use Rattle.std.specs.List.{AllByRecursion}
use Rattle.refusals.specs.declared.Refusal.TheVariants.{UnsoundAsk}
use Rattle.assignment.specs.Asks.{Answered, SoundAsk}
use Rattle.assignment.specs.Choices.{chosen}
use Rattle.assignment.specs.declared.choices.Choice.{Choice}
use Rattle.assignment.specs.declared.choices.Choice.TheVariants.{Running, Blocks}

-- An ask with an answer list as long as its positions, and its amounts; none if it is refused.
pub record Case : Type 0 where
  pub rule : Choice
  pub total : ℕ
  pub block : ℕ
  pub positions : List ℕ
  pub amounts : Option (List ℕ)

-- The answer to an ask that is refused, and to one that is accepted with these amounts.
abbrev pub AnsweredWith : Type 0 → List ℕ → List ℕ → Option (List ℕ) → Type 0
AnsweredWith sound means before None = Answered (Err UnsoundAsk) sound means before before
AnsweredWith sound means before (Some amounts) = Answered (Ok tt) sound means before amounts

-- A case holds if its ask is answered so, whatever stood in the answer list.
abbrev pub Holds : Case → Type 0
Holds c =
    (before : List ℕ) → AnsweredWith (SoundAsk c.total c.block c.positions (length c.positions)) (chosen c.rule c.total c.block c.positions) before c.amounts

-- A case by rule 1.
abbrev pub by_running : ℕ → ℕ → List ℕ → Option (List ℕ) → Case
by_running total block positions amounts = record { rule = Running (record {}); total = total; block = block; positions = positions; amounts = amounts }

-- A case by rule 2.
abbrev pub by_blocks : ℕ → ℕ → List ℕ → Option (List ℕ) → Case
by_blocks total block positions amounts = record { rule = Blocks (record {}); total = total; block = block; positions = positions; amounts = amounts }

-- The worked cases.
abbrev pub worked : List Case
worked =
    by_running 5 1 (3 ∷ 3 ∷ 4 ∷ []) (Some (1 ∷ 2 ∷ 2 ∷ []))
    ∷ by_blocks 50 10 (30 ∷ 30 ∷ 40 ∷ []) (Some (20 ∷ 10 ∷ 20 ∷ []))
    ∷ by_blocks 45 10 (30 ∷ 30 ∷ 40 ∷ []) (Some (15 ∷ 10 ∷ 20 ∷ []))
    ∷ by_blocks 30 10 (15 ∷ 15 ∷ []) (Some (15 ∷ 15 ∷ []))
    ∷ by_blocks 45 100 (30 ∷ 30 ∷ 40 ∷ []) (Some (30 ∷ 15 ∷ 0 ∷ []))
    ∷ by_running 11 10 (5 ∷ 5 ∷ []) None
    ∷ by_blocks 11 10 (5 ∷ 5 ∷ []) None
    ∷ []

-- Every worked case holds.
abbrev pub WorkedHold : Type 0
WorkedHold = AllByRecursion Holds worked
