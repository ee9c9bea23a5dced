-- What is promised of every call and of every list of calls, in the tally's words.
use Rattle.std.specs.Prelude.{◌≡◌, ℕ, ◌≤◌, Bool, true, false, cond, List, [], ◌∷◌, Some, None, Option}
use Rattle.std.specs.List.{AllByRecursion}
use Rattle.tally.specs.History.{History, bound_amount}
use Rattle.tally.specs.Keys.{same_key}
use Rattle.tally.specs.Table.{Answer}
use Rattle.tally.specs.Tally.{World, after, answer}
use Rattle.tally.specs.declared.calls.Call.{Call}
use Rattle.tally.specs.declared.calls.Call.TheVariants.{List as ListCall, Trade, Propose, Preliminary, Withdraw, Notice, Failure, Assign}
use Rattle.tally.specs.declared.keys.PositionKey.{PositionKey}
use Rattle.book.specs.Held.{rows_in}
use Rattle.book.specs.Records.{Recorded}
use Rattle.book.specs.Rows.{bound_of}
use Rattle.book.specs.declared.books.Book.{Book}
use Rattle.book.specs.declared.positions.Position.{Position}

-- A book records a history of accepted calls.
abbrev pub Records : History → Book → Type 0
Records t book = Recorded t book.swaptions book.positions book.latest

-- The calls that a book runs so far: list and trade.
abbrev pub runs : {R : Type 0} → Call R → Bool
runs (ListCall _) = true
runs (Trade _) = true
runs (Propose _) = false
runs (Preliminary _) = false
runs (Withdraw _) = false
runs (Notice _) = false
runs (Failure _) = false
runs (Assign _) = false

-- The positions' bound amount for a key, nothing if there is no such position.
abbrev pub bound_at : PositionKey → List Position → ℕ
bound_at k [] = 0
bound_at k (p ∷ rows) = cond (same_key p.key k) (bound_of p) (bound_at k rows)

module _ {R : Type 0} (w : World R) where
  -- What is said to a call: the tally's answer, or nothing as long as the call does not run.
  abbrev pub said : History → Call R → Option Answer
  said t call = cond (runs call) (Some (answer w t call)) None

  -- The history after a call: the tally's, or the same as long as the call does not run.
  abbrev pub next : History → Call R → History
  next t call = cond (runs call) (after w t call) t

  -- A call took a book that recorded a history to another and was answered. The answer is the tally's; the book then
  -- records the history after the call; every position's bound amount in the book is the tally's; and no position's
  -- bound amount is lower than before.
  pub record Told (t : History) (call : Call R) (r : Option Answer) (old new : Book) : Type 0 where
    pub answered : r ≡ said t call
    pub recorded : Records (next t call) new
    pub bound : AllByRecursion (λ p. bound_of p ≡ bound_amount (next t call) p.key) (rows_in new.positions)
    pub rises : (k : PositionKey) → bound_at k (rows_in old.positions) ≤ bound_at k (rows_in new.positions)

  -- The history after each call of a list in turn.
  abbrev pub history_of : History → List (Call R) → History
  history_of t [] = t
  history_of t (call ∷ calls) = history_of (next t call) calls

  -- What is said to each call of a list in turn.
  abbrev pub answers_of : History → List (Call R) → List (Option Answer)
  answers_of t [] = []
  answers_of t (call ∷ calls) = said t call ∷ answers_of (next t call) calls

  -- The calls of a list took a book that recorded a history to another, with a book after each call, tied to the one
  -- before it by all that is promised of a call.
  abbrev pub Goes : History → Book → List (Call R) → List (Option Answer) → Book → Type 0
  Goes t old [] [] new = new ≡ old
  Goes t old [] (_ ∷ _) new = ⊥
  Goes t old (_ ∷ _) [] new = ⊥
  Goes t old (call ∷ calls) (r ∷ rs) new = (book : Book) × Told t call r old book × Goes (next t call) book calls rs new

  -- A list of calls ran from a book that records no call: the answers are the tally's, the book at the end records the
  -- history of the accepted ones, and all that is promised of a call holds of each.
  pub record Ran (calls : List (Call R)) (rs : List (Option Answer)) (new : Book) : Type 0 where
    pub answered : rs ≡ answers_of [] calls
    pub recorded : Records (history_of [] calls) new
    pub start : Book
    pub empty : Records [] start
    pub each : Goes [] start calls rs new
