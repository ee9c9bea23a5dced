-- When a book records a history of accepted calls.
use Rattle.std.specs.Prelude.{◌≡◌, ℕ, map}
use Rattle.tally.specs.History.{History, assigned_in, assignment_of, failed_in, latest_moment, listed_terms, net_of, position_keys, preliminaries_in, recorded_stance, traded_in}
use Rattle.tally.specs.Tally.{Kept}
use Rattle.tally.specs.declared.keys.PositionKey.{PositionKey}
use Rattle.tally.specs.declared.listings.Terms.{Terms}
use Rattle.book.specs.Held.{rows_in}
use Rattle.book.specs.declared.row_tables.Table.{Table}
use Rattle.book.specs.declared.positions.Position.{Position}
use Rattle.book.specs.declared.swaptions.Swaption.{Swaption}

-- The row that a history gives a position: its net, its stance, and what was assigned to it.
abbrev pub position_of : History → PositionKey → Position
position_of t k = record { key = k; net = net_of t k; stance = recorded_stance t k; assignment = assignment_of t k }

-- The row that a history gives a listed swaption: what was traded in it, and which calls were accepted.
abbrev pub swaption_of : History → Terms → Swaption
swaption_of t terms = record {
  terms = terms;
  traded = traded_in t terms.number;
  proposed = preliminaries_in t terms.number;
  failed = failed_in t terms.number;
  assigned = assigned_in t terms.number;
}

-- The tables and the latest moment of a book record a history in which every call was accepted: the listed swaptions
-- by number and the positions by key, each with the row that the history gives it, and no more.
pub record Recorded (t : History) (swaptions : Table Swaption 16) (positions : Table Position 256) (latest : ℕ) : Type 0 where
  pub kept : Kept t
  pub moment : latest ≡ latest_moment t
  pub listed : rows_in swaptions ≡ map (swaption_of t) (listed_terms t)
  pub netted : rows_in positions ≡ map (position_of t) (position_keys t)

-- Some history of accepted calls led to these tables and this latest moment.
abbrev pub Led : Table Swaption 16 → Table Position 256 → ℕ → Type 0
Led swaptions positions latest = ∥ ((t : History) × Recorded t swaptions positions latest) ∥₁
