-- Rows of the book: positions and swaptions.
use Rattle.std.specs.Prelude.{ℕ, ◌+◌, ◌<◌, ◌≤◌, false, cond, List, map, ℤ, pos, ◌+ℤ◌, neg_ℤ, ◌==◌, nat_lt, slice_index_or, unsigned_abs}
use Rattle.prices.specs.declared.payoffs.Kind.TheVariants.{Payer}
use Rattle.tables.specs.Entering.{entered}
use Rattle.tally.specs.Deals.{buyer_of, seller_of}
use Rattle.tally.specs.History.{bound_by, stance_amount}
use Rattle.tally.specs.Keys.{before}
use Rattle.tally.specs.declared.deals.Deal.{Deal}
use Rattle.tally.specs.declared.keys.PositionKey.{PositionKey}
use Rattle.tally.specs.declared.listings.Terms.{Terms}
use Rattle.tally.specs.declared.stances.Stance.TheVariants.{Silent}
use Rattle.book.specs.declared.positions.Position.{Position}
use Rattle.book.specs.declared.swaptions.Swaption.{Swaption}

-- The open position: the net without its sign.
abbrev pub open_of : Position → ℕ
open_of p = unsigned_abs p.net

-- The amount that a position is bound to.
abbrev pub bound_of : Position → ℕ
bound_of p = bound_by p.stance (open_of p)

-- Neither the amount of a position's stance nor its assignment is above its open position.
abbrev pub Fair : Position → Type 0
Fair p = (stance_amount p.stance (open_of p) ≤ open_of p) × (p.assignment ≤ open_of p)

-- A new position: its net is 0, it is silent, and nothing is assigned to it.
abbrev pub fresh : PositionKey → Position
fresh k = record { key = k; net = pos 0; stance = Silent; assignment = 0 }

-- What stands in a place of a table that holds no position.
abbrev pub blank : Position
blank = fresh (record { swaption = 0; party = record { participant = 0; client = 0; desk = 0 } })

-- No position among the first so many rows has a stance amount or an assignment above its open position.
abbrev pub AllFair : List Position → ℕ → Type 0
AllFair rows count = (i : ℕ) → i < count → Fair (slice_index_or rows i blank)

-- A position with its net changed.
abbrev pub moved : ℤ → Position → Position
moved change p = record { key = p.key; net = p.net +ℤ change; stance = p.stance; assignment = p.assignment }

-- The positions with the net of one changed, which is made first if it is missing.
abbrev pub netted : PositionKey → ℤ → List Position → List Position
netted k change rows = entered (λ p. p.key) before k (moved change) (moved change (fresh k)) rows

-- The positions with this one in its place by key, instead of the one with its key if there is one.
abbrev pub with_row : Position → List Position → List Position
with_row row rows = entered (λ p. p.key) before row.key (λ _. row) row rows

-- The positions after a trade: the buyer's net is raised and the seller's lowered by the amount.
abbrev pub traded_positions : Deal → List Position → List Position
traded_positions deal rows = netted (seller_of deal) (neg_ℤ deal.amount) (netted (buyer_of deal) deal.amount rows)

-- A swaption in which nothing happened yet.
abbrev pub fresh_swaption : Terms → Swaption
fresh_swaption terms = record { terms = terms; traded = 0; proposed = false; failed = false; assigned = false }

-- What stands in a place of a table that holds no swaption.
abbrev pub blank_swaption : Swaption
blank_swaption = fresh_swaption (record {
  number = 0;
  index = 0;
  payoff = record { kind = Payer; strike = 0; minimum = 0 };
  blocks = record { exercise = 0; assignment = 0 };
  cease = 0;
  start = 0;
  cutoff = 0;
})

-- The swaptions with a new one in its place by number.
abbrev pub with_swaption : Terms → List Swaption → List Swaption
with_swaption terms rows = entered (λ s. s.terms.number) nat_lt terms.number (λ s. s) (fresh_swaption terms) rows

-- A swaption with an amount more traded in it.
abbrev pub with_volume : ℕ → Swaption → Swaption
with_volume amount s = record { terms = s.terms; traded = s.traded + amount; proposed = s.proposed; failed = s.failed; assigned = s.assigned }

-- The swaptions after a trade: the one that it is in has its amount more.
abbrev pub traded_swaptions : Deal → List Swaption → List Swaption
traded_swaptions deal rows = map (λ s. cond (deal.swaption == s.terms.number) (with_volume (unsigned_abs deal.amount) s) s) rows
