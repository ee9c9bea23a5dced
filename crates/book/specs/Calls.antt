-- What each call answers and leaves, by the rows of the book.
use Rattle.std.specs.Prelude.{ℕ, cond, List, [], ◌∷◌, map, Some, None, Ok, Err, Option, ◌==◌}
use Rattle.tally.specs.Table.{Answer}
use Rattle.tally.specs.Tally.{list_among, trade_among}
use Rattle.tally.specs.declared.deals.Deal.{Deal}
use Rattle.tally.specs.declared.keys.PositionKey.{PositionKey}
use Rattle.tally.specs.declared.listings.Terms.{Terms}
use Rattle.book.specs.Rows.{with_swaption}
use Rattle.book.specs.declared.positions.Position.{Position}
use Rattle.book.specs.declared.swaptions.Swaption.{Swaption}

-- One thing if the call was accepted, else another.
abbrev pub if_accepted : {X : Type 0} → Answer → X → X → X
if_accepted (Ok _) new old = new
if_accepted (Err _) new old = old

-- The terms of swaptions.
abbrev pub terms_of_rows : List Swaption → List Terms
terms_of_rows rows = map (λ s. s.terms) rows

-- The keys of positions.
abbrev pub keys_of_rows : List Position → List PositionKey
keys_of_rows rows = map (λ p. p.key) rows

-- What is traded in the swaption of a number, 0 if there is none.
abbrev pub volume_in : ℕ → List Swaption → ℕ
volume_in number [] = 0
volume_in number (s ∷ rows) = cond (s.terms.number == number) s.traded (volume_in number rows)

-- The answer to a list.
abbrev pub list_says : List Swaption → Option Terms → Answer
list_says rows stated = list_among (terms_of_rows rows) stated

-- The swaptions with the one that a listing states, if it states one.
abbrev pub with_stated : Option Terms → List Swaption → List Swaption
with_stated None rows = rows
with_stated (Some terms) rows = with_swaption terms rows

-- The answer to a trade.
abbrev pub trade_says : List Swaption → List Position → ℕ → Deal → Answer
trade_says swaptions positions latest deal =
    trade_among (terms_of_rows swaptions) (keys_of_rows positions) latest (volume_in deal.swaption swaptions) deal
