-- What is found out about a list or a trade before anything is changed.
use Rattle.std.specs.Prelude.{◌≡◌, ℕ, List, is_ok, Some, Ok, Err, Result, nat_lt}
use Rattle.refusals.specs.declared.Refusal.{Refusal}
use Rattle.tables.specs.Finding.{Found}
use Rattle.tally.specs.Deals.{buyer_of, seller_of}
use Rattle.tally.specs.Keys.{before}
use Rattle.tally.specs.Table.{accepted, list_answer}
use Rattle.tally.specs.declared.deals.Deal.{Deal}
use Rattle.tally.specs.declared.listings.Terms.{Terms}
use Rattle.book.specs.Calls.{trade_says}
use Rattle.book.specs.declared.places.TradePlaces.{TradePlaces}
use Rattle.book.specs.declared.positions.Position.{Position}
use Rattle.book.specs.declared.swaptions.Swaption.{Swaption}

-- A list is accepted, and this is the place where its swaption belongs, by what a search answered for its number; or it is refused as the table says.
abbrev pub ListJudged : Terms → Result ℕ ℕ → ℕ → Result ℕ Refusal → Type 0
ListJudged terms place count (Ok at) = (place ≡ Err at) × (list_answer (Some terms) (is_ok place) count ≡ accepted)
ListJudged terms place count (Err refusal) = list_answer (Some terms) (is_ok place) count ≡ Err refusal

-- A trade is accepted, and these are the places of its swaption, its buyer and its seller.
pub record Placed (swaptions : List Swaption) (positions : List Position) (latest : ℕ) (deal : Deal) (places : TradePlaces) : Type 0 where
  pub says : trade_says swaptions positions latest deal ≡ accepted
  pub listed_at : Found (λ s. s.terms.number) nat_lt swaptions deal.swaption (Ok places.swaption)
  pub buyer_found : Found (λ p. p.key) before positions (buyer_of deal) places.buyer
  pub seller_found : Found (λ p. p.key) before positions (seller_of deal) places.seller

-- A trade is refused as the table says, or accepted with its places.
abbrev pub Judged : List Swaption → List Position → ℕ → Deal → Result TradePlaces Refusal → Type 0
Judged swaptions positions latest deal (Ok places) = Placed swaptions positions latest deal places
Judged swaptions positions latest deal (Err refusal) = Err refusal ≡ trade_says swaptions positions latest deal
