-- The history of accepted calls, and all that is read off it.
use Rattle.std.specs.Prelude.{ℕ, ◌+◌, Bool, false, cond, ◌&&◌, ◌||◌, List, [], ◌∷◌, map, ℤ, pos, ◌+ℤ◌, ◌-ℤ◌, is_some, Some, None, filter, Option, ◌==◌, int_lt, nat_lt, unsigned_abs}
use Rattle.assignment.specs.Asks.{sum_of}
use Rattle.prices.specs.Values.{in_the_money}
use Rattle.tables.specs.Entering.{entered}
use Rattle.tally.specs.Calls.{noticed_position, withdrawn_position}
use Rattle.tally.specs.Deals.{buyer_of, seller_of}
use Rattle.tally.specs.Keys.{before, same_key}
use Rattle.tally.specs.declared.calls.ExerciseNotice.{ExerciseNotice}
use Rattle.tally.specs.declared.calls.Proposal.{Proposal}
use Rattle.tally.specs.declared.calls.SystemFailure.{SystemFailure}
use Rattle.tally.specs.declared.calls.Withdrawal.{Withdrawal}
use Rattle.tally.specs.declared.deals.Deal.{Deal}
use Rattle.tally.specs.declared.keys.PositionKey.{PositionKey}
use Rattle.tally.specs.declared.listings.Terms.{Terms}
use Rattle.tally.specs.declared.stances.Stance.{Stance}
use Rattle.tally.specs.declared.stances.Stance.TheVariants.{Silent, Standing, Noticed, Whole}

-- What a rule means: the amounts, from a total, a block and the open positions.
abbrev pub Meaning : Type 0
Meaning = ℕ → ℕ → List ℕ → List ℕ

-- An accepted call, with what it handed over; a propose and a failure with the price that the source answered, an
-- assign with what the rule means that it named.
pub data Entry : Type 0 where
  listed : Terms → Entry
  traded : Deal → Entry
  proposed : Proposal → (price : ℕ) → Entry
  preliminary : ExerciseNotice → Entry
  withdrawn : Withdrawal → Entry
  noticed : ExerciseNotice → Entry
  failed : SystemFailure → (price : ℕ) → Entry
  assigned : (swaption : ℕ) (rule : Meaning) (moment : ℕ) → Entry

-- The accepted calls of a book, the newest first.
abbrev pub History : Type 0
History = List Entry

-- The latest moment: that of the newest accepted call but list, which bears none; 0 at the beginning.
abbrev pub latest_moment : History → ℕ
latest_moment [] = 0
latest_moment (listed _ ∷ t) = latest_moment t
latest_moment (traded deal ∷ t) = deal.moment
latest_moment (proposed p _ ∷ t) = p.moment
latest_moment (preliminary n ∷ t) = n.moment
latest_moment (withdrawn w ∷ t) = w.moment
latest_moment (noticed n ∷ t) = n.moment
latest_moment (failed f _ ∷ t) = f.moment
latest_moment (assigned _ _ m ∷ t) = m

-- The terms of the listed swaptions, by ascending number.
abbrev pub listed_terms : History → List Terms
listed_terms [] = []
listed_terms (listed terms ∷ t) = entered (λ x. x.number) nat_lt terms.number (λ x. x) terms (listed_terms t)
listed_terms (traded _ ∷ t) = listed_terms t
listed_terms (proposed _ _ ∷ t) = listed_terms t
listed_terms (preliminary _ ∷ t) = listed_terms t
listed_terms (withdrawn _ ∷ t) = listed_terms t
listed_terms (noticed _ ∷ t) = listed_terms t
listed_terms (failed _ _ ∷ t) = listed_terms t
listed_terms (assigned _ _ _ ∷ t) = listed_terms t

-- Among terms, those with a number.
abbrev pub terms_with : ℕ → List Terms → Option Terms
terms_with number [] = None
terms_with number (terms ∷ rest) = cond (terms.number == number) (Some terms) (terms_with number rest)

-- The terms of a swaption, none if it is not listed.
abbrev pub terms_in : History → ℕ → Option Terms
terms_in t swaption = terms_with swaption (listed_terms t)

-- What the accepted trades in a swaption add up to.
abbrev pub traded_in : History → ℕ → ℕ
traded_in [] swaption = 0
traded_in (traded deal ∷ t) swaption = cond (deal.swaption == swaption) (traded_in t swaption + unsigned_abs deal.amount) (traded_in t swaption)
traded_in (listed _ ∷ t) swaption = traded_in t swaption
traded_in (proposed _ _ ∷ t) swaption = traded_in t swaption
traded_in (preliminary _ ∷ t) swaption = traded_in t swaption
traded_in (withdrawn _ ∷ t) swaption = traded_in t swaption
traded_in (noticed _ ∷ t) swaption = traded_in t swaption
traded_in (failed _ _ ∷ t) swaption = traded_in t swaption
traded_in (assigned _ _ _ ∷ t) swaption = traded_in t swaption

-- The keys with one among them, each once, in ascending order.
abbrev pub with_key : PositionKey → List PositionKey → List PositionKey
with_key k keys = entered (λ j. j) before k (λ j. j) k keys

-- The keys of the positions, in ascending order: every position that bought or sold.
abbrev pub position_keys : History → List PositionKey
position_keys [] = []
position_keys (traded deal ∷ t) = with_key (seller_of deal) (with_key (buyer_of deal) (position_keys t))
position_keys (listed _ ∷ t) = position_keys t
position_keys (proposed _ _ ∷ t) = position_keys t
position_keys (preliminary _ ∷ t) = position_keys t
position_keys (withdrawn _ ∷ t) = position_keys t
position_keys (noticed _ ∷ t) = position_keys t
position_keys (failed _ _ ∷ t) = position_keys t
position_keys (assigned _ _ _ ∷ t) = position_keys t

-- An amount if the position is the one meant, else nothing.
abbrev pub amount_if : Bool → ℤ → ℤ
amount_if meant amount = cond meant amount (pos 0)

-- A position's net: what accepted trades bought for it less what they sold.
abbrev pub net_of : History → PositionKey → ℤ
net_of [] k = pos 0
net_of (traded deal ∷ t) k =
    net_of t k +ℤ amount_if (same_key (buyer_of deal) k) deal.amount -ℤ amount_if (same_key (seller_of deal) k) deal.amount
net_of (listed _ ∷ t) k = net_of t k
net_of (proposed _ _ ∷ t) k = net_of t k
net_of (preliminary _ ∷ t) k = net_of t k
net_of (withdrawn _ ∷ t) k = net_of t k
net_of (noticed _ ∷ t) k = net_of t k
net_of (failed _ _ ∷ t) k = net_of t k
net_of (assigned _ _ _ ∷ t) k = net_of t k

-- The open position: the net without its sign.
abbrev pub open_position : History → PositionKey → ℕ
open_position t k = unsigned_abs (net_of t k)

-- Whether a position is a buyer's: its net is above 0.
abbrev pub buys : History → PositionKey → Bool
buys t k = int_lt (pos 0) (net_of t k)

-- Whether a position is a seller's: its net is below 0.
abbrev pub sells : History → PositionKey → Bool
sells t k = int_lt (net_of t k) (pos 0)

-- Whether a net is in the money at a price, by terms if there are any.
abbrev pub in_money_by : Option Terms → ℤ → ℕ → Bool
in_money_by None net price = false
in_money_by (Some terms) net price = in_the_money terms.payoff net price

-- Whether a position is a buyer of the swaption and in the money at a price.
abbrev pub buyer_in_the_money : History → ℕ → ℕ → PositionKey → Bool
buyer_in_the_money t swaption price k = k.swaption == swaption && buys t k && in_money_by (terms_in t swaption) (net_of t k) price

-- The preliminary notice of a position that stands: the last one given or proposed, unless it was withdrawn.
abbrev pub preliminary_of : History → PositionKey → Option ℕ
preliminary_of [] k = None
preliminary_of (proposed p price ∷ t) k = cond (buyer_in_the_money t p.swaption price k) (Some (open_position t k)) (preliminary_of t k)
preliminary_of (preliminary n ∷ t) k = cond (same_key (noticed_position n) k) (Some (unsigned_abs n.amount)) (preliminary_of t k)
preliminary_of (withdrawn w ∷ t) k = cond (same_key (withdrawn_position w) k) None (preliminary_of t k)
preliminary_of (listed _ ∷ t) k = preliminary_of t k
preliminary_of (traded _ ∷ t) k = preliminary_of t k
preliminary_of (noticed _ ∷ t) k = preliminary_of t k
preliminary_of (failed _ _ ∷ t) k = preliminary_of t k
preliminary_of (assigned _ _ _ ∷ t) k = preliminary_of t k

-- The last notice of a position: its amount is the new total.
abbrev pub last_notice : History → PositionKey → Option ℕ
last_notice [] k = None
last_notice (noticed n ∷ t) k = cond (same_key (noticed_position n) k) (Some (unsigned_abs n.amount)) (last_notice t k)
last_notice (listed _ ∷ t) k = last_notice t k
last_notice (traded _ ∷ t) k = last_notice t k
last_notice (proposed _ _ ∷ t) k = last_notice t k
last_notice (preliminary _ ∷ t) k = last_notice t k
last_notice (withdrawn _ ∷ t) k = last_notice t k
last_notice (failed _ _ ∷ t) k = last_notice t k
last_notice (assigned _ _ _ ∷ t) k = last_notice t k

-- Whether an automatic exercise caught the position: it was a buyer in the money at a failure.
abbrev pub caught : History → PositionKey → Bool
caught [] k = false
caught (failed f price ∷ t) k = buyer_in_the_money t f.swaption price k || caught t k
caught (listed _ ∷ t) k = caught t k
caught (traded _ ∷ t) k = caught t k
caught (proposed _ _ ∷ t) k = caught t k
caught (preliminary _ ∷ t) k = caught t k
caught (withdrawn _ ∷ t) k = caught t k
caught (noticed _ ∷ t) k = caught t k
caught (assigned _ _ _ ∷ t) k = caught t k

-- What the rule means by which a swaption was assigned; none if it was not.
abbrev pub rule_in : History → ℕ → Option Meaning
rule_in [] swaption = None
rule_in (assigned n rule _ ∷ t) swaption = cond (n == swaption) (Some rule) (rule_in t swaption)
rule_in (listed _ ∷ t) swaption = rule_in t swaption
rule_in (traded _ ∷ t) swaption = rule_in t swaption
rule_in (proposed _ _ ∷ t) swaption = rule_in t swaption
rule_in (preliminary _ ∷ t) swaption = rule_in t swaption
rule_in (withdrawn _ ∷ t) swaption = rule_in t swaption
rule_in (noticed _ ∷ t) swaption = rule_in t swaption
rule_in (failed _ _ ∷ t) swaption = rule_in t swaption

-- Whether a swaption was assigned.
abbrev pub assigned_in : History → ℕ → Bool
assigned_in t swaption = is_some (rule_in t swaption)

-- Whether a propose or a preliminary notice was accepted in a swaption.
abbrev pub preliminaries_in : History → ℕ → Bool
preliminaries_in [] swaption = false
preliminaries_in (proposed p _ ∷ t) swaption = p.swaption == swaption || preliminaries_in t swaption
preliminaries_in (preliminary n ∷ t) swaption = n.swaption == swaption || preliminaries_in t swaption
preliminaries_in (listed _ ∷ t) swaption = preliminaries_in t swaption
preliminaries_in (traded _ ∷ t) swaption = preliminaries_in t swaption
preliminaries_in (withdrawn _ ∷ t) swaption = preliminaries_in t swaption
preliminaries_in (noticed _ ∷ t) swaption = preliminaries_in t swaption
preliminaries_in (failed _ _ ∷ t) swaption = preliminaries_in t swaption
preliminaries_in (assigned _ _ _ ∷ t) swaption = preliminaries_in t swaption

-- Whether a failure was accepted in a swaption.
abbrev pub failed_in : History → ℕ → Bool
failed_in [] swaption = false
failed_in (failed f _ ∷ t) swaption = f.swaption == swaption || failed_in t swaption
failed_in (listed _ ∷ t) swaption = failed_in t swaption
failed_in (traded _ ∷ t) swaption = failed_in t swaption
failed_in (proposed _ _ ∷ t) swaption = failed_in t swaption
failed_in (preliminary _ ∷ t) swaption = failed_in t swaption
failed_in (withdrawn _ ∷ t) swaption = failed_in t swaption
failed_in (noticed _ ∷ t) swaption = failed_in t swaption
failed_in (assigned _ _ _ ∷ t) swaption = failed_in t swaption

-- A stance by the preliminary notice, if there is no other.
abbrev pub stance_by_preliminary : Option ℕ → Stance
stance_by_preliminary None = Silent
stance_by_preliminary (Some amount) = Standing amount

-- A stance by the last notice or else by the preliminary one.
abbrev pub stance_by_notices : Option ℕ → Option ℕ → Stance
stance_by_notices None standing = stance_by_preliminary standing
stance_by_notices (Some amount) standing = Noticed amount

-- Where a position stands: whole if it was caught, else noticed if it has a last notice, else standing if it has a
-- preliminary one, else silent.
abbrev pub stance_of : History → PositionKey → Stance
stance_of t k = cond (caught t k) Whole (stance_by_notices (last_notice t k) (preliminary_of t k))

-- The amount that a stance speaks of, for an open position.
abbrev pub stance_amount : Stance → ℕ → ℕ
stance_amount Silent size = 0
stance_amount (Standing amount) size = amount
stance_amount (Noticed amount) size = amount
stance_amount Whole size = size

-- The amount that a stance binds to: the whole if whole, the amount if noticed, else nothing.
abbrev pub bound_by : Stance → ℕ → ℕ
bound_by Silent size = 0
bound_by (Standing amount) size = 0
bound_by (Noticed amount) size = amount
bound_by Whole size = size

-- A stance once its swaption is assigned: what stood is deemed noticed.
abbrev pub deemed : Stance → Stance
deemed Silent = Silent
deemed (Standing amount) = Noticed amount
deemed (Noticed amount) = Noticed amount
deemed Whole = Whole

-- The stance that a book records: deemed once the swaption is assigned.
abbrev pub recorded_stance : History → PositionKey → Stance
recorded_stance t k = cond (assigned_in t k.swaption) (deemed (stance_of t k)) (stance_of t k)

-- A position's due: all of it if it was caught, else the last notice, else the standing preliminary one, else nothing.
abbrev pub due_of : History → PositionKey → ℕ
due_of t k = stance_amount (stance_of t k) (open_position t k)

-- A position's bound amount: its due if it was caught, has a last notice or is in an assigned swaption, else nothing.
abbrev pub bound_amount : History → PositionKey → ℕ
bound_amount t k = cond (caught t k || is_some (last_notice t k) || assigned_in t k.swaption) (due_of t k) 0

-- The keys of a swaption's buyers, in key order.
abbrev pub buyers_in : History → ℕ → List PositionKey
buyers_in t swaption = filter (λ k. (k.swaption == swaption) && buys t k) (position_keys t)

-- The keys of a swaption's sellers, in key order.
abbrev pub sellers_in : History → ℕ → List PositionKey
sellers_in t swaption = filter (λ k. (k.swaption == swaption) && sells t k) (position_keys t)

-- The ask of a swaption: what is to be assigned, in which block, over which open positions.
pub record Ask : Type 0 where
  pub total : ℕ
  pub block : ℕ
  pub opens : List ℕ

-- The assignment block of terms, if there are any.
abbrev pub block_by : Option Terms → ℕ
block_by None = 1
block_by (Some terms) = terms.blocks.assignment

-- The tally's ask: the sum of the buyers' dues, the assignment block, and the sellers' open positions in key order.
abbrev pub ask_of : History → ℕ → Ask
ask_of t swaption = record {
  total = sum_of (map (due_of t) (buyers_in t swaption));
  block = block_by (terms_in t swaption);
  opens = map (open_position t) (sellers_in t swaption);
}

-- The amounts that a rule means for an ask.
abbrev pub meant : Meaning → Ask → List ℕ
meant rule ask = rule ask.total ask.block ask.opens

-- The amount that stands beside a key, nothing if the key is not among those.
abbrev pub amount_beside : PositionKey → List PositionKey → List ℕ → ℕ
amount_beside k [] amounts = 0
amount_beside k (j ∷ keys) [] = 0
amount_beside k (j ∷ keys) (amount ∷ amounts) = cond (same_key j k) amount (amount_beside k keys amounts)

-- What an assign recorded at a position: its rule's amount for the ask at that time if it is one of the sellers, else
-- nothing.
abbrev pub assignment_of : History → PositionKey → ℕ
assignment_of [] k = 0
assignment_of (assigned n rule _ ∷ t) k = cond (n == k.swaption) (amount_beside k (sellers_in t n) (meant rule (ask_of t n))) (assignment_of t k)
assignment_of (listed _ ∷ t) k = assignment_of t k
assignment_of (traded _ ∷ t) k = assignment_of t k
assignment_of (proposed _ _ ∷ t) k = assignment_of t k
assignment_of (preliminary _ ∷ t) k = assignment_of t k
assignment_of (withdrawn _ ∷ t) k = assignment_of t k
assignment_of (noticed _ ∷ t) k = assignment_of t k
assignment_of (failed _ _ ∷ t) k = assignment_of t k
