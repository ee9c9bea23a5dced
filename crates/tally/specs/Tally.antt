-- The tally: it keeps the calls that it accepts, and answers each call by the table from what it keeps.
use Rattle.std.specs.Prelude.{◌≡◌, ℕ, ◌+◌, Bool, true, false, cond, ◌||◌, List, [], ◌∷◌, length, is_some, Some, None, Ok, Err, Option}
use Rattle.std.specs.Option.{option_map}
use Rattle.tally.specs.Calls.{noticed_position, withdrawn_position}
use Rattle.tally.specs.Deals.{buyer_of, seller_of}
use Rattle.tally.specs.History.{Meaning, Entry, History, listed, traded, proposed, preliminary, withdrawn, noticed, failed, assigned, latest_moment, listed_terms, terms_with, terms_in, traded_in, position_keys, net_of, stance_of, preliminaries_in, failed_in, assigned_in}
use Rattle.tally.specs.Keys.{same_key}
use Rattle.tally.specs.Listings.{terms_of}
use Rattle.tally.specs.Table.{Answer, accepted, list_answer, trade_answer, propose_answer, preliminary_answer, withdraw_answer, notice_answer, failure_answer, assign_answer}
use Rattle.tally.specs.declared.calls.Call.{Call}
use Rattle.tally.specs.declared.calls.Call.TheVariants.{List as ListCall, Trade, Propose, Preliminary, Withdraw, Notice, Failure, Assign}
use Rattle.tally.specs.declared.calls.ExerciseNotice.{ExerciseNotice}
use Rattle.tally.specs.declared.calls.Proposal.{Proposal}
use Rattle.tally.specs.declared.calls.SourceName.{SourceName}
use Rattle.tally.specs.declared.calls.SourceName.TheVariants.{Marks, Tape}
use Rattle.tally.specs.declared.calls.SystemFailure.{SystemFailure}
use Rattle.tally.specs.declared.calls.Withdrawal.{Withdrawal}
use Rattle.tally.specs.declared.deals.Deal.{Deal}
use Rattle.tally.specs.declared.keys.PositionKey.{PositionKey}
use Rattle.tally.specs.declared.listings.Terms.{Terms}

-- What a price source answers, by an index and a moment.
abbrev pub Quotes : Type 0
Quotes = ℕ → ℕ → Option ℕ

-- The two price sources and the rules of a book's calls, by what they answer and mean.
pub record World (R : Type 0) : Type 0 where
  pub marks : Quotes
  pub tape : Quotes
  pub means : R → Meaning

-- Whether a key is among keys.
abbrev pub is_among : PositionKey → List PositionKey → Bool
is_among k [] = false
is_among k (j ∷ keys) = cond (same_key j k) true (is_among k keys)

-- 1 for a position that is missing, 0 for one that is there.
abbrev pub missing : PositionKey → List PositionKey → ℕ
missing k keys = cond (is_among k keys) 0 1

-- Whether a number is that of one of the terms.
abbrev pub is_listed : ℕ → List Terms → Bool
is_listed number terms = is_some (terms_with number terms)

-- The answer to a list where these terms are listed.
abbrev pub list_among : List Terms → Option Terms → Answer
list_among all None = list_answer None false (length all)
list_among all (Some terms) = list_answer (Some terms) (is_listed terms.number all) (length all)

-- The answer to a trade where these terms are listed and these positions there, with the latest moment and what is
-- traded in its swaption.
abbrev pub trade_among : List Terms → List PositionKey → (latest volume : ℕ) → Deal → Answer
trade_among all keys latest volume deal =
    trade_answer deal (terms_with deal.swaption all) latest volume (missing (buyer_of deal) keys + missing (seller_of deal) keys) (length keys)

-- The answer to a list after a history, by the terms that it states.
abbrev pub answer_to_list : History → Option Terms → Answer
answer_to_list t stated = list_among (listed_terms t) stated

-- The answer to a trade after a history.
abbrev pub answer_to_trade : History → Deal → Answer
answer_to_trade t deal = trade_among (listed_terms t) (position_keys t) (latest_moment t) (traded_in t deal.swaption) deal

-- The answer to a propose after a history, by what the marks answer.
abbrev pub answer_to_propose : History → Proposal → Option ℕ → Answer
answer_to_propose t p price = propose_answer (terms_in t p.swaption) p.moment (latest_moment t) (preliminaries_in t p.swaption) price

-- The answer to a preliminary notice after a history.
abbrev pub answer_to_preliminary : History → ExerciseNotice → Answer
answer_to_preliminary t n = preliminary_answer n (terms_in t n.swaption) (latest_moment t) (net_of t (noticed_position n))

-- The answer to a withdraw after a history.
abbrev pub answer_to_withdraw : History → Withdrawal → Answer
answer_to_withdraw t w =
    withdraw_answer w (terms_in t w.swaption) (latest_moment t) (net_of t (withdrawn_position w)) (stance_of t (withdrawn_position w))

-- The answer to a notice after a history.
abbrev pub answer_to_notice : History → ExerciseNotice → Answer
answer_to_notice t n =
    notice_answer n (terms_in t n.swaption) (latest_moment t) (net_of t (noticed_position n)) (stance_of t (noticed_position n))

-- The answer to a failure after a history, by what the named source answers.
abbrev pub answer_to_failure : History → SystemFailure → Option ℕ → Answer
answer_to_failure t f price =
    failure_answer (terms_in t f.swaption) f.moment (latest_moment t) (failed_in t f.swaption || assigned_in t f.swaption) price

-- The answer to an assign after a history.
abbrev pub answer_to_assign : History → (swaption moment : ℕ) → Answer
answer_to_assign t swaption moment = assign_answer (terms_in t swaption) moment (latest_moment t) (assigned_in t swaption)

-- What a source answers for a swaption's index, by its terms if there are any.
abbrev pub quoted_by : Quotes → Option Terms → ℕ → Option ℕ
quoted_by quotes None moment = None
quoted_by quotes (Some terms) moment = quotes terms.index moment

-- The source of a name.
abbrev pub source_of : {R : Type 0} → World R → SourceName → Quotes
source_of w Marks = w.marks
source_of w Tape = w.tape

-- A history with what an accepted call enters; a refused call leaves it alone.
abbrev pub kept_if : Answer → Option Entry → History → History
kept_if (Ok _) (Some entry) t = entry ∷ t
kept_if (Ok _) None t = t
kept_if (Err _) entry t = t

module _ {R : Type 0} (w : World R) where
  -- The answer to a call after a history.
  abbrev pub answer : History → Call R → Answer
  answer t (ListCall l) = answer_to_list t (terms_of l)
  answer t (Trade deal) = answer_to_trade t deal
  answer t (Propose p) = answer_to_propose t p (quoted_by w.marks (terms_in t p.swaption) p.moment)
  answer t (Preliminary n) = answer_to_preliminary t n
  answer t (Withdraw x) = answer_to_withdraw t x
  answer t (Notice n) = answer_to_notice t n
  answer t (Failure f) = answer_to_failure t f (quoted_by (source_of w f.source) (terms_in t f.swaption) f.moment)
  answer t (Assign a) = answer_to_assign t a.swaption a.moment

  -- What an accepted call enters into the history.
  abbrev pub entry_of : History → Call R → Option Entry
  entry_of t (ListCall l) = option_map listed (terms_of l)
  entry_of t (Trade deal) = Some (traded deal)
  entry_of t (Propose p) = option_map (proposed p) (quoted_by w.marks (terms_in t p.swaption) p.moment)
  entry_of t (Preliminary n) = Some (preliminary n)
  entry_of t (Withdraw x) = Some (withdrawn x)
  entry_of t (Notice n) = Some (noticed n)
  entry_of t (Failure f) = option_map (failed f) (quoted_by (source_of w f.source) (terms_in t f.swaption) f.moment)
  entry_of t (Assign a) = Some (assigned a.swaption (w.means a.rule) a.moment)

  -- The history after a call.
  abbrev pub after : History → Call R → History
  after t call = kept_if (answer t call) (entry_of t call) t

  -- The history after each of the calls in turn.
  abbrev pub history_after : History → List (Call R) → History
  history_after t [] = t
  history_after t (call ∷ calls) = history_after (after t call) calls

  -- The answers to each of the calls in turn.
  abbrev pub answers : History → List (Call R) → List Answer
  answers t [] = []
  answers t (call ∷ calls) = answer t call ∷ answers (after t call) calls

-- A history in which each call was accepted after those before it.
abbrev pub Kept : History → Type 0
Kept [] = Unit {0}
Kept (listed terms ∷ t) = Kept t × (answer_to_list t (Some terms) ≡ accepted)
Kept (traded deal ∷ t) = Kept t × (answer_to_trade t deal ≡ accepted)
Kept (proposed p price ∷ t) = Kept t × (answer_to_propose t p (Some price) ≡ accepted)
Kept (preliminary n ∷ t) = Kept t × (answer_to_preliminary t n ≡ accepted)
Kept (withdrawn w ∷ t) = Kept t × (answer_to_withdraw t w ≡ accepted)
Kept (noticed n ∷ t) = Kept t × (answer_to_notice t n ≡ accepted)
Kept (failed f price ∷ t) = Kept t × (answer_to_failure t f (Some price) ≡ accepted)
Kept (assigned swaption rule moment ∷ t) = Kept t × (answer_to_assign t swaption moment ≡ accepted)
