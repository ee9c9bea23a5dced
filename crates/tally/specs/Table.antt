-- The table of refusals: what each call is answered, row by row from the top, by a few plain figures.
use Rattle.std.specs.Prelude.{ℕ, ◌+◌, ◌%◌, max, Bool, true, cond, ◌&&◌, ◌||◌, ℤ, pos, Some, None, Ok, Err, Option, Result, ◌==◌, int_le, int_lt, nat_le, nat_lt, unsigned_abs}
use Rattle.refusals.specs.declared.Refusal.{Refusal}
use Rattle.refusals.specs.declared.Refusal.TheVariants.{InvalidTerms, AlreadyListed, NotListed, MomentPassed, OutsideWindow, AlreadyDone, NotEntitled, NotABuyer, InvalidAmount, NotARaise, NotStanding, NoPrice, TradedTooMuch, BookFull}
use Rattle.tally.specs.Calls.{entitled}
use Rattle.tally.specs.Deals.{sound_deal}
use Rattle.tally.specs.Listings.{sound_terms}
use Rattle.tally.specs.declared.calls.ExerciseNotice.{ExerciseNotice}
use Rattle.tally.specs.declared.calls.Withdrawal.{Withdrawal}
use Rattle.tally.specs.declared.deals.Deal.{Deal}
use Rattle.tally.specs.declared.listings.Terms.{Terms}
use Rattle.tally.specs.declared.stances.Stance.{Stance}
use Rattle.tally.specs.declared.stances.Stance.TheVariants.{Silent, Standing, Noticed, Whole}

-- An acceptance, or one refusal.
abbrev pub Answer : Type 0
Answer = Result (Unit {0}) Refusal

-- The acceptance.
abbrev pub accepted : Answer
accepted = Ok tt

-- A row of the table: the refusal if the test holds, else the rows below.
abbrev pub refuse_if : Bool → Refusal → Answer → Answer
refuse_if test refusal below = cond test (Err refusal) below

-- A row of the table: the refusal unless the test holds.
abbrev pub refuse_unless : Bool → Refusal → Answer → Answer
refuse_unless test refusal below = cond test below (Err refusal)

-- The row for a swaption that is not listed, and the rows below by its terms.
abbrev pub if_listed : Option Terms → (Terms → Answer) → Answer
if_listed None below = Err NotListed
if_listed (Some terms) below = below terms

-- The row for a source that has no price.
abbrev pub if_priced : Option ℕ → Answer
if_priced None = Err NoPrice
if_priced (Some price) = accepted

-- Whether a moment is from one moment on and before another.
abbrev pub within : ℕ → ℕ → ℕ → Bool
within from end moment = nat_le from moment && nat_lt moment end

-- List: by the terms that it states if its kind is one, whether its number is listed, and how many swaptions are.
abbrev pub list_answer : Option Terms → Bool → ℕ → Answer
list_answer None known count = Err InvalidTerms
list_answer (Some terms) known count =
    refuse_unless (sound_terms terms) InvalidTerms
    (refuse_if known AlreadyListed
    (refuse_unless (nat_lt count 16) BookFull accepted))

-- Trade, below the row for a swaption that is not listed.
abbrev pub trade_rows : Deal → Terms → (latest traded missing count : ℕ) → Answer
trade_rows deal terms latest traded missing count =
    refuse_if (nat_lt deal.moment latest) MomentPassed
    (refuse_unless (nat_lt deal.moment terms.cease) OutsideWindow
    (refuse_unless (nat_le (traded + unsigned_abs deal.amount) 2000000000) TradedTooMuch
    (refuse_unless (nat_le (count + missing) 256) BookFull accepted)))

-- Trade: by the terms of its swaption, the latest moment, what is traded in the swaption, how many of its two
-- positions are missing, and how many positions there are.
abbrev pub trade_answer : Deal → Option Terms → (latest traded missing count : ℕ) → Answer
trade_answer deal listed latest traded missing count =
    refuse_unless (sound_deal deal) InvalidTerms
    (if_listed listed (λ terms. trade_rows deal terms latest traded missing count))

-- Propose: by the terms, its moment and the latest, whether a propose or a preliminary notice was accepted in the
-- swaption, and the price that the marks answer.
abbrev pub propose_answer : Option Terms → (moment latest : ℕ) → Bool → Option ℕ → Answer
propose_answer listed moment latest done price =
    if_listed listed (λ terms.
    refuse_if (nat_lt moment latest) MomentPassed
    (refuse_unless (within terms.cease terms.start moment) OutsideWindow
    (refuse_if done AlreadyDone (if_priced price))))

-- Whether an amount may be exercised of a net: it is not below 0 nor above the net, and it is the net itself or a
-- multiple of the exercise block, where a block of 0 counts as 1.
abbrev pub valid_amount : ℤ → ℤ → ℕ → Bool
valid_amount amount net block =
    int_le (pos 0) amount && int_le amount net && (int_le net amount || unsigned_abs amount % max 1 block == 0)

-- Preliminary: by the terms, the latest moment, and the net of the position that it names, 0 if that is missing.
abbrev pub preliminary_answer : ExerciseNotice → Option Terms → (latest : ℕ) → (net : ℤ) → Answer
preliminary_answer notice listed latest net =
    if_listed listed (λ terms.
    refuse_if (nat_lt notice.moment latest) MomentPassed
    (refuse_unless (within terms.cease terms.start notice.moment) OutsideWindow
    (refuse_unless (entitled notice.submitter notice.position) NotEntitled
    (refuse_unless (int_lt (pos 0) net) NotABuyer
    (refuse_unless (valid_amount notice.amount net terms.blocks.exercise) InvalidAmount accepted)))))

-- The row for a withdraw of what does not stand.
abbrev pub if_standing : Stance → Answer
if_standing (Standing amount) = accepted
if_standing Silent = Err NotStanding
if_standing (Noticed amount) = Err NotStanding
if_standing Whole = Err NotStanding

-- Withdraw: by the terms, the latest moment, and the net and the stance of the position that it names.
abbrev pub withdraw_answer : Withdrawal → Option Terms → (latest : ℕ) → (net : ℤ) → Stance → Answer
withdraw_answer withdrawal listed latest net stance =
    if_listed listed (λ terms.
    refuse_if (nat_lt withdrawal.moment latest) MomentPassed
    (refuse_unless (within terms.cease terms.cutoff withdrawal.moment) OutsideWindow
    (refuse_unless (entitled withdrawal.submitter withdrawal.position) NotEntitled
    (refuse_unless (int_lt (pos 0) net) NotABuyer (if_standing stance)))))

-- Whether an amount is a raise for a stance: whoever is noticed or whole may only go above the bound amount.
abbrev pub raises : Stance → ℕ → ℕ → Bool
raises Silent size amount = true
raises (Standing _) size amount = true
raises (Noticed bound) size amount = nat_lt bound amount
raises Whole size amount = nat_lt size amount

-- Notice: by the terms, the latest moment, and the net and the stance of the position that it names.
abbrev pub notice_answer : ExerciseNotice → Option Terms → (latest : ℕ) → (net : ℤ) → Stance → Answer
notice_answer notice listed latest net stance =
    if_listed listed (λ terms.
    refuse_if (nat_lt notice.moment latest) MomentPassed
    (refuse_unless (within terms.start terms.cutoff notice.moment) OutsideWindow
    (refuse_unless (entitled notice.submitter notice.position) NotEntitled
    (refuse_unless (int_lt (pos 0) net) NotABuyer
    (refuse_unless (valid_amount notice.amount net terms.blocks.exercise) InvalidAmount
    (refuse_unless (raises stance (unsigned_abs net) (unsigned_abs notice.amount)) NotARaise accepted))))))

-- Failure: by the terms, its moment and the latest, whether a failure or an assign was accepted in the swaption, and
-- the price that the named source answers.
abbrev pub failure_answer : Option Terms → (moment latest : ℕ) → Bool → Option ℕ → Answer
failure_answer listed moment latest done price =
    if_listed listed (λ terms.
    refuse_if (nat_lt moment latest) MomentPassed
    (refuse_unless (nat_le terms.start moment) OutsideWindow
    (refuse_if done AlreadyDone (if_priced price))))

-- Assign: by the terms, its moment and the latest, and whether an assign was accepted in the swaption.
abbrev pub assign_answer : Option Terms → (moment latest : ℕ) → Bool → Answer
assign_answer listed moment latest done =
    if_listed listed (λ terms.
    refuse_if (nat_lt moment latest) MomentPassed
    (refuse_unless (nat_le terms.cutoff moment) OutsideWindow
    (refuse_if done AlreadyDone accepted)))
