-- Rule 2: floor shares, then whole blocks one by one, then the rest in list order.
use Rattle.std.specs.Prelude.{ℕ, zero, suc, ◌+◌, ◌-◌, ◌*◌, ◌/◌, min, Bool, true, false, cond, not, ◌&&◌, List, [], ◌∷◌, map, length, replicate, Some, None, Option, nat_le, nat_lt, slice_set}
use Rattle.std.specs.Option.{option_map}
use Rattle.assignment.specs.Asks.{sum_of}
use Rattle.assignment.specs.declared.block_shares.Claim.{Claim}
use Rattle.assignment.specs.declared.block_shares.Terms.{Terms}

-- The floor share of a seller with the open position o: as many whole blocks as its pro-rata level holds.
abbrev pub floor_share : Terms → ℕ → ℕ
floor_share t o = t.block * (t.total * o / (t.all * t.block))

-- By how much the pro-rata level passes the floor share, times the sum of the positions.
abbrev pub remainder_of : Terms → ℕ → ℕ
remainder_of t o = t.total * o - floor_share t o * t.all

-- Whether a seller has room for a block on top of its floor share.
abbrev pub has_room : Terms → ℕ → Bool
has_room t o = nat_le (floor_share t o + t.block) o

-- Whether a seller waits for a block: it has room, and has no block yet.
abbrev pub waits : Terms → ℕ → Bool → Bool
waits t o has = not has && has_room t o

-- What is left of the total, and who has a block, in list order.
pub record State : Type 0 where
  pub left : ℕ
  pub held : List Bool

-- Such a state.
abbrev pub state : ℕ → List Bool → State
state left held = record { left = left; held = held }

-- Who is next to get a block, if anybody is, by the positions and by who has one already.
abbrev pub Order : Type 0
Order = Terms → List ℕ → List Bool → Option ℕ

-- One block given to a seller.
abbrev pub give : Terms → State → Option ℕ → State
give t st None = st
give t st (Some seller) = state (st.left - t.block) (slice_set st.held seller true)

-- One round: where a block is left, the seller who is next gets it.
abbrev pub round : Order → Terms → List ℕ → State → State
round next t os st = cond (nat_le t.block st.left) (give t st (next t os st.held)) st

-- So many rounds.
abbrev pub rounds : Order → Terms → List ℕ → ℕ → State → State
rounds next t os zero st = st
rounds next t os (suc n) st = rounds next t os n (round next t os st)

-- The start: the total less all floor shares is left, and nobody has a block.
abbrev pub floors : Terms → List ℕ → State
floors t os = state (t.total - sum_of (map (floor_share t) os)) (replicate (length os) false)

-- As many rounds as there are sellers: since each gives a block to one who had none, more would give nothing.
abbrev pub all_rounds : Order → Terms → List ℕ → State
all_rounds next t os = rounds next t os (length os) (floors t os)

-- What a seller has before the last pass: its floor share, and a block if it got one.
abbrev pub granted : Terms → ℕ → Bool → ℕ
granted t o has = cond has (floor_share t o + t.block) (floor_share t o)

-- What a seller gets in the last pass: the least of what is left, a block, and what its position still
-- holds; nothing if it has a block.
abbrev pub last_part : Terms → ℕ → ℕ → Bool → ℕ
last_part t left o has = cond has 0 (min left (min t.block (o - floor_share t o)))

-- The amounts after the last pass, which goes in list order.
abbrev pub last_pass : Terms → ℕ → List ℕ → List Bool → List ℕ
last_pass t left [] held = []
last_pass t left (o ∷ os) [] = []
last_pass t left (o ∷ os) (has ∷ held) =
    (granted t o has + last_part t left o has) ∷ last_pass t (left - last_part t left o has) os held

-- The amounts of an ask, by who is next.
abbrev pub blocks_of : Order → Terms → List ℕ → List ℕ
blocks_of next t os = let st = all_rounds next t os in last_pass t st.left os st.held

-- The terms of an ask.
abbrev pub terms_of : ℕ → ℕ → List ℕ → Terms
terms_of total block positions = record { total = total; block = block; all = sum_of positions }

-- What a seller claims a block by, if it waits for one: its remainder.
abbrev pub claim_of : Terms → ℕ → ℕ → Bool → Option Claim
claim_of t i o has = cond (waits t o has) (Some (record { seller = i; remainder = remainder_of t o })) None

-- The stronger of the best claim so far and a later one: the later only if its remainder is larger.
abbrev pub stronger : Option Claim → Option Claim → Option Claim
stronger best None = best
stronger None (Some later) = Some later
stronger (Some best) (Some later) = cond (nat_lt best.remainder later.remainder) (Some later) (Some best)

-- The strongest of the best claim so far and the claims from the seller i on.
abbrev pub strongest_from : Terms → ℕ → Option Claim → List ℕ → List Bool → Option Claim
strongest_from t i best [] held = best
strongest_from t i best (o ∷ os) [] = best
strongest_from t i best (o ∷ os) (has ∷ held) = strongest_from t (i + 1) (stronger best (claim_of t i o has)) os held

-- Rule 2's order: of those who wait, the one with the largest remainder is next, the earlier on a tie.
abbrev pub by_remainder : Order
by_remainder t os held = option_map (λ (c : Claim). c.seller) (strongest_from t 0 None os held)

-- Rule 2's amounts.
abbrev pub blocks : ℕ → ℕ → List ℕ → List ℕ
blocks total block positions = blocks_of by_remainder (terms_of total block positions) positions
