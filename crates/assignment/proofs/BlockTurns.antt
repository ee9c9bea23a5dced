-- The turns of the loops of rule 2.
use Rattle.std.proofs.Common.{◌≡◌, ℕ, ◌+◌, ◌-◌, ◌<◌, ◌≤◌, Bool, true, false, ◌⊎◌, List, [], ◌∷◌, map, length, get_or, drop, set, replicate, Some, None, Option, inl, inr, sym, refl, ap, ◌∙◌, arith}
use Rattle.std.proofs.lemmas.Bool.{cond-true, le-leb}
use Rattle.std.specs.Option.{option_map}
use Rattle.assignment.specs.BlockLaws.{Waits}
use Rattle.assignment.specs.BlockShares.{by_remainder, floor_share, floors, give, granted, round, rounds, state, strongest_from}
use Rattle.assignment.specs.BlockSteps.{Granted, Standing, all_granted}
use Rattle.assignment.specs.declared.block_shares.Claim.{Claim}
use Rattle.assignment.specs.declared.block_shares.Terms.{Terms}
use Rattle.assignment.specs.BlockDuties.{granted_at, granted_long, granted_more, granted_none, standing_more}
use Rattle.assignment.specs.BlockOrder.{by_remainder_proper}
use Rattle.assignment.proofs.BlockRounds.{rounds_done, rounds_next, settled_less, settled_none}
use Rattle.assignment.specs.ListSteps.{rest_at}

-- where no seller is left, the best claim so far is the strongest
pub strongest_of_none : (t : Terms) (i : ℕ) (best : Option Claim) (os : List ℕ) (held : List Bool) → (os ≡ []) ⊎ (held ≡ []) → strongest_from t i best os held ≡ best
strongest_of_none t i best [] held none = refl
strongest_of_none t i best (o ∷ os) [] none = refl
strongest_of_none t i best (o ∷ os) (has ∷ held) (inl none) = cc
strongest_of_none t i best (o ∷ os) (has ∷ held) (inr none) = cc

-- ---- what is written before the last pass
-- there is an amount for each seller
pub granted_places : {t : Terms} {os : List ℕ} {held : List Bool} {before : List ℕ} → Granted t os held before → length before ≡ length os
granted_places {t} {os} {held} granted = ap length granted.written ∙ granted_long t os held granted.standing.long

-- what a seller has before its turn
pub granted_before : {t : Terms} {os : List ℕ} {held : List Bool} {before : List ℕ} (out : List ℕ) (i : ℕ) → Granted t os held before → i < length os → drop i out ≡ drop i before → get_or out i 0 ≡ granted t (get_or os i 0) (get_or held i false)
granted_before {t} {os} {held} {before} out i so_far h behind =
    rest_at out before i behind ∙ ap (λ xs. get_or xs i 0) so_far.written ∙ granted_at t os held i so_far.standing.long h

-- ---- the blocks
-- a turn that gives a block to a seller who waits
pub record BlockGiven (t : Terms) (os : List ℕ) (held : List Bool) (answer : List ℕ) (i : ℕ) : Type 0 where
  pub room : get_or answer i 0 + t.block ≤ get_or os i 0
  pub granted : Granted t os (set held i true) (set answer i (get_or answer i 0 + t.block))

pub block_given : {t : Terms} {os : List ℕ} {held : List Bool} {answer : List ℕ} {i : ℕ} → Granted t os held answer → Waits t os held i → BlockGiven t os held answer i
block_given {t} {os} {held} {answer} {i} so_far w =
    let has = granted_before answer i so_far w.seller refl ∙ ap (granted t (get_or os i 0)) w.without in
    record {
      room = omega (arith, has, w.room);
      granted = record {
        standing = standing_more t os held i so_far.standing w;
        written = ap (λ xs. set xs i (get_or xs i 0 + t.block)) so_far.written ∙ sym (granted_more t os held i so_far.standing.long w);
      };
    }

-- and the rounds that are still to come
pub rounds_given : {t : Terms} {os : List ℕ} {held : List Bool} {left : ℕ} {next : Claim} → Standing t os held → Some next ≡ strongest_from t 0 None os held → t.block ≤ left → rounds by_remainder t os (length os) (state (left - t.block) (set held next.seller true)) ≡ rounds by_remainder t os (length os) (state left held)
rounds_given {t} {os} {held} {left} {next} standing is enough =
    let first : round by_remainder t os (state left held) ≡ (state (left - t.block) (set held next.seller true)) =
    cond-true _ _ _ (le-leb t.block left enough) ∙ ap (give t (state left held)) (sym (ap (option_map (λ (c : Claim). c.seller)) is)) in
    ap (rounds by_remainder t os (length os)) (sym first) ∙ rounds_next by_remainder by_remainder_proper t os (state left held) standing.long

-- the end, where too little is left or nobody waits
pub rounds_short : {t : Terms} {os : List ℕ} {held : List Bool} {left : ℕ} → Standing t os held → left < t.block → rounds by_remainder t os (length os) (state left held) ≡ (state left held)
rounds_short {t} {os} {held} {left} standing less = rounds_done by_remainder by_remainder_proper t os (length os) (state left held) standing.long (settled_less t os held left less)

pub rounds_unclaimed : {t : Terms} {os : List ℕ} {held : List Bool} {left : ℕ} → Standing t os held → None ≡ strongest_from t 0 None os held → rounds by_remainder t os (length os) (state left held) ≡ (state left held)
rounds_unclaimed {t} {os} {held} {left} standing is =
    rounds_done by_remainder by_remainder_proper t os (length os) (state left held) standing.long (settled_none by_remainder by_remainder_proper t os held left standing.long (sym (ap (option_map (λ (c : Claim). c.seller)) is)))

-- ---- from the floors to the last pass
pub start_written : (t : Terms) (os : List ℕ) (held : List Bool) (answer : List ℕ) → held ≡ replicate (length os) false → answer ≡ map (floor_share t) os → answer ≡ all_granted t os held
start_written t os held answer e f = f ∙ sym (granted_none t os) ∙ ap (all_granted t os) (sym e)

-- the start of the rounds
pub started : (t : Terms) (os : List ℕ) (left : ℕ) (held : List Bool) → left ≡ (floors t os).left → held ≡ replicate (length os) false → state left held ≡ floors t os
started t os left held left_is held_is = cc
