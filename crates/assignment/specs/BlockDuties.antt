-- Rule 2 fits, whatever proper order its blocks are given in.
use Rattle.std.specs.Prelude.{◌≡◌, ℕ, zero, suc, ◌+◌, ◌-◌, ◌*◌, ◌<◌, ◌≤◌, min, Bool, true, false, cond, List, [], ◌∷◌, map, length, get_or, set, replicate, Some, None, Option, nat_le, slice_index, slice_index_or, slice_set, refl}
use Rattle.std.proofs.Common.{⊎_elim, sym, ap, ◌∙◌, mul-le-mul_right, le_of_mul-le-mul_right, mul-pos, arith}
use Rattle.std.proofs.lemmas.Nat.{div-add-mod', mod_below}
use Rattle.std.proofs.lemmas.List.{length-replicate, length-set, get_or-replicate, get_or-set_other}
use Rattle.std.proofs.lemmas.Bool.{both_ways, cases_eq, cases_lt, cond_both, leb-true}
use Rattle.assignment.specs.Asks.{sum_of, Sound, Fit}
use Rattle.assignment.specs.BlockLaws.{Proper, Waits}
use Rattle.assignment.specs.BlockShares.{Order, State, blocks_of, floor_share, floors, give, granted, last_part, last_pass, round, rounds, terms_of}
use Rattle.assignment.specs.BlockSteps.{Apt, Standing, TermsOf, all_granted}
use Rattle.assignment.specs.declared.block_shares.Terms.{Terms}
use Rattle.assignment.specs.ListSteps.{get_or_le_sum}

-- ---- the floor share
pub divisor_pos : (t : Terms) → Apt t → 0 < t.all * t.block
divisor_pos t apt = mul-pos apt.positive apt.block_least

pub share_under : (t : Terms) → Apt t → (o : ℕ) → floor_share t o * t.all ≤ t.total * o
share_under t apt o = omega (arith, div-add-mod' (t.total * o) (t.all * t.block))

share_over : (t : Terms) → Apt t → (o : ℕ) → t.total * o < floor_share t o * t.all + t.block * t.all
share_over t apt o = omega (arith, div-add-mod' (t.total * o) (t.all * t.block), mod_below (t.total * o) (t.all * t.block) (divisor_pos t apt))

covers : (t : Terms) → Apt t → (o : ℕ) → t.total * o ≤ o * t.all
covers t apt o = omega (arith, mul-le-mul_right o apt.covered)

pub share_le : (t : Terms) → Apt t → (o : ℕ) → floor_share t o ≤ o
share_le t apt o = le_of_mul-le-mul_right {k = t.all} (omega (arith, share_under t apt o, covers t apt o)) apt.positive

-- ---- what a seller can take in the last pass
abbrev cap : Terms → ℕ → Bool → ℕ
cap t o has = cond has 0 (min t.block (o - floor_share t o))

abbrev Stands : Terms → ℕ → Bool → Type 0
Stands t o has = has ≡ true → floor_share t o + t.block ≤ o

last_is : (t : Terms) (left o : ℕ) (has : Bool) → last_part t left o has ≡ min left (cap t o has)
last_is t left o true = omega arith
last_is t left o false = refl

reach : (t : Terms) → Apt t → (o : ℕ) (has : Bool) → t.total * o ≤ (granted t o has + cap t o has) * t.all
reach t apt o true = omega (arith, share_over t apt o)
reach t apt o false =
    let f = floor_share t o in
    let le = share_le t apt o in
    let over = share_over t apt o in
    ⊎_elim
    (λ (small : o - f < t.block). let s : f + cap t o false ≡ o = omega arith in rw s (covers t apt o))
    (λ (big : t.block ≤ o - f). let s : f + cap t o false ≡ f + t.block = omega arith in rw s (omega arith))
    (cases_lt (o - f) t.block)

caps : Terms → List ℕ → List Bool → ℕ
caps t [] held = 0
caps t (o ∷ os) [] = 0
caps t (o ∷ os) (has ∷ held) = cap t o has + caps t os held

reach_all : (t : Terms) → Apt t → (os : List ℕ) (held : List Bool) → length held ≡ length os → t.total * sum_of os ≤ (sum_of (all_granted t os held) + caps t os held) * t.all
unfolding caps
reach_all t apt [] held long = omega arith
reach_all t apt (o ∷ os) [] long = absurd (omega arith)
reach_all t apt (o ∷ os) (has ∷ held) long =
    let here = reach t apt o has in
    let there = reach_all t apt os held (omega arith) in
    omega arith

-- ---- the last pass
last_pass_long : (t : Terms) (left : ℕ) (os : List ℕ) (held : List Bool) → length held ≡ length os → length (last_pass t left os held) ≡ length os
last_pass_long t left [] held long = refl
last_pass_long t left (o ∷ os) [] long = absurd (omega arith)
last_pass_long t left (o ∷ os) (has ∷ held) long = ap suc (last_pass_long t (left - last_part t left o has) os held (omega arith))

last_pass_sum : (t : Terms) (left : ℕ) (os : List ℕ) (held : List Bool) → length held ≡ length os → sum_of (last_pass t left os held) ≡ sum_of (all_granted t os held) + min left (caps t os held)
unfolding caps
last_pass_sum t left [] held long = omega arith
last_pass_sum t left (o ∷ os) [] long = absurd (omega arith)
last_pass_sum t left (o ∷ os) (has ∷ held) long =
    let l = last_is t left o has in
    let rest = last_pass_sum t (left - last_part t left o has) os held (omega arith) in
    omega arith

pub record Between (f b o r : ℕ) : Type 0 where
  pub least : f ≤ r
  pub most : r ≤ f + b
  pub within : r ≤ o

between : (t : Terms) → Apt t → (left o : ℕ) (has : Bool) → Stands t o has → Between (floor_share t o) t.block o (granted t o has + last_part t left o has)
between t apt left o true stands = let room = stands refl in omega arith
between t apt left o false stands = let le = share_le t apt o in omega arith

pub last_pass_each : (t : Terms) → Apt t → (left : ℕ) (os : List ℕ) (held : List Bool) → length held ≡ length os → ((i : ℕ) → i < length os → Stands t (slice_index os i) (slice_index_or held i false)) → (i : ℕ) → i < length os → Between (floor_share t (slice_index os i)) t.block (slice_index os i) (slice_index (last_pass t left os held) i)
last_pass_each t apt left [] held long each i h = absurd (omega arith)
last_pass_each t apt left (o ∷ os) [] long each i h = absurd (omega arith)
last_pass_each t apt left (o ∷ os) (has ∷ held) long each zero h = between t apt left o has (each 0 h)
last_pass_each t apt left (o ∷ os) (has ∷ held) long each (suc i) h =
    last_pass_each t apt (left - last_part t left o has) os held (omega arith) (λ k l. each (suc k) (omega arith)) i (omega arith)

-- ---- a round
pub granted_at : (t : Terms) (os : List ℕ) (held : List Bool) (i : ℕ) → length held ≡ length os → i < length os → slice_index (all_granted t os held) i ≡ granted t (slice_index os i) (slice_index_or held i false)
granted_at t [] held i long h = absurd (omega arith)
granted_at t (o ∷ os) [] i long h = absurd (omega arith)
granted_at t (o ∷ os) (has ∷ held) zero long h = refl
granted_at t (o ∷ os) (has ∷ held) (suc i) long h = granted_at t os held i (omega arith) (omega arith)

pub granted_long : (t : Terms) (os : List ℕ) (held : List Bool) → length held ≡ length os → length (all_granted t os held) ≡ length os
granted_long t [] held long = refl
granted_long t (o ∷ os) [] long = absurd (omega arith)
granted_long t (o ∷ os) (has ∷ held) long = ap suc (granted_long t os held (omega arith))

pub granted_set : (t : Terms) (os : List ℕ) (held : List Bool) (i : ℕ) → length held ≡ length os → all_granted t os (slice_set held i true) ≡ slice_set (all_granted t os held) i (floor_share t (slice_index os i) + t.block)
granted_set t [] held i long = refl
granted_set t (o ∷ os) [] i long = absurd (omega arith)
granted_set t (o ∷ os) (has ∷ held) zero long = refl
granted_set t (o ∷ os) (has ∷ held) (suc i) long = ap (λ ys. granted t o has ∷ ys) (granted_set t os held i (omega arith))

sum_set : (xs : List ℕ) (i y : ℕ) → i < length xs → sum_of (slice_set xs i y) + slice_index xs i ≡ sum_of xs + y
sum_set [] i y h = absurd (omega arith)
sum_set (x ∷ xs) zero y h = omega arith
sum_set (x ∷ xs) (suc i) y h = let rest = sum_set xs i y (omega arith) in omega arith

-- one more block
pub granted_more : (t : Terms) (os : List ℕ) (held : List Bool) (i : ℕ) → length held ≡ length os → Waits t os held i → all_granted t os (slice_set held i true) ≡ slice_set (all_granted t os held) i (slice_index (all_granted t os held) i + t.block)
granted_more t os held i long w =
    granted_set t os held i long
    ∙ ap (λ n. set (all_granted t os held) i (n + t.block)) (sym (granted_at t os held i long w.seller ∙ ap (granted t (slice_index os i)) w.without))

pub standing_more : (t : Terms) (os : List ℕ) (held : List Bool) (i : ℕ) → Standing t os held → Waits t os held i → Standing t os (slice_set held i true)
standing_more t os held i standing w = record {
  terms = standing.terms;
  long = length-set held i true ∙ standing.long;
  roomy = λ k h has. ⊎_elim (λ (e : k ≡ i). rw e w.room) (λ (ne : k ≡ i → ⊥). standing.roomy k h (sym (get_or-set_other held i k true false ne) ∙ has)) (cases_eq k i);
}

-- what rounds keep, with what is left
pub record Going (t : Terms) (os : List ℕ) (st : State) : Type 0 where
  pub standing : Standing t os st.held
  pub whole : sum_of (all_granted t os st.held) + st.left ≡ t.total

module _ (next : Order) (proper : Proper next) where
  give_keeps : (t : Terms) (os : List ℕ) (st : State) (chosen : Option ℕ) → next t os st.held ≡ chosen → t.block ≤ st.left → Going t os st → Going t os (give t st chosen)
  give_keeps t os st None e enough going = going
  give_keeps t os st (Some i) e enough going =
      let held = st.held in
      let long = going.standing.long in
      let w = proper.picks t os held i long e in
      let lt : i < length (all_granted t os held) = omega (arith, granted_long t os held long, w.seller) in
      record {
        standing = standing_more t os held i going.standing w;
        whole = omega (arith, ap sum_of (granted_more t os held i long w), sum_set (all_granted t os held) i (slice_index (all_granted t os held) i + t.block) lt, going.whole);
      }

  round_keeps : (t : Terms) (os : List ℕ) (st : State) → Going t os st → Going t os (round next t os st)
  round_keeps t os st going =
      cond_both (nat_le t.block st.left) _ st (Going t os)
      (λ e. give_keeps t os st (next t os st.held) refl (leb-true t.block st.left e) going)
      (λ _. going)

  pub rounds_keep : (t : Terms) (os : List ℕ) (n : ℕ) (st : State) → Going t os st → Going t os (rounds next t os n st)
  rounds_keep t os zero st going = going
  rounds_keep t os (suc n) st going = rounds_keep t os n (round next t os st) (round_keeps t os st going)

-- ---- the start
pub apt_of : (t : Terms) (os : List ℕ) (i : ℕ) → TermsOf t os → i < length os → Apt t
apt_of t os i terms h = record {
  positive = omega (arith, terms.all_is, get_or_le_sum os i h, terms.sound.opens.each_open i h);
  covered = omega (arith, terms.all_is, terms.sound.covered);
  block_least = terms.sound.block_least;
}

floors_under : (t : Terms) → Apt t → (os : List ℕ) → sum_of (map (floor_share t) os) * t.all ≤ t.total * sum_of os
floors_under t apt [] = omega arith
floors_under t apt (o ∷ os) =
    let here = share_under t apt o in
    let rest = floors_under t apt os in
    omega arith

pub floors_le : (t : Terms) (os : List ℕ) → TermsOf t os → Apt t → sum_of (map (floor_share t) os) ≤ t.total
floors_le t os terms apt =
    let under = floors_under t apt os in
    le_of_mul-le-mul_right {k = t.all} (rw terms.all_is (rw terms.all_is at under)) apt.positive

pub granted_none : (t : Terms) (os : List ℕ) → all_granted t os (replicate (length os) false) ≡ map (floor_share t) os
granted_none t [] = refl
granted_none t (o ∷ os) = ap (λ ys. floor_share t o ∷ ys) (granted_none t os)

pub nobody_has : (n i : ℕ) → slice_index_or (replicate n false) i false ≡ false
nobody_has n i = ⊎_elim (λ (h : i < n). get_or-replicate n i false false h) (λ (h : n ≤ i). past n i h) (cases_lt i n)
  where
    past : (n i : ℕ) → n ≤ i → slice_index_or (replicate n false) i false ≡ false
    past zero i h = refl
    past (suc n) zero h = absurd (omega arith)
    past (suc n) (suc i) h = past n i (omega arith)

pub floors_stand : (t : Terms) (os : List ℕ) → TermsOf t os → Standing t os (replicate (length os) false)
floors_stand t os terms = record {
  terms = terms;
  long = length-replicate (length os) false;
  roomy = λ i h has. absurd (both_ways _ (nobody_has (length os) i) has);
}

pub floors_going : (t : Terms) (os : List ℕ) → TermsOf t os → Going t os (floors t os)
floors_going t [] terms = record { standing = floors_stand t [] terms; whole = omega arith }
floors_going t (o ∷ os) terms = record {
  standing = floors_stand t (o ∷ os) terms;
  whole = omega (arith, floors_le t (o ∷ os) terms (apt_of t (o ∷ os) 0 terms (omega arith)), ap sum_of (granted_none t (o ∷ os)));
}

-- ---- all of it
going_fits : (t : Terms) (os : List ℕ) (st : State) → Apt t → Going t os st → Fit t.total t.block os (last_pass t st.left os st.held)
going_fits t os st apt going =
    let standing = going.standing in
    let all_is = standing.terms.all_is in
    let far = reach_all t apt os st.held standing.long in
    let enough : t.total ≤ sum_of (all_granted t os st.held) + caps t os st.held = le_of_mul-le-mul_right {k = t.all} (rw (sym all_is) at far) apt.positive in
    let total = last_pass_sum t st.left os st.held standing.long in
    record {
      long = last_pass_long t st.left os st.held standing.long;
      whole = omega (arith, going.whole);
      within = λ i h. (last_pass_each t apt st.left os st.held standing.long standing.roomy i h).within;
      not_over = λ i h.
          let o = get_or os i 0 in
          let near = last_pass_each t apt st.left os st.held standing.long standing.roomy i h in
          rw (sym all_is) (omega (arith, share_under t apt o, mul-le-mul_right t.all near.most));
      not_under = λ i h.
          let o = get_or os i 0 in
          let near = last_pass_each t apt st.left os st.held standing.long standing.roomy i h in
          rw (sym all_is) (omega (arith, share_over t apt o, mul-le-mul_right t.all near.least));
    }

blocks_of_fit : (next : Order) → Proper next → (t : Terms) (os : List ℕ) → TermsOf t os → Fit t.total t.block os (blocks_of next t os)
blocks_of_fit next proper t [] terms =
    record { long = refl; whole = omega (arith, terms.sound.covered); within = λ i h. absurd (omega arith); not_over = λ i h. absurd (omega arith); not_under = λ i h. absurd (omega arith) }
blocks_of_fit next proper t (o ∷ os) terms =
    going_fits t (o ∷ os) _ (apt_of t (o ∷ os) 0 terms (omega arith)) (rounds_keep next proper t (o ∷ os) (length (o ∷ os)) (floors t (o ∷ os)) (floors_going t (o ∷ os) terms))

pub blocks_fit : (next : Order) → Proper next → (total block : ℕ) (positions : List ℕ) → Sound total block positions → Fit total block positions (blocks_of next (terms_of total block positions) positions)
blocks_fit next proper total block positions sound = blocks_of_fit next proper (terms_of total block positions) positions (record { sound = sound; all_is = refl })
