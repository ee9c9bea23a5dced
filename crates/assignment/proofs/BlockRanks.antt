-- Rule 2 in words: who gets a block, how many are given, and what the others get.
use Rattle.std.proofs.Common.{◌≡◌, ℕ, zero, suc, ◌+◌, ◌-◌, ◌*◌, ◌<◌, ◌≤◌, Bool, true, false, leb, List, [], ◌∷◌, map, length, get_or, set, replicate, Some, None, Option, sym, refl, ap, ◌∙◌, inl, inr, ⊎_elim, arith}
use Rattle.std.proofs.lemmas.List.{get_or-set_other, get_or-set_same}
use Rattle.std.proofs.lemmas.Bool.{both_ways, cases_eq, cases_lt, cond_both}
use Rattle.assignment.specs.Asks.{Sound, sum_of}
use Rattle.assignment.specs.BlockLaws.{Before, Blockwise, Given, Holder, Waits, holders, most_rest}
use Rattle.assignment.specs.BlockShares.{State, all_rounds, blocks, by_remainder, floor_share, floors, give, granted, last_part, last_pass, remainder_of, round, rounds, terms_of}
use Rattle.assignment.specs.BlockSteps.{all_granted}
use Rattle.assignment.specs.declared.block_shares.Terms.{Terms}
use Rattle.assignment.specs.BlockDuties.{Going, floors_going, nobody_has, rounds_keep}
use Rattle.assignment.specs.BlockOrder.{Picked, by_remainder_proper, picked}
use Rattle.assignment.proofs.BlockRounds.{Settled, settled_after}

-- ---- whoever has a block ranks before whoever waits
unfoldable Ranked : Terms → List ℕ → List Bool → Type 0
Ranked t os held = (i j : ℕ) → i < length os → Holder held i → Waits t os held j → Before t os i j

picked_before : (t : Terms) (os : List ℕ) (held : List Bool) (p j : ℕ) → Picked t os held p → Waits t os held j → (j ≡ p → ⊥) → Before t os p j
picked_before t os held p j best w other =
    ⊎_elim
    (λ (less : remainder_of t (get_or os j 0) < remainder_of t (get_or os p 0)). inl less)
    (λ (more : remainder_of t (get_or os p 0) ≤ remainder_of t (get_or os j 0)).
    inr (omega (arith, best.largest j w), ⊎_elim (λ (h : p < j). h) (λ (h : j ≤ p). absurd (⊎_elim (λ (e : j ≡ p). other e) (λ (ne : j ≡ p → ⊥). omega (arith, best.first j w (omega arith))) (cases_eq j p))) (cases_lt p j)))
    (cases_lt (remainder_of t (get_or os j 0)) (remainder_of t (get_or os p 0)))

ranked_more : (t : Terms) (os : List ℕ) (held : List Bool) (p : ℕ) → length held ≡ length os → Picked t os held p → Ranked t os held → Ranked t os (set held p true)
unfolding Ranked
ranked_more t os held p long best ranked i j h has w =
    ⊎_elim
    (λ (e : j ≡ p). absurd (both_ways _ (rw e at w).without (get_or-set_same held p true false (omega (arith, best.waits.seller)))))
    (λ (ne : j ≡ p → ⊥).
    let waited : Waits t os held j = record { seller = w.seller; without = sym (get_or-set_other held p j true false ne) ∙ w.without; room = w.room } in
    ⊎_elim
    (λ (e : i ≡ p). rw e (picked_before t os held p j best waited ne))
    (λ (not_p : i ≡ p → ⊥). ranked i j h (sym (get_or-set_other held p i true false not_p) ∙ has) waited)
    (cases_eq i p))
    (cases_eq j p)

round_ranks : (t : Terms) (os : List ℕ) (st : State) → length st.held ≡ length os → Ranked t os st.held → Ranked t os (round by_remainder t os st).held
round_ranks t os st long ranked =
    cond_both (leb t.block st.left) _ st (λ (s : State). Ranked t os s.held) (λ _. given (by_remainder t os st.held) refl) (λ _. ranked)
  where
    given : (chosen : Option ℕ) → by_remainder t os st.held ≡ chosen → Ranked t os (give t st chosen).held
    given None e = ranked
    given (Some p) e = ranked_more t os st.held p long (picked t os st.held p long e) ranked

-- `rounds_keep` says that the list of holders stays as long as the positions
rounds_rank : (t : Terms) (os : List ℕ) (n : ℕ) (st : State) → Going t os st → Ranked t os st.held → Ranked t os (rounds by_remainder t os n st).held
rounds_rank t os zero st going ranked = ranked
rounds_rank t os (suc n) st going ranked =
    rounds_rank t os n (round by_remainder t os st) (rounds_keep by_remainder by_remainder_proper t os 1 st going) (round_ranks t os st going.standing.long ranked)

floors_ranked : (t : Terms) (os : List ℕ) → Ranked t os (replicate (length os) false)
unfolding Ranked
floors_ranked t os i j h has w = absurd (both_ways _ (nobody_has (length os) i) has)

-- ---- how many blocks
granted_sum : (t : Terms) (os : List ℕ) (held : List Bool) → length held ≡ length os → sum_of (all_granted t os held) ≡ sum_of (map (floor_share t) os) + t.block * holders held
granted_sum t [] [] long = omega arith
granted_sum t [] (has ∷ held) long = absurd (omega arith)
granted_sum t (o ∷ os) [] long = absurd (omega arith)
granted_sum t (o ∷ os) (true ∷ held) long = let rest = granted_sum t os held (omega arith) in omega arith
granted_sum t (o ∷ os) (false ∷ held) long = let rest = granted_sum t os held (omega arith) in omega arith

-- ---- the last pass
-- what a seller gets, with so much left at its turn
passed : (t : Terms) (left : ℕ) (os : List ℕ) (held : List Bool) (i : ℕ) → length held ≡ length os → i < length os → (rest : ℕ) × (get_or (last_pass t left os held) i 0 ≡ granted t (get_or os i 0) (get_or held i false) + last_part t rest (get_or os i 0) (get_or held i false))
passed t left [] held i long h = absurd (omega arith)
passed t left (o ∷ os) [] i long h = absurd (omega arith)
passed t left (o ∷ os) (has ∷ held) zero long h = (left, refl)
passed t left (o ∷ os) (has ∷ held) (suc i) long h = passed t (left - last_part t left o has) os held i (omega arith) (omega arith)

with_block_gets : (t : Terms) (rest o a : ℕ) (has : Bool) → has ≡ true → a ≡ granted t o has + last_part t rest o has → a ≡ floor_share t o + t.block
with_block_gets t rest o a true e is = omega arith
with_block_gets t rest o a false e is = absurd (both_ways false refl e)

gets_at_least : (t : Terms) (rest o a : ℕ) (has : Bool) → a ≡ granted t o has + last_part t rest o has → floor_share t o ≤ a
gets_at_least t rest o a true is = omega arith
gets_at_least t rest o a false is = omega arith

gets_at_most : (t : Terms) (rest o a : ℕ) (has : Bool) → has ≡ false → a ≡ granted t o has + last_part t rest o has → a ≤ floor_share t o + most_rest t o
gets_at_most t rest o a true e is = absurd (both_ways true e refl)
gets_at_most t rest o a false e is = omega arith

none_left : (t : Terms) (os : List ℕ) (held : List Bool) (i : ℕ) → length held ≡ length os → i < length os → get_or held i false ≡ false → get_or (last_pass t 0 os held) i 0 ≡ floor_share t (get_or os i 0)
none_left t [] held i long h e = absurd (omega arith)
none_left t (o ∷ os) [] i long h e = absurd (omega arith)
none_left t (o ∷ os) (true ∷ held) zero long h e = absurd (both_ways true e refl)
none_left t (o ∷ os) (false ∷ held) zero long h e = omega arith
none_left t (o ∷ os) (has ∷ held) (suc i) long h e =
    let z : 0 - last_part t 0 o has ≡ 0 = omega arith in
    ap (λ n. get_or (last_pass t n os held) i 0) z ∙ none_left t os held i (omega arith) (omega arith) e

passed_in_order : (t : Terms) (left : ℕ) (os : List ℕ) (held : List Bool) (i j : ℕ) → length held ≡ length os → i < j → j < length os → get_or held i false ≡ false → get_or held j false ≡ false → floor_share t (get_or os j 0) < get_or (last_pass t left os held) j 0 → get_or (last_pass t left os held) i 0 ≡ floor_share t (get_or os i 0) + most_rest t (get_or os i 0)
passed_in_order t left [] held i j long lt h e f more = absurd (omega arith)
passed_in_order t left (o ∷ os) [] i j long lt h e f more = absurd (omega arith)
passed_in_order t left (o ∷ os) (has ∷ held) i zero long lt h e f more = absurd (omega arith)
passed_in_order t left (o ∷ os) (true ∷ held) zero (suc j) long lt h e f more = absurd (both_ways true e refl)
passed_in_order t left (o ∷ os) (false ∷ held) zero (suc j) long lt h e f more =
    ⊎_elim
    (λ (short : left < most_rest t o).
    let z : left - last_part t left o false ≡ 0 = omega arith in
    let none = ap (λ n. get_or (last_pass t n os held) j 0) z ∙ none_left t os held j (omega arith) (omega arith) f in
    absurd (omega arith))
    (λ (enough : most_rest t o ≤ left). omega arith)
    (cases_lt left (most_rest t o))
passed_in_order t left (o ∷ os) (has ∷ held) (suc i) (suc j) long lt h e f more =
    passed_in_order t (left - last_part t left o has) os held i j (omega arith) (omega arith) (omega arith) e f more

-- ---- all of it
given_of : (t : Terms) (os : List ℕ) (st : State) → Going t os st → Settled t os st → Ranked t os st.held → Given t os st.held (last_pass t st.left os st.held)
unfolding Settled Ranked
given_of t os st going settled ranked =
    let held = st.held in
    let long = going.standing.long in
    let count = granted_sum t os held long in
    record {
      long = long;
      had_room = going.standing.roomy;
      ranked = ranked;
      afforded = omega (arith, going.whole);
      no_fewer = ⊎_elim (λ (less : st.left < t.block). inl (omega (arith, going.whole))) (λ (none : (i : ℕ) → Waits t os held i → ⊥). inr none) settled;
      with_block = λ i h has. let p = passed t st.left os held i long h in with_block_gets t p.0 (get_or os i 0) _ (get_or held i false) has p.1;
      at_least = λ i h. let p = passed t st.left os held i long h in gets_at_least t p.0 (get_or os i 0) _ (get_or held i false) p.1;
      at_most = λ i h e. let p = passed t st.left os held i long h in gets_at_most t p.0 (get_or os i 0) _ (get_or held i false) e p.1;
      in_order = λ i j lt h e f more. passed_in_order t st.left os held i j long lt h e f more;
    }

pub blocks_blockwise : (total block : ℕ) (positions : List ℕ) → Sound total block positions → Blockwise total block positions (blocks total block positions)
blocks_blockwise total block positions sound =
    let t = terms_of total block positions in
    let going = floors_going t positions (record { sound = sound; all_is = refl }) in
    let st = all_rounds by_remainder t positions in (
      st.held,
      given_of t positions st (rounds_keep by_remainder by_remainder_proper t positions (length positions) (floors t positions) going) (settled_after by_remainder by_remainder_proper t positions (floors t positions) going.standing.long) (rounds_rank t positions (length positions) (floors t positions) going (floors_ranked t positions)),
    )
