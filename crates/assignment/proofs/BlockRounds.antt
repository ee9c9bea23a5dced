-- The rounds of rule 2 settle: as many as there are sellers give all blocks that can be given.
use Rattle.std.proofs.Common.{◌≡◌, ℕ, zero, suc, ◌+◌, ◌<◌, ◌≤◌, Bool, true, false, cond, leb, ◌⊎◌, List, [], ◌∷◌, length, get_or, set, Some, None, Option, sym, refl, ap, ◌∙◌, subst, inl, inr, ⊎_elim, arith}
use Rattle.std.proofs.lemmas.List.{length-set}
use Rattle.std.proofs.lemmas.Bool.{and_from, cases_Bool, cond-false, cond-true, le-leb, leb-false, lt-leb, not_from_false}
use Rattle.assignment.specs.BlockLaws.{Proper, Waits}
use Rattle.assignment.specs.BlockShares.{Order, State, give, round, rounds, state, waits}
use Rattle.assignment.specs.declared.block_shares.Terms.{Terms}

-- ---- how many wait
abbrev one_waits : Terms → ℕ → Bool → ℕ
one_waits t o has = cond (waits t o has) 1 0

waiting : Terms → List ℕ → List Bool → ℕ
waiting t [] held = 0
waiting t (o ∷ os) [] = 0
waiting t (o ∷ os) (has ∷ held) = one_waits t o has + waiting t os held

one_at_most : (t : Terms) (o : ℕ) (has : Bool) → one_waits t o has ≤ 1
one_at_most t o has = go (waits t o has)
  where
    go : (b : Bool) → cond b 1 0 ≤ 1
    go true = omega arith
    go false = omega arith

waiting_le : (t : Terms) (os : List ℕ) (held : List Bool) → waiting t os held ≤ length os
unfolding waiting
waiting_le t [] held = omega arith
waiting_le t (o ∷ os) [] = omega arith
waiting_le t (o ∷ os) (has ∷ held) = let rest = waiting_le t os held in omega (arith, one_at_most t o has)

waits_one : (t : Terms) (os : List ℕ) (held : List Bool) (i : ℕ) → Waits t os held i → one_waits t (get_or os i 0) (get_or held i false) ≡ 1
waits_one t os held i w = cond-true _ _ _ (and_from _ _ (not_from_false _ w.without) (le-leb _ _ w.room))

waiting_at : (t : Terms) (os : List ℕ) (held : List Bool) (i : ℕ) → length held ≡ length os → i < length os → one_waits t (get_or os i 0) (get_or held i false) ≤ waiting t os held
unfolding waiting
waiting_at t [] held i long h = absurd (omega arith)
waiting_at t (o ∷ os) [] i long h = absurd (omega arith)
waiting_at t (o ∷ os) (has ∷ held) zero long h = omega arith
waiting_at t (o ∷ os) (has ∷ held) (suc i) long h = let rest = waiting_at t os held i (omega arith) (omega arith) in omega arith

waiting_set : (t : Terms) (os : List ℕ) (held : List Bool) (i : ℕ) → length held ≡ length os → i < length os → waiting t os (set held i true) + one_waits t (get_or os i 0) (get_or held i false) ≡ waiting t os held
unfolding waiting
waiting_set t [] held i long h = absurd (omega arith)
waiting_set t (o ∷ os) [] i long h = absurd (omega arith)
waiting_set t (o ∷ os) (has ∷ held) zero long h = omega arith
waiting_set t (o ∷ os) (has ∷ held) (suc i) long h = let rest = waiting_set t os held i (omega arith) (omega arith) in omega arith

-- ---- the rounds
-- no further block can be given
unfoldable pub Settled : Terms → List ℕ → State → Type 0
Settled t os st = (st.left < t.block) ⊎ ((i : ℕ) → Waits t os st.held i → ⊥)

pub settled_less : (t : Terms) (os : List ℕ) (held : List Bool) (left : ℕ) → left < t.block → Settled t os (state left held)
unfolding Settled
settled_less t os held left h = inl h

module _ (next : Order) (proper : Proper next) where
  pub settled_none : (t : Terms) (os : List ℕ) (held : List Bool) (left : ℕ) → length held ≡ length os → next t os held ≡ None → Settled t os (state left held)
  unfolding Settled
  settled_none t os held left long none = inr (proper.ends t os held long none)

  stays : (t : Terms) (os : List ℕ) (st : State) → length st.held ≡ length os → Settled t os st → round next t os st ≡ st
  unfolding Settled
  stays t os st long (inl less) = cond-false _ _ st (lt-leb _ _ less)
  stays t os st long (inr none) = ⊎_elim
      (λ (e : leb t.block st.left ≡ true). cond-true _ _ st e ∙ given (next t os st.held) refl)
      (λ (e : leb t.block st.left ≡ false). cond-false _ _ st e)
      (cases_Bool (leb t.block st.left))
    where
      given : (chosen : Option ℕ) → next t os st.held ≡ chosen → give t st chosen ≡ st
      given None e = refl
      given (Some i) e = absurd (none i (proper.picks t os st.held i long e))

  round_long : (t : Terms) (os : List ℕ) (st : State) → length (round next t os st).held ≡ length st.held
  round_long t os st = go (leb t.block st.left) (next t os st.held)
    where
      go : (b : Bool) (chosen : Option ℕ) → length (cond b (give t st chosen) st).held ≡ length st.held
      go true None = refl
      go true (Some i) = length-set st.held i true
      go false chosen = refl

  pub rounds_done : (t : Terms) (os : List ℕ) (n : ℕ) (st : State) → length st.held ≡ length os → Settled t os st → rounds next t os n st ≡ st
  rounds_done t os zero st long done = refl
  rounds_done t os (suc n) st long done = ap (rounds next t os n) (stays t os st long done) ∙ rounds_done t os n st long done

  rounds_long : (t : Terms) (os : List ℕ) (n : ℕ) (st : State) → length (rounds next t os n st).held ≡ length st.held
  rounds_long t os zero st = refl
  rounds_long t os (suc n) st = rounds_long t os n (round next t os st) ∙ round_long t os st

  -- a round that gives a block leaves one fewer who waits; any other settles
  fewer : (t : Terms) (os : List ℕ) (st : State) → length st.held ≡ length os → (waiting t os (round next t os st).held + 1 ≡ waiting t os st.held) ⊎ Settled t os st
  fewer t os st long = ⊎_elim
      (λ (e : leb t.block st.left ≡ true). given e (next t os st.held) refl)
      (λ (e : leb t.block st.left ≡ false). inr (settled_less t os st.held st.left (leb-false _ _ e)))
      (cases_Bool (leb t.block st.left))
    where
      given : leb t.block st.left ≡ true → (chosen : Option ℕ) → next t os st.held ≡ chosen → (waiting t os (round next t os st).held + 1 ≡ waiting t os st.held) ⊎ Settled t os st
      given e None none = inr (settled_none t os st.held st.left long none)
      given e (Some i) f =
          let w = proper.picks t os st.held i long f in
          let is : round next t os st ≡ give t st (Some i) = cond-true _ _ st e ∙ ap (give t st) f in
          inl (omega (arith, ap (λ (s : State). waiting t os s.held) is, waiting_set t os st.held i long w.seller, waits_one t os st.held i w))

  settle : (t : Terms) (os : List ℕ) (n : ℕ) (st : State) → length st.held ≡ length os → waiting t os st.held ≤ n → Settled t os (rounds next t os n st)
  unfolding Settled
  settle t os zero st long few =
      inr (λ i w. omega (arith, waits_one t os st.held i w, waiting_at t os st.held i long w.seller))
  settle t os (suc n) st long few = ⊎_elim
      (λ (less : waiting t os (round next t os st).held + 1 ≡ waiting t os st.held). settle t os n (round next t os st) (round_long t os st ∙ long) (omega arith))
      (λ (done : Settled t os st). subst (Settled t os) (sym (rounds_done t os (suc n) st long done)) done)
      (fewer t os st long)

  pub settled_after : (t : Terms) (os : List ℕ) (st : State) → length st.held ≡ length os → Settled t os (rounds next t os (length os) st)
  settled_after t os st long = settle t os (length os) st long (waiting_le t os st.held)

  rounds_round : (t : Terms) (os : List ℕ) (n : ℕ) (st : State) → rounds next t os n (round next t os st) ≡ round next t os (rounds next t os n st)
  rounds_round t os zero st = refl
  rounds_round t os (suc n) st = rounds_round t os n (round next t os st)

  -- where all rounds are still to come, one may be gone first
  pub rounds_next : (t : Terms) (os : List ℕ) (st : State) → length st.held ≡ length os → rounds next t os (length os) (round next t os st) ≡ rounds next t os (length os) st
  rounds_next t os st long =
      rounds_round t os (length os) st
      ∙ stays t os (rounds next t os (length os) st) (rounds_long t os (length os) st ∙ long) (settled_after t os st long)
