-- Rule 2's order picks the first of those with the largest remainder.
use Rattle.std.specs.Prelude.{◌≡◌, ℕ, zero, suc, ◌+◌, ◌<◌, ◌≤◌, Bool, true, false, cond, List, [], ◌∷◌, length, IfSome, Some, None, Option, ◌≢◌, slice_index, slice_index_or, refl}
use Rattle.std.proofs.Common.{⊎_elim, sym, ap, subst, ◌∙◌, add-zero, arith}
use Rattle.std.proofs.lemmas.Bool.{and_from, and_parts, cases_lt, cond-false, cond-true, le-leb, le-ltb, leb-true, lt-ltb, not_from_false, not-true}
use Rattle.std.specs.Option.{option_map}
use Rattle.assignment.specs.BlockLaws.{Proper, Waits}
use Rattle.assignment.specs.BlockShares.{by_remainder, claim_of, remainder_of, stronger, strongest_from, waits}
use Rattle.assignment.specs.declared.block_shares.Claim.{Claim}
use Rattle.assignment.specs.declared.block_shares.Terms.{Terms}

-- ---- how strong a claim is
abbrev strength : Option Claim → ℕ
strength None = 0
strength (Some c) = c.remainder + 1

-- the better of two claims, by strength
record Stronger (best later r : Option Claim) : Type 0 where
  high : strength best ≤ strength r
  most : strength later ≤ strength r
  kept : strength r ≤ strength best → r ≡ best
  new : strength best < strength r → r ≡ later

stronger_is : (best later : Option Claim) → Stronger best later (stronger best later)
stronger_is None None = record { high = omega arith; most = omega arith; kept = λ _. refl; new = λ lt. absurd (omega arith) }
stronger_is (Some b) None = record { high = omega arith; most = omega arith; kept = λ _. refl; new = λ lt. absurd (omega arith) }
stronger_is None (Some c) = record { high = omega arith; most = omega arith; kept = λ le. absurd (omega arith); new = λ _. refl }
stronger_is (Some b) (Some c) =
    ⊎_elim
    (λ (lt : b.remainder < c.remainder).
    rw (cond-true _ (Some c) (Some b) (lt-ltb b.remainder c.remainder lt)) (record { high = omega arith; most = omega arith; kept = λ le. absurd (omega arith); new = λ _. refl }))
    (λ (le : c.remainder ≤ b.remainder).
    rw (cond-false _ (Some c) (Some b) (le-ltb b.remainder c.remainder le)) (record { high = omega arith; most = omega arith; kept = λ _. refl; new = λ lt. absurd (omega arith) }))
    (cases_lt b.remainder c.remainder)

-- ---- the strongest of several
abbrev claim_at : Terms → ℕ → List ℕ → List Bool → ℕ → Option Claim
claim_at t i os held k = claim_of t (i + k) (slice_index os k) (slice_index_or held k false)

record Top (t : Terms) (i : ℕ) (best : Option Claim) (os : List ℕ) (held : List Bool) (r : Option Claim) : Type 0 where
  high : strength best ≤ strength r
  most : (k : ℕ) → k < length os → strength (claim_at t i os held k) ≤ strength r
  kept : strength r ≤ strength best → r ≡ best
  new : strength best < strength r → (k : ℕ) × (k < length os) × (r ≡ claim_at t i os held k) × ((j : ℕ) → j < k → strength (claim_at t i os held j) < strength r)

top_cons : (t : Terms) (i : ℕ) (best : Option Claim) (o : ℕ) (has : Bool) (os : List ℕ) (held : List Bool) (r : Option Claim) → Top t (i + 1) (stronger best (claim_of t i o has)) os held r → Top t i best (o ∷ os) (has ∷ held) r
top_cons t i best o has os held r rest = record {
  high = omega (arith, s.high, rest.high);
  most = most;
  kept = λ le. rest.kept (omega (arith, s.high)) ∙ s.kept (omega (arith, rest.high));
  new = λ lt. ⊎_elim (later lt) (here lt) (cases_lt (strength (stronger best (claim_of t i o has))) (strength r));
}
  where
    s : Stronger best (claim_of t i o has) (stronger best (claim_of t i o has))
    s = stronger_is best (claim_of t i o has)

    at_start : claim_of t (i + 0) o has ≡ claim_of t i o has
    at_start = ap (λ n. claim_of t n o has) (add-zero i)

    one_on : (k : ℕ) → claim_at t (i + 1) os held k ≡ claim_at t i (o ∷ os) (has ∷ held) (suc k)
    one_on k = let e : i + 1 + k ≡ i + suc k = omega arith in ap (λ n. claim_of t n (slice_index os k) (slice_index_or held k false)) e

    most : (k : ℕ) → k < suc (length os) → strength (claim_at t i (o ∷ os) (has ∷ held) k) ≤ strength r
    most zero h = omega (arith, ap strength at_start, s.most, rest.high)
    most (suc k) h = omega (arith, ap strength (one_on k), rest.most k (omega arith))

    later : strength best < strength r → strength (stronger best (claim_of t i o has)) < strength r → (k : ℕ) × (k < suc (length os)) × (r ≡ claim_at t i (o ∷ os) (has ∷ held) k) × ((j : ℕ) → j < k → strength (claim_at t i (o ∷ os) (has ∷ held) j) < strength r)
    later lt more =
        let found = rest.new more in (
          suc found.0,
          omega (arith, found.1),
          found.2 ∙ one_on found.0,
          earlier found.0 found.3,
        )
      where
        earlier : (k : ℕ) → ((j : ℕ) → j < k → strength (claim_at t (i + 1) os held j) < strength r) → (j : ℕ) → j < suc k → strength (claim_at t i (o ∷ os) (has ∷ held) j) < strength r
        earlier k below zero h = omega (arith, ap strength at_start, s.most)
        earlier k below (suc j) h = omega (arith, ap strength (one_on j), below j (omega arith))

    here : strength best < strength r → strength r ≤ strength (stronger best (claim_of t i o has)) → (k : ℕ) × (k < suc (length os)) × (r ≡ claim_at t i (o ∷ os) (has ∷ held) k) × ((j : ℕ) → j < k → strength (claim_at t i (o ∷ os) (has ∷ held) j) < strength r)
    here lt le =
        let is = rest.kept le in
        (0, omega arith, is ∙ s.new (omega (arith, ap strength is)) ∙ sym at_start, λ j h. absurd (omega arith))

top_of : (t : Terms) (i : ℕ) (best : Option Claim) (os : List ℕ) (held : List Bool) → length held ≡ length os → Top t i best os held (strongest_from t i best os held)
top_of t i best [] held long = record { high = omega arith; most = λ k h. absurd (omega arith); kept = λ _. refl; new = λ lt. absurd (omega arith) }
top_of t i best (o ∷ os) [] long = absurd (omega arith)
top_of t i best (o ∷ os) (has ∷ held) long =
    top_cons t i best o has os held (strongest_from t (i + 1) (stronger best (claim_of t i o has)) os held) (top_of t (i + 1) (stronger best (claim_of t i o has)) os held (omega arith))

-- ---- claims and waiting
waits_claim : (t : Terms) (os : List ℕ) (held : List Bool) (i k : ℕ) → Waits t os held k → claim_at t i os held k ≡ Some (record { seller = i + k; remainder = remainder_of t (slice_index os k) })
waits_claim t os held i k w =
    cond-true _ _ _ (and_from _ _ (not_from_false _ w.without) (le-leb _ _ w.room))

claim_waits : (t : Terms) (os : List ℕ) (held : List Bool) (i k : ℕ) → k < length os → 0 < strength (claim_at t i os held k) → Waits t os held k
claim_waits t os held i k h pos = go (waits t (slice_index os k) (slice_index_or held k false)) refl pos
  where
    go : (b : Bool) → waits t (slice_index os k) (slice_index_or held k false) ≡ b → 0 < strength (cond b (Some (record { seller = i + k; remainder = remainder_of t (slice_index os k) })) None) → Waits t os held k
    go true e p = let parts = and_parts _ _ e in record { seller = h; without = not-true _ parts.0; room = leb-true _ _ parts.1 }
    go false e p = absurd (omega arith)

-- ---- who is picked
-- the one who is picked waits, has the largest remainder of those who wait, and is the first of these
pub record Picked (t : Terms) (os : List ℕ) (held : List Bool) (p : ℕ) : Type 0 where
  pub waits : Waits t os held p
  pub largest : (k : ℕ) → Waits t os held k → remainder_of t (slice_index os k) ≤ remainder_of t (slice_index os p)
  pub first : (k : ℕ) → Waits t os held k → k < p → remainder_of t (slice_index os k) < remainder_of t (slice_index os p)

picked_at : (t : Terms) (os : List ℕ) (held : List Bool) (c : Claim) → Top t 0 None os held (Some c) → Picked t os held c.seller
picked_at t os held c top =
    let found = top.new (omega arith) in
    let k = found.0 in
    let w = claim_waits t os held 0 k found.1 (omega (arith, ap strength found.2)) in
    let is = found.2 ∙ waits_claim t os held 0 k w in
    let strong = ap strength is in
    let here : k ≡ c.seller = let e : c.seller ≡ 0 + k = cc in omega arith in
    subst (Picked t os held) here (record {
      waits = w;
      largest = λ j v. omega (arith, strong, ap strength (waits_claim t os held 0 j v), top.most j v.seller);
      first = λ j v h. omega (arith, strong, ap strength (waits_claim t os held 0 j v), found.3 j h);
    })

pub picked : (t : Terms) (os : List ℕ) (held : List Bool) (p : ℕ) → length held ≡ length os → by_remainder t os held ≡ Some p → Picked t os held p
picked t os held p long e = go (strongest_from t 0 None os held) (top_of t 0 None os held long) e
  where
    go : (r : Option Claim) → Top t 0 None os held r → option_map (λ (c : Claim). c.seller) r ≡ Some p → Picked t os held p
    go None top f = let z : ◌≡◌ {A = ℕ} 0 1 = cc in absurd (omega arith)
    go (Some c) top f = let same : c.seller ≡ p = cc in subst (Picked t os held) same (picked_at t os held c top)

nobody_waits : (t : Terms) (os : List ℕ) (held : List Bool) → length held ≡ length os → by_remainder t os held ≡ None → (i : ℕ) → Waits t os held i → ⊥
nobody_waits t os held long e i w = go (strongest_from t 0 None os held) (top_of t 0 None os held long) e
  where
    go : (r : Option Claim) → Top t 0 None os held r → option_map (λ (c : Claim). c.seller) r ≢ None
    go None top f = omega (arith, top.most i w.seller, ap strength (waits_claim t os held 0 i w))
    go (Some c) top f = let z : ◌≡◌ {A = ℕ} 0 1 = cc in omega arith

pub strongest_waits : (t : Terms) (os : List ℕ) (held : List Bool) (r : Option Claim) → length held ≡ length os → r ≡ strongest_from t 0 None os held → IfSome r (λ c. Waits t os held c.seller)
strongest_waits t os held None long e = tt
strongest_waits t os held (Some c) long e = (picked_at t os held c (subst (Top t 0 None os held) (sym e) (top_of t 0 None os held long))).waits

pub by_remainder_proper : Proper by_remainder
by_remainder_proper = record { picks = λ t os held i long e. (picked t os held i long e).waits; ends = nobody_waits }
