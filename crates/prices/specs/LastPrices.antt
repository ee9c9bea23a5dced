-- The price of the last row that applies.
use Rattle.std.specs.Prelude.{◌≡◌, ℕ, zero, suc, ◌<◌, ◌≤◌, Bool, true, false, cond, ◌⊎◌, List, [], ◌∷◌, length, Some, None, Option, slice_index_or, refl}
use Rattle.std.proofs.Common.{inl, inr, ⊎_elim, sym, ap, subst, ◌∙◌, arith}
use Rattle.std.proofs.lemmas.Bool.{cases_Bool, cond-true, cond-false}
use Rattle.std.specs.Option.{option_or}
use Rattle.prices.specs.Quotes.{last_price, Priced}
use Rattle.prices.specs.Rows.{highest_price, InRange}

-- where the answer comes from
option_or_cases : (a b : Option ℕ) (p : ℕ) → option_or a b ≡ Some p → (a ≡ Some p) ⊎ (b ≡ Some p)
option_or_cases (Some q) b p e = inl e
option_or_cases None b p e = inr e

module _ {X : Type 0} (applies : X → Bool) (price : X → ℕ) where
  -- no row applies
  pub last_none : (rows : List X) → ((i : ℕ) (d : X) → i < length rows → applies (slice_index_or rows i d) ≡ false) → last_price applies price rows ≡ None
  last_none [] all = refl
  last_none (x ∷ xs) all =
      ap (λ o. option_or o (cond (applies x) (Some (price x)) None)) (last_none xs (λ i d lt. all (suc i) d (omega arith))) ∙ cond-false (applies x) _ _ (all 0 x (omega arith))

  -- a row applies, and none after it does
  pub last_at : (rows : List X) (place : ℕ) (d : X) → place < length rows → applies (slice_index_or rows place d) ≡ true → ((i : ℕ) (e : X) → place < i → i < length rows → applies (slice_index_or rows i e) ≡ false) → last_price applies price rows ≡ Some (price (slice_index_or rows place d))
  last_at [] place d in' here after = absurd (omega arith)
  last_at (x ∷ xs) zero d in' here after =
      ap (λ o. option_or o (cond (applies x) (Some (price x)) None)) (last_none xs (λ i e lt. after (suc i) e (omega arith) (omega arith))) ∙ cond-true (applies x) _ _ here
  last_at (x ∷ xs) (suc place) d in' here after =
      ap (λ o. option_or o (cond (applies x) (Some (price x)) None)) (last_at xs place d (omega arith) here (λ i e gt lt. after (suc i) e (omega arith) (omega arith)))

  -- an answer of one row
  priced_first : (x : X) (xs : List X) (p : ℕ) → cond (applies x) (Some (price x)) None ≡ Some p → Priced applies price (x ∷ xs) p
  priced_first x xs p e =
      ⊎_elim
      (λ yes. let s = sym (cond-true (applies x) (Some (price x)) None yes) ∙ e in let same : price x ≡ p = cc in (x, (0, omega arith, λ d. refl), yes, same))
      (λ no. let s = sym (cond-false (applies x) (Some (price x)) None no) ∙ e in let z : ◌≡◌ {A = ℕ} 0 1 = cc in absurd (omega arith))
      (cases_Bool (applies x))

  -- the answer is the price of a row that applies
  pub last_priced : (rows : List X) (p : ℕ) → last_price applies price rows ≡ Some p → Priced applies price rows p
  last_priced [] p e = let z : ◌≡◌ {A = ℕ} 0 1 = cc in absurd (omega arith)
  last_priced (x ∷ xs) p e =
      ⊎_elim
      (λ later. let r = last_priced xs p later in (r.0, (suc r.1.0, omega (arith, r.1.1), r.1.2), r.2, r.3))
      (λ first. priced_first x xs p first)
      (option_or_cases (last_price applies price xs) (cond (applies x) (Some (price x)) None) p e)

  -- and so it is in range
  pub last_in_range : (rows : List X) (p : ℕ) → InRange price rows (length rows) → last_price applies price rows ≡ Some p → p ≤ highest_price
  last_in_range rows p fair e =
      let r = last_priced rows p e in
      subst (λ n. n ≤ highest_price) (ap price (r.1.2 r.0) ∙ r.3) (fair r.1.0 r.0 r.1.1)
