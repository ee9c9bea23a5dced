-- What follows in an order of keys.
use Rattle.std.proofs.Common.{◌≡◌, Bool, true, false, Ordering, Less, Equal, Greater, sym, refl, subst, ⊎_elim}
use Rattle.std.specs.Ordering.{MatchOrdering}
use Rattle.std.proofs.lemmas.Bool.{both_ways}
use Rattle.tables.specs.Orders.{Trichotomous, Transitive}

module _ {K : Type 0} (less : K → K → Bool) (one : Trichotomous less) where
  -- cases by how two keys stand
  pub by_order : {P : Type 0} (a b : K) → (less a b ≡ true → P) → (a ≡ b → P) → (less b a ≡ true → P) → P
  by_order a b f g h = ⊎_elim (λ x. f x.0) (⊎_elim (λ x. g x.1) (λ x. h x.2)) (one a b)

  -- a less key is not greater
  pub less_not_greater : (a b : K) → less a b ≡ true → less b a ≡ false
  less_not_greater a b h = ⊎_elim (λ x. x.2) (⊎_elim (λ x. x.2) (λ x. absurd (both_ways _ x.0 h))) (one a b)

  -- equal keys are not less
  pub equal_not_less : (a b : K) → a ≡ b → less a b ≡ false
  equal_not_less a b e = ⊎_elim (λ x. absurd (x.1 e)) (⊎_elim (λ x. x.0) (λ x. x.0)) (one a b)

  -- what a comparison tells that does not answer greater
  pub ranked_up_to : (a b : K) (o : Ordering) → MatchOrdering o (less a b ≡ true) (a ≡ b) (less b a ≡ true) → (o ≡ Greater → ⊥) → less b a ≡ false
  ranked_up_to a b Less r other = less_not_greater a b r
  ranked_up_to a b Equal r other = equal_not_less b a (sym r)
  ranked_up_to a b Greater r other = absurd (other refl)

  -- what a comparison with a key that is not less tells, if it does not answer equal
  pub ranked_less : (a b : K) (o : Ordering) → MatchOrdering o (less a b ≡ true) (a ≡ b) (less b a ≡ true) → (o ≡ Equal → ⊥) → less b a ≡ false → less a b ≡ true
  ranked_less a b Less r different h = r
  ranked_less a b Equal r different h = absurd (different refl)
  ranked_less a b Greater r different h = absurd (both_ways _ h r)

  module _ (trans : Transitive less) where
    -- `a` up to `b`, and `b` less than `c`
    pub up_to_less : (a b c : K) → less b a ≡ false → less b c ≡ true → less a c ≡ true
    up_to_less a b c h lt =
        by_order a b (λ l. trans a b c l lt) (λ e. subst (λ x. less x c ≡ true) (sym e) lt) (λ g. absurd (both_ways _ h g))

    -- `a` less than `b`, and `b` up to `c`
    pub less_up_to : (a b c : K) → less a b ≡ true → less c b ≡ false → less a c ≡ true
    less_up_to a b c lt h =
        by_order b c (λ l. trans a b c lt l) (λ e. subst (λ x. less a x ≡ true) e lt) (λ g. absurd (both_ways _ h g))

    -- `a` up to `b`, and `b` up to `c`
    pub up_to_up_to : (a b c : K) → less b a ≡ false → less c b ≡ false → less c a ≡ false
    up_to_up_to a b c h k =
        by_order a b (λ l. less_not_greater a c (less_up_to a b c l k)) (λ e. subst (λ x. less c x ≡ false) (sym e) k) (λ g. absurd (both_ways _ h g))
