-- Two rows of different keys entered one after the other: the upper one leaves the lower one's place.
use Rattle.std.proofs.Common.{◌≡◌, ℕ, ◌+◌, ◌-◌, ◌<◌, ◌≤◌, Bool, true, List, get_or, set, Ok, Err, Result, ap, ◌∙◌, arith}
use Rattle.std.proofs.lemmas.Grind.{elements}
use Rattle.std.proofs.lemmas.List.Edits.{length-insert, get_or-insert_below}
use Rattle.std.proofs.lemmas.List.{length-set}
use Rattle.std.specs.List.{insert}
use Rattle.tables.proofs.Comparisons.{equal_not_less, less_not_greater}
use Rattle.tables.proofs.Searches.{ascending_in_order}
use Rattle.tables.specs.Finding.{Above, Ascending, Found, InOrder}
use Rattle.tables.specs.Orders.{Transitive, Trichotomous}

module _ {X K : Type 0} (key : X → K) (less : K → K → Bool) (one : Trichotomous less) (trans : Transitive less) (rows : List X) (asc : Ascending key less rows) (lower upper : K) (lt : less lower upper ≡ true) (d : X) where
  order : InOrder key less rows
  order = ascending_in_order key less one rows asc

  -- the lower key's row stands before the upper key's
  pub low_before_found : (i j : ℕ) → Found key less rows lower (Ok i) → Found key less rows upper (Ok j) → i < j
  low_before_found i j f g = grind (arith, lt, f.0, f.1 d, g.1 d, asc j i d, equal_not_less less one lower upper, less_not_greater less one upper lower)

  -- the lower key's row stands before the upper key's place
  pub low_before_missing : (i j : ℕ) → Found key less rows lower (Ok i) → Found key less rows upper (Err j) → i < j
  low_before_missing i j f g = grind (arith, lt, f.0, f.1 d, (g.1 order).1 i d, less_not_greater less one upper lower)

  -- the lower key's place is not after the upper key's row
  pub low_missing_before_found : (i j : ℕ) → Found key less rows lower (Err i) → Found key less rows upper (Ok j) → i ≤ j
  low_missing_before_found i j f g = grind (arith, lt, g.1 d, (f.1 order).0 j d, less_not_greater less one upper lower)

  -- the lower key's place is not after the upper key's place
  pub low_missing_before_missing : (i j : ℕ) → Found key less rows lower (Err i) → Found key less rows upper (Err j) → i ≤ j
  low_missing_before_missing i j f g =
      grind (arith, lt, f.0, (f.1 order).0 j d, (g.1 order).1 j d, trans upper (key (get_or rows j d)) lower, less_not_greater less one upper lower)

  module _ (new : X) (named : key new ≡ upper) where
    -- a row written under the upper key
    module _ (j : ℕ) (g : Found key less rows upper (Ok j)) where
      same_key_after_write : (m : ℕ) (e : X) → key (get_or (set rows j new) m e) ≡ key (get_or rows m e)
      same_key_after_write m e = grind (arith, elements, named, g.0, g.1 e)

      pub low_found_after_write : (r : Result ℕ ℕ) → Found key less rows lower r → Found key less (set rows j new) lower r
      low_found_after_write (Ok i) f =
          let long = length-set rows j new in
          (omega (arith, f.0), (λ e. same_key_after_write i e ∙ f.1 e), (λ _ m e le in'. ap (less lower) (same_key_after_write m e) ∙ f.2 order m e le (omega arith)))
      low_found_after_write (Err i) f =
          let long = length-set rows j new in
          (omega (arith, f.0), (λ _. ((λ m e h. ap (λ a. less a lower) (same_key_after_write m e) ∙ (f.1 order).0 m e h), (λ m e le in'. ap (less lower) (same_key_after_write m e) ∙ (f.1 order).1 m e le (omega arith)))))

    -- a row put in under the upper key
    module _ (j : ℕ) (g : Found key less rows upper (Err j)) where
      above_put_in : (i : ℕ) → i ≤ j → Above key less rows lower i → Above key less (insert rows j new) lower i
      above_put_in i le above m e from in' =
          let long = length-insert rows j new g.0 in
          grind (arith, elements, g.0, named, lt, above m e, above (m - 1) e)

      pub low_found_after_put_in : (r : Result ℕ ℕ) → Found key less rows lower r → Found key less (insert rows j new) lower r
      low_found_after_put_in (Ok i) f =
          let long = length-insert rows j new g.0 in
          let under = low_before_missing i j f g in
          (omega (arith, f.0), (λ e. ap key (get_or-insert_below rows j new e i under g.0) ∙ f.1 e), (λ _. above_put_in (i + 1) (omega arith) (f.2 order)))
      low_found_after_put_in (Err i) f =
          let long = length-insert rows j new g.0 in
          let under = low_missing_before_missing i j f g in
          (omega (arith, f.0), (λ _. ((λ m e h. ap (λ x. less (key x) lower) (get_or-insert_below rows j new e m (omega arith) g.0) ∙ (f.1 order).0 m e h), above_put_in i under (f.1 order).1)))
