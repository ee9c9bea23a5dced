-- What `entered` is at the place that a search finds, and that the keys ascend after it.
use Rattle.std.proofs.Common.{◌≡◌, ℕ, zero, suc, ◌<◌, ◌≤◌, Bool, true, List, [], ◌∷◌, length, get_or, set, Ok, Err, sym, refl, ap, ◌∙◌, subst, arith}
use Rattle.std.specs.List.{insert, AllByRecursion}
use Rattle.std.proofs.lemmas.Bool.{cond-true, cond-false, cond_both}
use Rattle.tables.specs.Entering.{entered}
use Rattle.tables.specs.Finding.{Ascending, Below, Above, Found}
use Rattle.tables.specs.Orders.{Trichotomous, Transitive}
use Rattle.tables.proofs.Comparisons.{less_not_greater, equal_not_less}
use Rattle.tables.proofs.Searches.{ascending_in_order}

module _ {X K : Type 0} (key : X → K) (less : K → K → Bool) (one : Trichotomous less) (k : K) (change : X → X) (new : X) where
  -- before a row with a greater key
  pub entered_before : (x : X) (xs : List X) → less k (key x) ≡ true → entered key less k change new (x ∷ xs) ≡ new ∷ x ∷ xs
  entered_before x xs gt = cond-true (less k (key x)) _ _ gt

  -- past a row with a less key
  pub entered_past : (x : X) (xs : List X) → less (key x) k ≡ true → entered key less k change new (x ∷ xs) ≡ x ∷ entered key less k change new xs
  entered_past x xs lt = cond-false (less k (key x)) _ _ (less_not_greater less one (key x) k lt) ∙ cond-true (less (key x) k) _ _ lt

  -- a row with the key
  pub entered_here : (x : X) (xs : List X) → key x ≡ k → entered key less k change new (x ∷ xs) ≡ change x ∷ xs
  entered_here x xs e = cond-false (less k (key x)) _ _ (equal_not_less less one k (key x) (sym e)) ∙ cond-false (less (key x) k) _ _ (equal_not_less less one (key x) k e)

  -- at the row with the key
  entered_at : (rows : List X) (i : ℕ) (d : X) → i < length rows → Below key less rows k i → ((e : X) → key (get_or rows i e) ≡ k) → entered key less k change new rows ≡ set rows i (change (get_or rows i d))
  entered_at [] i d in' below at = absurd (omega arith)
  entered_at (x ∷ xs) zero d in' below at = entered_here x xs (at x)
  entered_at (x ∷ xs) (suc i) d in' below at =
      entered_past x xs (below 0 x (omega arith)) ∙ ap (λ ys. x ∷ ys) (entered_at xs i d (omega arith) (λ j e lt. below (suc j) e (omega arith)) at)

  -- between the lesser rows and the greater
  entered_between : (rows : List X) (i : ℕ) → i ≤ length rows → Below key less rows k i → Above key less rows k i → entered key less k change new rows ≡ insert rows i new
  entered_between [] zero le below above = refl
  entered_between [] (suc i) le below above = absurd (omega arith)
  entered_between (x ∷ xs) zero le below above = entered_before x xs (above 0 x (omega arith) (omega arith))
  entered_between (x ∷ xs) (suc i) le below above =
      entered_past x xs (below 0 x (omega arith))
      ∙ ap (λ ys. x ∷ ys) (entered_between xs i (omega arith) (λ j e lt. below (suc j) e (omega arith)) (λ j e ge lt. above (suc j) e (omega arith) (omega arith)))

  module _ (rows : List X) (asc : Ascending key less rows) where
    -- the row that a search finds is changed
    pub entered_found : (i : ℕ) (d : X) → Found key less rows k (Ok i) → entered key less k change new rows ≡ set rows i (change (get_or rows i d))
    entered_found i d f = entered_at rows i d f.0 (λ j e lt. subst (λ b. less (key (get_or rows j e)) b ≡ true) (f.1 e) (asc j i e lt f.0)) f.1

    -- the new row is put in at the place that a search finds
    pub entered_missing : (i : ℕ) → Found key less rows k (Err i) → entered key less k change new rows ≡ insert rows i new
    entered_missing i f = let g = f.1 (ascending_in_order key less one rows asc) in entered_between rows i f.0 g.0 g.1

-- what holds of each row holds of each after an entry
pub all_entered : {X K : Type 0} (P : X → Type 0) (key : X → K) (less : K → K → Bool) (k : K) (change : X → X) (new : X) → P new → ((x : X) → P x → P (change x)) → (rows : List X) → AllByRecursion P rows → AllByRecursion P (entered key less k change new rows)
all_entered P key less k change new n c [] a = (n, tt)
all_entered P key less k change new n c (x ∷ xs) a =
    cond_both (less k (key x)) _ _ (AllByRecursion P) (λ _. (n, a))
    (λ _. cond_both (less (key x) k) _ _ (AllByRecursion P) (λ _. (a.0, all_entered P key less k change new n c xs a.1)) (λ _. (c x a.0, a.1)))

-- first rows, and the others
module _ {X K : Type 0} (key : X → K) (less : K → K → Bool) where
  -- a row before rows that all have greater keys than another
  pub above_cons : (b : K) (x : X) (xs : List X) → less b (key x) ≡ true → Above key less xs b 0 → Above key less (x ∷ xs) b 0
  above_cons b x xs lt above zero d le in' = lt
  above_cons b x xs lt above (suc i) d le in' = above i d (omega arith) (omega arith)

  -- the rows after the first
  pub above_tail : (b : K) (x : X) (xs : List X) → Above key less (x ∷ xs) b 0 → Above key less xs b 0
  above_tail b x xs above i d le in' = above (suc i) d (omega arith) (omega arith)

  -- a row before rows that all have greater keys
  ascending_cons : (x : X) (xs : List X) → Above key less xs (key x) 0 → Ascending key less xs → Ascending key less (x ∷ xs)
  ascending_cons x xs above asc i zero d lt in' = absurd (omega arith)
  ascending_cons x xs above asc zero (suc j) d lt in' = above j d (omega arith) (omega arith)
  ascending_cons x xs above asc (suc i) (suc j) d lt in' = asc i j d (omega arith) (omega arith)

  -- the first of rows whose keys ascend is below the others
  pub ascending_head : (x : X) (xs : List X) → Ascending key less (x ∷ xs) → Above key less xs (key x) 0
  ascending_head x xs asc i d le in' = asc 0 (suc i) d (omega arith) (omega arith)

  pub ascending_tail : (x : X) (xs : List X) → Ascending key less (x ∷ xs) → Ascending key less xs
  ascending_tail x xs asc i j d lt in' = asc (suc i) (suc j) d (omega arith) (omega arith)

-- the keys ascend after an entry
module _ {X K : Type 0} (key : X → K) (less : K → K → Bool) (trans : Transitive less) (k : K) (change : X → X) (new : X) (named : key new ≡ k) (keeps : (x : X) → key (change x) ≡ key x) where
  -- what is less than the key and all rows is less than all rows after the entry
  above_entered : (b : K) (rows : List X) → less b k ≡ true → Above key less rows b 0 → Above key less (entered key less k change new rows) b 0
  above_entered b [] lt above = above_cons key less b new [] (subst (λ a. less b a ≡ true) (sym named) lt) above
  above_entered b (x ∷ xs) lt above =
      cond_both (less k (key x)) _ _ (λ ys. Above key less ys b 0)
      (λ _. above_cons key less b new (x ∷ xs) (subst (λ a. less b a ≡ true) (sym named) lt) above)
      (λ _. cond_both (less (key x) k) _ _ (λ ys. Above key less ys b 0)
      (λ _. above_cons key less b x _ (above 0 x (omega arith) (omega arith)) (above_entered b xs lt (above_tail key less b x xs above)))
      (λ _. above_cons key less b (change x) xs (subst (λ a. less b a ≡ true) (sym (keeps x)) (above 0 x (omega arith) (omega arith))) (above_tail key less b x xs above)))

  pub ascending_entered : (rows : List X) → Ascending key less rows → Ascending key less (entered key less k change new rows)
  ascending_entered [] asc = ascending_cons key less new [] (λ i d le in'. absurd (omega arith)) asc
  ascending_entered (x ∷ xs) asc =
      cond_both (less k (key x)) _ _ (λ ys. Ascending key less ys)
      (λ lt. ascending_cons key less new (x ∷ xs) (subst (λ a. Above key less (x ∷ xs) a 0) (sym named) (above_cons key less k x xs lt (λ i d le in'. trans _ _ _ lt (ascending_head key less x xs asc i d le in')))) asc)
      (λ _. cond_both (less (key x) k) _ _ (λ ys. Ascending key less ys)
      (λ lt. ascending_cons key less x _ (above_entered (key x) xs lt (ascending_head key less x xs asc)) (ascending_entered xs (ascending_tail key less x xs asc)))
      (λ _. ascending_cons key less (change x) xs (subst (λ a. Above key less xs a 0) (sym (keeps x)) (ascending_head key less x xs asc)) (ascending_tail key less x xs asc)))
