-- Searches among rows in the order of their keys.
use Rattle.std.proofs.Common.{◌≡◌, ℕ, ◌+◌, ◌<◌, Bool, true, false, List, [], ◌∷◌, length, get_or, Ok, Err, Result, ap, ⊎_elim, arith}
use Rattle.std.proofs.lemmas.List.{get_or_read}
use Rattle.std.proofs.lemmas.Bool.{cases_order}
use Rattle.tables.specs.Finding.{InOrder, Ascending, Below, UpTo, Above, Found}
use Rattle.tables.specs.Orders.{Trichotomous, Transitive}
use Rattle.tables.proofs.Comparisons.{less_not_greater, equal_not_less, up_to_less, less_up_to, up_to_up_to}

-- rows whose keys ascend are in order
pub ascending_in_order : {X K : Type 0} (key : X → K) (less : K → K → Bool) → Trichotomous less → (rows : List X) → Ascending key less rows → InOrder key less rows
ascending_in_order key less one rows asc i j d lt in' = less_not_greater less one _ _ (asc i j d lt in')

-- a row among some
row_of : {X : Type 0} (rows : List X) (i : ℕ) → i < length rows → X
row_of [] i h = absurd (omega arith)
row_of (x ∷ xs) i h = x

module _ {X K : Type 0} (key : X → K) (less : K → K → Bool) (one : Trichotomous less) (trans : Transitive less) (rows : List X) (k : K) (order : InOrder key less rows) where
  -- no greater key at a place, and none before it
  pub up_to_past : (mid : ℕ) (x : X) → mid < length rows → x ≡ get_or rows mid x → less k (key x) ≡ false → UpTo key less rows k (mid + 1)
  up_to_past mid x in' read h j d lt = grind (arith, get_or_read rows mid x in' read d, order j mid d, up_to_up_to less one trans (key (get_or rows j d)) (key x) k)

  -- a less key at a place, and so before it
  pub below_past : (mid : ℕ) (x : X) → mid < length rows → x ≡ get_or rows mid x → less (key x) k ≡ true → Below key less rows k (mid + 1)
  below_past mid x in' read h j d lt = grind (arith, get_or_read rows mid x in' read d, order j mid d, up_to_less less one trans (key (get_or rows j d)) (key x) k)

  -- a greater key at a place, and so after it
  pub above_from : (mid : ℕ) (x : X) → mid < length rows → x ≡ get_or rows mid x → less k (key x) ≡ true → Above key less rows k mid
  above_from mid x in' read h j d le inside = grind (arith, get_or_read rows mid x in' read d, order mid j d, less_up_to less one trans k (key x) (key (get_or rows j d)))

-- for rows in order a search has one answer
module _ {X K : Type 0} (key : X → K) (less : K → K → Bool) (one : Trichotomous less) (rows : List X) (k : K) (order : InOrder key less rows) where
  -- the place after which all keys are greater is the last with the key
  last_once : (i j : ℕ) → Found key less rows k (Ok i) → Found key less rows k (Ok j) → i < j → ⊥
  last_once i j f g lt =
      let d = row_of rows j g.0 in
      grind (arith, g.0, g.1 d, f.2 order j d, equal_not_less less one k (key (get_or rows j d)))

  -- a key that a row has has no place between the rows
  never_both : (i j : ℕ) → Found key less rows k (Ok i) → Found key less rows k (Err j) → ⊥
  never_both i j f g =
      let d = row_of rows i f.0 in
      grind (arith, f.0, f.1 d, (g.1 order).0 i d, (g.1 order).1 i d, equal_not_less less one k (key (get_or rows i d)), equal_not_less less one (key (get_or rows i d)) k)

  -- the place between the lesser and the greater
  between_once : (i j : ℕ) → Found key less rows k (Err i) → Found key less rows k (Err j) → i < j → ⊥
  between_once i j f g lt =
      let in' : i < length rows = omega (arith, g.0) in
      let d = row_of rows i in' in
      grind (arith, in', lt, (g.1 order).0 i d, (f.1 order).1 i d, less_not_greater less one (key (get_or rows i d)) k)

  pub found_once : (r s : Result ℕ ℕ) → Found key less rows k r → Found key less rows k s → r ≡ s
  found_once (Ok i) (Ok j) f g =
      ⊎_elim (λ e. ap Ok e) (⊎_elim (λ l. absurd (last_once i j f g l)) (λ h. absurd (last_once j i g f h))) (cases_order i j)
  found_once (Ok i) (Err j) f g = absurd (never_both i j f g)
  found_once (Err i) (Ok j) f g = absurd (never_both j i g f)
  found_once (Err i) (Err j) f g =
      ⊎_elim (λ e. ap Err e) (⊎_elim (λ l. absurd (between_once i j f g l)) (λ h. absurd (between_once j i g f h))) (cases_order i j)
