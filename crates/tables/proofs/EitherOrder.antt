-- Rows of different keys may be entered in either order.
use Rattle.std.proofs.Common.{◌≡◌, Bool, true, List, [], ◌∷◌, sym, ap, ◌∙◌}
use Rattle.tables.proofs.Comparisons.{by_order}
use Rattle.tables.proofs.Entries.{entered_before, entered_here, entered_past}
use Rattle.tables.specs.Entering.{entered}
use Rattle.tables.specs.Orders.{Transitive, Trichotomous}

module _ {X K : Type 0} (key : X → K) (less : K → K → Bool) (one : Trichotomous less) (trans : Transitive less) (j k : K) (lt : less j k ≡ true) (change other : X → X) (new another : X) (named : key new ≡ j) (called : key another ≡ k) (keeps : (x : X) → key x ≡ j → key (change x) ≡ j) (holds : (x : X) → key x ≡ k → key (other x) ≡ k) where
  abbrev by_j : List X → List X
  by_j rows = entered key less j change new rows

  abbrev by_k : List X → List X
  by_k rows = entered key less k other another rows

  entered_either_order : (rows : List X) → by_j (by_k rows) ≡ by_k (by_j rows)
  entered_either_order [] =
      entered_before key less one j change new another [] (ap (less j) called ∙ lt)
      ∙ sym (entered_past key less one k other another new [] (ap (λ a. less a k) named ∙ lt))
  entered_either_order (x ∷ rows) =
      by_order less one (key x) k
      (λ (under : less (key x) k ≡ true).
      by_order less one (key x) j
      (λ (low : less (key x) j ≡ true).
      ap by_j (entered_past key less one k other another x rows under) ∙ entered_past key less one j change new x (by_k rows) low
      ∙ ap (λ ys. x ∷ ys) (entered_either_order rows)
      ∙ sym (ap by_k (entered_past key less one j change new x rows low) ∙ entered_past key less one k other another x (by_j rows) under))
      (λ (at : key x ≡ j).
      ap by_j (entered_past key less one k other another x rows under) ∙ entered_here key less one j change new x (by_k rows) at
      ∙ sym (ap by_k (entered_here key less one j change new x rows at) ∙ entered_past key less one k other another (change x) rows (ap (λ a. less a k) (keeps x at) ∙ lt)))
      (λ (over : less j (key x) ≡ true).
      ap by_j (entered_past key less one k other another x rows under) ∙ entered_before key less one j change new x (by_k rows) over
      ∙ sym (ap by_k (entered_before key less one j change new x rows over) ∙ entered_past key less one k other another new (x ∷ rows) (ap (λ a. less a k) named ∙ lt) ∙ ap (λ ys. new ∷ ys) (entered_past key less one k other another x rows under))))
      (λ (at : key x ≡ k).
      let over : less j (key x) ≡ true = ap (less j) at ∙ lt in
      ap by_j (entered_here key less one k other another x rows at) ∙ entered_before key less one j change new (other x) rows (ap (less j) (holds x at) ∙ lt)
      ∙ sym (ap by_k (entered_before key less one j change new x rows over) ∙ entered_past key less one k other another new (x ∷ rows) (ap (λ a. less a k) named ∙ lt) ∙ ap (λ ys. new ∷ ys) (entered_here key less one k other another x rows at)))
      (λ (beyond : less k (key x) ≡ true).
      let over : less j (key x) ≡ true = trans j k (key x) lt beyond in
      ap by_j (entered_before key less one k other another x rows beyond) ∙ entered_before key less one j change new another (x ∷ rows) (ap (less j) called ∙ lt)
      ∙ sym (ap by_k (entered_before key less one j change new x rows over) ∙ entered_past key less one k other another new (x ∷ rows) (ap (λ a. less a k) named ∙ lt) ∙ ap (λ ys. new ∷ ys) (entered_before key less one k other another x rows beyond)))

-- rows of different keys may be entered in either order
pub entered_commute : {X K : Type 0} (key : X → K) (less : K → K → Bool) (one : Trichotomous less) (trans : Transitive less) (j k : K) (change other : X → X) (new another : X) → (j ≡ k → ⊥) → key new ≡ j → key another ≡ k → ((x : X) → key x ≡ j → key (change x) ≡ j) → ((x : X) → key x ≡ k → key (other x) ≡ k) → (rows : List X) → entered key less j change new (entered key less k other another rows) ≡ entered key less k other another (entered key less j change new rows)
entered_commute key less one trans j k change other new another differ named called keeps holds rows =
    by_order less one j k
    (λ (lt : less j k ≡ true). entered_either_order key less one trans j k lt change other new another named called keeps holds rows)
    (λ (e : j ≡ k). absurd (differ e))
    (λ (gt : less k j ≡ true). sym (entered_either_order key less one trans k j gt other change another new called named holds keeps rows))
