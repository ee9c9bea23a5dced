-- What a row put in or written leaves.
use Rattle.std.proofs.Common.{◌≡◌, ℕ, ◌+◌, ◌-◌, ◌<◌, ◌≤◌, Bool, ltb, List, length, get_or, take, set, sym, ◌∙◌, arith}
use Rattle.std.specs.List.{CopiedTo, SameBelow, insert}
use Rattle.std.proofs.lemmas.Grind.{common_steps, elements}
use Rattle.std.proofs.lemmas.List.Edits.{length-insert}
use Rattle.std.proofs.lemmas.List.{same_lists}
use Rattle.std.proofs.lemmas.Bool.{cond-true, lt-ltb}
use Rattle.tables.specs.Changes.{moved_up}
use Rattle.tables.specs.Finding.{Ascending, Below, Above}

-- rows moved up from a place, with a row written there, have it put in
module _ {X : Type 0} (old rows : List X) (at : ℕ) (x : X) (in' : at < length old) (long : length rows ≡ length old) (here : CopiedTo old rows at (at + 1) (length old - 1 - at)) (below : SameBelow old rows (at + 1)) where
  copied_inserted : set rows at x ≡ insert (take (length old - 1) old) at x
  copied_inserted = same_lists (set rows at x) (insert (take (length old - 1) old) at x) (grind (arith, common_steps)) (λ k d h. grind (arith, elements, here k d, below k d))

  pub copied_moved_up : (new : List X) → new ≡ set rows at x → new ≡ moved_up old at x
  copied_moved_up new put = put ∙ copied_inserted ∙ sym (cond-true (ltb at (length old)) (insert (take (length old - 1) old) at x) old (lt-ltb at (length old) in'))

-- keys that ascend still do, with a row put in between the lesser and the greater
module _ {X K : Type 0} (key : X → K) (less : K → K → Bool) (rows : List X) (at : ℕ) (x : X) (le : at ≤ length rows) (asc : Ascending key less rows) (below : Below key less rows (key x) at) (above : Above key less rows (key x) at) where
  pub ascending_inserted : Ascending key less (insert rows at x)
  ascending_inserted i j d lt in' =
      let long = length-insert rows at x le in
      grind (arith, elements, below i d, above (j - 1) d, asc i j d, asc i (j - 1) d, asc (i - 1) (j - 1) d)

-- keys that ascend still do, with a row written that has the key of the one before it
module _ {X K : Type 0} (key : X → K) (less : K → K → Bool) (rows : List X) (at : ℕ) (x : X) (asc : Ascending key less rows) (same : (d : X) → at < length rows → key x ≡ key (get_or rows at d)) where
  pub ascending_set : Ascending key less (set rows at x)
  ascending_set i j d lt in' = grind (arith, elements, same d, asc i j d)
