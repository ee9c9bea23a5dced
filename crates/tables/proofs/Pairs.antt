-- Two rows put in at once.
use Rattle.std.proofs.Common.{◌≡◌, ℕ, ◌+◌, ◌-◌, ◌<◌, ◌≤◌, true, ltb, leb, List, length, take, set, sym, ◌∙◌, arith}
use Rattle.std.specs.List.{CopiedTo, SameBelow, SameFrom, insert}
use Rattle.std.proofs.lemmas.Grind.{common_steps, elements}
use Rattle.std.proofs.lemmas.List.{same_lists}
use Rattle.std.proofs.lemmas.Bool.{and_from, cond-true, le-leb, lt-ltb}
use Rattle.tables.specs.Changes.{moved_up_twice, two_fit}

module _ {X : Type 0} (old up rows : List X) (low high end : ℕ) (x y : X) (ordered : low ≤ high) (fits : high + 1 < length old) (last : end ≡ length old - 2) (up_long : length up ≡ length old) (up_here : CopiedTo old up high (high + 2) (end - high)) (up_below : SameBelow old up (high + 2)) (long : length rows ≡ length (set up (high + 1) y)) (here : CopiedTo (set up (high + 1) y) rows low (low + 1) (high - low)) (below : SameBelow (set up (high + 1) y) rows (low + 1)) (above : SameFrom (set up (high + 1) y) rows (low + 1 + (high - low))) where
  two_put : set rows low x ≡ insert (insert (take (length old - 2) old) high y) low x
  two_put = same_lists (set rows low x) (insert (insert (take (length old - 2) old) high y) low x) (grind (arith, common_steps)) (λ k d h. grind (arith, elements, here k d, below k d, above k d, up_here k d, up_below k d, up_here (k - 1) d, up_below (k - 1) d))

  pub fit : two_fit (length old) low high ≡ true
  fit = and_from (leb low high) (ltb (high + 1) (length old)) (le-leb low high ordered) (lt-ltb (high + 1) (length old) fits)

  pub put_twice : (new : List X) → new ≡ set rows low x → new ≡ moved_up_twice old low x high y
  put_twice new put = put ∙ two_put ∙ sym (cond-true (two_fit (length old) low high) (insert (insert (take (length old - 2) old) high y) low x) old fit)
