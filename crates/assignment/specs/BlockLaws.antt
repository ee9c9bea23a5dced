-- Rule 2 in words: who gets a block, how many are given, and what the others get.
use Rattle.std.specs.Prelude.{◌≡◌, ℕ, ◌+◌, ◌-◌, ◌*◌, ◌<◌, ◌≤◌, min, Bool, true, false, cond, ◌⊎◌, List, [], ◌∷◌, map, length, get_or, Some, None, slice_index, slice_index_or}
use Rattle.assignment.specs.Asks.{Fit, Sound, sum_of}
use Rattle.assignment.specs.BlockShares.{Order, blocks_of, by_remainder, floor_share, remainder_of, terms_of}
use Rattle.assignment.specs.declared.block_shares.Terms.{Terms}

-- The seller i has room for a block on top of its floor share.
abbrev pub Room : Terms → List ℕ → ℕ → Type 0
Room t os i = floor_share t (slice_index os i) + t.block ≤ slice_index os i

-- The seller i has a block.
abbrev pub Holder : List Bool → ℕ → Type 0
Holder held i = slice_index_or held i false ≡ true

-- The seller i waits for a block: it has room and no block.
pub record Waits (t : Terms) (os : List ℕ) (held : List Bool) (i : ℕ) : Type 0 where
  pub seller : i < length os
  pub without : get_or held i false ≡ false
  pub room : Room t os i

-- An order is proper if whoever is next waits, and nobody is next only where nobody waits.
pub record Proper (next : Order) : Type 0 where
  pub picks : (t : Terms) (os : List ℕ) (held : List Bool) (i : ℕ) → length held ≡ length os → next t os held ≡ Some i → Waits t os held i
  pub ends : (t : Terms) (os : List ℕ) (held : List Bool) → length held ≡ length os → next t os held ≡ None → (i : ℕ) → Waits t os held i → ⊥

-- The amounts fit whatever proper order blocks are given in, and rule 2's is one.
abbrev pub FitsInAnyOrder : Type 0
FitsInAnyOrder =
    ((next : Order) → Proper next → (total block : ℕ) (positions : List ℕ) → Sound total block positions → Fit total block positions (blocks_of next (terms_of total block positions) positions))
    × Proper by_remainder

-- The seller i ranks before the seller j: its remainder is larger, or the same and it stands earlier.
abbrev pub Before : Terms → List ℕ → ℕ → ℕ → Type 0
Before t os i j =
    (remainder_of t (slice_index os j) < remainder_of t (slice_index os i)) ⊎ ((remainder_of t (slice_index os j) ≡ remainder_of t (slice_index os i)) × (i < j))

-- How many sellers have a block.
abbrev pub holders : List Bool → ℕ
holders [] = 0
holders (has ∷ held) = cond has 1 0 + holders held

-- The most that a seller without a block can get on top of its floor share.
abbrev pub most_rest : Terms → ℕ → ℕ
most_rest t o = min t.block (o - floor_share t o)

-- What the amounts of rule 2 are, where `held` says who got a block.
pub record Given (t : Terms) (os : List ℕ) (held : List Bool) (amounts : List ℕ) : Type 0 where
  -- each seller got a block or did not
  pub long : length held ≡ length os
  -- whoever got a block had room for it
  pub had_room : (i : ℕ) → i < length os → Holder held i → Room t os i
  -- and ranks before whoever had room and got none
  pub ranked : (i j : ℕ) → i < length os → Holder held i → Waits t os held j → Before t os i j
  -- no more blocks were given than the floor shares left
  pub afforded : sum_of (map (floor_share t) os) + t.block * holders held ≤ t.total
  -- and no fewer: one more would have been too much, or nobody waits for one
  pub no_fewer : (t.total < sum_of (map (floor_share t) os) + t.block * holders held + t.block) ⊎ ((i : ℕ) → Waits t os held i → ⊥)
  -- whoever got a block has it on top of its floor share, and no more
  pub with_block : (i : ℕ) → i < length os → Holder held i → slice_index amounts i ≡ floor_share t (slice_index os i) + t.block
  -- whoever did not has its floor share at least, and at most what it can get on top
  pub at_least : (i : ℕ) → i < length os → floor_share t (slice_index os i) ≤ slice_index amounts i
  pub at_most : (i : ℕ) → i < length os → slice_index_or held i false ≡ false → slice_index amounts i ≤ floor_share t (slice_index os i) + most_rest t (slice_index os i)
  -- and gets more than its floor share only if all without a block before it got all that they could
  pub in_order : (i j : ℕ) → i < j → j < length os → slice_index_or held i false ≡ false → slice_index_or held j false ≡ false → floor_share t (slice_index os j) < slice_index amounts j → slice_index amounts i ≡ floor_share t (slice_index os i) + most_rest t (slice_index os i)

-- The same of an ask: there is such a list of who got a block.
abbrev pub Blockwise : ℕ → ℕ → List ℕ → List ℕ → Type 0
Blockwise total block positions amounts = (held : List Bool) × Given (terms_of total block positions) positions held amounts
