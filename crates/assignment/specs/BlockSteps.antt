-- What the steps of rule 2 ask of each other. A caller of the rule needs none of it.
use Rattle.std.specs.Prelude.{◌≡◌, ℕ, ◌+◌, ◌<◌, ◌≤◌, Bool, true, false, List, [], ◌∷◌, length, slice_index, slice_index_or}
use Rattle.assignment.specs.Asks.{Sound, sum_of}
use Rattle.assignment.specs.BlockShares.{floor_share, granted}
use Rattle.assignment.specs.declared.block_shares.Terms.{Terms}

-- Terms by which a floor share can be computed.
pub record Apt (t : Terms) : Type 0 where
  pub positive : 0 < t.all
  pub covered : t.total ≤ t.all
  pub block_least : 1 ≤ t.block

-- The terms of a sound ask over these positions.
pub record TermsOf (t : Terms) (os : List ℕ) : Type 0 where
  pub sound : Sound t.total t.block os
  pub all_is : t.all ≡ sum_of os

-- What each seller has before the last pass.
abbrev pub all_granted : Terms → List ℕ → List Bool → List ℕ
all_granted t [] held = []
all_granted t (o ∷ os) [] = []
all_granted t (o ∷ os) (has ∷ held) = granted t o has ∷ all_granted t os held

-- Only sellers with room have a block.
pub record Standing (t : Terms) (os : List ℕ) (held : List Bool) : Type 0 where
  pub terms : TermsOf t os
  pub long : length held ≡ length os
  pub roomy : (i : ℕ) → i < length os → slice_index_or held i false ≡ true → floor_share t (slice_index os i) + t.block ≤ slice_index os i

-- The ask is sound, whoever has a block has room for it, and each seller has its floor share and its block, if any, on top.
pub record Granted (t : Terms) (os : List ℕ) (held : List Bool) (amounts : List ℕ) : Type 0 where
  pub standing : Standing t os held
  pub written : amounts ≡ all_granted t os held
