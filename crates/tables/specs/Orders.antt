-- Orders of keys.
use Rattle.std.specs.Prelude.{◌≡◌, Bool, true, false, ◌⊎◌, nat_lt}
use Rattle.std.proofs.Common.{rules}

-- Exactly one of three holds.
abbrev pub ExactlyOne : Bool → Type 0 → Bool → Type 0
ExactlyOne a E b = ((a ≡ true) × (E → ⊥) × (b ≡ false)) ⊎ (((a ≡ false) × E × (b ≡ false)) ⊎ ((a ≡ false) × (E → ⊥) × (b ≡ true)))

-- Of less, equal and greater exactly one holds for any two keys.
abbrev pub Trichotomous : {K : Type 0} → (K → K → Bool) → Type 0
Trichotomous {K} less = (a b : K) → ExactlyOne (less a b) (a ≡ b) (less b a)

-- A key that is less than one that is less than a third is less than the third.
abbrev pub Transitive : {K : Type 0} → (K → K → Bool) → Type 0
Transitive {K} less = (a b c : K) → less a b ≡ true → less b c ≡ true → less a c ≡ true

-- of two numbers exactly one of less, equal and greater holds
pub nat_one : Trichotomous nat_lt
nat_one = search rules

-- a number that is less than one that is less than a third is less than the third
pub nat_transitive : Transitive nat_lt
nat_transitive = search rules
