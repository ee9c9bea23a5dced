-- Keys in their order, and keys among keys.
use Rattle.std.specs.Prelude.{◌≡◌, true, false, ◌||◌, List, [], ◌∷◌, ◌==◌}
use Rattle.std.proofs.Common.{arith}
use Rattle.std.proofs.lemmas.Bool.Decides.{nat_tests}
use Rattle.tables.specs.Orders.{Transitive, Trichotomous}
use Rattle.tally.specs.History.{with_key}
use Rattle.tally.specs.Keys.{before, same_key}
use Rattle.tally.specs.Tally.{is_among}
use Rattle.tally.specs.declared.keys.PositionKey.{PositionKey}

pub before_transitive : Transitive before
before_transitive a b c f g = grind (arith, nat_tests)

-- of two keys exactly one of less, equal and greater holds
pub before_one : Trichotomous before
before_one j k = grind (arith, nat_tests)

-- keys of which neither stands before the other are one
pub neither_before : (j k : PositionKey) → before j k ≡ false → before k j ≡ false → j ≡ k
neither_before j k f g = grind (arith, nat_tests)

pub same_means_equal : (j k : PositionKey) → same_key j k ≡ true → j ≡ k
same_means_equal j k s = grind (arith, nat_tests)

pub same_itself : (k : PositionKey) → same_key k k ≡ true
same_itself k = grind (arith, nat_tests)

-- keys of which one stands before the other differ
pub before_differs : (j k : PositionKey) → before j k ≡ true → (same_key j k ≡ false) × (same_key k j ≡ false)
before_differs j k b = grind (arith, nat_tests)

-- keys of different swaptions differ
pub apart_keys : (j k : PositionKey) → (j.swaption == k.swaption) ≡ false → same_key j k ≡ false
apart_keys j k e = grind (arith, e)

-- a key is among keys with one more if it is that one or was among them
pub among_with_key : (k j : PositionKey) (keys : List PositionKey) → is_among k (with_key j keys) ≡ (same_key j k || is_among k keys)
among_with_key k j [] = grind arith
among_with_key k j (x ∷ xs) = grind (arith, neither_before, among_with_key k j xs)
