-- Rows whose ranks never fall.
use Rattle.std.proofs.Common.{ℕ, ltb, List, length, arith}
use Rattle.std.proofs.lemmas.Bool.{le-ltb}
use Rattle.std.proofs.lemmas.List.Sorted.{IsNonDecreasingBy-from_all_adjacent}
use Rattle.prices.specs.Rows.{NeverFalling}
use Rattle.tables.specs.Finding.{InOrder}

-- rows whose ranks never fall are in order
pub never_falling_in_order : {X : Type 0} (rank : X → ℕ) (rows : List X) → NeverFalling rank rows (length rows) → InOrder rank ltb rows
never_falling_in_order rank rows never i j d lt in' = le-ltb _ _ (IsNonDecreasingBy-from_all_adjacent rank rows never i j d (omega arith) in')
