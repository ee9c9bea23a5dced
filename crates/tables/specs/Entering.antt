-- A record entered among rows whose keys ascend.
use Rattle.std.specs.Prelude.{Bool, cond, List, [], ◌∷◌}

-- The rows with the record of a key changed, or with a new record put in where its key belongs if no row has it.
abbrev pub entered : {X K : Type 0} → (X → K) → (K → K → Bool) → K → (X → X) → X → List X → List X
entered key less k change new [] = new ∷ []
entered key less k change new (x ∷ xs) =
    cond (less k (key x)) (new ∷ x ∷ xs) (cond (less (key x) k) (x ∷ entered key less k change new xs) (change x ∷ xs))
