-- Bound amounts: as a book records them, and never lower after a list or a trade.
use Rattle.std.proofs.Common.{◌≡◌, ◌≤◌, true, false, eqb, ◌∷◌, arith}
use Rattle.std.proofs.lemmas.Int.{ints}
use Rattle.std.proofs.lemmas.Bool.Decides.{nat_tests}
use Rattle.tally.specs.History.{History, traded, bound_amount, bound_by, net_of, open_position, recorded_stance}
use Rattle.tally.specs.Tally.{Kept}
use Rattle.tally.specs.declared.deals.Deal.{Deal}
use Rattle.tally.specs.declared.keys.PositionKey.{PositionKey}
use Rattle.tally.specs.declared.stances.Stance.TheVariants.{Silent}
use Rattle.tally.proofs.Quiet.{Quiet, quiet}

-- the stance that a book records binds to the bound amount
pub recorded_bound : (t : History) (k : PositionKey) → bound_by (recorded_stance t k) (open_position t k) ≡ bound_amount t k
recorded_bound t k = grind arith

-- a position of which nothing was said is silent and bound to nothing
pub quiet_stance : (t : History) (k : PositionKey) → Quiet t k → recorded_stance t k ≡ Silent
quiet_stance t k q = grind (arith, q)

quiet_bound : (t : History) (k : PositionKey) → Quiet t k → bound_amount t k ≡ 0
quiet_bound t k q = grind (arith, q, recorded_bound t k)

-- a trade of another swaption leaves a net
pub net_elsewhere : (deal : Deal) (t : History) (k : PositionKey) → eqb deal.swaption k.swaption ≡ false → net_of (traded deal ∷ t) k ≡ net_of t k
net_elsewhere deal t k e = grind (arith, ints, e)

-- nothing is said yet of a position in the swaption of an accepted trade
pub quiet_in_trade : (deal : Deal) (t : History) (k : PositionKey) → Kept (traded deal ∷ t) → eqb deal.swaption k.swaption ≡ true → Quiet t k
quiet_in_trade deal t k h e = quiet t k h.0 (λ x is. grind (arith, nat_tests, h.1, is, e))

pub bound_rises_with_trade : (deal : Deal) (t : History) (k : PositionKey) → Kept (traded deal ∷ t) → bound_amount t k ≤ bound_amount (traded deal ∷ t) k
bound_rises_with_trade deal t k h = grind (arith, net_elsewhere deal t k, quiet_bound t k, quiet_in_trade deal t k h)
