-- Worked values, by the definitions that the contracts cite.
use Rattle.std.specs.Prelude.{◌≡◌, ℕ, Bool, true, false, List, [], ◌∷◌, ℤ, pos}
use Rattle.std.specs.List.{AllByRecursion}
use Rattle.prices.specs.Values.{in_the_money, value}
use Rattle.prices.specs.declared.payoffs.Kind.TheVariants.{Payer}
use Rattle.prices.specs.declared.payoffs.Payoff.{Payoff}

-- A payer's net position of 100 with a strike of 97,000: its minimum, a price, its value there, and whether it is in the money.
pub record Case : Type 0 where
  pub minimum : ℕ
  pub price : ℕ
  pub worth : ℤ
  pub in_money : Bool

-- The payoff of a case.
abbrev pub payer : ℕ → Payoff
payer minimum = record { kind = Payer; strike = 97000; minimum = minimum }

-- A case holds if the value is so, and if it is in the money exactly as told.
abbrev pub Holds : Case → Type 0
Holds c = (value (payer c.minimum) (pos 100) c.price ≡ c.worth) × (in_the_money (payer c.minimum) (pos 100) c.price ≡ c.in_money)

-- The worked cases.
abbrev pub worked : List Case
worked =
    record { minimum = 50000; price = 96500; worth = pos 50000; in_money = true }
    ∷ record { minimum = 50001; price = 96500; worth = pos 50000; in_money = false }
    ∷ record { minimum = 0; price = 97000; worth = pos 0; in_money = false }
    ∷ []

-- Every worked case holds.
abbrev pub WorkedHold : Type 0
WorkedHold = AllByRecursion Holds worked
