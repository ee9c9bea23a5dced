-- What a net position is worth at a price.
use Rattle.std.specs.Prelude.{ℕ, Bool, ◌&&◌, ℤ, pos, ◌-ℤ◌, ◌*ℤ◌, int_le, int_lt}
use Rattle.prices.specs.declared.payoffs.Kind.{Kind}
use Rattle.prices.specs.declared.payoffs.Kind.TheVariants.{Payer, Receiver}
use Rattle.prices.specs.declared.payoffs.Payoff.{Payoff}

-- What one contract gains at a price: a payer by how far the price is below the strike, a receiver by how far it is above.
abbrev pub gain_of : Kind → ℕ → ℕ → ℤ
gain_of Payer strike price = pos strike -ℤ pos price
gain_of Receiver strike price = pos price -ℤ pos strike

-- What a net position is worth at a price.
abbrev pub value : Payoff → ℤ → ℕ → ℤ
value payoff net price = net *ℤ gain_of payoff.kind payoff.strike price

-- The value is above zero and not below the minimum.
abbrev pub in_the_money : Payoff → ℤ → ℕ → Bool
in_the_money payoff net price = int_lt (pos 0) (value payoff net price) && int_le (pos payoff.minimum) (value payoff net price)
