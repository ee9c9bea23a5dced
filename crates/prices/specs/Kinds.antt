-- The numbers of kinds.
use Rattle.std.specs.Prelude.{◌≡◌, ℕ, cond, Some, None, Option, ◌==◌, MatchResult, Result}
use Rattle.prices.specs.declared.payoffs.Kind.{Kind}
use Rattle.prices.specs.declared.payoffs.Kind.TheVariants.{Payer, Receiver}
use Rattle.prices.specs.declared.payoffs.UnknownKind.{UnknownKind}

-- The kind that a number stands for: 1 payer, 2 receiver, any other none.
abbrev pub kind_of : ℕ → Option Kind
kind_of number = cond (number == 1) (Some Payer) (cond (number == 2) (Some Receiver) None)

-- The result is the kind that the number stands for, or holds the number if it stands for none.
abbrev pub KindNumbered : ℕ → Result Kind UnknownKind → Type 0
KindNumbered number result = MatchResult result (λ kind. kind_of number ≡ Some kind) (λ unknown. (kind_of number ≡ None) × (unknown.0 ≡ number))
