-- A choice among the numbered rules.
use Rattle.std.specs.Prelude.{◌≡◌, ℕ, cond, List, ◌++◌, Some, None, Option, Result, MatchResult, codes, decimal, ◌==◌}
use Rattle.assignment.specs.BlockShares.{blocks}
use Rattle.assignment.specs.RunningSums.{running}
use Rattle.assignment.specs.declared.choices.Choice.{Choice}
use Rattle.assignment.specs.declared.choices.UnknownRule.{UnknownRule}
use Rattle.assignment.specs.declared.choices.Choice.TheVariants.{Running, Blocks}

-- The number that each rule bears.
abbrev pub rule_number : Choice → ℕ
rule_number (Running _) = 1
rule_number (Blocks _) = 2

-- The rule that bears a number, if one does.
abbrev pub rule_of : ℕ → Option Choice
rule_of number = cond (number == 1) (Some (Running (record {}))) (cond (number == 2) (Some (Blocks (record {}))) None)

-- What a number is turned into: the rule that bears it, or an error with the number where no rule bears it.
abbrev pub RuleByNumber : ℕ → Result Choice UnknownRule → Type 0
RuleByNumber number picked =
    MatchResult picked (λ rule. rule_of number ≡ Some rule) (λ unknown. (rule_of number ≡ None) × (unknown.0 ≡ number))

-- How it is written that no rule bears a number.
abbrev pub no_rule_shown : ℕ → List ℕ
no_rule_shown number = codes "there is no rule " ++ decimal number

-- What a choice means: what the chosen rule means.
abbrev pub chosen : Choice → ℕ → ℕ → List ℕ → List ℕ
chosen (Running _) total block positions = running total positions
chosen (Blocks _) total block positions = blocks total block positions
