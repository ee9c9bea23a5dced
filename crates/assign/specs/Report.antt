-- What is printed for a line.
use Rattle.std.specs.Prelude.{◌≡◌, ℕ, ◌+◌, List, [], ◌∷◌, ◌++◌, length, Some, None, codes, decimal, Option}
use Rattle.std.specs.List.{flat_map}
use Rattle.asktext.specs.Format.{Saying, asks, fault, nothing}
use Rattle.asktext.specs.Shown.{fault_shown}
use Rattle.refusals.specs.Shown.{shown_as}
use Rattle.refusals.specs.declared.Refusal.TheVariants.{UnsoundAsk}
use Rattle.assignment.specs.Asks.{SoundAsk, sum_of}
use Rattle.assignment.specs.Choices.{no_rule_shown, chosen, rule_of}
use Rattle.assignment.specs.declared.choices.Choice.{Choice}
use Rattle.assign.specs.Steps.{step_of, step_shown}

-- The end of a line.
abbrev pub newline : List ℕ
newline = 10 ∷ []

-- Numbers, a blank before each.
abbrev pub numbers_shown : List ℕ → List ℕ
numbers_shown numbers = flat_map (λ n. codes " " ++ decimal n) numbers

-- An ask's numbers but for the positions, with the line's place.
abbrev pub terms_shown : ℕ → ℕ → ℕ → ℕ → List ℕ
terms_shown place rule total block =
    codes "line " ++ (decimal place ++ (codes ": rule " ++ (decimal rule ++ (codes ", total " ++ (decimal total ++ (codes ", block " ++ (decimal block ++ codes ", open")))))))

-- The ask as it was read.
abbrev pub ask_shown : ℕ → ℕ → ℕ → ℕ → List ℕ → List ℕ
ask_shown place rule total block positions = terms_shown place rule total block ++ (numbers_shown positions ++ newline)

-- A line for each seller from a place on.
abbrev pub steps_shown : ℕ → ℕ → ℕ → List ℕ → List ℕ → List ℕ
steps_shown total sum seller [] amounts = []
steps_shown total sum seller (o ∷ os) [] = []
steps_shown total sum seller (o ∷ os) (a ∷ amounts) =
    (step_shown (step_of seller total sum o a) ++ newline) ++ steps_shown total sum (seller + 1) os amounts

-- The amounts.
abbrev pub amounts_shown : List ℕ → List ℕ
amounts_shown amounts = codes "amounts" ++ (numbers_shown amounts ++ newline)

-- What follows an accepted ask: the sum of the positions, the steps, the sum of the amounts and the amounts.
unfoldable pub accepted_shown : ℕ → List ℕ → List ℕ → List ℕ
accepted_shown total positions amounts =
    (codes "the open positions add up to " ++ (decimal (sum_of positions) ++ newline))
    ++ (steps_shown total (sum_of positions) 1 positions amounts
    ++ ((codes "the amounts add up to " ++ (decimal (sum_of amounts) ++ (codes ", and the total is " ++ (decimal total ++ newline)))) ++ amounts_shown amounts))

-- What follows a refused ask.
abbrev pub refused_shown : List ℕ
refused_shown = codes "the ask is not sound" ++ (newline ++ (shown_as UnsoundAsk ++ newline))

-- A line that is no ask, with the reason.
abbrev pub unreadable_shown : ℕ → List ℕ → List ℕ
unreadable_shown place reason = codes "line " ++ (decimal place ++ (codes ": " ++ (reason ++ (newline ++ (codes "unreadable" ++ newline)))))

-- What is printed for an ask by a rule: its steps and its amounts if it is sound, else the refusal.
abbrev pub AskReported : ℕ → ℕ → Choice → ℕ → ℕ → List ℕ → List ℕ → Type 0
AskReported place number rule total block positions text =
    (SoundAsk total block positions (length positions) → text ≡ ask_shown place number total block positions ++ accepted_shown total positions (chosen rule total block positions))
    × ((SoundAsk total block positions (length positions) → ⊥) → text ≡ ask_shown place number total block positions ++ refused_shown)

-- What is printed for an ask: by the rule that bears the number, if one does.
abbrev pub NumberReported : ℕ → ℕ → Option Choice → ℕ → ℕ → List ℕ → List ℕ → Type 0
NumberReported place number None total block positions text = text ≡ unreadable_shown place (no_rule_shown number)
NumberReported place number (Some rule) total block positions text = AskReported place number rule total block positions text

-- What is printed for a line by what it says: nothing for one that is passed over.
abbrev pub Reported : ℕ → Saying → Option (List ℕ) → Type 0
Reported place nothing printed = printed ≡ None
Reported place (fault why) printed = printed ≡ Some (unreadable_shown place (fault_shown why))
Reported place (asks number total block positions) printed =
    (text : List ℕ) × (printed ≡ Some text) × NumberReported place number (rule_of number) total block positions text
