-- A seller's step: its pro-rata level, and how far its amount is from it.
use Rattle.std.specs.Prelude.{ℕ, ◌-◌, ◌*◌, ◌/◌, ◌%◌, cond, List, ◌++◌, codes, decimal, ◌==◌, nat_lt}
use Rattle.assign.specs.declared.steps.Distance.{Distance}
use Rattle.assign.specs.declared.steps.Distance.TheVariants.{At, Above, Under}
use Rattle.assign.specs.declared.steps.Mixed.{Mixed}
use Rattle.assign.specs.declared.steps.Step.{Step}

-- So many parts of a unit, of which `of` make a whole: the whole units and the parts left over.
abbrev pub mixed_of : ℕ → ℕ → Mixed
mixed_of parts of = record { whole = parts / of; over = parts % of; of = of }

-- How far an amount is from a level, both in parts of a unit.
abbrev pub distance_of : ℕ → ℕ → ℕ → Distance
distance_of amount level of =
    cond (amount == level) At (cond (nat_lt level amount) (Above (mixed_of (amount - level) of)) (Under (mixed_of (level - amount) of)))

-- The step of a seller: the level is total × position ÷ sum.
abbrev pub step_of : ℕ → ℕ → ℕ → ℕ → ℕ → Step
step_of seller total sum position amount = record {
  seller = seller;
  position = position;
  level = mixed_of (total * position) sum;
  amount = amount;
  distance = distance_of (amount * sum) (total * position) sum;
}

-- Parts of a unit, as a fraction.
abbrev pub fraction_shown : Mixed → List ℕ
fraction_shown m = decimal m.over ++ (codes "/" ++ decimal m.of)

-- A mixed number: the whole units and the fraction, or one of them alone where the other is 0.
abbrev pub mixed_shown : Mixed → List ℕ
mixed_shown m =
    cond (m.over == 0) (decimal m.whole) (cond (m.whole == 0) (fraction_shown m) (decimal m.whole ++ (codes " " ++ fraction_shown m)))

-- A distance in words.
abbrev pub distance_shown : Distance → List ℕ
distance_shown At = codes "just that"
distance_shown (Above m) = mixed_shown m ++ codes " above it"
distance_shown (Under m) = mixed_shown m ++ codes " below it"

-- A step in words.
abbrev pub step_shown : Step → List ℕ
step_shown s =
    codes "seller " ++ (decimal s.seller ++ (codes ": open " ++ (decimal s.position ++ (codes ", pro rata " ++ (mixed_shown s.level ++ (codes ", gets " ++ (decimal s.amount ++ (codes ", " ++ distance_shown s.distance))))))))
