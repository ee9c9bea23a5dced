-- The last row that applies is the first from the back.
use Rattle.std.proofs.Common.{◌≡◌, ℕ, Bool, true, false, cond, List, [], ◌∷◌, reverse, Some, None, Option, refl, ap, ap₂, ◌∙◌}
use Rattle.std.specs.List.{find}
use Rattle.std.specs.Option.{option_map, option_or}
use Rattle.std.proofs.lemmas.Grind.{reverse_onto}
use Rattle.std.proofs.lemmas.List.Folds.{find-append}
use Rattle.prices.specs.Quotes.{last_price}

module _ {X : Type 0} (applies : X → Bool) (price : X → ℕ) where
  price_of_first : (a b : Option X) → option_map price (option_or a b) ≡ option_or (option_map price a) (option_map price b)
  price_of_first (Some x) b = refl
  price_of_first None b = refl

  price_if : (x : X) (b : Bool) → option_map price (cond b (Some x) None) ≡ cond b (Some (price x)) None
  price_if x true = refl
  price_if x false = refl

  pub first_from_back : (rows : List X) → option_map price (find applies (reverse rows)) ≡ last_price applies price rows
  first_from_back [] = refl
  first_from_back (x ∷ rows) =
      ap (λ back. option_map price (find applies back)) (reverse_onto rows x [])
      ∙ ap (option_map price) (find-append applies (reverse rows) (x ∷ []))
      ∙ price_of_first (find applies (reverse rows)) (find applies (x ∷ []))
      ∙ ap₂ option_or (first_from_back rows) (price_if x (applies x))
