-- Before cease nobody has stood, been noticed or caught, and nothing is assigned.
use Rattle.std.proofs.Common.{◌≡◌, ℕ, ◌<◌, false, [], ◌∷◌, Some, None, Option, refl, arith}
use Rattle.std.proofs.lemmas.Bool.Decides.{nat_tests}
use Rattle.tally.specs.History.{History, listed, traded, proposed, preliminary, withdrawn, noticed, failed, assigned, assignment_of, caught, last_notice, latest_moment, listed_terms, preliminary_of, rule_in, terms_in}
use Rattle.tally.specs.Tally.{Kept}
use Rattle.tally.specs.declared.keys.PositionKey.{PositionKey}
use Rattle.tally.specs.declared.listings.Terms.{Terms}
use Rattle.tally.proofs.ListedTerms.{moments_in, terms_other}

-- A moment before cease, by the terms of a swaption if it is listed.
abbrev pub BeforeCease : Option Terms → ℕ → Type 0
BeforeCease stated moment = (terms : Terms) → stated ≡ Some terms → moment < terms.cease

-- A position of which nothing was said yet.
abbrev pub Quiet : History → PositionKey → Type 0
Quiet t k = (caught t k ≡ false) × (last_notice t k ≡ None) × (preliminary_of t k ≡ None) × (rule_in t k.swaption ≡ None) × (assignment_of t k ≡ 0)

pub quiet : (t : History) (k : PositionKey) → Kept t → BeforeCease (terms_in t k.swaption) (latest_moment t) → Quiet t k
quiet [] k h b = (refl, refl, refl, refl, refl)
quiet (listed terms ∷ t) k h b = quiet t k h.0 (λ x e. grind (arith, nat_tests, h.1, e, b x, terms_other terms k.swaption (listed_terms t)))
quiet (traded deal ∷ t) k h b = quiet t k h.0 (λ x e. grind (arith, nat_tests, h.1, e, b x))
quiet (proposed p price ∷ t) k h b = grind (arith, nat_tests, quiet t k h.0 (λ x e. grind (arith, nat_tests, h.1, e, b x)), h.1, b, moments_in t h.0)
quiet (preliminary n ∷ t) k h b = grind (arith, nat_tests, quiet t k h.0 (λ x e. grind (arith, nat_tests, h.1, e, b x)), h.1, b, moments_in t h.0)
quiet (withdrawn w ∷ t) k h b = grind (arith, nat_tests, quiet t k h.0 (λ x e. grind (arith, nat_tests, h.1, e, b x)))
quiet (noticed n ∷ t) k h b = grind (arith, nat_tests, quiet t k h.0 (λ x e. grind (arith, nat_tests, h.1, e, b x)), h.1, b, moments_in t h.0)
quiet (failed f price ∷ t) k h b = grind (arith, nat_tests, quiet t k h.0 (λ x e. grind (arith, nat_tests, h.1, e, b x)), h.1, b, moments_in t h.0)
quiet (assigned n rule m ∷ t) k h b = grind (arith, nat_tests, quiet t k h.0 (λ x e. grind (arith, nat_tests, h.1, e, b x)), h.1, b, moments_in t h.0)
