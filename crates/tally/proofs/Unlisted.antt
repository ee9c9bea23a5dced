-- Nothing happened in a swaption that is not listed.
use Rattle.std.proofs.Common.{◌≡◌, ℕ, false, [], ◌∷◌, None, refl, arith}
use Rattle.std.proofs.lemmas.Bool.Decides.{nat_tests}
use Rattle.tally.specs.History.{History, listed, traded, proposed, preliminary, withdrawn, noticed, failed, assigned, failed_in, listed_terms, preliminaries_in, rule_in, terms_in, traded_in}
use Rattle.tally.specs.Tally.{Kept}
use Rattle.tally.proofs.ListedTerms.{terms_new, terms_other}

-- Nothing was traded in a swaption, no notice or failure accepted, and it is not assigned.
abbrev pub Untouched : History → ℕ → Type 0
Untouched t n = (traded_in t n ≡ 0) × (preliminaries_in t n ≡ false) × (failed_in t n ≡ false) × (rule_in t n ≡ None)

pub untouched : (t : History) (n : ℕ) → Kept t → terms_in t n ≡ None → Untouched t n
untouched [] n h e = (refl, refl, refl, refl)
untouched (listed terms ∷ t) n h e = untouched t n h.0 (grind (arith, nat_tests, terms_new terms (listed_terms t), terms_other terms n (listed_terms t)))
untouched (traded deal ∷ t) n h e = grind (arith, nat_tests, h.1, untouched t n h.0 e)
untouched (proposed p price ∷ t) n h e = grind (arith, nat_tests, h.1, untouched t n h.0 e)
untouched (preliminary x ∷ t) n h e = grind (arith, nat_tests, h.1, untouched t n h.0 e)
untouched (withdrawn _ ∷ t) n h e = untouched t n h.0 e
untouched (noticed _ ∷ t) n h e = untouched t n h.0 e
untouched (failed f price ∷ t) n h e = grind (arith, nat_tests, h.1, untouched t n h.0 e)
untouched (assigned m rule x ∷ t) n h e = grind (arith, nat_tests, h.1, untouched t n h.0 e)
