-- The terms of the listed swaptions: every one is sound, and a list adds its own alone.
use Rattle.std.proofs.Common.{◌≡◌, ℕ, ◌<◌, ◌≤◌, true, false, eqb, ltb, List, [], ◌∷◌, Some, subst, ⊎_elim, arith}
use Rattle.std.proofs.lemmas.Bool.{cases_Bool}
use Rattle.std.proofs.lemmas.Bool.Decides.{nat_tests}
use Rattle.std.specs.List.{AllByRecursion}
use Rattle.tables.proofs.Entries.{all_entered}
use Rattle.tables.specs.Entering.{entered}
use Rattle.tally.specs.History.{History, listed, traded, proposed, preliminary, withdrawn, noticed, failed, assigned, listed_terms, terms_with, terms_in}
use Rattle.tally.specs.Listings.{sound_terms}
use Rattle.tally.specs.Tally.{Kept, is_listed}
use Rattle.tally.specs.declared.listings.Terms.{Terms}

-- terms with one more among them
abbrev pub with_terms : Terms → List Terms → List Terms
with_terms terms all = entered (λ x. x.number) ltb terms.number (λ x. x) terms all

-- a swaption of another number keeps its terms
pub terms_other : (terms : Terms) (n : ℕ) (all : List Terms) → eqb terms.number n ≡ false → terms_with n (with_terms terms all) ≡ terms_with n all
terms_other terms n [] ne = grind arith
terms_other terms n (x ∷ xs) ne = grind (arith, nat_tests, terms_other terms n xs ne)

-- the swaption that is added is listed
pub terms_new : (terms : Terms) (all : List Terms) → is_listed terms.number (with_terms terms all) ≡ true
terms_new terms [] = grind (arith, nat_tests)
terms_new terms (x ∷ xs) = grind (arith, nat_tests, terms_new terms xs)

-- what holds of all terms holds of those found
holds_of_found : (P : Terms → Type 0) (n : ℕ) (all : List Terms) (terms : Terms) → AllByRecursion P all → terms_with n all ≡ Some terms → P terms
holds_of_found P n [] terms a e = grind arith
holds_of_found P n (x ∷ xs) terms a e =
    ⊎_elim (λ (y : eqb x.number n ≡ true). let same : x ≡ terms = grind arith in subst P same a.0)
    (λ (y : eqb x.number n ≡ false). holds_of_found P n xs terms a.1 (grind arith))
    (cases_Bool (eqb x.number n))

-- the listed terms are sound
pub all_sound : (t : History) → Kept t → AllByRecursion (λ terms. sound_terms terms ≡ true) (listed_terms t)
all_sound [] h = tt
all_sound (listed terms ∷ t) h =
    all_entered (λ x. sound_terms x ≡ true) (λ x. x.number) ltb terms.number (λ x. x) terms (grind (arith, nat_tests, h.1)) (λ x s. s) (listed_terms t) (all_sound t h.0)
all_sound (traded _ ∷ t) h = all_sound t h.0
all_sound (proposed _ _ ∷ t) h = all_sound t h.0
all_sound (preliminary _ ∷ t) h = all_sound t h.0
all_sound (withdrawn _ ∷ t) h = all_sound t h.0
all_sound (noticed _ ∷ t) h = all_sound t h.0
all_sound (failed _ _ ∷ t) h = all_sound t h.0
all_sound (assigned _ _ _ ∷ t) h = all_sound t h.0

pub sound_in : (t : History) (n : ℕ) (terms : Terms) → Kept t → terms_in t n ≡ Some terms → sound_terms terms ≡ true
sound_in t n terms h e = holds_of_found (λ x. sound_terms x ≡ true) n (listed_terms t) terms (all_sound t h) e

-- the moments of sound terms are in order
pub moments_in_order : (terms : Terms) → sound_terms terms ≡ true → (terms.cease ≤ terms.start) × (terms.start < terms.cutoff)
moments_in_order terms s = (grind (arith, nat_tests), grind (arith, nat_tests))

pub moments_in : (t : History) → Kept t → (n : ℕ) (terms : Terms) → terms_in t n ≡ Some terms → (terms.cease ≤ terms.start) × (terms.start < terms.cutoff)
moments_in t h n terms e = moments_in_order terms (sound_in t n terms h e)
