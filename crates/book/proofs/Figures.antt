-- From what a search answers to the figures that answers go by.
use Rattle.std.proofs.Common.{◌≡◌, ℕ, zero, suc, ◌<◌, true, false, eqb, ltb, List, [], ◌∷◌, length, get_or, Some, None, Ok, Err, Result, refl, arith}
use Rattle.std.proofs.lemmas.Bool.Decides.{nat_tests}
use Rattle.std.proofs.lemmas.Bool.{cases_lt}
use Rattle.tables.proofs.Searches.{ascending_in_order}
use Rattle.tables.specs.Finding.{Ascending, Found}
use Rattle.tables.specs.Orders.{nat_one}
use Rattle.tally.specs.Orders.{before_differs, before_one, same_itself}
use Rattle.tally.specs.History.{terms_with}
use Rattle.tally.specs.Keys.{before, same_key}
use Rattle.tally.specs.Tally.{is_among, missing}
use Rattle.tally.specs.declared.keys.PositionKey.{PositionKey}
use Rattle.book.specs.Calls.{keys_of_rows, terms_of_rows, volume_in}
use Rattle.book.specs.Places.{missing_at}
use Rattle.book.specs.declared.positions.Position.{Position}
use Rattle.book.specs.declared.swaptions.Swaption.{Swaption}

-- ---- swaptions
first_terms : (rows : List Swaption) (n i : ℕ) (d : Swaption) → i < length rows → (get_or rows i d).terms.number ≡ n → ((m : ℕ) (e : Swaption) → m < i → eqb (get_or rows m e).terms.number n ≡ false) → (terms_with n (terms_of_rows rows) ≡ Some (get_or rows i d).terms) × (volume_in n rows ≡ (get_or rows i d).traded)
first_terms [] n i d in' is low = absurd (omega arith)
first_terms (x ∷ rows) n zero d in' is low = grind (arith, nat_tests, is)
first_terms (x ∷ rows) n (suc i) d in' is low =
    grind (arith, low 0 x (omega arith), first_terms rows n i d (omega arith) is (λ m y h. low (suc m) y (omega arith)))

no_terms : (rows : List Swaption) (n : ℕ) → ((m : ℕ) (e : Swaption) → m < length rows → eqb (get_or rows m e).terms.number n ≡ false) → terms_with n (terms_of_rows rows) ≡ None
no_terms [] n none = refl
no_terms (x ∷ rows) n none = grind (arith, none 0 x (omega arith), no_terms rows n (λ m e h. none (suc m) e (omega arith)))

module _ (rows : List Swaption) (asc : Ascending (λ s. s.terms.number) ltb rows) (n : ℕ) where
  pub listed_terms_found : (i : ℕ) (d : Swaption) → Found (λ s. s.terms.number) ltb rows n (Ok i) → (terms_with n (terms_of_rows rows) ≡ Some (get_or rows i d).terms) × (volume_in n rows ≡ (get_or rows i d).traded)
  listed_terms_found i d f = first_terms rows n i d f.0 (f.1 d) (λ m e h. grind (arith, nat_tests, f.1 e, asc m i e h f.0))

  pub listed_terms_missing : (i : ℕ) → Found (λ s. s.terms.number) ltb rows n (Err i) → terms_with n (terms_of_rows rows) ≡ None
  listed_terms_missing i f =
      let parts = f.1 (ascending_in_order (λ s. s.terms.number) ltb nat_one rows asc) in
      no_terms rows n (λ m e h. grind (arith, nat_tests, parts.0 m e, parts.1 m e, h))

-- ---- positions
among_at : (rows : List Position) (k : PositionKey) (i : ℕ) (d : Position) → i < length rows → (get_or rows i d).key ≡ k → is_among k (keys_of_rows rows) ≡ true
among_at [] k i d in' is = absurd (omega arith)
among_at (x ∷ rows) k zero d in' is = grind (arith, is, same_itself k)
among_at (x ∷ rows) k (suc i) d in' is = grind (arith, among_at rows k i d (omega arith) is)

not_among : (rows : List Position) (k : PositionKey) → ((m : ℕ) (e : Position) → m < length rows → same_key (get_or rows m e).key k ≡ false) → is_among k (keys_of_rows rows) ≡ false
not_among [] k none = refl
not_among (x ∷ rows) k none = grind (arith, none 0 x (omega arith), not_among rows k (λ m e h. none (suc m) e (omega arith)))

-- a position is missing just if the search says so
pub missing_found : (rows : List Position) → Ascending (λ p. p.key) before rows → (k : PositionKey) (d : Position) (r : Result ℕ ℕ) → Found (λ p. p.key) before rows k r → missing k (keys_of_rows rows) ≡ missing_at r
missing_found rows asc k d (Ok i) f = grind (arith, among_at rows k i d f.0 (f.1 d))
missing_found rows asc k d (Err i) f =
    let parts = f.1 (ascending_in_order (λ p. p.key) before before_one rows asc) in
    grind (arith, not_among rows k (λ m e h. grind (arith, cases_lt m i, h, parts.0 m e, parts.1 m e, before_differs (get_or rows m e).key k, before_differs k (get_or rows m e).key)))
