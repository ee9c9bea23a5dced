-- Rows with their nets moved, in their places.
use Rattle.std.proofs.Common.{◌≡◌, ℕ, ◌≤◌, true, false, List, ℤ, pos, nat_abs, Ok, Err, Result, sym, refl, ap, ◌∙◌, arith}
use Rattle.std.proofs.lemmas.Int.{ints}
use Rattle.std.proofs.lemmas.Bool.Decides.{nat_tests}
use Rattle.std.proofs.ByRecursion.{All-get_or}
use Rattle.std.specs.List.{AllByRecursion}
use Rattle.tables.proofs.EitherOrder.{entered_commute}
use Rattle.tables.proofs.Entries.{entered_found, entered_missing}
use Rattle.tables.specs.Finding.{Ascending, Found}
use Rattle.tally.specs.Orders.{before_one, before_transitive, same_itself}
use Rattle.tally.specs.Deals.{sound_deal}
use Rattle.tally.specs.Keys.{before, same_key}
use Rattle.tally.specs.declared.deals.Deal.{Deal}
use Rattle.tally.specs.declared.keys.PositionKey.{PositionKey}
use Rattle.book.specs.Places.{row_or_fresh}
use Rattle.book.specs.Rows.{fresh, moved, netted, with_row}
use Rattle.book.specs.declared.positions.Position.{Position}

-- the row that is found, or a fresh one, has the key and is no larger than the others
pub row_named : (rows : List Position) (k : PositionKey) (r : Result ℕ ℕ) → Found (λ p. p.key) before rows k r → (row_or_fresh rows r k).key ≡ k
row_named rows k (Ok i) f = f.1 (fresh k)
row_named rows k (Err i) f = refl

pub row_capped : (rows : List Position) (k : PositionKey) (r : Result ℕ ℕ) → AllByRecursion (λ p. nat_abs p.net ≤ 2000000000) rows → Found (λ p. p.key) before rows k r → nat_abs (row_or_fresh rows r k).net ≤ 2000000000
row_capped rows k (Ok i) all f = All-get_or (λ p. nat_abs p.net ≤ 2000000000) rows i (fresh k) f.0 all
row_capped rows k (Err i) all f = omega arith

module _ (rows : List Position) (asc : Ascending (λ p. p.key) before rows) where
  -- the row of a key with its net moved, in its place
  with_row_netted : (k : PositionKey) (change : ℤ) (r : Result ℕ ℕ) → Found (λ p. p.key) before rows k r → with_row (moved change (row_or_fresh rows r k)) rows ≡ netted k change rows
  with_row_netted k change (Ok i) f =
      let row = moved change (row_or_fresh rows (Ok i) k) in
      entered_found (λ p. p.key) before before_one row.key (λ _. row) row rows asc i (fresh k) (rw (f.1 (fresh k)) f)
      ∙ sym (entered_found (λ p. p.key) before before_one k (moved change) (moved change (fresh k)) rows asc i (fresh k) f)
  with_row_netted k change (Err i) f =
      entered_missing (λ p. p.key) before before_one k (λ _. moved change (fresh k)) (moved change (fresh k)) rows asc i f
      ∙ sym (entered_missing (λ p. p.key) before before_one k (moved change) (moved change (fresh k)) rows asc i f)

  module _ (j k : PositionKey) (change other : ℤ) (r s : Result ℕ ℕ) (f : Found (λ p. p.key) before rows j r) (g : Found (λ p. p.key) before rows k s) (apart : same_key j k ≡ false) where
    abbrev first : Position
    first = moved change (row_or_fresh rows r j)

    abbrev second : Position
    second = moved other (row_or_fresh rows s k)

    differ : first.key ≡ second.key → ⊥
    differ e = grind (arith, apart, e, row_named rows j r f, row_named rows k s g, same_itself k)

    pub both_netted : with_row second (with_row first rows) ≡ netted k other (netted j change rows)
    both_netted =
        sym (entered_commute (λ p. p.key) before before_one before_transitive first.key second.key (λ _. first) (λ _. second) first second differ refl refl (λ _ _. refl) (λ _ _. refl) rows)
        ∙ ap (with_row first) (with_row_netted k other s g)
        ∙ entered_commute (λ p. p.key) before before_one before_transitive first.key k (λ _. first) (moved other) first (moved other (fresh k)) (λ e. differ (e ∙ sym (row_named rows k s g))) refl refl (λ _ _. refl) (λ x e. e) rows
        ∙ ap (netted k other) (with_row_netted j change r f)

-- a sound amount is at least 1 and at most 2,000,000,000
pub sound_size : (deal : Deal) → sound_deal deal ≡ true → (nat_abs deal.amount ≤ 2000000000) × (pos (nat_abs deal.amount) ≡ deal.amount)
sound_size deal s = (grind (arith, ints, nat_tests), grind (arith, ints, nat_tests))
