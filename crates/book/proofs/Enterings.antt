-- Rows entered among positions in key order.
use Rattle.std.proofs.Common.{arith, ◌≡◌, ℕ, true, false, List, Ok, Err, Result, sym, refl, ap, ◌∙◌}
use Rattle.std.proofs.lemmas.Bool.Decides.{nat_tests}
use Rattle.tables.proofs.EitherOrder.{entered_commute}
use Rattle.tables.proofs.Entries.{entered_found, entered_missing}
use Rattle.tables.proofs.Insertions.{ascending_inserted, ascending_set}
use Rattle.tables.proofs.Searches.{ascending_in_order}
use Rattle.tables.specs.Finding.{Ascending, Found}
use Rattle.tally.specs.Orders.{before_one, before_transitive}
use Rattle.tally.specs.Keys.{before, same_key}
use Rattle.tally.specs.declared.keys.PositionKey.{PositionKey}
use Rattle.tables.proofs.Sides.{low_before_found, low_before_missing, low_found_after_put_in, low_found_after_write, low_missing_before_found, low_missing_before_missing}
use Rattle.book.specs.Places.{Ordered, placed}
use Rattle.book.specs.Rows.{with_row}
use Rattle.book.specs.declared.positions.Position.{Position}

-- a row at the place that a search answered for its key is in its place
placed_with_row : (rows : List Position) → Ascending (λ p. p.key) before rows → (row : Position) (r : Result ℕ ℕ) → Found (λ p. p.key) before rows row.key r → placed r row rows ≡ with_row row rows
placed_with_row rows asc row (Ok i) f = sym (entered_found (λ p. p.key) before before_one row.key (λ _. row) row rows asc i row f)
placed_with_row rows asc row (Err i) f = sym (entered_missing (λ p. p.key) before before_one row.key (λ _. row) row rows asc i f)

-- of two different keys, one stands before the other
pub other_before : (j k : PositionKey) → same_key j k ≡ false → before j k ≡ false → before k j ≡ true
other_before j k ne f = grind (arith, nat_tests)

-- rows with different keys may be entered in either order
with_rows_either_order : (first second : Position) → before first.key second.key ≡ true → (rows : List Position) → with_row first (with_row second rows) ≡ with_row second (with_row first rows)
with_rows_either_order first second lt = entered_commute (λ p. p.key) before before_one before_transitive first.key second.key (λ _. first) (λ _. second) first second (λ e. grind (arith, nat_tests, lt, e)) refl refl (λ _ _. refl) (λ _ _. refl)

module _ (rows : List Position) (asc : Ascending (λ p. p.key) before rows) where
  pub found_ordered : (j k : PositionKey) (d : Position) → before j k ≡ true → (r s : Result ℕ ℕ) → Found (λ p. p.key) before rows j r → Found (λ p. p.key) before rows k s → Ordered r s
  found_ordered j k d lt (Ok i) (Ok m) f g = low_before_found (λ p. p.key) before before_one before_transitive rows asc j k lt d i m f g
  found_ordered j k d lt (Ok i) (Err m) f g = low_before_missing (λ p. p.key) before before_one before_transitive rows asc j k lt d i m f g
  found_ordered j k d lt (Err i) (Ok m) f g = low_missing_before_found (λ p. p.key) before before_one before_transitive rows asc j k lt d i m f g
  found_ordered j k d lt (Err i) (Err m) f g = low_missing_before_missing (λ p. p.key) before before_one before_transitive rows asc j k lt d i m f g

  ascending_placed : (row : Position) (r : Result ℕ ℕ) → Found (λ p. p.key) before rows row.key r → Ascending (λ p. p.key) before (placed r row rows)
  ascending_placed row (Ok i) f = ascending_set (λ p. p.key) before rows i row asc (λ d _. sym (f.1 d))
  ascending_placed row (Err i) f = let parts = f.1 (ascending_in_order (λ p. p.key) before before_one rows asc) in ascending_inserted (λ p. p.key) before rows i row f.0 asc parts.0 parts.1

  low_found_after : (first second : Position) → before first.key second.key ≡ true → (r s : Result ℕ ℕ) → Found (λ p. p.key) before rows first.key r → Found (λ p. p.key) before rows second.key s → Found (λ p. p.key) before (placed s second rows) first.key r
  low_found_after first second lt r (Ok j) f g = low_found_after_write (λ p. p.key) before before_one before_transitive rows asc first.key second.key lt first second refl j g r f
  low_found_after first second lt r (Err j) f g = low_found_after_put_in (λ p. p.key) before before_one before_transitive rows asc first.key second.key lt first second refl j g r f

  pub placed_in_order : (first second : Position) → before first.key second.key ≡ true → (r s : Result ℕ ℕ) → Found (λ p. p.key) before rows first.key r → Found (λ p. p.key) before rows second.key s → placed r first (placed s second rows) ≡ with_row first (with_row second rows)
  placed_in_order first second lt r s f g =
      placed_with_row (placed s second rows) (ascending_placed second s g) first r (low_found_after first second lt r s f g)
      ∙ ap (with_row first) (placed_with_row rows asc second s g)

  -- two rows placed are two rows entered, in either order
  pub placed_either_order : (first second : Position) → before first.key second.key ≡ true → (r s : Result ℕ ℕ) → Found (λ p. p.key) before rows first.key r → Found (λ p. p.key) before rows second.key s → placed r first (placed s second rows) ≡ with_row second (with_row first rows)
  placed_either_order first second lt r s f g = placed_in_order first second lt r s f g ∙ with_rows_either_order first second lt rows
