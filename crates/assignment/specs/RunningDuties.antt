-- The running rule fits.
use Rattle.std.specs.Prelude.{◌≡◌, ℕ, zero, suc, ◌+◌, ◌-◌, ◌*◌, ◌/◌, ◌<◌, ◌≤◌, List, [], ◌∷◌, length, slice_index, slice_index_or, refl}
use Rattle.std.proofs.Common.{sym, ap, ◌∙◌, ⊎_elim, mul-le-mul_right, mul-add, add-mul, zero-add, add-zero, add_assoc, mul-div_cancel, mul-zero, arith}
use Rattle.std.proofs.Math.Nat.{div-mul-le_self, lt-div-mul-add, zero-div}
use Rattle.std.proofs.lemmas.Nat.{div_below, le-div}
use Rattle.std.proofs.lemmas.Bool.{cases_lt}
use Rattle.assignment.specs.ListSteps.{get_or_le_sum}
use Rattle.assignment.specs.Asks.{sum_of, Sound, Fit}
use Rattle.assignment.specs.RunningSums.{running, running_from}

-- one seller's amount: a = q1 - q0, with n the product before and more = total * o
pub record Near (s o more a : ℕ) : Type 0 where
  pub most : a ≤ o
  pub over : a * s ≤ more + s
  pub under : more ≤ a * s + s

-- the quotients on the two sides of a seller
pub grows : (n more s : ℕ) → 0 < s → n / s ≤ (n + more) / s
grows n more s h = le-div (n / s) (n + more) s h (omega (arith, div-mul-le_self n s))

near_of : (q0 d s o n more : ℕ) → q0 * s ≤ n → n < q0 * s + s → (q0 + d) * s ≤ n + more → n + more < (q0 + d) * s + s → d ≤ o → Near s o more d
near_of q0 d s o n more a1 a2 b1 b2 le =
    let e = add-mul q0 d s in
    record { most = le; over = omega arith; under = omega arith }

pub near : (n more s o : ℕ) → 0 < s → more ≤ o * s → Near s o more ((n + more) / s - n / s)
near n more s o h le =
    let q0 = n / s in
    let q1 = (n + more) / s in
    let g : q0 ≤ q1 = grows n more s h in
    let e : q0 + (q1 - q0) ≡ q1 = omega arith in
    let below : q1 < q0 + o + 1 = div_below (n + more) s (q0 + o + 1) h (omega (arith, lt-div-mul-add {a = n} h)) in
    near_of q0 (q1 - q0) s o n more (div-mul-le_self n s) (lt-div-mul-add {a = n} h)
    (rw e (div-mul-le_self (n + more) s)) (rw e (lt-div-mul-add {a = n + more} h)) (omega arith)

-- all sellers from one on
module _ (total all : ℕ) (some : 0 < all) (covered : total ≤ all) where
  seller : (before o : ℕ) → Near all o (total * o) (total * (before + o) / all - total * before / all)
  seller before o = rw (mul-add total before o) (near (total * before) (total * o) all o some (omega (arith, mul-le-mul_right o covered)))

  pub long : (before : ℕ) (os : List ℕ) → length (running_from total all before os) ≡ length os
  long before [] = refl
  long before (o ∷ os) = ap suc (long (before + o) os)

  pub whole : (before : ℕ) (os : List ℕ) → sum_of (running_from total all before os) + total * before / all ≡ total * (before + sum_of os) / all
  whole before [] = zero-add (total * before / all) ∙ ap (λ n. total * n / all) (sym (add-zero before))
  whole before (o ∷ os) =
      let g : total * before / all ≤ total * (before + o) / all = rw (mul-add total before o) (grows (total * before) (total * o) all some) in
      let rest = whole (before + o) os in
      let same : total * (before + o + sum_of os) / all ≡ total * (before + (o + sum_of os)) / all = ap (λ n. total * n / all) (add_assoc before o (sum_of os)) in
      omega arith

  pub each : (before : ℕ) (os : List ℕ) (i : ℕ) → i < length os → Near all (slice_index os i) (total * slice_index os i) (slice_index (running_from total all before os) i)
  each before [] i h = absurd (omega arith)
  each before (o ∷ os) zero h = seller before o
  each before (o ∷ os) (suc i) h = each (before + o) os i (omega arith)

-- where the positions add up to 0 there is no seller
none : (positions : List ℕ) → ((i : ℕ) → i < length positions → 1 ≤ slice_index positions i) → sum_of positions ≡ 0 → length positions ≡ 0
none [] each_open e = refl
none (o ∷ os) each_open e = absurd (omega (arith, each_open 0 (omega arith)))

pub running_fits : (total block : ℕ) (positions : List ℕ) → Sound total block positions → Fit total block positions (running total positions)
running_fits total block positions sound = ⊎_elim some (λ z. empty (omega arith)) (cases_lt 0 (sum_of positions))
  where
    some : 0 < sum_of positions → Fit total block positions (running total positions)
    some pos =
        let s = sum_of positions in
        let b : s ≤ block * s = omega (arith, mul-le-mul_right s sound.block_least) in
        let full : total * (0 + s) / s ≡ total = ap (λ n. total * n / s) (zero-add s) ∙ mul-div_cancel total pos in
        let start : total * 0 / s ≡ 0 = ap (λ n. n / s) (mul-zero total) ∙ zero-div s in
        let w = whole total s pos sound.covered 0 positions in
        record {
          long = long total s pos sound.covered 0 positions;
          whole = omega arith;
          within = λ i h. (each total s pos sound.covered 0 positions i h).most;
          not_over = λ i h. omega (arith, (each total s pos sound.covered 0 positions i h).over);
          not_under = λ i h. omega (arith, (each total s pos sound.covered 0 positions i h).under);
        }

    empty : sum_of positions ≡ 0 → Fit total block positions (running total positions)
    empty z = go positions (none positions sound.opens.each_open z) sound.covered
      where
        go : (os : List ℕ) → length os ≡ 0 → total ≤ sum_of os → Fit total block os (running total os)
        go [] e c = record { long = refl; whole = omega arith; within = λ i h. absurd (omega arith); not_over = λ i h. absurd (omega arith); not_under = λ i h. absurd (omega arith) }
        go (o ∷ os) e c = absurd (omega arith)

-- what a turn of the rule's loop needs, at a seller
pub record Turn (total all before o : ℕ) : Type 0 where
  pub grown : total * before / all ≤ total * (before + o) / all
  pub most : total * (before + o) / all - total * before / all ≤ o

pub turn : (total block : ℕ) (positions : List ℕ) (all before i : ℕ) → Sound total block positions → all ≡ sum_of positions → i < length positions → Turn total all before (slice_index positions i)
turn total block positions all before i sound e h =
    let o = slice_index_or positions i 0 in
    let some : 0 < all = omega (arith, get_or_le_sum positions i h, sound.opens.each_open i h) in
    record {
      grown = rw (mul-add total before o) (grows (total * before) (total * o) all some);
      most = (seller total all some (omega (arith, sound.covered)) before o).most;
    }
