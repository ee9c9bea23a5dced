-- The lines of the sellers that a loop over their positions and amounts writes.
use Rattle.std.proofs.Common.{◌≡◌, ℕ, ◌+◌, ◌<◌, List, [], ◌∷◌, ◌++◌, length, map, Bor, refl, sym, ap, ◌∙◌, arith}
use Rattle.std.proofs.lemmas.List.{flat_map_more}
use Rattle.std.proofs.lemmas.List.FromFn.{length-enumerate_from}
use Rattle.std.proofs.lemmas.Slice.Zip.{length-zip}
use Rattle.std.proofs.iter.Yields.{fronts}
use Rattle.std.proofs.lemmas.Iterator.{YieldsList, YieldsList-from_slice, YieldsList-from_zip, zips}
use Rattle.std.proofs.lemmas.Iterator.Consumers.{YieldsList-from_enumerate}
use Rattle.std.specs.Iterator.Adapters.{enumerate_count, enumerate_source, enumerate_steps, zip_first, zip_second}
use Rattle.std.specs.List.{enumerate_from, flat_map, zip}
use Rattle.std.specs.Slice.Iter.{iter_rest}
use Rattle.assignment.specs.Asks.{Opens, sum_of}
use Rattle.assignment.specs.ListSteps.{get_or_le_sum}
use Rattle.assign.specs.Report.{newline, steps_shown}
use Rattle.assign.specs.Steps.{step_of, step_shown}

-- the line of the seller at a place from 0, with its position and its amount
abbrev pub step_line : ℕ → ℕ → ℕ × (ℕ × ℕ) → List ℕ
step_line total sum seller = step_shown (step_of (seller.0 + 1) total sum seller.1.0 seller.1.1) ++ newline

-- what a loop reads of a seller
abbrev pub seller_read : ℕ × (Bor ℕ × Bor ℕ) → ℕ × (ℕ × ℕ)
seller_read seller = (seller.0, (seller.1.0.now, seller.1.1.now))

-- the sellers that a loop reads
pub sellers_yielded : {s : _} (positions amounts : List ℕ) → iter_rest (zip_first (enumerate_source s)) ≡ positions → iter_rest (zip_second (enumerate_source s)) ≡ amounts → enumerate_count s ≡ 0 → YieldsList (enumerate_steps (zips fronts fronts)) seller_read s (enumerate_from 0 (zip positions amounts))
sellers_yielded positions amounts first second count = YieldsList-from_enumerate (YieldsList-from_zip (YieldsList-from_slice positions first) (YieldsList-from_slice amounts second)) count

-- the lines of the sellers that a loop has passed
abbrev pub lines_so_far : ℕ → ℕ → List (ℕ × (Bor ℕ × Bor ℕ)) → List ℕ
lines_so_far total sum sellers = flat_map (λ seller. step_line total sum (seller_read seller)) sellers

lines_read : (total sum : ℕ) (sellers : List (ℕ × (Bor ℕ × Bor ℕ))) → lines_so_far total sum sellers ≡ flat_map (step_line total sum) (map seller_read sellers)
lines_read total sum [] = refl
lines_read total sum (s ∷ ss) = ap (λ lines. step_line total sum (seller_read s) ++ lines) (lines_read total sum ss)

lines_from : (total sum place : ℕ) (positions amounts : List ℕ) → flat_map (step_line total sum) (enumerate_from place (zip positions amounts)) ≡ steps_shown total sum (place + 1) positions amounts
lines_from total sum place [] amounts = refl
lines_from total sum place (o ∷ os) [] = refl
lines_from total sum place (o ∷ os) (a ∷ more) = ap (λ lines. step_line total sum (place, (o, a)) ++ lines) (lines_from total sum (place + 1) os more)

-- one line more, and all of them
pub lines_more : (total sum : ℕ) (sellers : List (ℕ × (Bor ℕ × Bor ℕ))) (s : ℕ × (Bor ℕ × Bor ℕ)) → lines_so_far total sum (sellers ++ s ∷ []) ≡ lines_so_far total sum sellers ++ step_line total sum (seller_read s)
lines_more total sum sellers s = sym (flat_map_more (λ seller. step_line total sum (seller_read seller)) [] sellers s)

pub lines_all : (total sum : ℕ) (sellers : List (ℕ × (Bor ℕ × Bor ℕ))) (positions amounts : List ℕ) → map seller_read sellers ≡ enumerate_from 0 (zip positions amounts) → lines_so_far total sum sellers ≡ steps_shown total sum 1 positions amounts
lines_all total sum sellers positions amounts all = lines_read total sum sellers ∙ ap (flat_map (step_line total sum)) all ∙ lines_from total sum 0 positions amounts

-- where there is a seller, its open position makes the sum positive
pub sum_positive : (positions amounts : List ℕ) (n : ℕ) → Opens positions → n < length (enumerate_from 0 (zip positions amounts)) → 0 < sum_of positions
sum_positive positions amounts n opens inside =
    let first : 0 < length positions = omega (arith, length-enumerate_from 0 (zip positions amounts), length-zip positions amounts) in
    omega (arith, opens.each_open 0 first, get_or_le_sum positions 0 first)
