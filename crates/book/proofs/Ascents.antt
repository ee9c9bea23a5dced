-- The rows of a book that records a history ascend.
use Rattle.std.proofs.Common.{Bool, ltb, List, [], ◌∷◌, map, arith}
use mathlib.Core.Bool.{Bool-set}
use mathlib.Core.Logic.{∥∥₁_elim}
use Rattle.std.proofs.lemmas.List.{get_or-map, length-map}
use Rattle.tables.specs.Finding.{Ascending}
use Rattle.tally.proofs.Ascents.{keys_ascend, terms_ascend}
use Rattle.tally.specs.History.{listed_terms, position_keys}
use Rattle.tally.specs.Keys.{before}
use Rattle.book.specs.Held.{rows_in}
use Rattle.book.specs.Records.{position_of, swaption_of}
use Rattle.book.specs.declared.books.Book.{Book}

ascending_map : {X Y K : Type 0} (f : X → Y) (key : Y → K) (less : K → K → Bool) (xs : List X) → Ascending (λ x. key (f x)) less xs → Ascending key less (map f xs)
ascending_map f key less [] asc i j e lt in' = absurd (omega arith)
ascending_map f key less (x ∷ xs) asc i j e lt in' =
    grind (arith, lt, in', length-map (x ∷ xs) f, get_or-map f (x ∷ xs) i x e, get_or-map f (x ∷ xs) j x e, asc i j x lt)

module _ (book : Book) where
  pub swaptions_ascend : Ascending (λ s. s.terms.number) ltb (rows_in book.swaptions)
  swaptions_ascend i j d lt in' =
      ∥∥₁_elim book.led (Bool-set _ _)
      (λ x. rw x.1.listed (ascending_map (swaption_of x.0) (λ s. s.terms.number) ltb (listed_terms x.0) (terms_ascend x.0) i j d lt (rw x.1.listed at in')))

  pub positions_ascend : Ascending (λ p. p.key) before (rows_in book.positions)
  positions_ascend i j d lt in' =
      ∥∥₁_elim book.led (Bool-set _ _)
      (λ x. rw x.1.netted (ascending_map (position_of x.0) (λ p. p.key) before (position_keys x.0) (keys_ascend x.0) i j d lt (rw x.1.netted at in')))
