-- A list of calls, one call at a time.
use Rattle.std.proofs.Common.{◌≡◌, ℕ, ◌+◌, ◌<◌, ◌≤◌, List, [], ◌∷◌, ◌++◌, length, get_or, take, Option, sym, refl, ap, ◌∙◌, subst, take_all}
use Rattle.std.proofs.lemmas.List.{take_more}
use Rattle.tally.specs.History.{History}
use Rattle.tally.specs.Table.{Answer}
use Rattle.tally.specs.Tally.{World}
use Rattle.tally.specs.declared.calls.Call.{Call}
use Rattle.book.specs.Promise.{Goes, Ran, Records, Told, answers_of, history_of, next, said}
use Rattle.book.specs.declared.books.Book.{Book}

module _ {R : Type 0} (w : World R) where
  -- ---- one call more at the end of a list
  history_push : (t : History) (calls : List (Call R)) (call : Call R) → history_of w t (calls ++ call ∷ []) ≡ next w (history_of w t calls) call
  history_push t [] call = refl
  history_push t (x ∷ calls) call = history_push (next w t x) calls call

  answers_push : (t : History) (calls : List (Call R)) (call : Call R) → answers_of w t (calls ++ call ∷ []) ≡ answers_of w t calls ++ (said w (history_of w t calls) call ∷ [])
  answers_push t [] call = refl
  answers_push t (x ∷ calls) call = ap (λ rs. said w t x ∷ rs) (answers_push (next w t x) calls call)

  goes_push : (t : History) (old : Book) (calls : List (Call R)) (rs : List (Option Answer)) (book new : Book) (call : Call R) (r : Option Answer) → Goes w t old calls rs book → Told w (history_of w t calls) call r book new → Goes w t old (calls ++ call ∷ []) (rs ++ r ∷ []) new
  goes_push t old [] [] book new call r g h = (new, subst (λ b. Told w t call r b new) g h, refl)
  goes_push t old [] (_ ∷ _) book new call r g h = absurd g
  goes_push t old (_ ∷ _) [] book new call r g h = absurd g
  goes_push t old (x ∷ calls) (_ ∷ rs) book new call r g h = (g.0, g.1, goes_push (next w t x) g.0 calls rs book new call r g.2 h)

  -- ---- the first i calls
  pub record Sofar (start : Book) (calls : List (Call R)) (i : ℕ) (rs : List (Option Answer)) (book : Book) : Type 0 where
    pub answered : rs ≡ answers_of w [] (take i calls)
    pub recorded : Records (history_of w [] (take i calls)) book
    pub empty : Records [] start
    pub each : Goes w [] start (take i calls) rs book

  pub one_more : (start : Book) (calls : List (Call R)) (i : ℕ) (call : Call R) (rs : List (Option Answer)) (r : Option Answer) (book new : Book) → i < length calls → call ≡ get_or calls i call → Sofar start calls i rs book → Told w (history_of w [] (take i calls)) call r book new → Sofar start calls (i + 1) (rs ++ r ∷ []) new
  one_more start calls i call rs r book new lt is s told =
      let more : take (i + 1) calls ≡ take i calls ++ call ∷ [] = take_more calls i call lt ∙ ap (λ x. take i calls ++ x ∷ []) (sym is) in
      record {
        answered = rw (more, answers_push [] (take i calls) call, s.answered, told.answered) refl;
        recorded = rw (more, history_push [] (take i calls) call) told.recorded;
        empty = s.empty;
        each = rw more (goes_push [] start (take i calls) rs book new call r s.each told);
      }

  pub ended : (start : Book) (calls : List (Call R)) (i : ℕ) (rs : List (Option Answer)) (book : Book) → length calls ≤ i → Sofar start calls i rs book → Ran w calls rs book
  ended start calls i rs book ge s =
      let all = take_all i calls ge in
      record { answered = rw all at s.answered; recorded = rw all at s.recorded; start = start; empty = s.empty; each = rw all at s.each }
