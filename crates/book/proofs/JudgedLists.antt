-- A list that a book judges by a search is answered by the table.
use Rattle.std.proofs.Common.{arith, ◌≡◌, Option, ℕ, ltb, is_ok, Some, Ok, Err, Result, sym}
use Rattle.std.proofs.lemmas.List.{length-map}
use Rattle.tables.proofs.Entries.{entered_missing}
use Rattle.tables.specs.Finding.{Found}
use Rattle.std.specs.List.{insert}
use Rattle.tables.specs.Orders.{nat_one}
use Rattle.tally.specs.Table.{Answer, list_answer}
use Rattle.tally.specs.Tally.{is_listed}
use Rattle.tally.specs.declared.listings.Terms.{Terms}
use Rattle.book.proofs.Ascents.{swaptions_ascend}
use Rattle.book.proofs.Held.{as_many_as_count}
use Rattle.book.proofs.Figures.{listed_terms_found, listed_terms_missing}
use Rattle.book.specs.Calls.{list_says, terms_of_rows}
use Rattle.book.specs.Held.{rows_in}
use Rattle.book.specs.Rows.{fresh_swaption, with_swaption}
use Rattle.book.specs.declared.books.Book.{Book}

module _ (book : Book) (terms : Terms) (place : Result ℕ ℕ) (found : Found (λ s. s.terms.number) ltb (rows_in book.swaptions) terms.number place) where
  -- a number is listed just if the search found it
  found_is_listed : (r : Result ℕ ℕ) → Found (λ s. s.terms.number) ltb (rows_in book.swaptions) terms.number r → is_ok r ≡ is_listed terms.number (terms_of_rows (rows_in book.swaptions))
  found_is_listed (Ok i) f = grind (arith, listed_terms_found (rows_in book.swaptions) (swaptions_ascend book) terms.number i (fresh_swaption terms) f)
  found_is_listed (Err i) f = grind (arith, listed_terms_missing (rows_in book.swaptions) (swaptions_ascend book) terms.number i f)

  -- an answer by what the search found is the table's
  pub list_judged : (stated : Option Terms) (answer : Answer) → stated ≡ Some terms → answer ≡ list_answer (Some terms) (is_ok place) book.swaptions.count → answer ≡ list_says (rows_in book.swaptions) stated
  list_judged stated answer is says =
      grind (arith, is, says, found_is_listed place found, length-map (rows_in book.swaptions) (λ s. s.terms), as_many_as_count book.swaptions)

  -- a new row put in where the search said is in its place
  pub list_puts_in : (i : ℕ) → place ≡ Err i → insert (rows_in book.swaptions) i (fresh_swaption terms) ≡ with_swaption terms (rows_in book.swaptions)
  list_puts_in i is = sym (entered_missing (λ s. s.terms.number) ltb nat_one terms.number (λ s. s) (fresh_swaption terms) (rows_in book.swaptions) (swaptions_ascend book) i (rw is at found))
