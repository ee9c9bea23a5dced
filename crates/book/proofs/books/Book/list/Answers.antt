use Rattle.std.proofs.Common.{arith, refl, ◌≡◌, ◌∷◌, Some, Ok, Err, sym, subst, rules}
use mathlib.Core.Logic.{∥∥₁_map}
use Rattle.tally.specs.History.{listed}
use Rattle.tally.specs.Table.{accepted}
use Rattle.book.proofs.JudgedLists.{list_judged, list_puts_in}
use Rattle.book.proofs.RecordedLists.{list_recorded}
use Rattle.book.proofs.books.Book.list.Goals as goal
use Rattle.book.specs.Held.{rows_in}
use Rattle.book.specs.Judging.{ListJudged}
use Rattle.book.specs.Rows.{with_swaption}

pub returns-in_err-at-clause-answer : goal.returns-in_err-at-clause-answer
returns-in_err-at-clause-answer c =
    let refusal = c.in_err-at.field-0.0 in
    let was : c.judge_list.result ≡ Err refusal = search rules in
    let is : c.from_residual.result ≡ Err refusal = search rules in
    list_judged c.args.self.now c.in-Ok.terms c.place_of-place.result c.place_of-place.ensures _ c.from_residual.result (rw c.in-Ok.is at c.try_from.ensures) (grind (arith, is, subst (ListJudged c.in-Ok.terms c.place_of-place.result c.args.self.now.swaptions.count) was c.judge_list.ensures))

pub invariant_of-self : goal.invariant_of-self
invariant_of-self c =
    let book = c.args.self.now in
    let terms = c.in-Ok.terms in
    let was : c.judge_list.result ≡ Ok c.in_ok-at.at = search rules in
    let judged = subst (ListJudged terms c.place_of-place.result book.swaptions.count) was c.judge_list.ensures in
    let says = list_judged book terms c.place_of-place.result c.place_of-place.ensures (Some terms) accepted refl (sym judged.1) in
    let is : rows_in c.insert.new.self ≡ with_swaption terms (rows_in book.swaptions) = rw (c.insert.ensures, c.fresh.ensures) (list_puts_in book terms c.place_of-place.result c.place_of-place.ensures c.in_ok-at.at judged.0) in
    record { fair = book.fair; led = ∥∥₁_map book.led (λ x. (listed terms ∷ x.0, list_recorded x.0 book.swaptions c.insert.new.self book.positions book.latest terms x.1 (sym says) is)) }

pub returns-clause-answer : goal.returns-clause-answer
returns-clause-answer c =
    let was : c.judge_list.result ≡ Ok c.in_ok-at.at = search rules in
    let judged = subst (ListJudged c.in-Ok.terms c.place_of-place.result c.args.self.now.swaptions.count) was c.judge_list.ensures in
    list_judged c.args.self.now c.in-Ok.terms c.place_of-place.result c.place_of-place.ensures _ accepted (rw c.in-Ok.is at c.try_from.ensures) (sym judged.1)

pub returns-clause-swaptions : goal.returns-clause-swaptions
returns-clause-swaptions c =
    let was : c.judge_list.result ≡ Ok c.in_ok-at.at = search rules in
    let judged = subst (ListJudged c.in-Ok.terms c.place_of-place.result c.args.self.now.swaptions.count) was c.judge_list.ensures in
    let stated = rw c.in-Ok.is at c.try_from.ensures in
    rw (c.insert.ensures, c.fresh.ensures, stated) (list_puts_in c.args.self.now c.in-Ok.terms c.place_of-place.result c.place_of-place.ensures c.in_ok-at.at judged.0)
