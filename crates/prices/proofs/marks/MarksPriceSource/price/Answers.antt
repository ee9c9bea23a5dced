use Rattle.std.proofs.Common.{◌≡◌, ltb, get_or, Ok, None, Some, sym, ap, ◌∙◌, subst, rules}
use Rattle.std.specs.Result.{result_ok}
use Rattle.tables.specs.Finding.{Found}
use Rattle.prices.proofs.MarkPlaces.{marked_found, marked_missing}
use Rattle.prices.proofs.Ranks.{never_falling_in_order}
use Rattle.prices.proofs.marks.MarksPriceSource.price.Goals as goal

pub returns-in_err-place-clause-answered : goal.returns-in_err-place-clause-answered
returns-in_err-place-clause-answered c =
    let marks = c.args.self.now in
    let order = never_falling_in_order (λ mark. mark.index) marks.rows.items marks.never_falling in
    let found : Found (λ mark. mark.index) ltb marks.rows.items c.args.index c.find.result = search rules in
    let none : result_ok c.find.result ≡ None = search rules in
    c.from_residual.ensures ∙ sym (marked_missing marks.rows.items c.args.index order c.find.result found none)

pub returns-clause-answered : goal.returns-clause-answered
returns-clause-answered c =
    let marks = c.args.self.now in
    let order = never_falling_in_order (λ mark. mark.index) marks.rows.items marks.never_falling in
    let found : Found (λ mark. mark.index) ltb marks.rows.items c.args.index c.find.result = search rules in
    let some : c.find.result ≡ Ok c.in_ok-place.place = search rules in
    let price = marked_found marks.rows.items c.args.index order c.in_ok-place.place c.index.result.now (subst (Found (λ mark. mark.index) ltb marks.rows.items c.args.index) some found) in
    let read : get_or marks.rows.items c.in_ok-place.place c.index.result.now ≡ c.index.result.now = search rules in
    sym (price ∙ ap (λ mark. Some mark.price) read)
