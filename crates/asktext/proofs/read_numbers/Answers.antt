use Rattle.std.proofs.Common.{rules, ◌≡◌, ◌==◌, ◌+◌, [], ◌∷◌, ◌++◌, length, map, drop, Some, None, vec_items, sym, ap, ◌∙◌, arith, tests}
use Rattle.std.proofs.lemmas.Iterator.Consumers.{YieldsList-at, YieldsList-from_enumerate, YieldsList-turn, YieldsList-end}
use Rattle.std.proofs.lemmas.Iterator.Splits.{YieldsList-from_slice_split}
use Rattle.std.proofs.lemmas.List.{length_push, drop_all, append-nil}
use Rattle.std.proofs.lemmas.List.FromFn.{length-enumerate_from}
use Rattle.std.proofs.lemmas.Result.{err_from_is_err_and}
use Rattle.asktext.specs.declared.Fault.TheVariants.{NotANumber}
use Rattle.asktext.specs.Format.{words, value_of, first_fault}
use Rattle.asktext.specs.Parts.{number_of_word}
use Rattle.asktext.proofs.Places.{word_at, first_fault_more, first_fault_here, values_more}
use Rattle.asktext.proofs.read_numbers.Goals as goal
use Rattle.asktext.proofs.read_numbers.Goals.{In-Some, In-None}

-- the word of this turn is the next of the text's words
here : (c : In-Some) → (c.in-Some.index ≡ length c.loop-index.yielded) × (drop (length c.loop-index.yielded) (words c.args.text.now) ≡ c.in-Some.word.now ∷ drop (length c.loop-index.yielded + 1) (words c.args.text.now))
here c =
    let turn = YieldsList-turn (YieldsList-at (cc) (YieldsList-from_enumerate (YieldsList-at c.enumerate-index-items.ensures.source (YieldsList-from_slice_split _ (λ byte. byte == 32) c.args.text.now c.split.ensures.rest c.split.ensures.done c.split.ensures.closure (λ x b q k. search (rules, tests)))) c.enumerate-index-items.ensures.count)) c.loop-index.yielded _ c.loop-index.yielded_by _ _ (c.in-Some.index, c.in-Some.word) c.in-Some.is c.next.ensures.steps in
    word_at (words c.args.text.now) (length c.loop-index.yielded) c.in-Some.index c.in-Some.word.now turn

-- after the last turn there is no word more
none_left : (c : In-None) → drop (length c.loop-index.yielded) (words c.args.text.now) ≡ []
none_left c =
    let end = YieldsList-end (YieldsList-at (cc) (YieldsList-from_enumerate (YieldsList-at c.enumerate-index-items.ensures.source (YieldsList-from_slice_split _ (λ byte. byte == 32) c.args.text.now c.split.ensures.rest c.split.ensures.done c.split.ensures.closure (λ x b q k. search (rules, tests)))) c.enumerate-index-items.ensures.count)) c.loop-index.yielded _ c.loop-index.yielded_by _ _ c.in-None.is c.next.ensures.steps in
    drop_all (length c.loop-index.yielded) (words c.args.text.now) (omega (arith, end.1, length-enumerate_from 0 (words c.args.text.now)))

pub returns-in_err-n : goal.returns-in_err-n
returns-in_err-n c =
    let ws = words c.args.text.now in
    let n = length c.loop-index.yielded in
    let at = here (goal.at.returns-in_err-n c).In-Some in
    let none : None ≡ number_of_word c.in-Some.word.now = grind arith in
    let first : first_fault 1 ws ≡ Some (c.in-Some.index + 1) = sym c.loop-index.invariant.2 ∙ ap (first_fault (n + 1)) at.1 ∙ first_fault_here (n + 1) c.in-Some.word.now (drop (n + 1) ws) none ∙ ap (λ k. Some (k + 1)) (sym at.0) in
    let fault : c.in_err-n.field-0.0 ≡ NotANumber (c.in-Some.index + 1) = grind arith in
    let returned = err_from_is_err_and c.from_residual.result c.from_residual.ensures.1 in
    rw (returned.1, returned.2, fault) first

pub loop-index-preserved : goal.loop-index-preserved
loop-index-preserved c =
    let ws = words c.args.text.now in
    let n = length c.loop-index.yielded in
    let at = here (goal.at.loop-index-preserved c).In-Some in
    let word = c.in-Some.word.now in
    let later = drop (n + 1) ws in
    let found = vec_items c.loop-index.found in
    let some : Some c.in_ok-n.n ≡ number_of_word word = grind arith in
    let long = length_push c.loop-index.yielded (c.in-Some.index, c.in-Some.word) in (
      search rules,
      search rules,
      ap (λ k. first_fault (k + 1) (drop k ws)) long
          ∙ sym (first_fault_more (n + 1) c.in_ok-n.n word later some)
          ∙ ap (first_fault (n + 1)) (sym at.1)
          ∙ c.loop-index.invariant.2,
      rw (long, c.in_ok-push.ensures.items)
          (sym (values_more found c.in_ok-n.n word later some) ∙ ap (λ us. found ++ map value_of us) (sym at.1) ∙ c.loop-index.invariant.3),
    )

pub returns : goal.returns
returns c =
    let none = none_left (goal.at.returns c).In-None in
    let found = vec_items c.loop-index.found in (
      sym c.loop-index.invariant.2 ∙ ap (first_fault (length c.loop-index.yielded + 1)) none,
      sym (append-nil found) ∙ ap (λ us. found ++ map value_of us) (sym none) ∙ c.loop-index.invariant.3,
    )
