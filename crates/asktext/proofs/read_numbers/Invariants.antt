use Rattle.std.proofs.Common.{◌≡◌, ◌+◌, ◌++◌, map, length, drop, vec_items}
use Rattle.asktext.specs.Format.{words, value_of, first_fault}
use Rattle.asktext.proofs.read_numbers.Given as goal

abbrev pub invariant-loop-index : goal.invariant-loop-index
invariant-loop-index l =
    (goal.iterator-loop-index).can_next l.index-iterator
    × (goal.iterator-loop-index).is_finite l.index-iterator
    × (first_fault (length l.yielded + 1) (drop (length l.yielded) (words l.text)) ≡ first_fault 1 (words l.text))
    × (vec_items l.found ++ map value_of (drop (length l.yielded) (words l.text)) ≡ map value_of (words l.text))
