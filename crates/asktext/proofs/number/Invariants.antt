use Rattle.std.proofs.Common.{◌≡◌, ◌≤◌, drop}
use Rattle.asktext.specs.Parts.{number_of_word}
use Rattle.asktext.proofs.Digits.{number_after}
use Rattle.asktext.proofs.number.Given as goal

abbrev pub invariant-loop-byte : goal.invariant-loop-byte
invariant-loop-byte l = (l.value ≤ 4294967295) × (number_after l.value (drop l.byte-index l.word) ≡ number_of_word l.word)
