use Rattle.std.proofs.Common.{◌≡◌, drop}
use Rattle.asktext.specs.Format.{all_space}
use Rattle.asktext.proofs.is_blank.Given as goal

abbrev pub invariant-loop-byte : goal.invariant-loop-byte
invariant-loop-byte l = all_space (drop l.byte-index l.text) ≡ all_space l.text
