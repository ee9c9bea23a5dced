-- How a fault is written.
use Rattle.std.specs.Prelude.{ℕ, List, ◌++◌, codes, decimal}
use Rattle.asktext.specs.declared.Fault.{Fault}
use Rattle.asktext.specs.declared.Fault.TheVariants.{NotANumber, TooFew}
use Rattle.asktext.specs.declared.ReadError.{ReadError}
use Rattle.asktext.specs.declared.ReadError.TheVariants.{Unreadable, OutOfMemory}

-- why a line is no ask, in words
abbrev pub fault_shown : Fault → List ℕ
fault_shown (NotANumber place) = codes "word " ++ (decimal place ++ codes " is no number from 0 to 4294967295")
fault_shown (TooFew count) = codes "an ask has at least 3 numbers, and this line has " ++ decimal count

-- why a line is not read, in words
abbrev pub error_shown : ReadError → List ℕ
error_shown (Unreadable why) = fault_shown why
error_shown (OutOfMemory _) = codes "out of memory"
