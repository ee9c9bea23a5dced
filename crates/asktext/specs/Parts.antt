-- What the parts of `read_line` answer.
use Rattle.std.specs.Prelude.{◌≡◌, ℕ, ◌+◌, ◌-◌, ◌*◌, cond, ◌&&◌, List, map, Some, None, Ok, Err, vec_items, Option, Result, Vec, nat_le}
use Rattle.std.specs.declared.alloc.Global.{Global}
use Rattle.asktext.specs.declared.Fault.TheVariants.{NotANumber, TooFew}
use Rattle.asktext.specs.declared.ReadError.{ReadError}
use Rattle.asktext.specs.declared.ReadError.TheVariants.{Unreadable, OutOfMemory}
use Rattle.asktext.specs.Format.{is_digit, value_of, is_number, first_fault}

-- the number that a word is, if it is one
abbrev pub number_of_word : List ℕ → Option ℕ
number_of_word word = cond (is_number word) (Some (value_of word)) None

-- n with one more digit, if b is one and the number is not too large
abbrev pub grown_by : ℕ → ℕ → Option ℕ
grown_by n b = cond (is_digit b && nat_le (n * 10 + (b - 48)) 4294967295) (Some (n * 10 + (b - 48))) None

-- the numbers that the words are, or the place of the first that is none, or nothing of them for want of memory
abbrev pub Numbered : List (List ℕ) → Result (Vec ℕ Global) ReadError → Type 0
Numbered ws (Ok found) = (first_fault 1 ws ≡ None) × (vec_items found ≡ map value_of ws)
Numbered ws (Err (Unreadable (NotANumber place))) = first_fault 1 ws ≡ Some place
Numbered ws (Err (Unreadable (TooFew _))) = ⊥
Numbered ws (Err (OutOfMemory _)) = Unit {0}
