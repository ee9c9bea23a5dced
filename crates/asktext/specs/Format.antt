-- What a line says. A line is a list of bytes, each a number from 0 to 255.
use Rattle.std.specs.Prelude.{ℕ, ◌+◌, ◌-◌, ◌*◌, Bool, cond, ◌&&◌, ◌||◌, List, [], ◌∷◌, map, length, take, drop, Some, None, Ok, Err, vec_items, Option, Result, ◌==◌, nat_le, nat_lt, slice_index}
use Rattle.std.specs.List.{fold, list_all, slice_split}
use Rattle.asktext.specs.declared.AskLine.{AskLine}
use Rattle.asktext.specs.declared.Fault.{Fault}
use Rattle.asktext.specs.declared.Fault.TheVariants.{NotANumber, TooFew}
use Rattle.asktext.specs.declared.ReadError.{ReadError}
use Rattle.asktext.specs.declared.ReadError.TheVariants.{Unreadable, OutOfMemory}

-- nothing, or why it is no ask, or an ask: a rule's number, a total, a block and the open positions
pub data Saying : Type 0 where
  nothing : Saying
  fault : Fault → Saying
  asks : ℕ → ℕ → ℕ → List ℕ → Saying

-- the last byte is a carriage return
abbrev pub ends_in_return : List ℕ → Bool
ends_in_return line = nat_lt 0 (length line) && slice_index line (length line - 1) == 13

-- the line without the carriage return that it may end in
abbrev pub without_return : List ℕ → List ℕ
without_return line = cond (ends_in_return line) (take (length line - 1) line) line

-- the first byte is `#`
abbrev pub is_comment : List ℕ → Bool
is_comment text = nat_lt 0 (length text) && slice_index text 0 == 35

-- a blank or a tab
abbrev pub is_space : ℕ → Bool
is_space b = b == 32 || b == 9

-- there is nothing but blanks and tabs
abbrev pub all_space : List ℕ → Bool
all_space text = list_all is_space text

-- the words: what stands between single blanks
abbrev pub words : List ℕ → List (List ℕ)
words text = slice_split (λ byte. byte == 32) text

-- a digit, from `0` to `9`
abbrev pub is_digit : ℕ → Bool
is_digit b = nat_le 48 b && nat_le b 57

-- every byte is a digit
abbrev pub all_digits : List ℕ → Bool
all_digits word = list_all is_digit word

-- the decimal number that digits write, where those of n stand before them
abbrev pub value_after : ℕ → List ℕ → ℕ
value_after n digits = fold (λ value digit. value * 10 + (digit - 48)) n digits

-- the decimal number that the digits of a word write
abbrev pub value_of : List ℕ → ℕ
value_of word = value_after 0 word

-- at least one byte, digits only, and a value of 4,294,967,295 at most
abbrev pub is_number : List ℕ → Bool
is_number word = nat_lt 0 (length word) && (all_digits word && nat_le (value_of word) 4294967295)

-- the place of the first word that is no number, if there is one, where the words' places begin at k
abbrev pub first_fault : ℕ → List (List ℕ) → Option ℕ
first_fault k [] = None
first_fault k (w ∷ ws) = cond (is_number w) (first_fault (k + 1) ws) (Some k)

-- what numbers say: fewer than three are a fault, and more are an ask, of the first three and the list of the others
abbrev pub numbers_say : List ℕ → Saying
numbers_say ns = cond (nat_lt (length ns) 3) (fault (TooFew (length ns))) (asks (slice_index ns 0) (slice_index ns 1) (slice_index ns 2) (drop 3 ns))

-- what words say: the first that is no number is a fault, and else their values count
abbrev pub words_say : List (List ℕ) → Saying
words_say ws = elim (first_fault 1 ws) [ Some k ↦ fault (NotANumber k) | None ↦ numbers_say (map value_of ws) ]

-- what a text says: a comment and a blank one say nothing, and of any other the words count
abbrev pub text_says : List ℕ → Saying
text_says text = cond (is_comment text || all_space text) nothing (words_say (words text))

-- what a line says
abbrev pub line_says : List ℕ → Saying
line_says line = text_says (without_return line)

-- what an answer of `read_line` says of the line: want of memory says nothing of it
abbrev pub answer_says : Result (Option AskLine) ReadError → Option Saying
answer_says (Ok None) = Some nothing
answer_says (Ok (Some ask)) = Some (asks ask.rule ask.total ask.block (vec_items ask.«open»))
answer_says (Err (Unreadable why)) = Some (fault why)
answer_says (Err (OutOfMemory _)) = None
