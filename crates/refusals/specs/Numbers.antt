-- The table of refusals.
use Rattle.std.specs.Prelude.{ℕ, Some, None, Option}
use Rattle.refusals.specs.declared.Refusal.{Refusal}
use Rattle.refusals.specs.declared.Refusal.TheVariants.{InvalidTerms, AlreadyListed, NotListed, MomentPassed, OutsideWindow, AlreadyDone, NotEntitled, NotABuyer, InvalidAmount, NotARaise, NotStanding, NoPrice, TradedTooMuch, BookFull, UnsoundAsk, BadHeader, BadRow}

-- The number of each refusal, and the place in the day file that it names, if any.
abbrev pub numbered : Refusal → ℕ × Option ℕ
numbered InvalidTerms = (1, None)
numbered AlreadyListed = (2, None)
numbered NotListed = (3, None)
numbered MomentPassed = (4, None)
numbered OutsideWindow = (5, None)
numbered AlreadyDone = (6, None)
numbered NotEntitled = (7, None)
numbered NotABuyer = (8, None)
numbered InvalidAmount = (9, None)
numbered NotARaise = (10, None)
numbered NotStanding = (11, None)
numbered NoPrice = (12, None)
numbered TradedTooMuch = (13, None)
numbered BookFull = (14, None)
numbered UnsoundAsk = (15, None)
numbered (BadHeader place) = (16, Some place)
numbered (BadRow place) = (17, Some place)

-- The number alone.
abbrev pub number_of : Refusal → ℕ
number_of refusal = (numbered refusal).0

-- The place alone.
abbrev pub place_of : Refusal → Option ℕ
place_of refusal = (numbered refusal).1
