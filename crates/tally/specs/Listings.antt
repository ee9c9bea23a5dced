-- The terms of a swaption: which are sound, and which a listing states.
use Rattle.std.specs.Prelude.{◌≡◌, Bool, ◌&&◌, Some, None, MatchResult, Option, Result, nat_le, nat_lt}
use Rattle.std.specs.Option.{option_map}
use Rattle.prices.specs.Kinds.{kind_of}
use Rattle.prices.specs.declared.payoffs.Kind.{Kind}
use Rattle.prices.specs.declared.payoffs.Payoff.{Payoff}
use Rattle.prices.specs.declared.payoffs.UnknownKind.{UnknownKind}
use Rattle.tally.specs.declared.listings.Blocks.{Blocks}
use Rattle.tally.specs.declared.listings.Listing.{Listing}
use Rattle.tally.specs.declared.listings.Terms.{Terms}

-- The terms that a listing states, with its kind known.
abbrev pub with_kind : Listing → Kind → Terms
with_kind l kind = record {
  number = l.number;
  index = l.index;
  payoff = record { kind = kind; strike = l.strike; minimum = l.minimum };
  blocks = l.blocks;
  cease = l.cease;
  start = l.start;
  cutoff = l.cutoff;
}

-- The terms that a listing states; none if its kind is neither payer nor receiver.
abbrev pub terms_of : Listing → Option Terms
terms_of l = option_map (with_kind l) (kind_of l.kind)

-- The result is the terms that the listing states, or holds the number of a kind that there is not.
abbrev pub Stated : Listing → Result Terms UnknownKind → Type 0
Stated l result = MatchResult result (λ terms. terms_of l ≡ Some terms) (λ unknown. (terms_of l ≡ None) × (unknown.0 ≡ l.kind))

-- Whether an exercise block, where 0 means that none is given, and an assignment block are in their ranges.
abbrev pub sound_blocks : Blocks → Bool
sound_blocks b = nat_le b.exercise 2000000000 && nat_le 1 b.assignment && nat_le b.assignment 2000000000

-- Whether a strike and a minimum value are in their ranges.
abbrev pub sound_payoff : Payoff → Bool
sound_payoff p = nat_le p.strike 200000 && nat_le p.minimum 400000000000000

-- Whether every field is in its range and the moments are in order. A number and an index are at most 65,535 by
-- their type.
abbrev pub sound_terms : Terms → Bool
sound_terms t =
    nat_le 1 t.number && sound_payoff t.payoff && sound_blocks t.blocks
    && nat_le t.cease t.start && nat_lt t.start t.cutoff
