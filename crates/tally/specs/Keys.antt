-- Parties, and the keys of positions in their order.
use Rattle.std.specs.Prelude.{ℕ, Bool, true, false, cond, ◌&&◌, ◌==◌, nat_lt}
use Rattle.tally.specs.declared.keys.Party.{Party}
use Rattle.tally.specs.declared.keys.PositionKey.{PositionKey}

-- The key of a party's position in a swaption.
abbrev pub key_in : ℕ → Party → PositionKey
key_in swaption p = record { swaption = swaption; party = p }

-- Whether two parties are one.
abbrev pub same_party : Party → Party → Bool
same_party p q = p.participant == q.participant && p.client == q.client && p.desk == q.desk

-- Whether two keys are one.
abbrev pub same_key : PositionKey → PositionKey → Bool
same_key j k = j.swaption == k.swaption && same_party j.party k.party

-- Whether one number comes before another or, if they are equal, the rest decides so.
abbrev pub first_by : ℕ → ℕ → Bool → Bool
first_by a b rest = cond (nat_lt a b) true (cond (nat_lt b a) false rest)

-- Whether one party stands before another: by participant, then client and desk.
abbrev pub party_before : Party → Party → Bool
party_before p q = first_by p.participant q.participant (first_by p.client q.client (nat_lt p.desk q.desk))

-- Whether one key stands before another: by swaption, then participant, client and desk.
abbrev pub before : PositionKey → PositionKey → Bool
before j k = first_by j.swaption k.swaption (party_before j.party k.party)
