-- How parties and keys are written.
use Rattle.std.specs.Prelude.{ℕ, List, ◌++◌, codes, decimal}
use Rattle.tally.specs.declared.keys.Party.{Party}
use Rattle.tally.specs.declared.keys.PositionKey.{PositionKey}

-- The participant, the client and the desk, a blank between each two.
abbrev pub party_shown : Party → List ℕ
party_shown p = decimal p.participant ++ (codes " " ++ (decimal p.client ++ (codes " " ++ decimal p.desk)))

-- The swaption, a blank, and the party.
abbrev pub key_shown : PositionKey → List ℕ
key_shown k = decimal k.swaption ++ (codes " " ++ party_shown k.party)
