-- The positions that calls name, and who may speak for them.
use Rattle.std.specs.Prelude.{Bool, ◌&&◌, ◌==◌}
use Rattle.tally.specs.Keys.{key_in}
use Rattle.tally.specs.declared.keys.Party.{Party}
use Rattle.tally.specs.declared.keys.PositionKey.{PositionKey}
use Rattle.tally.specs.declared.calls.ExerciseNotice.{ExerciseNotice}
use Rattle.tally.specs.declared.calls.Submitter.{Submitter}
use Rattle.tally.specs.declared.calls.Withdrawal.{Withdrawal}

-- The position that a notice is for.
abbrev pub noticed_position : ExerciseNotice → PositionKey
noticed_position n = key_in n.swaption n.position

-- The position that a withdrawal is for.
abbrev pub withdrawn_position : Withdrawal → PositionKey
withdrawn_position w = key_in w.swaption w.position

-- Whether a submitter may speak for a position: both its participant and its client are the position's.
abbrev pub entitled : Submitter → Party → Bool
entitled s p = s.participant == p.participant && s.client == p.client
