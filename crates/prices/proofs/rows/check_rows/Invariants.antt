use Rattle.std.proofs.Common.{◌≡◌, ◌-◌, ◌<◌, get_or}
use Rattle.prices.specs.Rows.{SoundTo}
use Rattle.prices.proofs.rows.check_rows.Given as goal

-- the rows so far are sound, and `least` is the rank of the last of them
abbrev pub invariant-loop-place : goal.invariant-loop-place
invariant-loop-place g l =
    let t = g.T.RankedPrice in
    SoundTo t.ranked t.priced l.rows l.place × ((d : g.row.T.Denot) → 0 < l.place → l.least ≡ t.ranked (get_or l.rows (l.place - 1) d)) × (l.place ≡ 0 → l.least ≡ 0)
