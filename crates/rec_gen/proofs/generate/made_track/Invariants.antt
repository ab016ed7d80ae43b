use Rattle.std.proofs.Common.{◌≡◌, ◌*◌}
use Rattle.rec_gen.specs.Draws.{state_after}
use Rattle.rec_gen.specs.Made.{events_on}
use Rattle.rec_gen.proofs.generate.made_track.Given as goal

-- three numbers were drawn for each event so far
abbrev pub invariant-loop-place : goal.invariant-loop-place
invariant-loop-place l = (l.events ≡ events_on l.seed l.number l.place) × (l.draws.state ≡ state_after l.seed (3 * l.place))
