use Rattle.std.proofs.Common.{◌≡◌}
use Rattle.rec_gen.specs.Made.{made_tracks}
use Rattle.rec_gen.proofs.generate.generate.Given as goal

-- the tracks so far
abbrev pub invariant-loop-number : goal.invariant-loop-number
invariant-loop-number l = l.cpus ≡ made_tracks l.seed l.count l.number
