use Rattle.rec_format.proofs.PartedLaws.{Gathering}
use Rattle.rec_format.proofs.parted.tracks_of.Given as goal

abbrev pub invariant-loop-track : goal.invariant-loop-track
invariant-loop-track l = Gathering l.yielded l.cpus l.least l.left
