use Rattle.std.proofs.Common.{◌≡◌, ℕ, ◌+◌, ◌-◌, ◌++◌, ◌∷◌, [], sym, ap, subst, arith}
use Rattle.rec_format.proofs.PartedLaws.{Gathering, gathering_more}
use Rattle.rec_format.proofs.parted.tracks_of.Goals as goal

pub loop-track-preserved : goal.loop-track-preserved
loop-track-preserved c =
    let more = gathering_more c.loop-track.yielded c.loop-track.cpus c.push.new.self c.in-Some.track c.in-Some-track.track c.loop-track.least c.loop-track.left
    c.loop-track.invariant c.in-Some-track.is (omega (arith, c.from.ensures, c.if-from-least.false)) (omega (arith, c.len-count.ensures, c.if-count-left.false)) c.in_ok-push.ensures.ok in
    rw (c.from-least.ensures, c.len-count.ensures) more
