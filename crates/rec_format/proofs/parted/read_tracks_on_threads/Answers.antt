use Rattle.std.proofs.Common.{◌≡◌, List, ℕ, sym, ◌∙◌}
use Rattle.rec_format.proofs.PartedLaws.{gathered_all}
use Rattle.rec_format.proofs.parted.read_tracks_on_threads.Goals as goal

pub returns : goal.returns
returns g c =
    gathered_all c.args.front.now c.args.parts.now c.in_ok-read.read.items c.tracks_of.result c.in_ok-read.ensures.many c.in_ok-read.ensures.each c.tracks_of.ensures
