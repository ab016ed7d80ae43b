use Rattle.rec_format.proofs.UniqueLaws.{one_recording}
use Rattle.rec_format.proofs.laws.one_recording.Goals as goal

pub returns : goal.returns
returns c = one_recording
