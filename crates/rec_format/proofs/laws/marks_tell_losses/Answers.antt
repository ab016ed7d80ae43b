use Rattle.recordings.proofs.PlaceLaws.{mark_tells}
use Rattle.rec_format.proofs.laws.marks_tell_losses.Goals as goal

pub returns : goal.returns
returns c = record {
  some = λ r cpu place time count valid at. (mark_tells r cpu place time count valid at).1;
  version = λ r cpu place time count valid at. (mark_tells r cpu place time count valid at).0;
}
