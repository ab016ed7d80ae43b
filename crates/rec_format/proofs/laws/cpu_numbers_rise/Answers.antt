use Rattle.recordings.proofs.PlaceLaws.{numbers_rise}
use Rattle.rec_format.proofs.laws.cpu_numbers_rise.Goals as goal

pub returns : goal.returns
returns c = λ r i j first second valid. numbers_rise 0 r.cpus i j first second valid.cpus.numbered
