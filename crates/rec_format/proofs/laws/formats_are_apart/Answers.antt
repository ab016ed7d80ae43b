use Rattle.std.proofs.Common.{inl, inr}
use Rattle.recordings.proofs.PlaceLaws.{one_format}
use Rattle.rec_format.proofs.laws.formats_are_apart.Goals as goal

pub returns : goal.returns
returns c = record {
  id = λ r i j first second valid at_i at_j same. one_format r.formats i j first second valid.formats.apart at_i at_j (inl same);
  name = λ r i j first second valid at_i at_j named. one_format r.formats i j first second valid.formats.apart at_i at_j (inr named);
}
