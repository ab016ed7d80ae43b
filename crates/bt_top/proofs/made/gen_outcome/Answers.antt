use Rattle.std.proofs.Common.{◌∙◌}
use Rattle.bt_top.proofs.Performing.{made_with}
use Rattle.bt_top.proofs.made.gen_outcome.Goals as goal

pub returns : goal.returns
returns c = (
  c.in_ok-recording.recording,
  c.in_ok-recording.ensures.made,
  made_with c.in_ok-recording.recording c.new.result c.of.result c.new.ensures (c.of.ensures ∙ c.in_ok-bytes.ensures),
)
