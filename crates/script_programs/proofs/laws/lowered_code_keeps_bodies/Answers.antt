use Rattle.script_programs.proofs.laws.lowered_code_keeps_bodies.Goals as goal
use Rattle.script_programs.proofs.Lowered.{keep_bodies}

pub returns : goal.returns
returns c script probes codes lowers keep = keep_bodies script probes codes lowers keep
