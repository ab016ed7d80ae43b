use Rattle.std.proofs.Common.{take}
use Rattle.script_programs.specs.Making.{AreMade}
use Rattle.script_programs.proofs.programs.programs_of.Given as goal

abbrev pub invariant-loop-probe : goal.invariant-loop-probe
invariant-loop-probe l = AreMade (take l.probe-index l.probe-items) l.programs
