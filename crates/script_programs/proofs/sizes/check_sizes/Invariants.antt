use Rattle.std.proofs.Common.{◌≡◌, drop}
use Rattle.script_programs.specs.Sizes.{first_size_fault}
use Rattle.script_programs.proofs.sizes.check_sizes.Given as goal

-- what is left to see decides
abbrev pub invariant-loop-place : goal.invariant-loop-place
invariant-loop-place l = first_size_fault l.place (drop l.place l.bodies) ≡ first_size_fault 0 l.bodies
