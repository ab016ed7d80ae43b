use Rattle.std.proofs.Common.{◌≡◌, ◌++◌, [], drop}
use Rattle.ast_text.specs.Scripts.{points_after}
use Rattle.ast_text.proofs.text.write_points.Given as goal

-- what is written, with what is left to write, is the whole
abbrev pub invariant-loop-point : goal.invariant-loop-point
invariant-loop-point l = l.out.items ++ points_after l.mark (drop l.point-index l.points) ≡ l.fn.out.items ++ points_after [] l.fn.points
