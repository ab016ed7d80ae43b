use Rattle.std.proofs.Common.{◌≡◌, List, sum}
use Rattle.bt_core.specs.declared.map.MapDecl.{MapDecl}
use Rattle.bt_core.specs.declared.step.ObjectId.TheVariants.{Shared}
use Rattle.bt_core.specs.declared.step.Step.{Step}
use Rattle.step_objects.specs.Objects.{shared_kind, SharedStands}
use Rattle.run_objects.specs.Moments.{part_lost, of_first}
use Rattle.run_objects.specs.Objects.{AllStandAt, IsPartOf}
use Rattle.run_objects.proofs.reads.part_losses.Given as goal

abbrev pub invariant-loop-part : goal.invariant-loop-part
invariant-loop-part l = (maps : List MapDecl) (steps : List Step) → AllStandAt shared_kind SharedStands (IsPartOf maps l.map.0) steps (Shared l.map) l.parts → l.total ≡ sum (of_first (part_lost maps steps l.map) l.part-index)
