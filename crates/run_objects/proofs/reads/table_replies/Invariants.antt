use Rattle.std.proofs.Common.{◌≡◌, List}
use Rattle.bt_core.specs.declared.map.MapDecl.{MapDecl}
use Rattle.bt_core.specs.declared.step.ObjectId.TheVariants.{Cpu}
use Rattle.bt_core.specs.declared.step.Step.{Step}
use Rattle.step_objects.specs.Objects.{cpu_kind, CpuStands}
use Rattle.run_objects.specs.Moments.{table_reply, of_first}
use Rattle.run_objects.specs.Objects.{AllStandAt}
use Rattle.run_objects.proofs.reads.table_replies.Given as goal

abbrev pub invariant-loop-table : goal.invariant-loop-table
invariant-loop-table l = (maps : List MapDecl) (steps : List Step) → AllStandAt cpu_kind CpuStands (λ ms. ms ≡ maps) steps Cpu l.tables → l.replies.items ≡ of_first (table_reply maps steps l.map) l.table-index
