use Rattle.std.proofs.Common.{◌≡◌, map, []}
use Rattle.bt_core.specs.declared.step.ObjectId.TheVariants.{Cpu}
use Rattle.turn_lock.specs.History.{Each}
use Rattle.stamped.specs.Numbered.{numbered}
use Rattle.step_objects.specs.Objects.{cpu_kind, CpuStands}
use Rattle.percpu_tables.proofs.objects.new_tables.Given as goal

abbrev pub invariant-loop-actor : goal.invariant-loop-actor
invariant-loop-actor l = record {
  ids : map (λ object. object.0) l.objects.items ≡ numbered Cpu 0 l.actor;
  kinds : map (λ object. cpu_kind object.1) l.objects.items ≡ numbered (λ _. l.maps) 0 l.actor;
  stand : Each (λ object. CpuStands object.1 []) l.objects.items;
}
