use Rattle.std.proofs.Common.{◌≡◌, ◌++◌, []}
use Rattle.turn_lock.specs.History.{Each}
use Rattle.stamped.specs.Numbered.{numbered}
use Rattle.step_objects.specs.Objects.{SharedStands}
use Rattle.shared_maps.specs.Parts.{made_for, part_at}
use Rattle.shared_maps.proofs.objects.push_map.Given as goal

abbrev pub invariant-loop-part : goal.invariant-loop-part
invariant-loop-part l = record {
  parts : made_for l.objects.items ≡ made_for l.initial.objects.items ++ numbered (part_at l.number l.decl) 0 l.part;
  stand : Each (λ object. SharedStands object.1 []) l.objects.items;
}
