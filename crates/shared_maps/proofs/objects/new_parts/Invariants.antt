use Rattle.std.proofs.Common.{◌≡◌, ◌++◌, [], drop, length}
use Rattle.turn_lock.specs.History.{Each}
use Rattle.step_objects.specs.Objects.{SharedStands}
use Rattle.shared_maps.specs.Parts.{made_for, parts_from, firsts_from}
use Rattle.shared_maps.proofs.objects.new_parts.Given as goal

abbrev pub invariant-loop-place : goal.invariant-loop-place
invariant-loop-place l = record {
  parts : made_for l.objects.items ++ parts_from l.place (drop l.place l.maps) ≡ parts_from 0 l.maps;
  firsts : l.firsts.items ++ firsts_from (length l.objects.items) (drop l.place l.maps) ≡ firsts_from 0 l.maps;
  stand : Each (λ object. SharedStands object.1 []) l.objects.items;
}
