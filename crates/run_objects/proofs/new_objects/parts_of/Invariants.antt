use Rattle.std.proofs.Common.{◌≡◌, length}
use Rattle.step_objects.specs.Objects.{shared_kind, SharedStands}
use Rattle.run_objects.specs.News.{AreNew}
use Rattle.run_objects.proofs.new_objects.parts_of.Given as goal

abbrev pub invariant-loop : goal.invariant-loop
invariant-loop l = record {
  new : AreNew shared_kind SharedStands (record { map = record { 0 = l.map }; decl = l.decl }) l.parts.items;
  count : length l.parts.items ≡ l.counter;
}
