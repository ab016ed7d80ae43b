use Rattle.std.proofs.Common.{◌≡◌, length}
use Rattle.step_objects.specs.Objects.{cpu_kind, CpuStands}
use Rattle.run_objects.specs.News.{AreNew}
use Rattle.run_objects.proofs.new_objects.tables_of.Given as goal

abbrev pub invariant-loop : goal.invariant-loop
invariant-loop l = record {
  new : AreNew cpu_kind CpuStands l.maps l.tables.items;
  count : length l.tables.items ≡ l.counter;
}
