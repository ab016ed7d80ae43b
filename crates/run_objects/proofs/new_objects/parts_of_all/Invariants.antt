use Rattle.std.proofs.Common.{◌≡◌, ℕ, ◌<◌, length, slice_index_or}
use Rattle.std.specs.Prelude.{slice_get, Some}
use Rattle.bt_core.specs.declared.map.MapDecl.{MapDecl}
use Rattle.run_objects.specs.declared.objects.MapParts.{MapParts}
use Rattle.run_objects.specs.News.{AreNewParts}
use Rattle.run_objects.proofs.new_objects.parts_of_all.Given as goal

abbrev pub invariant-loop-map : goal.invariant-loop-map
invariant-loop-map l = record {
  count : length l.all.items ≡ l.map;
  each : (m : ℕ) (decl : MapDecl) (d : MapParts) → m < length l.all.items → slice_get l.maps m ≡ Some decl → AreNewParts m decl (slice_index_or l.all.items m d);
}
