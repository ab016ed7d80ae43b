-- The objects of a run that has ended, which stand for its steps.
use Rattle.std.specs.Prelude.{◌≡◌, ℕ, ◌+◌, ◌<◌, List, All, length, map, Some, slice_get, slice_index_or, Vec}
use Rattle.std.specs.declared.alloc.Global.{Global}
use Rattle.bt_core.specs.declared.map.MapDecl.{MapDecl}
use Rattle.bt_core.specs.declared.step.ObjectId.TheVariants.{Shared, Cpu}
use Rattle.bt_core.specs.declared.step.Step.{Step}
use Rattle.bt_core.specs.Kinds.{IsFineDecl}
use Rattle.map_ops.specs.Parts.{part_count}
use Rattle.turn_lock.specs.History.{Each}
use Rattle.step_objects.specs.declared.shared.SharedPart.{SharedPart}
use Rattle.step_objects.specs.CpuTables.{map_at}
use Rattle.step_objects.specs.Objects.{shared_kind, SharedStands, cpu_kind, CpuStands}
use Rattle.run_objects.specs.Moments.{Moment}
use Rattle.run_objects.specs.Worlds.{World, IsOwn}
use Rattle.run_objects.specs.declared.closed.Closed.{Closed}
use Rattle.run_objects.specs.declared.objects.MapParts.{MapParts}
use Rattle.run_objects.specs.declared.own.OwnObject.{OwnObject}
use Rattle.run_objects.specs.Objects.{AllStandAt, IsPartOf}

-- an object without its clock
abbrev pub object_of : {O : Type 0} → OwnObject O → O
object_of own = own.object

abbrev pub objects_in : MapParts → List SharedPart
objects_in held = map object_of held.parts.items

abbrev pub part_list : Vec SharedPart Global → List SharedPart
part_list parts = parts.items

-- all parts of the map with this number: none of an aggregation
pub record AreParts (w : World) (steps : List Step) (m : ℕ) (parts : List SharedPart) : Type 0 where
  pub count : (decl : MapDecl) → slice_get w.maps m ≡ Some decl → length parts ≡ part_count decl.kind
  pub each : AllStandAt shared_kind SharedStands (IsPartOf w.maps m) steps (Shared (map_at m)) parts

-- all objects of a world that hold maps
pub record MapsStand (w : World) (steps : List Step) (closed : Closed) : Type 0 where
  pub map_count : length closed.parts.items ≡ length w.maps
  pub parts : (m : ℕ) (d : Vec SharedPart Global) → m < length closed.parts.items → AreParts w steps m (slice_index_or closed.parts.items m d).items
  pub table_count : length closed.tables.items ≡ w.cpus + 1
  pub tables : AllStandAt cpu_kind CpuStands (λ maps. maps ≡ w.maps) steps Cpu closed.tables.items

-- they stand for the steps of a moment, each of which could be made, and the maps are well formed
pub record AreClosedAt (at : Moment) (closed : Closed) : Type 0 where
  pub fine : All IsFineDecl at.world.maps
  pub possible : Each (λ (s : Step). IsOwn at.world s.object s.op) at.steps
  pub stand : MapsStand at.world at.steps closed
