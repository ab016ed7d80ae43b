-- Objects of a run that stand for the steps at them. No public contract speaks of it.
use Rattle.std.specs.Prelude.{◌≡◌, ℕ, suc, max, ◌+◌, ◌<◌, List, [], ◌∷◌, ◌++◌, length, slice_get, slice_index_or, Some}
use Rattle.bt_core.specs.declared.map.MapDecl.{MapDecl}
use Rattle.bt_core.specs.declared.step.ObjectId.{ObjectId}
use Rattle.bt_core.specs.declared.step.ObjectId.TheVariants.{Shared, Cpu, Clock, Out}
use Rattle.bt_core.specs.declared.step.Op.{Op}
use Rattle.bt_core.specs.declared.step.Reply.{Reply}
use Rattle.bt_core.specs.declared.step.Step.{Step}
use Rattle.bt_core.specs.Steps.{on_object, operations}
use Rattle.map_ops.specs.Parts.{part_count}
use Rattle.step_objects.specs.declared.shared.PartKind.{PartKind}
use Rattle.step_objects.specs.Clocks.{clock_kind, ClockStands}
use Rattle.step_objects.specs.CpuTables.{map_at}
use Rattle.step_objects.specs.Objects.{shared_kind, SharedStands, cpu_kind, CpuStands}
use Rattle.weave.specs.Lists.{greatest}
use Rattle.run_objects.specs.declared.own.OwnObject.{OwnObject}
use Rattle.run_objects.specs.declared.objects.MapParts.{MapParts}
use Rattle.run_objects.specs.declared.objects.Objects.{Objects}
use Rattle.run_objects.specs.Worlds.{World, answers}

-- objects of a type, by their kinds and the operations that they stand for
module _ {O K : Type 0} (kind_of : O → K) (holds : O → List Op → Type 0) (fits : K → Type 0) (steps : List Step) where
  -- the object has a fitting kind and stands for the steps at it
  pub record StandsAt (id : ObjectId) (object : O) : Type 0 where
    pub fit : fits (kind_of object)
    pub stood : holds object (operations (on_object id steps))

  -- so do all of a list, each for the object of its place
  abbrev pub AllStandAt : (ℕ → ObjectId) → List O → Type 0
  AllStandAt id list = (k : ℕ) (d : O) → k < length list → StandsAt (id k) (slice_index_or list k d)

  -- so does one with a clock, which is the greatest stamp of the steps at it
  pub record OwnStands (id : ObjectId) (own : OwnObject O) : Type 0 where
    pub stands : StandsAt id own.object
    pub clock : own.clock ≡ greatest (on_object id steps)

  -- so do all of a list, each for the object of its place
  abbrev pub AllStand : (ℕ → ObjectId) → List (OwnObject O) → Type 0
  AllStand id list = (k : ℕ) (d : OwnObject O) → k < length list → OwnStands (id k) (slice_index_or list k d)

-- a part of the map with this number
pub record IsPartOf (maps : List MapDecl) (m : ℕ) (of : PartKind) : Type 0 where
  pub number : of.map ≡ map_at m
  pub declared : slice_get maps m ≡ Some of.decl

-- all parts of a map: none of an aggregation
pub record PartsStand (w : World) (steps : List Step) (m : ℕ) (list : MapParts) : Type 0 where
  pub count : (decl : MapDecl) → slice_get w.maps m ≡ Some decl → length list.parts.items ≡ part_count decl.kind
  pub each : AllStand shared_kind SharedStands (IsPartOf w.maps m) steps (Shared (map_at m)) list.parts.items

-- all objects of a world
pub record Stand (w : World) (steps : List Step) (objects : Objects) : Type 0 where
  pub map_count : length objects.shared.items ≡ length w.maps
  pub shared : (m : ℕ) (d : MapParts) → m < length objects.shared.items → PartsStand w steps m (slice_index_or objects.shared.items m d)
  pub table_count : length objects.tables.items ≡ w.cpus + 1
  pub tables : AllStand cpu_kind CpuStands (λ maps. maps ≡ w.maps) steps Cpu objects.tables.items
  pub ticks : OwnStands clock_kind ClockStands (λ of. of ≡ record { cpus = w.cpus; ticks = w.ticks }) steps Clock objects.ticks
  pub out : objects.out.clock ≡ greatest (on_object Out steps)

-- the reply is the object's after these steps, the stamp one more than the greater of both clocks, and with such a step the
-- objects stand for one step more
pub record IsAnswer (w : World) (steps : List Step) (objects : Objects) (object : ObjectId) (op : Op) (floor : ℕ) (r : Reply × ℕ) : Type 0 where
  pub reply : r.0 ≡ answers w object (operations (on_object object steps)) op
  pub stamp : r.1 ≡ suc (max floor (greatest (on_object object steps)))
  pub stand : (actor : ℕ) → Stand w (steps ++ record { actor = actor; object = object; stamp = r.1; op = op; reply = r.0 } ∷ []) objects
