-- Objects that no step was made at. No public contract speaks of it.
use Rattle.std.specs.Prelude.{◌≡◌, ℕ, List, [], All, length, slice_get, slice_index_or, Some}
use Rattle.bt_core.specs.declared.map.MapDecl.{MapDecl}
use Rattle.bt_core.specs.declared.step.Op.{Op}
use Rattle.map_ops.specs.Parts.{part_count}
use Rattle.step_objects.specs.CpuTables.{map_at}
use Rattle.step_objects.specs.Objects.{shared_kind, SharedStands}
use Rattle.run_objects.specs.declared.objects.MapParts.{MapParts}
use Rattle.run_objects.specs.declared.own.OwnObject.{OwnObject}

-- it is of this kind, took no operation, and has no stamp
pub record IsNew {O K : Type 0} (kind_of : O → K) (holds : O → List Op → Type 0) (kind : K) (own : OwnObject O) : Type 0 where
  pub same : kind_of own.object ≡ kind
  pub stood : holds own.object []
  pub unstamped : own.clock ≡ 0

-- so are all of these
abbrev pub AreNew : {O K : Type 0} → (O → K) → (O → List Op → Type 0) → K → List (OwnObject O) → Type 0
AreNew kind_of holds kind list = All (IsNew kind_of holds kind) list

-- all parts of a map: none of an aggregation
pub record AreNewParts (map : ℕ) (decl : MapDecl) (list : MapParts) : Type 0 where
  pub new : AreNew shared_kind SharedStands (record { map = map_at map; decl = decl }) list.parts.items
  pub count : length list.parts.items ≡ part_count decl.kind

-- those of each map at its number
pub record NewMaps (maps : List MapDecl) (all : List MapParts) : Type 0 where
  pub count : length all ≡ length maps
  pub each : (m : ℕ) (decl : MapDecl) (d : MapParts) → slice_get maps m ≡ Some decl → AreNewParts m decl (slice_index_or all m d)
