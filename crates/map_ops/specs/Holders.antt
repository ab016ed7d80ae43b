-- The objects that hold maps, and the operations on whole maps.
use Rattle.std.specs.Prelude.{◌≡◌, ℕ, List, Option, Some, None, slice_get, IsSomeAnd}
use Rattle.bt_core.specs.declared.map.MapDecl.{MapDecl}
use Rattle.bt_core.specs.declared.map.MapId.{MapId}
use Rattle.bt_core.specs.declared.map.MapKind.{MapKind}
use Rattle.bt_core.specs.declared.map.MapKind.TheVariants.{Ints, Aggs}
use Rattle.bt_core.specs.declared.step.ObjectId.{ObjectId}
use Rattle.bt_core.specs.declared.step.ObjectId.TheVariants.{Shared, Cpu}
use Rattle.bt_core.specs.declared.step.Op.{Op}
use Rattle.bt_core.specs.declared.step.Op.TheVariants as ops
use Rattle.bt_core.specs.declared.value.Value.{Value}
use Rattle.bt_core.specs.KeyBytes.{part_of}
use Rattle.bt_core.specs.Ports.{Setting}
use Rattle.map_ops.specs.declared.sweep.Sweep.{Sweep}
use Rattle.map_ops.specs.declared.sweep.Sweep.TheVariants.{Read, Clear, Zero}
use Rattle.map_ops.specs.Parts.{part_count}

-- the part of a shared map that a key is in
abbrev pub part : MapId → List Value → ObjectId
part m key = Shared m (part_of key)

-- what a map holds, by its declaration; each map that is named is declared
abbrev pub kind_in : Option MapDecl → MapKind
kind_in None = Ints
kind_in (Some decl) = decl.kind

abbrev pub kind_of : List MapDecl → MapId → MapKind
kind_of maps m = kind_in (slice_get maps m.0)

-- the objects that hold a map: the tables of all actors for an aggregation, and otherwise the map's parts
abbrev pub holder : MapKind → MapId → ℕ → ObjectId
holder (Aggs kind) m n = Cpu n
holder kind m n = Shared m n

abbrev pub holders : MapKind → ℕ → ℕ
holders (Aggs kind) actors = actors
holders kind actors = part_count kind

-- the operation of a sweep on one of them
abbrev pub sweep_op : Sweep → MapKind → MapId → Op
sweep_op Read (Aggs kind) m = ops.Read m
sweep_op Read kind m = ops.ReadAll
sweep_op Clear (Aggs kind) m = ops.ClearOf m
sweep_op Clear kind m = ops.Clear
sweep_op Zero (Aggs kind) m = ops.ZeroOf m
sweep_op Zero kind m = ops.Zero

-- the map is declared and holds this, and the tables of so many actors are there
pub record CanSweep (setting : Setting) (m : MapId) (kind : MapKind) (actors : ℕ) : Type 0 where
  pub declared : IsSomeAnd (slice_get setting.maps m.0) (λ (decl : MapDecl). decl.kind ≡ kind)
  pub tables : setting.actors ≡ actors
