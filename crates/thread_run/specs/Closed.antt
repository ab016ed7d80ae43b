-- The objects of a run, as their locks give them back. No public contract speaks of it.
use Rattle.std.specs.Prelude.{◌≡◌, ℕ, List, [], ◌∷◌, map, take, drop}
use Rattle.bt_core.specs.declared.map.MapDecl.{MapDecl}
use Rattle.bt_core.specs.declared.step.ObjectId.{ObjectId}
use Rattle.bt_core.specs.declared.step.ObjectId.TheVariants.{Cpu}
use Rattle.bt_core.specs.declared.step.Step.{Step}
use Rattle.turn_lock.specs.declared.entry.Entry.{Entry}
use Rattle.stamped.specs.Numbered.{numbered}
use Rattle.step_objects.specs.declared.cpu.CpuTable.{CpuTable}
use Rattle.step_objects.specs.declared.shared.PartKind.{PartKind}
use Rattle.step_objects.specs.declared.shared.SharedPart.{SharedPart}
use Rattle.step_objects.specs.Objects.{shared_kind, SharedStands, cpu_kind, CpuStands}
use Rattle.map_ops.specs.Parts.{part_count}
use Rattle.shared_maps.specs.Parts.{Part}
use Rattle.weave.specs.Closed.{AllStand}

abbrev pub part_id : Part → ObjectId
part_id part = part.0

abbrev pub part_kind : Part → PartKind
part_kind part = part.1

-- each part of this list stands for the steps at it
abbrev pub PartsStand : List Step → List Part → List (SharedPart × List Entry) → Type 0
PartsStand steps parts closed = AllStand shared_kind SharedStands steps (map part_id parts) (map part_kind parts) closed

-- so do the tables of so many actors
abbrev pub TablesStand : List MapDecl → List Step → ℕ → List (CpuTable × List Entry) → Type 0
TablesStand maps steps actors closed = AllStand cpu_kind CpuStands steps (numbered Cpu 0 actors) (numbered (λ _. maps) 0 actors) closed

-- an object without the history of its lock
abbrev pub object_of : {O : Type 0} → O × List Entry → O
object_of closed = closed.0

-- the parts of each of these maps, of a list that has them map by map
abbrev pub parts_by : List MapDecl → List SharedPart → List (List SharedPart)
parts_by [] parts = []
parts_by (decl ∷ decls) parts = take (part_count decl.kind) parts ∷ parts_by decls (drop (part_count decl.kind) parts)
