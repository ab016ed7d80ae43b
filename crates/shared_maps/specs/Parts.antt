-- The parts of shared maps as objects of steps.
use Rattle.std.specs.Prelude.{◌≡◌, ℕ, ◌+◌, List, [], ◌∷◌, ◌++◌, map, slice_get, Some}
use Rattle.bt_core.specs.declared.map.MapDecl.{MapDecl}
use Rattle.bt_core.specs.declared.step.ObjectId.{ObjectId}
use Rattle.bt_core.specs.declared.step.ObjectId.TheVariants.{Shared}
use Rattle.bt_core.specs.declared.step.Op.{Op}
use Rattle.bt_core.specs.Kinds.{IsShared}
use Rattle.bt_core.specs.Ports.{Serves, IsSharedOp}
use Rattle.map_ops.specs.Parts.{IsPartNumber, part_count}
use Rattle.stamped.specs.Numbered.{numbered}
use Rattle.step_objects.specs.declared.shared.PartKind.{PartKind}
use Rattle.step_objects.specs.declared.shared.SharedPart.{SharedPart}
use Rattle.step_objects.specs.CpuTables.{map_at}
use Rattle.step_objects.specs.Objects.{shared_kind}

-- a part of a declared map, with an operation of its own
abbrev pub IsPartStep : List MapDecl → ObjectId → Op → Type 0
IsPartStep maps (Shared map part) op = IsPartNumber part × Serves maps map (λ decl. IsShared decl.kind × IsSharedOp decl op)
IsPartStep maps object op = ⊥

-- a part of a declared map
abbrev pub IsMapPart : List MapDecl → ObjectId → Type 0
IsMapPart maps (Shared map part) = IsPartNumber part × Serves maps map (λ decl. IsShared decl.kind)
IsMapPart maps object = ⊥

-- an object, and what it is made for
abbrev pub Part : Type 0
Part = ObjectId × PartKind

-- part p of map m
abbrev pub part_at : ℕ → MapDecl → ℕ → Part
part_at m decl p = (Shared (map_at m) p, record { map = map_at m; decl = decl })

-- the parts of these maps, whose numbers begin at m, map by map
abbrev pub parts_from : ℕ → List MapDecl → List Part
parts_from m [] = []
parts_from m (decl ∷ decls) = numbered (part_at m decl) 0 (part_count decl.kind) ++ parts_from (m + 1) decls

-- where the parts of each map begin, the first at k
abbrev pub firsts_from : ℕ → List MapDecl → List ℕ
firsts_from k [] = []
firsts_from k (decl ∷ decls) = k ∷ firsts_from (k + part_count decl.kind) decls

-- each object with what it is made for
abbrev pub made_for : List (ObjectId × SharedPart) → List Part
made_for objects = map (λ (object : ObjectId × SharedPart). (object.0, shared_kind object.1)) objects

-- this is the object, made for its map as that is declared
abbrev pub IsPartFor : List MapDecl → ObjectId → Part → Type 0
IsPartFor maps (Shared map p) part = (part.0 ≡ Shared map p) × (part.1.map ≡ map) × (slice_get maps map.0 ≡ Some part.1.decl)
IsPartFor maps object part = ⊥
