-- What a clause says of the shared maps.
use Rattle.std.specs.Prelude.{ℕ, List, map}
use Rattle.bt_core.specs.declared.map.MapDecl.{MapDecl}
use Rattle.bt_core.specs.declared.step.ObjectId.{ObjectId}
use Rattle.stamped.specs.Rows.{Row}
use Rattle.stamped.specs.Sets.{actors_of, AreSetTurns, AreAllSetTurns}
use Rattle.step_objects.specs.declared.shared.PartKind.{PartKind}
use Rattle.shared_maps.specs.declared.maps.SharedMaps.{SharedMaps}
use Rattle.shared_maps.specs.Parts.{Part, parts_from}

-- the declarations of the maps that the locks were made for
abbrev pub part_maps : SharedMaps → List MapDecl
part_maps maps = maps.maps

-- how many actors the locks were made for
abbrev pub part_actors : SharedMaps → ℕ
part_actors maps = actors_of maps.set

-- the objects, map by map and part by part
abbrev pub part_ids : SharedMaps → List ObjectId
part_ids maps = map (λ (part : Part). part.0) (parts_from 0 (part_maps maps))

-- what each object is made for
abbrev pub part_kinds : SharedMaps → List PartKind
part_kinds maps = map (λ (part : Part). part.1) (parts_from 0 (part_maps maps))

-- the turns are those of one actor at these maps
abbrev pub ArePartTurns : SharedMaps → Row → Type 0
ArePartTurns maps row = AreSetTurns maps.set row

-- these are the turns of all actors at these maps, in the order of the actors
abbrev pub AreAllPartTurns : SharedMaps → List Row → Type 0
AreAllPartTurns maps rows = AreAllSetTurns maps.set rows
