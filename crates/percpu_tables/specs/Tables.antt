-- What a clause says of the tables of all actors.
use Rattle.std.specs.Prelude.{ℕ, List}
use Rattle.bt_core.specs.declared.map.MapDecl.{MapDecl}
use Rattle.bt_core.specs.declared.step.ObjectId.{ObjectId}
use Rattle.bt_core.specs.declared.step.ObjectId.TheVariants.{Cpu}
use Rattle.stamped.specs.Numbered.{numbered}
use Rattle.stamped.specs.Rows.{Row}
use Rattle.stamped.specs.Sets.{actors_of, AreSetTurns, AreAllSetTurns}
use Rattle.percpu_tables.specs.declared.tables.Tables.{Tables}

-- the declarations of the maps that the tables were made for
abbrev pub table_maps : Tables → List MapDecl
table_maps tables = tables.maps

-- how many actors have tables
abbrev pub table_actors : Tables → ℕ
table_actors tables = actors_of tables.set

-- the objects, in the order of the actors
abbrev pub table_ids : Tables → List ObjectId
table_ids tables = numbered Cpu 0 (table_actors tables)

-- what each object is made for
abbrev pub table_kinds : Tables → List (List MapDecl)
table_kinds tables = numbered (λ _. table_maps tables) 0 (table_actors tables)

-- the turns are those of one actor at these tables
abbrev pub AreTableTurns : Tables → Row → Type 0
AreTableTurns tables row = AreSetTurns tables.set row

-- these are the turns of all actors at these tables, in the order of the actors
abbrev pub AreAllTableTurns : Tables → List Row → Type 0
AreAllTableTurns tables rows = AreAllSetTurns tables.set rows
