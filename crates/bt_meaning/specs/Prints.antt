-- What is printed: the items that were emitted, and at the end the maps and the lost updates.
use Rattle.std.specs.Prelude.{ℕ, ◌+◌, ◌%◌, ◌^◌, ◌++◌, List, [], ◌∷◌, map, sum, Option, None, Some}
use Rattle.std.specs.List.{filter_map, flat_map, range_with_len}
use Rattle.bt_core.specs.declared.item.Cell.{Cell}
use Rattle.bt_core.specs.declared.item.Item.{Item}
use Rattle.bt_core.specs.declared.map.MapDecl.{MapDecl}
use Rattle.bt_core.specs.declared.map.MapId.{MapId}
use Rattle.bt_core.specs.declared.map.MapKind.{MapKind}
use Rattle.bt_core.specs.declared.map.MapKind.TheVariants.{Aggs}
use Rattle.bt_core.specs.declared.step.ObjectId.{ObjectId}
use Rattle.bt_core.specs.declared.step.Op.{Op}
use Rattle.bt_core.specs.declared.step.Op.TheVariants.{Emit}
use Rattle.bt_core.specs.declared.step.Reply.{Reply}
use Rattle.bt_core.specs.declared.step.Step.{Step}
use Rattle.bt_core.specs.declared.value.Value.{Value}
use Rattle.bt_core.specs.Steps.{on_object, operations}
use Rattle.typed_tree.specs.declared.script.Typed.{Typed}
use Rattle.agg_core.specs.Answers.{answer, back, shared_change, table_change}
use Rattle.agg_core.specs.Changes.{lost_updates}
use Rattle.map_printer.specs.Ends.{end_text}
use Rattle.map_printer.specs.ItemTexts.{item_text}
use Rattle.map_rows.specs.Merged.{merged}
use Rattle.map_ops.specs.declared.sweep.Sweep.TheVariants as sweeps
use Rattle.map_ops.specs.Holders.{holder, holders, sweep_op}

-- what an operation emits
abbrev pub item_in : Op → Option Item
item_in (Emit item) = Some item
item_in op = None

-- the items that were emitted, in the order of their steps
abbrev pub emitted : List Step → List Item
emitted steps = filter_map (λ (s : Step). item_in s.op) steps

-- the operations at an object
abbrev pub operations_at : ObjectId → List Step → List Op
operations_at object steps = operations (on_object object steps)

-- the updates of a map that an object lost, which it counts modulo 2^64
abbrev pub lost_by : MapKind → MapId → List Op → ℕ
lost_by (Aggs kind) m ops = lost_updates (back (table_change m) ops) % 2 ^ 64
lost_by kind m ops = lost_updates (back shared_change ops) % 2 ^ 64

-- of the maps that are declared so, with so many CPUs and the main actor
module _ (maps : List MapDecl) (cpus : ℕ) where
  -- the objects that hold a map: all its parts, or the tables of all actors
  abbrev pub holders_of : MapKind → MapId → List ObjectId
  holders_of kind m = map (holder kind m) (range_with_len 0 (holders kind (cpus + 1)))

  -- what they would answer after these steps to who reads the map
  abbrev pub read_of : MapKind → MapId → List Step → List Reply
  read_of kind m steps = map (λ object. answer maps cpus object (operations_at object steps) (sweep_op sweeps.Read kind m)) (holders_of kind m)

  -- the rows of a map after these steps
  abbrev pub rows_after : List Step → MapId → MapDecl → List (List Value × Cell)
  rows_after steps m decl = merged decl.kind (read_of decl.kind m steps)

  -- how many updates of a map were lost, by all objects that hold it
  abbrev pub lost_after : List Step → MapId → MapDecl → ℕ
  lost_after steps m decl = sum (map (λ object. lost_by decl.kind m (operations_at object steps)) (holders_of decl.kind m))

-- of each map by its number, the first of which is this one
abbrev pub of_maps : {A : Type 0} → (MapId → MapDecl → A) → ℕ → List MapDecl → List A
of_maps f number [] = []
of_maps f number (decl ∷ decls) = f (record { 0 = number }) decl ∷ of_maps f (number + 1) decls

-- The text of a script's steps, with so many CPUs: those of the emitted items in order, then each map that is not empty, in the
-- order of the maps, and then a warning for each map that lost updates.
unfoldable pub printed_text : Typed → ℕ → List Step → List ℕ
printed_text script cpus steps =
    flat_map (item_text script.formats script.maps) (emitted steps)
    ++ end_text script.maps
    (of_maps (rows_after script.maps cpus steps) 0 script.maps)
    (of_maps (lost_after script.maps cpus steps) 0 script.maps)
