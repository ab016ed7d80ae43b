-- The JSON lines of a run.
use Rattle.std.specs.Prelude.{ℕ, List, ◌++◌}
use Rattle.std.specs.List.{flat_map}
use Rattle.bt_core.specs.declared.step.Step.{Step}
use Rattle.typed_tree.specs.declared.script.Typed.{Typed}
use Rattle.bt_meaning.specs.Prints.{emitted, rows_after, lost_after, of_maps}
use Rattle.json_out.specs.Lines.{item_lines, end_lines}

-- The JSON lines of a script's steps, with so many CPUs: those of the emitted items in order, then one of each map that has rows, in the
-- order of the maps, and then one of each map that lost updates.
unfoldable pub json_text_of : Typed → ℕ → List Step → List ℕ
json_text_of script cpus steps =
    flat_map (item_lines script.formats script.maps) (emitted steps)
    ++ end_lines script.maps
    (of_maps (rows_after script.maps cpus steps) 0 script.maps)
    (of_maps (lost_after script.maps cpus steps) 0 script.maps)
