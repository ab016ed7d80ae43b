use Rattle.std.proofs.Common.{◌≡◌, map, take}
use Rattle.std.specs.List.{flat_map}
use Rattle.json_out.specs.Lines.{item_lines}
use Rattle.bt_meaning.specs.Texts.{item_of}
use Rattle.run_output.proofs.json_lines.lines_of.Given as goal

abbrev pub invariant-loop-emit : goal.invariant-loop-emit
invariant-loop-emit l = l.lines.items ≡ flat_map (item_lines l.script.formats l.script.maps) (map item_of (take l.emit-index l.emits))
