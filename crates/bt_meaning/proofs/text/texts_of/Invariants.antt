use Rattle.std.proofs.Common.{◌≡◌, map, take}
use Rattle.std.specs.List.{flat_map}
use Rattle.map_printer.specs.ItemTexts.{item_text}
use Rattle.bt_meaning.specs.Texts.{item_of}
use Rattle.bt_meaning.proofs.text.texts_of.Given as goal

abbrev pub invariant-loop-emit : goal.invariant-loop-emit
invariant-loop-emit l = l.text.items ≡ flat_map (item_text l.script.formats l.script.maps) (map item_of (take l.emit-index l.emits))
