use Rattle.std.proofs.Common.{◌≡◌, take}
use Rattle.std.specs.List.{flat_map}
use Rattle.map_printer.specs.ItemTexts.{item_text}
use Rattle.bt_meaning.specs.Prints.{emitted}
use Rattle.account_check.proofs.text.emitted_text.Given as goal

abbrev pub invariant-loop-step : goal.invariant-loop-step
invariant-loop-step l = l.text.items ≡ flat_map (item_text l.script.formats l.script.maps) (emitted (take l.step-index l.steps))
