use Rattle.std.proofs.Common.{map, ap, ◌∙◌}
use Rattle.std.specs.List.{flat_map}
use Rattle.map_printer.specs.ItemTexts.{item_text}
use Rattle.map_rows.specs.Items.{IsItemOf}
use Rattle.step_list.specs.Emits.{told}
use Rattle.bt_meaning.proofs.TextLaws.{items_are, items_are_own}
use Rattle.bt_meaning.proofs.text.emitted_text.Goals as goal

pub texts_of-requires : goal.texts_of-requires
texts_of-requires c =
    items_are_own (IsItemOf c.args.script.now.formats c.args.script.now.maps) c.as_slice.result.now c.args.steps.now (ap (map told) c.as_slice.ensures.value ∙ c.in_ok-emits.ensures) c.requires

pub returns : goal.returns
returns c = c.in_ok-text.ensures
    ∙ ap (flat_map (item_text c.args.script.now.formats c.args.script.now.maps)) (items_are c.as_slice.result.now c.args.steps.now (ap (map told) c.as_slice.ensures.value ∙ c.in_ok-emits.ensures))
