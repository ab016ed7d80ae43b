use Rattle.std.proofs.Common.{map, ap, ◌∙◌}
use Rattle.std.specs.List.{flat_map}
use Rattle.json_out.specs.Lines.{item_lines}
use Rattle.map_rows.specs.Items.{IsItemOf}
use Rattle.step_list.specs.Emits.{told}
use Rattle.bt_meaning.proofs.TextLaws.{items_are, items_are_own}
use Rattle.run_output.proofs.json_lines.emitted_lines.Goals as goal

pub lines_of-requires : goal.lines_of-requires
lines_of-requires c =
    items_are_own (IsItemOf c.args.script.now.formats c.args.script.now.maps) c.as_slice.result.now c.args.steps.now
    (ap (map told) c.as_slice.ensures.value ∙ c.in_ok-emits.ensures) c.requires

pub returns : goal.returns
returns c = c.in_ok-lines.ensures
    ∙ ap (flat_map (item_lines c.args.script.now.formats c.args.script.now.maps))
    (items_are c.as_slice.result.now c.args.steps.now (ap (map told) c.as_slice.ensures.value ∙ c.in_ok-emits.ensures))
