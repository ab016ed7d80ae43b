use Rattle.json_out.specs.Lines.{item_lines}
use Rattle.map_rows.specs.Items.{IsItemOf}
use Rattle.bt_meaning.proofs.TextLaws.{all_texts, at_place, next_text}
use Rattle.run_output.proofs.json_lines.lines_of.Goals as goal

pub write_emitted-requires : goal.write_emitted-requires
write_emitted-requires c =
    at_place (IsItemOf c.args.script.now.formats c.args.script.now.maps) c.args.emits.now c.loop-emit.emit-index c.emit-item.result
    c.loop-emit-test.true c.emit-item.is c.requires

pub loop-emit-preserved : goal.loop-emit-preserved
loop-emit-preserved c =
    next_text (item_lines c.args.script.now.formats c.args.script.now.maps) c.args.emits.now c.loop-emit.emit-index c.emit-item.result _ _
    c.loop-emit-test.true c.emit-item.is c.loop-emit.invariant c.in_ok-write_emitted.ensures

pub returns : goal.returns
returns c =
    all_texts (item_lines c.args.script.now.formats c.args.script.now.maps) c.args.emits.now c.loop-emit.emit-index _ c.loop-emit-test.false
    c.loop-emit.invariant
