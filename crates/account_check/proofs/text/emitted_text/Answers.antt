use Rattle.map_printer.specs.ItemTexts.{item_text}
use Rattle.map_rows.specs.Items.{IsItemOf}
use Rattle.walk_meaning.specs.Admits.{EmitsOnly}
use Rattle.bt_core.specs.declared.step.Step.{Step}
use Rattle.account_check.proofs.TextLemmas.{all_texts, at_place, next_text}
use Rattle.account_check.proofs.text.emitted_text.Goals as goal

pub write_step-requires : goal.write_step-requires
write_step-requires c =
    at_place (λ (s : Step). EmitsOnly (IsItemOf c.args.script.now.formats c.args.script.now.maps) s.op) c.args.steps.now c.loop-step.step-index c.step-item.result c.loop-step-test.true c.step-item.is c.requires

pub loop-step-preserved : goal.loop-step-preserved
loop-step-preserved c =
    next_text (item_text c.args.script.now.formats c.args.script.now.maps) c.args.steps.now c.loop-step.step-index c.step-item.result _ _ c.loop-step-test.true c.step-item.is
    c.loop-step.invariant c.in_ok-write_step.ensures

pub returns : goal.returns
returns c = all_texts (item_text c.args.script.now.formats c.args.script.now.maps) c.args.steps.now c.loop-step.step-index _ c.loop-step-test.false c.loop-step.invariant
