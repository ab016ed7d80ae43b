use Rattle.std.proofs.Common.{arith, ◌∙◌, ap}
use Rattle.std.proofs.lemmas.Grind.{common_steps}
use Rattle.std.proofs.lemmas.List.Elements.{filter_map-append}
use Rattle.std.proofs.lemmas.List.{take_all}
use Rattle.bt_types.specs.Listed.{formats_at}
use Rattle.bt_types.proofs.close.formats_at.Goals as goal

pub loop-number-preserved : goal.loop-number-preserved
loop-number-preserved c = grind (arith, common_steps, filter_map-append)

pub returns : goal.returns
returns c = c.loop-number.invariant ∙ ap (formats_at c.args.formats.now) (take_all c.loop-number.number-index c.args.calls.now c.loop-number-test.false)
