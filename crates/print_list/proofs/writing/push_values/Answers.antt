use Rattle.std.proofs.Common.{take}
use Rattle.print_list.proofs.CodeLaws.{grown_more, one_more}
use Rattle.print_list.proofs.writing.push_values.Goals as goal

pub loop-value-preserved : goal.loop-value-preserved
loop-value-preserved c =
    one_more c.args.values.now c.loop-value.value-index c.value-item.result c.args.bytes.now.items c.loop-value.bytes.items c.push_value.new.bytes.items
    c.loop-value-test.true c.value-item.is c.loop-value.invariant c.in_ok-push_value.ensures.value c.in_ok-push_value.ensures.fits

pub returns-in_err-push_value-clause-grown : goal.returns-in_err-push_value-clause-grown
returns-in_err-push_value-clause-grown c =
    grown_more c.args.bytes.now.items c.loop-value.bytes.items c.push_value.new.bytes.items (take c.loop-value.value-index c.args.values.now) c.loop-value.invariant c.push_value.ensures.grown
