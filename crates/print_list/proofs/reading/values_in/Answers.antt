use Rattle.print_list.specs.Codes.{values_in}
use Rattle.print_list.proofs.CodeLaws.{read_all, read_more}
use Rattle.print_list.proofs.reading.values_in.Goals as goal

pub loop-preserved : goal.loop-preserved
loop-preserved c =
    read_more c.args.count c.loop.counter c.loop.values.items c.push.new.self.items (values_in c.args.count c.args.bytes.now) c.loop.rest.now c.value_at-value.result.1.now c.value_at-value.result.0
    c.loop-test.true c.loop.invariant c.value_at-value.ensures.value c.value_at-value.ensures.after c.in_ok-push.ensures.items

pub returns : goal.returns
returns c = read_all c.args.count c.loop.counter c.loop.values.items (values_in c.args.count c.args.bytes.now) c.loop.rest.now c.loop-test.false c.loop.invariant
