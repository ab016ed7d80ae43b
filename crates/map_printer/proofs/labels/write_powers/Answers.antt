use Rattle.std.proofs.Common.{◌+◌, ◌++◌, codes}
use Rattle.map_printer.specs.Buckets.{power_text}
use Rattle.map_printer.proofs.Chains.{then_called}
use Rattle.map_printer.proofs.labels.write_powers.Goals as goal

pub returns : goal.returns
returns c =
    let r = c.write_text.result in
    let x = c.args.out.now.items in let x1 = c.write_power.new.out.items in let x2 = c.write_power-2.new.out.items in let x3 = c.write_text.new.out.items in
    let low = codes "[" ++ power_text c.args.power in let high = codes ", " ++ power_text (c.args.power + 1) in
    then_called r x low (high ++ codes ")") x1 x3 c.in_ok-write_power.ensures (then_called r x1 high (codes ")") x2 x3 c.in_ok-write_power-2.ensures c.write_text.ensures)
