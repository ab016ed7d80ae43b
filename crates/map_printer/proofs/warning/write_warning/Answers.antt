use Rattle.std.proofs.Common.{◌++◌, codes, decimal}
use Rattle.map_printer.proofs.Chains.{then_called}
use Rattle.map_printer.proofs.warning.write_warning.Goals as goal

pub returns : goal.returns
returns c =
    then_called c.write_three.result c.args.out.now.items (codes "WARNING: " ++ decimal c.args.lost) (codes " updates lost in " ++ (c.args.name.now ++ codes "\n"))
    c.write_number_lost.new.out.items c.write_three.new.out.items c.in_ok-write_number_lost.ensures c.write_three.ensures
