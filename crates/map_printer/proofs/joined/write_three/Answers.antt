use Rattle.map_printer.proofs.Chains.{three_parts}
use Rattle.map_printer.proofs.joined.write_three.Goals as goal

pub returns : goal.returns
returns c = three_parts c.args.out.now.items c.args.first.now c.args.second.now c.args.third.now c.extend_from_slice.new.self.items c.extend_from_slice-2.new.self.items c.extend_from_slice-3.new.self.items
    c.in_ok-extend_from_slice.ensures.items c.in_ok-extend_from_slice-2.ensures.items c.in_ok-extend_from_slice-3.ensures.items
