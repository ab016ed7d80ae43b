use Rattle.std.proofs.Common.{◌++◌, [], refl, sym, append_assoc, codes}
use Rattle.map_printer.specs.Values.{value_text, parts_after}
use Rattle.map_printer.proofs.Chains.{then_more, next_row, last_row}
use Rattle.map_printer.proofs.value_text.write_parts.Goals as goal

pub loop-part-preserved : goal.loop-part-preserved
loop-part-preserved c =
    let old = c.loop-part.out.items in let mark = c.loop-part.mark.now in let part = c.part-item.result in let new = c.write_value.new.out.items in
    next_row (parts_after mark) (parts_after (codes ", ")) (λ p. mark ++ value_text p) (λ p ps. sym (append_assoc mark (value_text p) (parts_after (codes ", ") ps)))
    c.args.parts.now c.loop-part.part-index part part old new (c.args.out.now.items ++ parts_after [] c.args.parts.now) c.loop-part-test.true c.part-item.is c.loop-part.invariant
    (then_more old mark (value_text part) c.extend_from_slice.new.self.items new c.in_ok-extend_from_slice.ensures.items c.in_ok-write_value.ensures)

pub returns : goal.returns
returns c =
    last_row (parts_after c.loop-part.mark.now) refl c.args.parts.now c.loop-part.part-index c.loop-part.out.items
    (c.args.out.now.items ++ parts_after [] c.args.parts.now) c.loop-part-test.false c.loop-part.invariant
