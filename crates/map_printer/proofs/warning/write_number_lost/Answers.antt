use Rattle.std.proofs.Common.{◌++◌, List, ℕ, ap, ◌∙◌, codes, decimal}
use Rattle.map_printer.proofs.Chains.{then_more}
use Rattle.map_printer.proofs.warning.write_number_lost.Goals as goal

pub returns : goal.returns
returns c =
    let y = c.extend_from_slice.new.self.items in
    then_more c.args.out.now.items (codes "WARNING: ") (decimal c.args.lost) y c.extend_from_slice-2.new.self.items c.in_ok-extend_from_slice.ensures.items
    (c.in_ok-extend_from_slice-2.ensures.items ∙ ap (λ (t : List ℕ). y ++ t) (c.as_bytes.ensures.value ∙ c.format.ensures.text))
