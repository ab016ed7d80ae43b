use Rattle.std.proofs.Common.{◌≡◌, ◌++◌, List, ℕ, OnOk, subst, ◌∙◌, codes, decimal}
use Rattle.map_printer.proofs.Chains.{then_called}
use Rattle.map_printer.proofs.warning.write_lost_events.Goals as goal

pub returns : goal.returns
returns c =
    let x1 = c.write_number_lost.new.out.items in let x2 = c.write_three.new.out.items in
    let cpu : c.as_bytes.result.now ≡ decimal c.args.cpu = c.as_bytes.ensures.value ∙ c.format.ensures.text in
    then_called c.write_three.result c.args.out.now.items (codes "WARNING: " ++ decimal c.args.count) (codes " events lost on cpu " ++ (decimal c.args.cpu ++ codes "\n"))
    x1 x2 c.in_ok-write_number_lost.ensures
    (subst (λ (t : List ℕ). OnOk c.write_three.result (x2 ≡ x1 ++ (codes " events lost on cpu " ++ (t ++ codes "\n")))) cpu c.write_three.ensures)
