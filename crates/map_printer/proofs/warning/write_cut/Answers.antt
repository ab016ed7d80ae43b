use Rattle.std.proofs.Common.{◌≡◌, ◌++◌, List, ℕ, OnOk, subst, ◌∙◌, codes}
use Rattle.map_printer.proofs.warning.write_cut.Goals as goal

pub returns : goal.returns
returns c =
    subst (λ (t : List ℕ). OnOk c.write_three.result (c.write_three.new.out.items ≡ c.args.out.now.items ++ (codes "WARNING: loop limit reached at line " ++ (t ++ codes "\n"))))
    (c.as_bytes.ensures.value ∙ c.format.ensures.text) c.write_three.ensures
