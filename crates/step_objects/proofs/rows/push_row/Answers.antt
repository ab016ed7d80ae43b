use Rattle.std.proofs.Common.{subst, Result, IfOk, ◌∙◌, ◌≡◌, ◌∷◌, ◌++◌, []}
use Rattle.bt_core.specs.declared.memory.Memory.{Memory}
use Rattle.step_objects.proofs.rows.push_row.Goals as goal

pub returns : goal.returns
returns g c = let row = c.args.row.now in let both = c.in_ok-beside.ensures in
    let key = both.0 ∙ c.in_ok-key.ensures in
    let cell = subst (λ (r : Result g.row.C.Denot Memory). IfOk r (λ x. x ≡ row.1.now)) both.1 c.try_copy-2.ensures in record {
      row = c.push_reserved.ensures.items ∙ (λ i. c.args.list.now.items ++ (key i, cell i) ∷ []);
      room = c.push_reserved.ensures.capacity;
    }
