use Rattle.std.proofs.Common.{◌≡◌, ℕ, ◌-◌, ◌∙◌, ap, subst, Some}
use Rattle.std.specs.Prelude.{slice_get, remove}
use Rattle.bt_ir.proofs.Stacks.{top-last, below-remove}
use Rattle.bt_ir.proofs.stack.pop.Goals as goal

pub returns-else-len-eq0-clause-value : goal.returns-else-len-eq0-clause-value
returns-else-len-eq0-clause-value c = top-last c.args.stack.now c.remove.result (subst (λ (n : ℕ). slice_get c.args.stack.now (n - 1) ≡ Some c.remove.result) c.len-len.ensures c.remove.ensures.taken)

pub returns-else-len-eq0-clause-rest : goal.returns-else-len-eq0-clause-rest
returns-else-len-eq0-clause-rest c = c.remove.ensures.rest ∙ ap (λ (n : ℕ). remove c.args.stack.now (n - 1)) c.len-len.ensures ∙ below-remove c.args.stack.now
