use Rattle.std.proofs.Common.{◌≤◌, ap, ◌∙◌, sym, subst, drop, List, ℕ}
use Rattle.bt_core.specs.declared.step.Step.{Step}
use Rattle.weave.proofs.Spotted.{rest_is, rest_none}
use Rattle.weave.proofs.ordered.Steps.next.Goals.{then-self-len, else-self-len}
use Rattle.weave.proofs.ordered.Steps.next.Goals as goal

pub returns-clause-left : goal.returns-clause-left
returns-clause-left c =
    let all = c.self.inside.ordered.now in let next = c.self.inside.next in
    let left = ap (λ (l : List Step). drop 1 l) c.self.view_is in
    elim c.if-self-len.branch [
      | then-self-len w ↦ w.self-is ∙ (rest_is all next ∙ left)
      | else-self-len w ↦ let past = subst (λ (n : ℕ). n ≤ next) c.len.ensures w.if-self-len.false in
          w.self-is ∙ (sym c.self.view_is ∙ (rest_none all next past ∙ left))
    ]
