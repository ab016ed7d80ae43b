use Rattle.std.proofs.lemmas.Grind.{common_steps}
use Rattle.std.proofs.Common.{◌≡◌, ℕ, false, List, subst, ◌∙◌, arith}
use Rattle.expr_types.specs.Known.{has_call}
use Rattle.expr_types.proofs.Calling.{last_pushed}
use Rattle.expr_types.proofs.Learning.{call_learned}
use Rattle.expr_types.proofs.known.Known.add_call.Goals as goal

pub returns-in_ok-push-in-None-clause-numbered : goal.returns-in_ok-push-in-None-clause-numbered
returns-in_ok-push-in-None-clause-numbered c =
    let none : has_call c.args.format.now c.args.place c.args.self.now.printed ≡ false =
    subst (λ (n : List ℕ). has_call n c.args.place c.args.self.now.printed ≡ false) c.as_slice.ensures (rw c.in-None.is at c.in_ok-found.ensures) in
    last_pushed c.args.format.now c.as_slice-in-None.result.now c.args.place c.args.pieces c.args.self.now.printed c.push.new.self c.in_ok-number-in-None.number
    none c.requires c.as_slice-in-None.ensures (c.in_ok-number-in-None.ensures.number ∙ c.len.ensures) c.in_ok-push-in-None.ensures

pub returns-in_ok-push-in-None-clause-learned : goal.returns-in_ok-push-in-None-clause-learned
returns-in_ok-push-in-None-clause-learned c =
    let none : has_call c.args.format.now c.args.place c.args.self.now.printed ≡ false =
    subst (λ (n : List ℕ). has_call n c.args.place c.args.self.now.printed ≡ false) c.as_slice.ensures (rw c.in-None.is at c.in_ok-found.ensures) in
    call_learned c.args.self.now c.args.format.now c.as_slice-in-None.result.now c.args.place c.args.pieces c.push.new.self none c.requires c.as_slice-in-None.ensures c.in_ok-push-in-None.ensures

pub returns-in-Some-clause-numbered : goal.returns-in-Some-clause-numbered
returns-in-Some-clause-numbered c = grind (arith, common_steps)

pub returns-in-Some-clause-learned : goal.returns-in-Some-clause-learned
returns-in-Some-clause-learned c = grind (arith, common_steps)

pub push-requires : goal.push-requires
push-requires c = grind (arith, common_steps)
