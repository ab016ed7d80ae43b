use Rattle.std.proofs.lemmas.Result.{err_from_is_err_and}
use Rattle.actor_plan.proofs.ProgramLaws.{some_step}
use Rattle.std.proofs.Common.{◌≡◌, not, true, Bool, sym, ap, ◌∙◌, subst}
use Rattle.bt_core.specs.declared.step.ObjectId.TheVariants.{Clock}
use Rattle.bt_core.specs.declared.step.Op.TheVariants.{Check}
use Rattle.bt_core.specs.declared.step.Reply.{Reply}
use Rattle.bt_core.specs.Interaction.{last_reply, Whole}
use Rattle.bt_core.proofs.InteractionLaws.{Whole-ask, Whole-value, Performed-none}
use Rattle.actor_plan.specs.Programs.{goes_on, tells_stop}
use Rattle.actor_plan.proofs.clock.goes_on.Goals as goal

pub returns-clause-performed : goal.returns-clause-performed
returns-clause-performed g c = let old = g.P.Port.steps c.args.port.now in let new = g.P.Port.steps c.step.new.self in
    let checked : true ≡ c.args.checks = sym c.if-not-checks.false in
    subst (λ (b : Bool). Whole (goes_on b) old new (not c.is_stop.result)) checked
    (Whole-value (goes_on true) old new (not (tells_stop (last_reply new))) (not c.is_stop.result)
    (Whole-ask (λ (r : Reply). not (tells_stop r)) old new (g.P.Port.fixed c.args.port.now).setting.actor Clock Check c.in_ok-step.ensures.made)
    (sym (ap not (c.is_stop.ensures ∙ ap tells_stop c.last.ensures))))

pub returns-in_err-step-clause-performed : goal.returns-in_err-step-clause-performed
returns-in_err-step-clause-performed g c =
    let p = err_from_is_err_and c.from_residual.result c.from_residual.ensures.1 in
    rw p.1 (Performed-none (goes_on c.args.checks) (g.P.Port.steps c.args.port.now) (g.P.Port.steps c.step.new.self) c.in_err-step.ensures.none)

pub last-requires : goal.last-requires
last-requires g c =
    let made = c.in_ok-step.ensures.made in some_step (g.P.Port.steps c.args.port.now) (g.P.Port.steps c.step.new.self) made.step made.grew
