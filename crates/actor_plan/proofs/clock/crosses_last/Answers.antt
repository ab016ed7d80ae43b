use Rattle.std.proofs.lemmas.Result.{err_from_is_err_and}
use Rattle.actor_plan.proofs.ProgramLaws.{some_step}
use Rattle.std.proofs.Common.{sym, ap, ◌∙◌}
use Rattle.bt_core.specs.declared.step.ObjectId.TheVariants.{Clock}
use Rattle.bt_core.specs.declared.step.Op.TheVariants.{Cross}
use Rattle.bt_core.specs.Interaction.{last_reply}
use Rattle.bt_core.proofs.InteractionLaws.{Whole-ask, Whole-value, Performed-none}
use Rattle.actor_plan.specs.Programs.{crosses_last, tells_last}
use Rattle.actor_plan.proofs.clock.crosses_last.Goals as goal

pub returns-clause-performed : goal.returns-clause-performed
returns-clause-performed g c = let old = g.P.Port.steps c.args.port.now in let new = g.P.Port.steps c.step.new.self in
    Whole-value (crosses_last c.args.tick) old new (tells_last (last_reply new)) c.is_last.result
    (Whole-ask tells_last old new (g.P.Port.fixed c.args.port.now).setting.actor Clock (Cross c.args.tick) c.in_ok-step.ensures.made)
    (sym (c.is_last.ensures ∙ ap tells_last c.last.ensures))

pub returns-in_err-step-clause-performed : goal.returns-in_err-step-clause-performed
returns-in_err-step-clause-performed g c =
    let p = err_from_is_err_and c.from_residual.result c.from_residual.ensures.1 in
    rw p.1 (Performed-none (crosses_last c.args.tick) (g.P.Port.steps c.args.port.now) (g.P.Port.steps c.step.new.self) c.in_err-step.ensures.none)

pub last-requires : goal.last-requires
last-requires g c =
    let made = c.in_ok-step.ensures.made in some_step (g.P.Port.steps c.args.port.now) (g.P.Port.steps c.step.new.self) made.step made.grew
