use Rattle.std.proofs.Common.{ℕ}
use Rattle.actor_plan.specs.Programs.{mark_work}
use Rattle.std.proofs.lemmas.Result.{err_from_is_err_and}
use Rattle.bt_core.specs.declared.step.Reply.{Reply}
use Rattle.bt_core.specs.declared.step.ObjectId.TheVariants.{Out}
use Rattle.bt_core.specs.declared.step.Op.TheVariants.{Emit}
use Rattle.bt_core.specs.declared.item.Item.TheVariants.{Lost}
use Rattle.bt_core.proofs.InteractionLaws.{Whole-ask, Performed-none}
use Rattle.actor_plan.proofs.item.run_mark.Goals as goal

pub returns-clause-performed : goal.returns-clause-performed
returns-clause-performed g c =
    let none : Reply → ℕ = (λ r. 0) in
    Whole-ask none (g.P.Port.steps c.args.port.now) (g.P.Port.steps c.step.new.self) (g.P.Port.fixed c.args.port.now).setting.actor Out
    (Emit (Lost c.args.number c.args.count)) c.in_ok-step.ensures.made

pub returns-in_err-step-clause-performed : goal.returns-in_err-step-clause-performed
returns-in_err-step-clause-performed g c =
    let p = err_from_is_err_and c.from_residual.result c.from_residual.ensures.1 in
    rw p.1 (Performed-none (mark_work c.args.number c.args.count) (g.P.Port.steps c.args.port.now) (g.P.Port.steps c.step.new.self) c.in_err-step.ensures.none)
