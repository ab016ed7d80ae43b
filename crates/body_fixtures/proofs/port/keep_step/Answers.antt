use Rattle.std.proofs.Common.{ℕ, List, [], ◌∷◌, ◌++◌, ap, ◌∙◌}
use Rattle.std.specs.Prelude.{slice_set}
use Rattle.std.proofs.Math.Seq.{set-append_seam}
use Rattle.bt_core.specs.declared.step.Op.{Op}
use Rattle.bt_core.specs.declared.step.Op.TheVariants.{Stop}
use Rattle.bt_core.specs.declared.step.Reply.TheVariants.{Done}
use Rattle.bt_core.specs.declared.step.Step.{Step}
use Rattle.body_fixtures.proofs.port.keep_step.Goals as goal

pub returns-clause-ok : goal.returns-clause-ok
returns-clause-ok c =
    let room : Step = record { actor = c.args.actor; object = c.args.object; stamp = 0; op = Stop; reply = Done } in
    let step : Op → Step = λ op. record { actor = c.args.actor; object = c.args.object; stamp = 0; op = op; reply = c.args.reply } in
    c.set.ensures ∙ ap (λ (z : List Step × ℕ). slice_set z.0 z.1 (step c.replace.result)) (λ i. (c.in_ok-push.ensures.ok i, c.len-place.ensures i))
    ∙ set-append_seam c.args.steps.now room [] (step c.replace.result)
    ∙ ap (λ (op : Op). c.args.steps.now ++ step op ∷ []) c.replace.ensures.value
