use Rattle.std.proofs.Common.{◌≡◌, max, [], ◌∷◌, ◌++◌, sym, ap, ◌∙◌, subst, slice_set}
use Rattle.bt_core.specs.declared.step.Step.{Step}
use Rattle.step_list.specs.Lists.{steps_in}
use Rattle.bt_run.specs.Runs.{IsRunOf, world_of}
use Rattle.run_objects.proofs.KindLemmas.{can_any, last_is_of_its_kind}
use Rattle.bt_run.proofs.StepLemmas.{run_more, run_kept}
use Rattle.bt_run.proofs.port.make_step.Goals as goal

pub returns-in_err-stamp-clause-run : goal.returns-in_err-stamp-clause-run
returns-in_err-stamp-clause-run c = let r = c.args.run.now in let run = c.requires.run in
    let own = can_any (world_of r) r.turn.actor 0 c.args.object c.args.op.now c.requires.can in
    subst (λ l. IsRunOf (world_of r) c.take_at.new.objects r.lasts.items r.top l r.turn) (sym c.in_ok-reserve.ensures.steps)
    (run_kept (world_of r) r.objects c.take_at.new.objects r.lasts.items r.top (steps_in r.steps) r.turn run
    (c.in_err-stamp.ensures.memory (world_of r) (steps_in r.steps) run.stand own))

pub returns-clause-run : goal.returns-clause-run
returns-clause-run c = let r = c.args.run.now in let run = c.requires.run in
    let own = can_any (world_of r) r.turn.actor 0 c.args.object c.args.op.now c.requires.can in
    let s : Step = record { actor = r.turn.actor; object = c.args.object; stamp = c.in_ok-stamp.stamp; op = c.args.op.now; reply = c.take_at.new.reply } in
    let made : (steps_in c.push_reserved.new.self) ≡ (steps_in r.steps) ++ s ∷ [] = c.push_reserved.ensures.steps ∙ ap (λ l. l ++ s ∷ []) c.in_ok-reserve.ensures.steps in
    subst (λ (z : _ × _). IsRunOf (world_of r) c.take_at.new.objects (slice_set r.lasts.items r.turn.actor c.in_ok-stamp.stamp) z.0 z.1 r.turn)
    (λ k. (sym c.max-run.ensures k, sym made k))
    (run_more (world_of r) r.objects c.take_at.new.objects r.lasts.items r.top (steps_in r.steps) r.turn c.args.object c.args.op.now
    c.max-clock.result (c.take_at.new.reply, c.in_ok-stamp.stamp) c.index.result.now run own
    (c.max-clock.ensures ∙ ap (λ n. max n r.turn.floor) c.index.ensures) (c.in_ok-stamp.ensures.taken (world_of r) (steps_in r.steps) run.stand own))

pub returns-clause-replied : goal.returns-clause-replied
returns-clause-replied c = let r = c.args.run.now in let run = c.requires.run in
    let own = can_any (world_of r) r.turn.actor 0 c.args.object c.args.op.now c.requires.can in
    let s : Step = record { actor = r.turn.actor; object = c.args.object; stamp = c.in_ok-stamp.stamp; op = c.args.op.now; reply = c.take_at.new.reply } in
    let made : (steps_in c.push_reserved.new.self) ≡ (steps_in r.steps) ++ s ∷ [] = c.push_reserved.ensures.steps ∙ ap (λ l. l ++ s ∷ []) c.in_ok-reserve.ensures.steps in
    last_is_of_its_kind (world_of r) c.args.object c.args.op.now (steps_in r.steps) (steps_in c.push_reserved.new.self) s run.fine run.possible own made
    (c.in_ok-stamp.ensures.taken (world_of r) (steps_in r.steps) run.stand own).reply
