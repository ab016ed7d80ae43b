use Rattle.std.proofs.Common.{◌<◌, ◌≤◌, ◌∙◌, refl, arith}
use Rattle.std.proofs.lemmas.List.Elements.{All-nil}
use Rattle.std.proofs.lemmas.Result.{err_from_is_err_and}
use Rattle.map_rows.specs.Merged.{HasRowsOf}
use Rattle.map_ops.specs.Holders.{holders}
use Rattle.map_ops.proofs.Sweeping.{sweep-start, sweep-stop, sweep-next, sweep-drop, sweep-end, rows-next}
use Rattle.map_ops.proofs.sweep.ask_each.Goals as goal

pub loop-place-init : goal.loop-place-init
loop-place-init g c = record {
  left = rw c.new-replies.ensures (sweep-start _ _ _ _);
  rows = λ e. rw c.new-replies.ensures (All-nil (HasRowsOf c.args.kind));
  kept = refl;
}

pub returns-in_err-step-clause-performed : goal.returns-in_err-step-clause-performed
returns-in_err-step-clause-performed g c =
    let p = err_from_is_err_and c.from_residual.result c.from_residual.ensures.1 in
    rw p.1 (sweep-stop _ _ _ _ _ _ _ _ _ c.loop-place.invariant.left c.in_err-step.ensures.none)

pub returns-in_err-reply-clause-performed : goal.returns-in_err-reply-clause-performed
returns-in_err-reply-clause-performed g c =
    let p = err_from_is_err_and c.from_residual-in_err-reply.result c.from_residual-in_err-reply.ensures.1 in
    let made = rw (c.holder.ensures, c.sweep_op-op.ensures) at c.in_ok-step.ensures.made in
    let below : c.loop-place.place < holders c.args.kind c.args.actors = omega (arith, c.loop-place-test.true, c.holders-place-end.ensures) in
    rw p.1 (sweep-drop _ _ _ _ _ _ _ _ _ _ below c.loop-place.invariant.left made)

pub returns-in_err-push-clause-performed : goal.returns-in_err-push-clause-performed
returns-in_err-push-clause-performed g c =
    let p = err_from_is_err_and c.from_residual-in_err-push.result c.from_residual-in_err-push.ensures.1 in
    let made = rw (c.holder.ensures, c.sweep_op-op.ensures) at c.in_ok-step.ensures.made in
    let below : c.loop-place.place < holders c.args.kind c.args.actors = omega (arith, c.loop-place-test.true, c.holders-place-end.ensures) in
    rw p.1 (sweep-drop _ _ _ _ _ _ _ _ _ _ below c.loop-place.invariant.left made)

pub loop-place-preserved : goal.loop-place-preserved
loop-place-preserved g c =
    let made = rw (c.holder.ensures, c.sweep_op-op.ensures) at c.in_ok-step.ensures.made in
    let replied = rw (c.holder.ensures, c.sweep_op-op.ensures, c.loop-place.invariant.kept) at c.in_ok-step.ensures.replied in
    let below : c.loop-place.place < holders c.args.kind c.args.actors = omega (arith, c.loop-place-test.true, c.holders-place-end.ensures) in
    let last = c.in_ok-reply.ensures ∙ c.last.ensures in
    record {
      left = rw (c.in_ok-push.ensures.ok, last) (sweep-next _ _ _ _ _ _ _ _ _ _ below c.loop-place.invariant.left made);
      rows = rw (c.in_ok-push.ensures.ok, last) (rows-next (g.P.Port.fixed c.args.port.now).setting c.args.map c.args.sweep c.args.kind _ c.loop-place.place _ _ c.requires replied c.loop-place.invariant.rows);
      kept = c.in_ok-step.ensures.kept ∙ c.loop-place.invariant.kept;
    }

pub returns-clause-performed : goal.returns-clause-performed
returns-clause-performed g c =
    let above : holders c.args.kind c.args.actors ≤ c.loop-place.place = omega (arith, c.loop-place-test.false, c.holders-place-end.ensures) in
    sweep-end _ _ _ _ _ _ _ _ above c.loop-place.invariant.left
