use Rattle.std.proofs.Common.{sym, subst, ◌++◌, ◌∷◌, [], List}
use Rattle.std.specs.List.{AllZip}
use Rattle.typed_tree.specs.declared.body.TypedBody.{TypedBody}
use Rattle.bt_types.specs.Open.{IsClosed}
use Rattle.bt_types.proofs.Closing.{closed_more}
use Rattle.bt_types.proofs.close.close_bodies.Goals as goal

pub loop-body-preserved : goal.loop-body-preserved
loop-body-preserved c =
    subst (λ (l : List TypedBody). AllZip (IsClosed c.args.maps.now c.args.formats.now) (c.loop-body.yielded ++ c.in-Some.body ∷ []) l) (sym c.in_ok-push.ensures.ok)
    (closed_more c.args.maps.now c.args.formats.now c.loop-body.yielded c.loop-body.all c.in-Some.body c.in_ok-typed.typed c.loop-body.invariant c.in_ok-typed.ensures)
