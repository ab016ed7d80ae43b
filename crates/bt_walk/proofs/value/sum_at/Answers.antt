use Rattle.std.proofs.Common.{◌≡◌, ap, ◌∙◌}
use Rattle.map_ops.specs.Asking.{summed}
use Rattle.walk_meaning.specs.Maps.{kind_in_body}
use Rattle.walk_meaning.specs.Served.{scene_in}
use Rattle.bt_walk.proofs.Binds.{Lifted-walked}
use Rattle.walk_meaning.proofs.Declared.{sweep_can}
use Rattle.bt_walk.proofs.value.sum_at.Goals as goal

pub sum_under-requires-clause-can : goal.sum_under-requires-clause-can
sum_under-requires-clause-can g c =
    let kind : c.kind_in_body-kind.result ≡ kind_in_body c.args.map c.args.view.now.body.now.maps = c.kind_in_body-kind.ensures ∙ ap (kind_in_body c.args.map) c.as_slice.ensures in
    rw kind (sweep_can c.args.view.now (g.P.Port.fixed c.args.port.now).setting c.args.map c.requires.served c.requires.named)

pub sum_under-requires-clause-gathers : goal.sum_under-requires-clause-gathers
sum_under-requires-clause-gathers g c =
    let kind : c.kind_in_body-kind.result ≡ kind_in_body c.args.map c.args.view.now.body.now.maps = c.kind_in_body-kind.ensures ∙ ap (kind_in_body c.args.map) c.as_slice.ensures in
    rw kind c.requires.gathers

pub returns-clause-walked : goal.returns-clause-walked
returns-clause-walked g c frame =
    Lifted-walked (λ scene. summed c.args.map c.args.key.now scene.actors) (scene_in c.args.view.now) frame _ _ c.sum_under.result c.sum_under.ensures.performed
