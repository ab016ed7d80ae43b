use Rattle.std.proofs.Common.{◌≡◌, refl, ap, ◌∙◌}
use Rattle.std.proofs.lemmas.Result.{err_from_is_err_and}
use Rattle.bt_core.specs.declared.map.MapKind.{MapKind}
use Rattle.map_ops.specs.Asking.{swept}
use Rattle.map_ops.specs.declared.sweep.Sweep.TheVariants.{Clear}
use Rattle.walk_meaning.specs.Maps.{kind_in_body}
use Rattle.bt_walk.proofs.Binds.{Part-first, Whole-next, Given-done, Asked-done, Asked-begun, Stopped}
use Rattle.walk_meaning.proofs.Declared.{sweep_can}
use Rattle.bt_walk.proofs.stmt.clear.Goals as goal

pub ask_each-requires : goal.ask_each-requires
ask_each-requires g c =
    let kind : c.kind_in_body-kind.result ≡ kind_in_body c.args.map c.args.view.now.body.now.maps = c.kind_in_body-kind.ensures ∙ ap (kind_in_body c.args.map) c.as_slice.ensures in
    rw kind (sweep_can c.args.view.now (g.P.Port.fixed c.args.port.now).setting c.args.map c.requires.served c.requires.named)

pub returns-in_err-ask_each-clause-walked : goal.returns-in_err-ask_each-clause-walked
returns-in_err-ask_each-clause-walked g c frame =
    let p = err_from_is_err_and c.from_residual.result c.from_residual.ensures.1 in
    let kind : c.kind_in_body-kind.result ≡ kind_in_body c.args.map c.args.view.now.body.now.maps = c.kind_in_body-kind.ensures ∙ ap (kind_in_body c.args.map) c.as_slice.ensures in
    let same = ap (λ (k : MapKind). swept Clear k c.args.map c.args.view.now.actors) kind in
    Stopped _ _ _ _ p.1 (Part-first _ _ _ _ _ _ (Asked-begun _ _ _ _ _ _ same c.in_err-ask_each.ensures.performed))

pub returns-clause-walked : goal.returns-clause-walked
returns-clause-walked g c frame =
    let kind : c.kind_in_body-kind.result ≡ kind_in_body c.args.map c.args.view.now.body.now.maps = c.kind_in_body-kind.ensures ∙ ap (kind_in_body c.args.map) c.as_slice.ensures in
    let same = ap (λ (k : MapKind). swept Clear k c.args.map c.args.view.now.actors) kind in
    Whole-next _ _ _ _ _ _ _ _ (Asked-done _ _ _ _ _ _ _ same c.in_ok-ask_each.ensures.performed) _ _ (Given-done _ _ _ _ _ _ refl refl)

pub returns-in_err-ask_each-clause-kept : goal.returns-in_err-ask_each-clause-kept
returns-in_err-ask_each-clause-kept g c = c.in_err-ask_each.ensures.kept

pub returns-clause-kept : goal.returns-clause-kept
returns-clause-kept g c = c.in_ok-ask_each.ensures.kept
