use Rattle.std.proofs.Common.{◌≡◌, ap, ◌∙◌, SFits, w64, rules}
use Rattle.std.proofs.lemmas.Int.{to_z-of_z}
use Rattle.bt_core.specs.declared.map.MapKind.{MapKind}
use Rattle.map_ops.specs.Asking.{printed}
use Rattle.walk_meaning.specs.Maps.{kind_in_body}
use Rattle.bt_walk.proofs.Binds.{Walked-given, Asked-walked}
use Rattle.walk_meaning.proofs.Declared.{sweep_can}
use Rattle.bt_walk.proofs.stmt.print.Goals as goal

pub print_map-printed-requires : goal.print_map-printed-requires
print_map-printed-requires g c =
    let kind : c.kind_in_body-kind.result ≡ kind_in_body c.args.map c.args.view.now.body.now.maps = c.kind_in_body-kind.ensures ∙ ap (kind_in_body c.args.map) c.as_slice.ensures in
    rw kind (sweep_can c.args.view.now (g.P.Port.fixed c.args.port.now).setting c.args.map c.requires.served c.requires.named)

pub returns-clause-walked : goal.returns-clause-walked
returns-clause-walked g c frame =
    let kind : c.kind_in_body-kind.result ≡ kind_in_body c.args.map c.args.view.now.body.now.maps = c.kind_in_body-kind.ensures ∙ ap (kind_in_body c.args.map) c.as_slice.ensures in
    let fd : SFits w64 c.args.div = search rules in
    let shown = simp to_z-of_z at c.print_map-printed.ensures.performed in
    let same = ap (λ (k : MapKind). printed k c.args.map c.args.top c.args.div c.args.view.now.actors) kind in
    Walked-given _ _ _ _ _ _ _ _ _ c.next_after.ensures (Asked-walked _ _ _ _ _ _ _ same shown)

pub returns-clause-kept : goal.returns-clause-kept
returns-clause-kept g c = c.print_map-printed.ensures.kept
