use Rattle.std.proofs.Common.{◌≡◌, ap, sym, ◌∙◌}
use Rattle.std.specs.Prelude.{Option, Some, slice_get}
use Rattle.std.specs.Option.{option_map}
use Rattle.std.proofs.lemmas.Option.{slice_get-get_or, slice_get_past}
use Rattle.bt_core.specs.declared.map.MapDecl.{MapDecl}
use Rattle.bt_core.specs.declared.map.MapId.{MapId}
use Rattle.bt_types.proofs.close.map_at.Goals as goal

pub returns-in_ok-decl-in-Some : goal.returns-in_ok-decl-in-Some
returns-in_ok-decl-in-Some c =
    let m : MapId = record { 0 = c.args.number } in
    let there : slice_get c.args.maps.now c.args.number ≡ Some c.in-Some.decl.now =
    slice_get-get_or c.args.maps.now c.args.number c.in-Some.decl.now c.in-Some.ensures.lookup.3.0 ∙ ap Some (sym c.in-Some.ensures.lookup.1) in
    ap (λ (d : MapDecl). Some (let p : MapId × MapDecl = (m, d) in p)) c.in_ok-decl-in-Some.ensures
    ∙ ap (λ (o : Option MapDecl). option_map (λ (d : MapDecl). (let p : MapId × MapDecl = (m, d) in p)) o) (sym there)

pub returns-in-None : goal.returns-in-None
returns-in-None c =
    let m : MapId = record { 0 = c.args.number } in
    ap (λ (o : Option MapDecl). option_map (λ (d : MapDecl). (let p : MapId × MapDecl = (m, d) in p)) o) (sym (slice_get_past c.args.maps.now c.args.number c.in-None.ensures.lookup.3))
