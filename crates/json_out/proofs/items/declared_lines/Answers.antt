use Rattle.std.proofs.Common.{◌≡◌, ℤ, pos, ◌≤ℤ◌, List, ℕ, ap, sym, subst, ◌∙◌, w64}
use Rattle.std.specs.Prelude.{Option, Some, slice_get, IsSomeAnd, IfOk}
use Rattle.std.proofs.lemmas.Int.{to_z-of_z}
use Rattle.std.proofs.lemmas.Option.{slice_get-get_or, slice_get_past}
use Rattle.bt_core.specs.declared.map.MapDecl.{MapDecl}
use Rattle.map_rows.specs.Items.{CanPrint}
use Rattle.json_out.specs.Lines.{map_lines, declared_lines}
use Rattle.json_out.proofs.items.declared_lines.Goals as goal

pub map_lines-requires : goal.map_lines-requires
map_lines-requires c =
    let there : slice_get c.args.maps.now c.args.map.0 ≡ Some c.in-Some.decl.now =
    slice_get-get_or c.args.maps.now c.args.map.0 c.in-Some.decl.now c.in-Some.ensures.lookup.3.0 ∙ ap Some (sym c.in-Some.ensures.lookup.1) in
    let can : CanPrint c.args.rows.now c.args.div c.in-Some.decl.now = subst (λ (o : Option MapDecl). IsSomeAnd o (CanPrint c.args.rows.now c.args.div)) there c.requires in
    record {
      divides = subst (λ (z : ℤ). pos 1 ≤ℤ z) (sym (to_z-of_z w64 c.args.div c.ranges.div)) can.divides;
      fit = can.fit;
    }

pub returns-in-Some : goal.returns-in-Some
returns-in-Some c =
    let there : slice_get c.args.maps.now c.args.map.0 ≡ Some c.in-Some.decl.now =
    slice_get-get_or c.args.maps.now c.args.map.0 c.in-Some.decl.now c.in-Some.ensures.lookup.3.0 ∙ ap Some (sym c.in-Some.ensures.lookup.1) in
    subst (λ (t : List ℕ). IfOk c.map_lines.result (λ lines. lines.items ≡ t))
    (ap (λ (z : ℤ). map_lines c.in-Some.decl.now c.args.rows.now c.args.top z) (to_z-of_z w64 c.args.div c.ranges.div)
    ∙ ap (λ (o : Option MapDecl). declared_lines o c.args.rows.now c.args.top c.args.div) (sym there))
    c.map_lines.ensures

pub returns-in-None : goal.returns-in-None
returns-in-None c =
    c.new.ensures.items
    ∙ ap (λ (o : Option MapDecl). declared_lines o c.args.rows.now c.args.top c.args.div) (sym (slice_get_past c.args.maps.now c.args.map.0 c.in-None.ensures.lookup.3))
