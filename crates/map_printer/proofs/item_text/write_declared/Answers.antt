use Rattle.std.proofs.Common.{◌≡◌, ℤ, pos, ◌≤ℤ◌, ◌++◌, List, ℕ, append-nil, ap, sym, subst, ◌∙◌, w64}
use Rattle.std.specs.Prelude.{Option, Some, slice_get, IsSomeAnd, OnOk}
use Rattle.std.proofs.lemmas.Int.{to_z-of_z}
use Rattle.std.proofs.lemmas.Option.{slice_get-get_or, slice_get_past}
use Rattle.bt_core.specs.declared.map.MapDecl.{MapDecl}
use Rattle.map_rows.specs.Items.{CanPrint}
use Rattle.map_printer.specs.Ends.{printed_map}
use Rattle.map_printer.specs.ItemTexts.{declared_text}
use Rattle.map_printer.proofs.item_text.write_declared.Goals as goal

pub write_printed-requires : goal.write_printed-requires
write_printed-requires c =
    let there : slice_get c.args.maps.now c.args.map.0 ≡ Some c.in-Some.decl.now =
    slice_get-get_or c.args.maps.now c.args.map.0 c.in-Some.decl.now c.in-Some.ensures.lookup.3.0 ∙ ap Some (sym c.in-Some.ensures.lookup.1) in
    let can : CanPrint c.args.rows.now c.args.div c.in-Some.decl.now = subst (λ (o : Option MapDecl). IsSomeAnd o (CanPrint c.args.rows.now c.args.div)) there c.requires in
    record {
      divides = subst (λ (z : ℤ). pos 1 ≤ℤ z) (sym (to_z-of_z w64 c.args.div c.ranges.div)) can.divides;
      fit = can.fit;
    }

pub returns-in-Some : goal.returns-in-Some
returns-in-Some c =
    let there : slice_get c.args.maps.now c.args.map.0 ≡ Some c.in-Some.decl.now =
    slice_get-get_or c.args.maps.now c.args.map.0 c.in-Some.decl.now c.in-Some.ensures.lookup.3.0 ∙ ap Some (sym c.in-Some.ensures.lookup.1) in
    subst (λ (t : List ℕ). OnOk c.write_printed.result (c.write_printed.new.out.items ≡ c.args.out.now.items ++ t))
    (ap (λ (z : ℤ). printed_map c.in-Some.decl.now c.args.rows.now c.args.top z) (to_z-of_z w64 c.args.div c.ranges.div)
    ∙ ap (λ (o : Option MapDecl). declared_text o c.args.rows.now c.args.top c.args.div) (sym there))
    c.write_printed.ensures

pub returns-in-None : goal.returns-in-None
returns-in-None c =
    sym (append-nil c.args.out.now.items)
    ∙ ap (λ (o : Option MapDecl). c.args.out.now.items ++ declared_text o c.args.rows.now c.args.top c.args.div) (sym (slice_get_past c.args.maps.now c.args.map.0 c.in-None.ensures.lookup.3))
