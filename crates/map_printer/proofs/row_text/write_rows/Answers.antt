use Rattle.std.proofs.Common.{◌++◌, ℤ, ap, refl, ◌∙◌, w64, to_z, of_z}
use Rattle.std.proofs.lemmas.Int.{to_z-of_z}
use Rattle.map_printer.specs.Rows.{row_text, rows_text}
use Rattle.map_printer.proofs.Chains.{next_row, last_row}
use Rattle.map_printer.proofs.row_text.write_rows.Goals as goal

pub loop-row-preserved : goal.loop-row-preserved
loop-row-preserved c =
    let name = c.args.name.now in
    let div : ℤ = to_z w64 (of_z w64 c.args.div) in
    next_row (rows_text name div) (rows_text name div) (row_text name div) (λ x xs. refl) c.args.rows.now c.loop-row.row-index c.row-item.result c.row-item.result c.loop-row.out.items c.write_row.new.out.items
    (c.args.out.now.items ++ rows_text name div c.args.rows.now) c.loop-row-test.true c.row-item.is c.loop-row.invariant c.in_ok-write_row.ensures

pub returns : goal.returns
returns c =
    let name = c.args.name.now in let rows = c.args.rows.now in
    let div : ℤ = to_z w64 (of_z w64 c.args.div) in
    last_row (rows_text name div) refl rows c.loop-row.row-index c.loop-row.out.items (c.args.out.now.items ++ rows_text name div rows) c.loop-row-test.false c.loop-row.invariant
    ∙ ap (λ (z : ℤ). c.args.out.now.items ++ rows_text name z rows) (to_z-of_z w64 c.args.div c.ranges.div)
