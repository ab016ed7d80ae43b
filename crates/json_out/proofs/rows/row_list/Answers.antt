use Rattle.std.proofs.Common.{ℤ, map, ap, ◌∙◌, w64, to_z, of_z}
use Rattle.std.proofs.lemmas.Int.{to_z-of_z}
use Rattle.json_out.specs.Rows.{row_data}
use Rattle.json_out.proofs.Steps.{next_value, last_value}
use Rattle.json_out.proofs.rows.row_list.Goals as goal

pub loop-row-preserved : goal.loop-row-preserved
loop-row-preserved c =
    next_value (row_data (to_z w64 (of_z w64 c.args.div))) c.args.rows.now c.loop-row.row-index c.row-item.result c.loop-row.list.items c.push.new.list.items c.in_ok-row_value.field-0
    c.loop-row-test.true c.row-item.is c.loop-row.invariant c.in_ok-push.ensures.ok c.in_ok-row_value.ensures

pub returns : goal.returns
returns c =
    last_value (row_data (to_z w64 (of_z w64 c.args.div))) c.args.rows.now c.loop-row.row-index c.loop-row.list.items c.loop-row-test.false c.loop-row.invariant
    ∙ ap (λ (z : ℤ). map (row_data z) c.args.rows.now) (to_z-of_z w64 c.args.div c.ranges.div)
