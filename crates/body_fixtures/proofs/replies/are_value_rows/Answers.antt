use Rattle.std.proofs.Common.{List}
use Rattle.bt_core.specs.declared.value.Value.{Value}
use Rattle.bt_core.specs.Kinds.{HasShape, IsOfKind}
use Rattle.body_fixtures.proofs.Passing.{one_more, all_passed}
use Rattle.body_fixtures.proofs.replies.are_value_rows.Goals as goal

pub loop-row-preserved : goal.loop-row-preserved
loop-row-preserved c = let P : (List Value × Value) → Type 0 = λ row. HasShape c.args.decl.now.key_shape row.0 × IsOfKind c.args.decl.now.kind row.1 in
    one_more P c.args.rows.now c.loop-row.row-index c.row-item.result c.loop-row-test.true c.row-item.is c.loop-row.invariant (c.is_value_row.ensures c.if-not-is_value_row.false)

pub returns : goal.returns
returns c = let P : (List Value × Value) → Type 0 = λ row. HasShape c.args.decl.now.key_shape row.0 × IsOfKind c.args.decl.now.kind row.1 in λ _. all_passed P c.args.rows.now c.loop-row.row-index c.loop-row-test.false c.loop-row.invariant
