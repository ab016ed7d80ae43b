use Rattle.expr_types.specs.Walk.{of_expr}
use Rattle.typed_tree.specs.Parts.{made_of, num_parts}
use Rattle.bt_types.specs.Told.{number_told}
use Rattle.bt_types.proofs.Turns.{does_err, fault_first}
use Rattle.bt_types.proofs.Numbers.{number_does}
use Rattle.bt_types.proofs.assign.check_number.Goals as goal

pub returns-in_err-value : goal.returns-in_err-value
returns-in_err-value c =
    does_err (number_told c.args.expr.now c.args.place) num_parts c.args.known.now _ _ c.in_err-value.field-0.0 c.from_residual.ensures.1
    (fault_first (of_expr c.args.expr.now).points _ c.args.known.now _ c.in_err-value.ensures)

pub returns : goal.returns
returns c =
    number_does c.args.expr.now c.args.place c.args.known.now c.check_expr.new.known (made_of c.in_ok-value.value) c.whole.result c.in_ok-value.ensures c.whole.ensures.refuses c.whole.ensures.made
