use Rattle.std.proofs.Common.{Bool, map}
use Rattle.expr_types.specs.Walk.{of_expr}
use Rattle.typed_tree.specs.Parts.{made_of, stmt_parts}
use Rattle.bt_types.proofs.Turns.{does_in_err, fault_first}
use Rattle.expr_types.specs.Walk.{points_of}
use Rattle.bt_types.specs.Told.{printf_told}
use Rattle.bt_types.proofs.Printing.{printf_done, printf_refused}
use Rattle.bt_types.proofs.StmtLayers.{printf_stmt}
use Rattle.bt_types.proofs.printf.check_printf.Goals as goal

pub returns-in_err-values : goal.returns-in_err-values
returns-in_err-values c =
    does_in_err (printf_told c.args.format.now c.args.place (map of_expr c.args.values.now)) stmt_parts c.args.known.now _ _ c.in_err-values.field-0.0 c.from_residual.ensures.1
    (fault_first (points_of (map of_expr c.args.values.now)) _ c.args.known.now _ c.in_err-values.ensures)

pub returns-in_err-format : goal.returns-in_err-format
returns-in_err-format c =
    does_in_err (printf_told c.args.format.now c.args.place (map of_expr c.args.values.now)) stmt_parts c.args.known.now _ _ c.in_err-format.field-0.0 c.from_residual-in_err-format.ensures.1
    (printf_refused c.args.format.now c.args.place (map of_expr c.args.values.now) c.args.known.now c.check_all.new.known (map made_of c.in_ok-values.values) _ c.in_ok-values.ensures c.in_err-format.ensures.refuses)

pub returns : goal.returns
returns c = λ (inside : Bool).
    rw (printf_stmt c.in_ok-format.format c.in_ok-values.values inside)
    (printf_done c.args.format.now c.args.place (map of_expr c.args.values.now) c.args.known.now c.check_all.new.known c.check_format.new.known (map made_of c.in_ok-values.values) c.in_ok-format.format c.in_ok-values.ensures c.in_ok-format.ensures.refuses c.in_ok-format.ensures.learned c.in_ok-format.ensures.numbered)
