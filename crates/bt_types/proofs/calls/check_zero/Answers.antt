use Rattle.std.proofs.Common.{Bool}
use Rattle.expr_types.specs.Walk.{of_map}
use Rattle.typed_tree.specs.Parts.{stmt_parts}
use Rattle.bt_types.proofs.Turns.{does_in_err}
use Rattle.bt_types.specs.Told.{zero_told}
use Rattle.bt_types.proofs.MapCalls.{zero_done}
use Rattle.bt_types.proofs.StmtLayers.{zero_stmt}
use Rattle.bt_types.proofs.calls.check_zero.Goals as goal

pub returns-in_err-map : goal.returns-in_err-map
returns-in_err-map c =
    does_in_err (zero_told (of_map c.args.map.now)) stmt_parts c.args.known.now _ _ c.in_err-map.field-0.0 c.from_residual.ensures.1
    (c.in_err-map.ensures)

pub returns : goal.returns
returns c = λ (inside : Bool). rw (zero_stmt c.in_ok-map.map inside) (zero_done (of_map c.args.map.now) c.args.known.now c.check_used.new.known c.in_ok-map.map.0 c.in_ok-map.ensures)
