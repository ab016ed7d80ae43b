use Rattle.std.proofs.Common.{Bool, FitsSigned, w64}
use Rattle.std.proofs.lemmas.Int.{to_z-of_z}
use Rattle.expr_types.specs.Walk.{of_map}
use Rattle.typed_tree.specs.Parts.{stmt_parts}
use Rattle.bt_types.proofs.Turns.{does_in_err, fault_first}
use Rattle.bt_types.specs.Told.{print_told, used}
use Rattle.bt_types.proofs.MapCalls.{print_done, print_refused}
use Rattle.bt_types.proofs.StmtLayers.{print_stmt}
use Rattle.bt_types.proofs.calls.check_print.Goals as goal

pub returns-in_err-map : goal.returns-in_err-map
returns-in_err-map c =
    does_in_err (print_told (of_map c.args.map.now) c.args.top c.args.div c.args.place) stmt_parts c.args.known.now _ _ c.in_err-map.field-0.0 c.from_residual.ensures.1
    (fault_first (used (of_map c.args.map.now)) _ c.args.known.now _ c.in_err-map.ensures)

pub returns-in_err-top : goal.returns-in_err-top
returns-in_err-top c =
    let top : FitsSigned w64 c.args.top = c.ranges.top in
    let div : FitsSigned w64 c.args.div = c.ranges.div in
    does_in_err (print_told (of_map c.args.map.now) c.args.top c.args.div c.args.place) stmt_parts c.args.known.now _ _ c.in_err-top.field-0.0 c.from_residual-in_err-top.ensures.1
    (print_refused (of_map c.args.map.now) c.args.top c.args.div c.args.place c.args.known.now c.check_used.new.known c.in_ok-map.map.0 _ c.in_ok-map.ensures (simp to_z-of_z at c.in_err-top.ensures.refuses))

pub returns : goal.returns
returns c = λ (inside : Bool).
    let top : FitsSigned w64 c.args.top = c.ranges.top in
    let div : FitsSigned w64 c.args.div = c.ranges.div in
    simp to_z-of_z (rw (print_stmt c.in_ok-map.map c.in_ok-top.top c.args.div inside)
    (print_done (of_map c.args.map.now) c.args.top c.args.div c.args.place c.args.known.now c.check_used.new.known c.in_ok-map.map.0 c.in_ok-top.top top c.in_ok-map.ensures (simp to_z-of_z at c.in_ok-top.ensures.refuses) (simp to_z-of_z at c.in_ok-top.ensures.same)))
