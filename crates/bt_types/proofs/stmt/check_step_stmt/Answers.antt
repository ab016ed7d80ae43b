use Rattle.std.proofs.Common.{Bool, List, sym, subst}
use Rattle.bt_core.specs.declared.map.Shape.TheVariants.{Int}
use Rattle.typed_tree.specs.Parts.{TreePart, made, num_parts}
use Rattle.expr_types.specs.Walk.{of_step}
use Rattle.bt_types.specs.Told.{value_told}
use Rattle.bt_types.specs.Done.{Done}
use Rattle.bt_types.proofs.StmtLayers.{step_stmt}
use Rattle.bt_types.proofs.Turns.{done_value}
use Rattle.bt_types.proofs.stmt.check_step_stmt.Goals as goal

pub returns : goal.returns
returns c = λ (inside : Bool).
    let s = of_step c.args.step.now in
    subst (λ (ps : List TreePart). Done (value_told s) c.args.known.now c.check_step.new.known ps) (sym (step_stmt c.in_ok-value.value inside))
    (done_value s c.args.known.now c.check_step.new.known (made Int (num_parts c.in_ok-value.value)) c.in_ok-value.ensures)
