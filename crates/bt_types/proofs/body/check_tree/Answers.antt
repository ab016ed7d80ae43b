use Rattle.std.proofs.Common.{◌∙◌, false, ap, Option}
use Rattle.bt_types.specs.Told.{of_block}
use Rattle.typed_tree.specs.declared.expr.NumExpr.{NumExpr}
use Rattle.typed_tree.specs.declared.stmt.TypedBlock.{TypedBlock}
use Rattle.typed_tree.specs.Parts.{block_parts}
use Rattle.typed_tree.specs.Bodies.{predicate_parts, tree_parts}
use Rattle.bt_types.specs.Bodies.{predicate_told, body_told}
use Rattle.bt_types.proofs.Turns.{done_in, done_next, fault_in, refused_front, refused_next, does_err}
use Rattle.bt_types.proofs.body.check_tree.Goals as goal

pub returns-in_err-predicate-clause-does : goal.returns-in_err-predicate-clause-does
returns-in_err-predicate-clause-does c =
    let probe = c.args.probe.now in
    does_err (body_told probe) tree_parts c.args.known.now _ _ c.in_err-predicate.field-0.0 c.from_residual.ensures.1
    (refused_front (predicate_told probe.predicate) (of_block probe.block false) c.args.known.now c.in_err-predicate.field-0.0 c.in_err-predicate.ensures)

pub returns-in_err-predicate-2-clause-does : goal.returns-in_err-predicate-2-clause-does
returns-in_err-predicate-2-clause-does c =
    let probe = c.args.probe.now in
    let e = c.in_err-predicate-2.field-0.0 in
    let fault = fault_in (of_block probe.block false) (λ b. block_parts b false) c.check_predicate.new.known c.check_block-block.new.known c.check_block-block.result e c.in_err-predicate-2.ensures c.check_block-block.ensures in
    does_err (body_told probe) tree_parts c.args.known.now _ _ e c.from_residual-in_err-predicate-2.ensures.1
    (refused_next (predicate_told probe.predicate) (of_block probe.block false) c.args.known.now c.check_predicate.new.known (predicate_parts c.in_ok-predicate.predicate) e c.in_ok-predicate.ensures fault)

pub returns-clause-does : goal.returns-clause-does
returns-clause-does c =
    let probe = c.args.probe.now in
    let predicate = ap (λ (both : Option NumExpr × TypedBlock). both.0) c.in_ok-predicate-3.ensures.0 ∙ c.in_ok-predicate-2.ensures.0 in
    let block = ap (λ (both : Option NumExpr × TypedBlock). both.1) c.in_ok-predicate-3.ensures.0 in
    let done = done_in (of_block probe.block false) (λ b. block_parts b false) c.check_predicate.new.known c.check_block-block.new.known c.check_block-block.result c.in_ok-predicate-2.block c.in_ok-predicate-2.ensures.1 c.check_block-block.ensures in
    rw (predicate, block)
    (done_next (predicate_told probe.predicate) (of_block probe.block false) c.args.known.now c.check_predicate.new.known c.check_block-block.new.known (predicate_parts c.in_ok-predicate.predicate) (block_parts c.in_ok-predicate-2.block false) c.in_ok-predicate.ensures done)
