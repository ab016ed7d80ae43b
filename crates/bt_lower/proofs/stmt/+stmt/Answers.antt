use Rattle.std.proofs.Common.{◌∙◌, sym, ap, refl, arith, List, SFits, w64, rules, ◌≡◌, [], subst, ◌<◌}
use Rattle.std.proofs.lemmas.Int.{to_z-of_z}
use Rattle.typed_tree.specs.declared.expr.AnyExpr.{AnyExpr}
use Rattle.typed_tree.specs.declared.stmt.TypedBlock.{TypedBlock}
use Rattle.typed_tree.specs.declared.stmt.TypedBlock as blocks
use Rattle.typed_tree.specs.declared.stmt.TypedStmt as trees
use Rattle.typed_tree.specs.declared.stmt.TypedStmt.TheVariants as stmts
use Rattle.std.specs.Prelude.{ℤ}
use Rattle.bt_core.specs.declared.value.Value.TheVariants.{Int}
use Rattle.ir_code.specs.declared.instr.Instr.TheVariants as i
use Rattle.bt_lower.specs.Code.{pushed}
use Rattle.bt_lower.proofs.Arms.{at-ok, on-number, with-number}
use Rattle.bt_lower.proofs.Branches.{Else-none, Else-some, Arms-start, Arms-more, Arms-next, T-If, T-If-none, T-If-else}
use Rattle.bt_lower.proofs.Jumps.{Same, Same-single}
use Rattle.bt_lower.proofs.Rest.{Rest-start, Rest-next, Rest-end}
use Rattle.bt_lower.proofs.Stmts.{Lowers-into}
use Rattle.bt_lower.proofs.Unrolled.{unroll-steps}
use Rattle.bt_lower.proofs.Whiled.{T-While}
use Rattle.bt_lower.proofs.Measured.{failed, on-failed}
use Rattle.typed_tree.specs.declared.expr.NumExpr.{NumExpr}
use Rattle.typed_tree.specs.declared.stmt.TypedStmt.{TypedStmt}
use Rattle.bt_lower.specs.Lowers.{LowersStatement}
use Rattle.bt_lower.proofs.Lists.{nothing_in}
use Rattle.typed_tree.proofs.stmt.TypedBlock.TheLaws.{the_size as block_size}
use Rattle.typed_tree.proofs.stmt.TypedStmt.TheLaws.{the_size as stmt_size}
use Rattle.bt_lower.proofs.Sizes.{while_block, unroll_block}
use Rattle.bt_lower.proofs.stmt.+stmt.Goals as goal

pub lower_stmt-returns-in-SetVar : goal.lower_stmt-returns-in-SetVar
lower_stmt-returns-in-SetVar t c = at-ok c.set_variable.result c.set_variable.ensures (Same-single _ _ _ _ _ c.in-SetVar.is)

pub lower_stmt-returns-in-UpdateVar : goal.lower_stmt-returns-in-UpdateVar
lower_stmt-returns-in-UpdateVar t c = at-ok c.update_variable.result c.update_variable.ensures (Same-single _ _ _ _ _ c.in-UpdateVar.is)

pub lower_stmt-returns-in-Step : goal.lower_stmt-returns-in-Step
lower_stmt-returns-in-Step t c = at-ok c.step.result c.step.ensures (Same-single _ _ _ _ _ c.in-Step.is)

pub lower_stmt-returns-in-Clear : goal.lower_stmt-returns-in-Clear
lower_stmt-returns-in-Clear t c = at-ok c.clear.result c.clear.ensures (Same-single _ _ _ _ _ c.in-Clear.is)

pub lower_stmt-returns-in-Zero : goal.lower_stmt-returns-in-Zero
lower_stmt-returns-in-Zero t c = at-ok c.zero.result c.zero.ensures (Same-single _ _ _ _ _ c.in-Zero.is)

pub lower_stmt-returns-in-While : goal.lower_stmt-returns-in-While
lower_stmt-returns-in-While t c = at-ok c.lower_while.result c.lower_while.ensures (Same-single _ _ _ _ _ c.in-While.is)

pub lower_stmt-returns-in-Unroll : goal.lower_stmt-returns-in-Unroll
lower_stmt-returns-in-Unroll t c = at-ok c.lower_unroll.result c.lower_unroll.ensures (Same-single _ _ _ _ _ c.in-Unroll.is)

pub lower_stmt-returns-in-SetMap : goal.lower_stmt-returns-in-SetMap
lower_stmt-returns-in-SetMap t c =
    at-ok c.set_map.result c.set_map.ensures (Same-single _ _ _ _ _ (c.in-SetMap.is ∙ ap (λ (l : List AnyExpr). stmts.SetMap c.in-SetMap.map l c.in-SetMap.value) (sym c.as_slice.ensures)))

pub lower_stmt-returns-in-UpdateMap : goal.lower_stmt-returns-in-UpdateMap
lower_stmt-returns-in-UpdateMap t c =
    at-ok c.update_map.result c.update_map.ensures (Same-single _ _ _ _ _ (c.in-UpdateMap.is ∙ ap (λ (l : List AnyExpr). stmts.UpdateMap c.in-UpdateMap.map l c.in-UpdateMap.op c.in-UpdateMap.value) (sym c.as_slice-in-UpdateMap.ensures)))

pub lower_stmt-returns-in-Gather : goal.lower_stmt-returns-in-Gather
lower_stmt-returns-in-Gather t c =
    at-ok c.gather.result c.gather.ensures (Same-single _ _ _ _ _ (c.in-Gather.is ∙ ap (λ (l : List AnyExpr). stmts.Gather c.in-Gather.map l c.in-Gather.kind c.in-Gather.number) (sym c.as_slice-in-Gather.ensures)))

pub lower_stmt-returns-in-Printf : goal.lower_stmt-returns-in-Printf
lower_stmt-returns-in-Printf t c =
    at-ok c.printf.result c.printf.ensures (Same-single _ _ _ _ _ (c.in-Printf.is ∙ ap (λ (l : List AnyExpr). stmts.Printf c.in-Printf.format l) (sym c.as_slice-in-Printf.ensures)))

pub lower_stmt-returns-in-Delete : goal.lower_stmt-returns-in-Delete
lower_stmt-returns-in-Delete t c =
    at-ok c.delete_at.result c.delete_at.ensures (Same-single _ _ _ _ _ (c.in-Delete.is ∙ ap (λ (l : List AnyExpr). stmts.Delete c.in-Delete.map l) (sym c.as_slice-in-Delete.ensures)))

pub lower_stmt-returns-in-Print : goal.lower_stmt-returns-in-Print
lower_stmt-returns-in-Print t c =
    let fits : SFits w64 c.in-Print.div = search rules in
    let made = simp to_z-of_z at c.print.ensures in
    at-ok c.print.result made (Same-single _ _ _ _ _ c.in-Print.is)

pub lower_stmt-returns-in-Jump : goal.lower_stmt-returns-in-Jump
lower_stmt-returns-in-Jump t c = at-ok c.jump.result c.jump.ensures (Same _ _ _ _ _ c.in-Jump.is)

pub lower_block-loop-left-init : goal.lower_block-loop-left-init
lower_block-loop-left-init t c = record { within = omega arith; lowered = Rest-start c.as_slice-stmts.result.now _ _ _ refl }

pub lower_block-loop-left-preserved : goal.lower_block-loop-left-preserved
lower_block-loop-left-preserved t c = record { within = omega (arith, c.loop-left.invariant.within); lowered = Rest-next _ _ _ _ _ _ _ c.loop-left-test.true c.loop-left.invariant.within c.index-stmts-left.is c.loop-left.invariant.lowered c.in_ok-lower_stmt.ensures }

pub lower_block-returns : goal.lower_block-returns
lower_block-returns t c = Rest-end _ _ c.loop-left.left _ _ _ (omega (arith, c.loop-left-test.false)) c.as_slice-stmts.ensures c.loop-left.invariant.lowered

pub lower_into-returns : goal.lower_into-returns
lower_into-returns t c = with-number _ _ c.close.result c.close.ensures.closed c.close.ensures.number (λ closed number is. Lowers-into _ _ _ _ _ _ _ _ _ _ c.in_ok-begin.ensures c.in_ok-lower_block.ensures closed is)

pub lower_else-returns-in-None : goal.lower_else-returns-in-None
lower_else-returns-in-None t c = Else-none _ _ _ _ c.in-None.is

pub lower_else-returns-in-Some : goal.lower_else-returns-in-Some
lower_else-returns-in-Some t c = on-number _ _ c.lower_into.result c.lower_into.ensures (λ number lowered. Else-some _ _ _ _ _ _ _ c.in-Some.is lowered)

pub lower_while-returns : goal.lower_while-returns
lower_while-returns t c = at-ok c.patch.result c.patch.ensures (λ patched way. T-While _ _ _ _ _ _ _ _ _ way _ _ _ _ _ _ _ _ _ _ _ c.in_ok-leave.ensures.closed c.in_ok-leave.ensures.number c.in_ok-cut.ensures.made c.in_ok-cut.ensures.number c.in_ok-again.ensures.reserved c.in_ok-again.ensures.number c.in_ok-turn.ensures c.gate.ensures c.in_ok-first.ensures.closed c.in_ok-first.ensures.number refl c.in_ok-lower_test.ensures c.in_ok-head.ensures.closed c.in_ok-head.ensures.number patched)

pub lower_stmt-returns-in-If : goal.lower_stmt-returns-in-If
lower_stmt-returns-in-If t c = at-ok c.lower_if.result c.lower_if.ensures (λ lowered. lowered _ _ c.in-If.is)

pub lower_only_else-returns-in-Some : goal.lower_only_else-returns-in-Some
lower_only_else-returns-in-Some t c = at-ok c.lower_block.result c.lower_block.ensures (T-If-else _ _ _ _ _ c.in-Some.is)

pub lower_only_else-returns-in-None : goal.lower_only_else-returns-in-None
lower_only_else-returns-in-None t c = T-If-none _ _ _ c.in-None.is

pub lower_arm-returns : goal.lower_arm-returns
lower_arm-returns t c =
    with-number _ _ c.close.result c.close.ensures.closed c.close.ensures.number
    (λ closed number is arms o first ls. Arms-more _ arms o _ _ _ _ _ first _ _ _ _ _ ls c.in_ok-first.ensures refl c.in_ok-lower_test.ensures closed is)

pub lower_unroll-returns : goal.lower_unroll-returns
lower_unroll-returns t c =
    let fits : SFits w64 c.from.result = search rules in
    let made = simp to_z-of_z at (c.push-2).ensures in
    at-ok (c.push-2).result made (λ pushed_last way. unroll-steps _ _ _ _ _ _ _ _ _ c.in_ok-push.ensures c.in_ok-leave.ensures.closed c.in_ok-leave.ensures.number c.in_ok-cut.ensures.made c.in_ok-cut.ensures.number c.in_ok-again.ensures.reserved c.in_ok-again.ensures.number _ _ way _ _ _ _ _ _ _ _ _ _ c.in_ok-turn.ensures c.gate.ensures c.in_ok-gate.ensures.closed c.in_ok-gate.ensures.number c.in_ok-begin.ensures c.in_ok-head.ensures.closed c.in_ok-head.ensures.number c.in_ok-patch.ensures (pushed_last ∙ ap (λ (n : ℤ). pushed (i.Put (Int n)) c.patch.new.self) c.from.ensures))

pub lower_if-loop-left-init : goal.lower_if-loop-left-init
lower_if-loop-left-init t c = record { within = omega arith; lowered = Arms-start _ _ _ _ _ _ _ _ c.args.code.now c.close.new.self _ c.in-If.is c.as_slice-arms.ensures refl c.in_ok-after.ensures.closed c.in_ok-next.ensures }

pub lower_if-lower_arm-requires : goal.lower_if-lower_arm-requires
lower_if-lower_arm-requires t c = search (rules, trees.the_lemmas, blocks.the_lemmas)

pub lower_if-loop-left-preserved : goal.lower_if-loop-left-preserved
lower_if-loop-left-preserved t c = record {
  within = omega (arith, c.loop-left.invariant.within);
  lowered = Arms-next _ _ c.loop-left.left c.index-arms-left.result _ _ _ _ _ _ _ c.loop-left-test.true c.loop-left.invariant.within c.index-arms-left.is c.loop-left.invariant.lowered (c.in_ok-next-2).ensures;
}

pub lower_if-returns-in_ok-begin : goal.lower_if-returns-in_ok-begin
lower_if-returns-in_ok-begin t c = λ arms o is. T-If _ _ c.loop-left.left _ _ _ _ _ _ (omega (arith, c.if-left-eq0.false)) (omega (arith, c.loop-left-test.false)) c.in_ok-after.ensures.number c.loop-left.invariant.lowered c.in_ok-begin.ensures

pub lower_arm-returns-in_err-first : goal.lower_arm-returns-in_err-first
lower_arm-returns-in_err-first t c = failed _ _ c.from_residual.result c.from_residual.ensures.1

pub lower_arm-returns-in_err-lower_test : goal.lower_arm-returns-in_err-lower_test
lower_arm-returns-in_err-lower_test t c = failed _ _ c.from_residual-in_err-lower_test.result c.from_residual-in_err-lower_test.ensures.1

pub lower_block-returns-in_err-lower_stmt : goal.lower_block-returns-in_err-lower_stmt
lower_block-returns-in_err-lower_stmt t c = on-failed _ _ c.from_residual.result c.from_residual.ensures.1

pub lower_if-returns-in_err-after : goal.lower_if-returns-in_err-after
lower_if-returns-in_err-after t c = on-failed _ _ c.from_residual.result c.from_residual.ensures.1

pub lower_if-returns-in_err-begin : goal.lower_if-returns-in_err-begin
lower_if-returns-in_err-begin t c = on-failed _ _ c.from_residual-in_err-begin.result c.from_residual-in_err-begin.ensures.1

pub lower_if-returns-in_err-next : goal.lower_if-returns-in_err-next
lower_if-returns-in_err-next t c = on-failed _ _ c.from_residual-in_err-next.result c.from_residual-in_err-next.ensures.1

pub lower_if-returns-in_err-next-2 : goal.lower_if-returns-in_err-next-2
lower_if-returns-in_err-next-2 t c = on-failed _ _ (c.from_residual-in_err-next-2).result (c.from_residual-in_err-next-2).ensures.1

pub lower_into-returns-in_err-begin : goal.lower_into-returns-in_err-begin
lower_into-returns-in_err-begin t c = failed _ _ c.from_residual.result c.from_residual.ensures.1

pub lower_into-returns-in_err-lower_block : goal.lower_into-returns-in_err-lower_block
lower_into-returns-in_err-lower_block t c = failed _ _ c.from_residual-in_err-lower_block.result c.from_residual-in_err-lower_block.ensures.1

pub lower_unroll-returns-in_err-again : goal.lower_unroll-returns-in_err-again
lower_unroll-returns-in_err-again t c = on-failed _ _ c.from_residual-in_err-again.result c.from_residual-in_err-again.ensures.1

pub lower_unroll-returns-in_err-begin : goal.lower_unroll-returns-in_err-begin
lower_unroll-returns-in_err-begin t c = on-failed _ _ c.from_residual-in_err-begin.result c.from_residual-in_err-begin.ensures.1

pub lower_unroll-returns-in_err-cut : goal.lower_unroll-returns-in_err-cut
lower_unroll-returns-in_err-cut t c = on-failed _ _ c.from_residual-in_err-cut.result c.from_residual-in_err-cut.ensures.1

pub lower_unroll-returns-in_err-gate : goal.lower_unroll-returns-in_err-gate
lower_unroll-returns-in_err-gate t c = on-failed _ _ c.from_residual-in_err-gate.result c.from_residual-in_err-gate.ensures.1

pub lower_unroll-returns-in_err-head : goal.lower_unroll-returns-in_err-head
lower_unroll-returns-in_err-head t c = on-failed _ _ c.from_residual-in_err-head.result c.from_residual-in_err-head.ensures.1

pub lower_unroll-returns-in_err-leave : goal.lower_unroll-returns-in_err-leave
lower_unroll-returns-in_err-leave t c = on-failed _ _ c.from_residual-in_err-leave.result c.from_residual-in_err-leave.ensures.1

pub lower_unroll-returns-in_err-patch : goal.lower_unroll-returns-in_err-patch
lower_unroll-returns-in_err-patch t c = on-failed _ _ c.from_residual-in_err-patch.result c.from_residual-in_err-patch.ensures.1

pub lower_unroll-returns-in_err-push : goal.lower_unroll-returns-in_err-push
lower_unroll-returns-in_err-push t c = on-failed _ _ c.from_residual.result c.from_residual.ensures.1

pub lower_unroll-returns-in_err-turn : goal.lower_unroll-returns-in_err-turn
lower_unroll-returns-in_err-turn t c = on-failed _ _ c.from_residual-in_err-turn.result c.from_residual-in_err-turn.ensures.1

pub lower_while-returns-in_err-again : goal.lower_while-returns-in_err-again
lower_while-returns-in_err-again t c = on-failed _ _ c.from_residual-in_err-again.result c.from_residual-in_err-again.ensures.1

pub lower_while-returns-in_err-cut : goal.lower_while-returns-in_err-cut
lower_while-returns-in_err-cut t c = on-failed _ _ c.from_residual-in_err-cut.result c.from_residual-in_err-cut.ensures.1

pub lower_while-returns-in_err-first : goal.lower_while-returns-in_err-first
lower_while-returns-in_err-first t c = on-failed _ _ c.from_residual-in_err-first.result c.from_residual-in_err-first.ensures.1

pub lower_while-returns-in_err-head : goal.lower_while-returns-in_err-head
lower_while-returns-in_err-head t c = on-failed _ _ c.from_residual-in_err-head.result c.from_residual-in_err-head.ensures.1

pub lower_while-returns-in_err-leave : goal.lower_while-returns-in_err-leave
lower_while-returns-in_err-leave t c = on-failed _ _ c.from_residual.result c.from_residual.ensures.1

pub lower_while-returns-in_err-lower_test : goal.lower_while-returns-in_err-lower_test
lower_while-returns-in_err-lower_test t c = on-failed _ _ c.from_residual-in_err-lower_test.result c.from_residual-in_err-lower_test.ensures.1

pub lower_while-returns-in_err-turn : goal.lower_while-returns-in_err-turn
lower_while-returns-in_err-turn t c = on-failed _ _ c.from_residual-in_err-turn.result c.from_residual-in_err-turn.ensures.1

pub lower_if-returns-then-left-eq0 : goal.lower_if-returns-then-left-eq0
lower_if-returns-then-left-eq0 t c =
    let none = sym c.as_slice-arms.ensures ∙ nothing_in c.as_slice-arms.result.now c.if-left-eq0.true in
    let is : c.args.s.now ≡ stmts.If [] c.in-If.otherwise = c.in-If.is ∙ ap (λ (arms : List (NumExpr × TypedBlock)). stmts.If arms c.in-If.otherwise) none in
    at-ok c.lower_only_else.result c.lower_only_else.ensures (λ made arms o same. subst (λ (s : TypedStmt). LowersStatement s c.args.way c.args.code.now c.lower_only_else.new.code) (sym is) made)

pub lower_stmt-lower_while-requires : goal.lower_stmt-lower_while-requires
lower_stmt-lower_while-requires t c =
    let below : block_size c.in-While.block < stmt_size c.args.s.now = while_block _ _ _ _ c.in-While.is in
    omega (arith, below, c.decreases)

pub lower_stmt-lower_unroll-requires : goal.lower_stmt-lower_unroll-requires
lower_stmt-lower_unroll-requires t c =
    let below : block_size c.in-Unroll.block < stmt_size c.args.s.now = unroll_block _ _ _ _ c.in-Unroll.is in
    omega (arith, below, c.decreases)
