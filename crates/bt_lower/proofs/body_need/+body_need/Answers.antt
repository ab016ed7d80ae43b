use Rattle.std.proofs.Common.{◌≡◌, ℕ, List, Option, ◌-◌, arith, rules, refl, sym, ap, subst, ◌∙◌, drop, length, map, ◌<◌}
use Rattle.typed_tree.specs.declared.expr.NumExpr.{NumExpr}
use Rattle.typed_tree.specs.declared.stmt.TypedBlock.{TypedBlock}
use Rattle.typed_tree.specs.declared.stmt.TypedStmt.{TypedStmt}
use Rattle.typed_tree.specs.declared.stmt.TypedStmt.TheVariants as stmts
use Rattle.bt_lower.specs.Needs.{Need, IsTooMuch, greater, stmt_need, tree_arms_need, tree_else_need, all_need}
use Rattle.bt_lower.proofs.Branches.{If-need}
use Rattle.bt_lower.proofs.Rest.{Block-need}
use Rattle.bt_lower.proofs.Needing.{frames_from, slots_from, arm_frame_from, arm_slots_from, needs_from, arms_from}
use Rattle.bt_lower.proofs.Forms as form
use Rattle.bt_lower.proofs.Measured.{same, same-beyond, at-err, failed, part-first, part-second, part-else, part-unroll, greater-are, set-var-is, set-map-is, update-var-is, update-map-is, gather-is, step-is, printf-is, delete-is, while-is, unroll-is}
use Rattle.std.proofs.lemmas.List.{drop_all}
use Rattle.typed_tree.proofs.stmt.TypedBlock.TheLaws.{the_size as block_size}
use Rattle.typed_tree.proofs.stmt.TypedStmt.TheLaws.{the_size as stmt_size}
use Rattle.bt_lower.proofs.Sizes.{while_block, unroll_block}
use Rattle.bt_lower.proofs.body_need.+body_need.Goals as goal

-- an `if`, once all arms are summed up
if-sum : (s : TypedStmt) (arms arms1 : List (NumExpr × TypedBlock)) (o : Option TypedBlock) (left : ℕ) (all other n : Need) → s ≡ stmts.If arms o → arms1 ≡ arms → left ≡ 0 → all ≡ tree_arms_need (drop left arms1) → other ≡ tree_else_need o → n ≡ greater all other →
    n ≡ stmt_need s
if-sum s arms arms1 o left all other n hs ha hl hall ho hn =
    let whole : all ≡ tree_arms_need arms = hall ∙ ap (λ (k : ℕ). tree_arms_need (drop k arms1)) hl ∙ ap tree_arms_need ha in
    hn ∙ ap (λ (x : Need). greater x other) whole ∙ ap (greater (tree_arms_need arms)) ho ∙ sym (If-need arms o) ∙ ap stmt_need (sym hs)

pub stmt_need-returns-in_ok-greater-in-If-clause-need : goal.stmt_need-returns-in_ok-greater-in-If-clause-need
stmt_need-returns-in_ok-greater-in-If-clause-need t c =
    if-sum _ _ _ _ _ _ _ _ c.in-If.is c.as_slice-arms.ensures (omega (arith, c.loop-left-test.false)) c.loop-left.invariant.sums c.in_ok-otherwise-in-If.ensures.need c.in_ok-greater-in-If.ensures.greater

pub stmt_need-returns-in_err-greater-in-If-clause-beyond : goal.stmt_need-returns-in_err-greater-in-If-clause-beyond
stmt_need-returns-in_err-greater-in-If-clause-beyond t c =
    let whole : greater c.loop-left.all c.in_ok-otherwise-in-If.otherwise ≡ stmt_need c.args.s.now =
    if-sum _ _ _ _ _ _ _ _ c.in-If.is c.as_slice-arms.ensures (omega (arith, c.loop-left-test.false)) c.loop-left.invariant.sums c.in_ok-otherwise-in-If.ensures.need refl in
    let beyond = subst IsTooMuch whole c.in_err-greater-in-If.ensures.beyond in
    search rules

-- what an `if` needs, by its arms and its `else`
if-need : (s : TypedStmt) (arms arms1 : List (NumExpr × TypedBlock)) (o : Option TypedBlock) → s ≡ stmts.If arms o → arms1 ≡ arms → stmt_need s ≡ greater (tree_arms_need arms1) (tree_else_need o)
if-need s arms arms1 o hs ha = ap stmt_need hs ∙ If-need arms o ∙ ap (λ (l : List (NumExpr × TypedBlock)). greater (tree_arms_need l) (tree_else_need o)) (sym ha)

pub stmt_need-returns-in_err-one-in-If-clause-beyond : goal.stmt_need-returns-in_err-one-in-If-clause-beyond
stmt_need-returns-in_err-one-in-If-clause-beyond t c =
    let whole = if-need _ _ _ _ c.in-If.is c.as_slice-arms.ensures in
    let arms = c.as_slice-arms.result.now in
    let frame = arm_frame_from arms (c.loop-left.left - 1) c.loop-left.left _ _ (omega arith) (omega arith) c.index-arms-left-in-loop-left.is c.index-arms-left.is in
    let slots = arm_slots_from arms (c.loop-left.left - 1) c.loop-left.left _ _ (omega arith) (omega arith) c.index-arms-left-in-loop-left.is c.index-arms-left.is in
    grind (arith, whole, frame, slots)

pub stmt_need-returns-in_err-all-in-If-clause-beyond : goal.stmt_need-returns-in_err-all-in-If-clause-beyond
stmt_need-returns-in_err-all-in-If-clause-beyond t c =
    let whole = if-need _ _ _ _ c.in-If.is c.as_slice-arms.ensures in
    let arms = c.as_slice-arms.result.now in
    let frame = arm_frame_from arms (c.loop-left.left - 1) c.loop-left.left _ _ (omega arith) (omega arith) c.index-arms-left-in-loop-left.is c.index-arms-left.is in
    let slots = arm_slots_from arms (c.loop-left.left - 1) c.loop-left.left _ _ (omega arith) (omega arith) c.index-arms-left-in-loop-left.is c.index-arms-left.is in
    grind (arith, whole, frame, slots)

pub block_need-returns-in_err-one-clause-beyond : goal.block_need-returns-in_err-one-clause-beyond
block_need-returns-in_err-one-clause-beyond t c =
    let stmts = c.as_slice-stmts.result.now in
    let whole = Block-need c.args.block.now in
    let frame = frames_from stmt_need stmts (c.loop-left.left - 1) c.loop-left.left _ (omega arith) (omega arith) c.index-stmts-left.is in
    let slots = slots_from stmt_need stmts (c.loop-left.left - 1) c.loop-left.left _ (omega arith) (omega arith) c.index-stmts-left.is in
    grind (arith, whole, frame, slots)

pub block_need-returns-in_err-all-clause-beyond : goal.block_need-returns-in_err-all-clause-beyond
block_need-returns-in_err-all-clause-beyond t c =
    let stmts = c.as_slice-stmts.result.now in
    let whole = Block-need c.args.block.now in
    let frame = frames_from stmt_need stmts (c.loop-left.left - 1) c.loop-left.left _ (omega arith) (omega arith) c.index-stmts-left.is in
    let slots = slots_from stmt_need stmts (c.loop-left.left - 1) c.loop-left.left _ (omega arith) (omega arith) c.index-stmts-left.is in
    grind (arith, whole, frame, slots)

pub stmt_need-returns-in_err-otherwise-in-If-clause-need : goal.stmt_need-returns-in_err-otherwise-in-If-clause-need
stmt_need-returns-in_err-otherwise-in-If-clause-need t c = failed _ _ c.from_residual-in_err-otherwise-in-If.result c.from_residual-in_err-otherwise-in-If.ensures.1

pub stmt_need-returns-in_err-otherwise-in-If-clause-beyond : goal.stmt_need-returns-in_err-otherwise-in-If-clause-beyond
stmt_need-returns-in_err-otherwise-in-If-clause-beyond t c = at-err c.from_residual-in_err-otherwise-in-If.result (part-else _ _ _ c.in_err-otherwise-in-If.ensures.beyond (if-need _ _ _ _ c.in-If.is c.as_slice-arms.ensures))

pub stmt_need-returns-in_err-one-in-If-clause-need : goal.stmt_need-returns-in_err-one-in-If-clause-need
stmt_need-returns-in_err-one-in-If-clause-need t c = failed _ _ c.from_residual.result c.from_residual.ensures.1

pub stmt_need-returns-in_err-all-in-If-clause-need : goal.stmt_need-returns-in_err-all-in-If-clause-need
stmt_need-returns-in_err-all-in-If-clause-need t c = failed _ _ c.from_residual-in_err-all-in-If.result c.from_residual-in_err-all-in-If.ensures.1

pub stmt_need-returns-in_err-greater-in-If-clause-need : goal.stmt_need-returns-in_err-greater-in-If-clause-need
stmt_need-returns-in_err-greater-in-If-clause-need t c = failed _ _ c.from_residual-in_err-greater-in-If.result c.from_residual-in_err-greater-in-If.ensures.1

pub tested_need-returns-in_err-test-clause-need : goal.tested_need-returns-in_err-test-clause-need
tested_need-returns-in_err-test-clause-need t c = failed _ _ c.from_residual.result c.from_residual.ensures.1

pub tested_need-returns-in_err-test-clause-beyond : goal.tested_need-returns-in_err-test-clause-beyond
tested_need-returns-in_err-test-clause-beyond t c = at-err c.from_residual.result (part-first c.args.slots _ _ _ c.in_err-test.ensures.beyond refl)

pub tested_need-returns-in_err-block-clause-need : goal.tested_need-returns-in_err-block-clause-need
tested_need-returns-in_err-block-clause-need t c = failed _ _ c.from_residual-in_err-block.result c.from_residual-in_err-block.ensures.1

pub tested_need-returns-in_err-block-clause-beyond : goal.tested_need-returns-in_err-block-clause-beyond
tested_need-returns-in_err-block-clause-beyond t c = at-err c.from_residual-in_err-block.result (part-second c.args.slots _ _ _ c.in_err-block.ensures.beyond refl)

pub block_need-returns-in_err-one-clause-need : goal.block_need-returns-in_err-one-clause-need
block_need-returns-in_err-one-clause-need t c = failed _ _ c.from_residual.result c.from_residual.ensures.1

pub block_need-returns-in_err-all-clause-need : goal.block_need-returns-in_err-all-clause-need
block_need-returns-in_err-all-clause-need t c = failed _ _ c.from_residual-in_err-all.result c.from_residual-in_err-all.ensures.1

pub otherwise_need-returns-in-Some-clause-need : goal.otherwise_need-returns-in-Some-clause-need
otherwise_need-returns-in-Some-clause-need t c = same _ _ _ c.block_need.ensures.need (sym (ap tree_else_need c.in-Some.is))

pub otherwise_need-returns-in-Some-clause-beyond : goal.otherwise_need-returns-in-Some-clause-beyond
otherwise_need-returns-in-Some-clause-beyond t c = same-beyond _ _ _ c.block_need.ensures.beyond (sym (ap tree_else_need c.in-Some.is))

pub stmt_need-returns-in-SetVar-clause-need : goal.stmt_need-returns-in-SetVar-clause-need
stmt_need-returns-in-SetVar-clause-need t c = same _ _ _ c.set_variable_need.ensures.need (sym (set-var-is _ _ _ c.in-SetVar.is))

pub stmt_need-returns-in-SetVar-clause-beyond : goal.stmt_need-returns-in-SetVar-clause-beyond
stmt_need-returns-in-SetVar-clause-beyond t c = same-beyond _ _ _ c.set_variable_need.ensures.beyond (sym (set-var-is _ _ _ c.in-SetVar.is))

pub stmt_need-returns-in-SetMap-clause-need : goal.stmt_need-returns-in-SetMap-clause-need
stmt_need-returns-in-SetMap-clause-need t c = same _ _ _ c.set_map_need.ensures.need (sym (set-map-is _ _ _ _ _ c.in-SetMap.is c.as_slice.ensures))

pub stmt_need-returns-in-SetMap-clause-beyond : goal.stmt_need-returns-in-SetMap-clause-beyond
stmt_need-returns-in-SetMap-clause-beyond t c = same-beyond _ _ _ c.set_map_need.ensures.beyond (sym (set-map-is _ _ _ _ _ c.in-SetMap.is c.as_slice.ensures))

pub stmt_need-returns-in-UpdateVar-clause-need : goal.stmt_need-returns-in-UpdateVar-clause-need
stmt_need-returns-in-UpdateVar-clause-need t c = same _ _ _ c.update_variable_need.ensures.need (sym (update-var-is _ _ _ _ c.in-UpdateVar.is))

pub stmt_need-returns-in-UpdateVar-clause-beyond : goal.stmt_need-returns-in-UpdateVar-clause-beyond
stmt_need-returns-in-UpdateVar-clause-beyond t c = same-beyond _ _ _ c.update_variable_need.ensures.beyond (sym (update-var-is _ _ _ _ c.in-UpdateVar.is))

pub stmt_need-returns-in-UpdateMap-clause-need : goal.stmt_need-returns-in-UpdateMap-clause-need
stmt_need-returns-in-UpdateMap-clause-need t c = same _ _ _ c.update_map_need.ensures.need (sym (update-map-is _ _ _ _ _ _ c.in-UpdateMap.is c.as_slice-in-UpdateMap.ensures))

pub stmt_need-returns-in-UpdateMap-clause-beyond : goal.stmt_need-returns-in-UpdateMap-clause-beyond
stmt_need-returns-in-UpdateMap-clause-beyond t c = same-beyond _ _ _ c.update_map_need.ensures.beyond (sym (update-map-is _ _ _ _ _ _ c.in-UpdateMap.is c.as_slice-in-UpdateMap.ensures))

pub stmt_need-returns-in-Gather-clause-need : goal.stmt_need-returns-in-Gather-clause-need
stmt_need-returns-in-Gather-clause-need t c = same _ _ _ c.gather_need.ensures.need (sym (gather-is _ _ _ _ _ _ c.in-Gather.is c.as_slice-in-Gather.ensures))

pub stmt_need-returns-in-Gather-clause-beyond : goal.stmt_need-returns-in-Gather-clause-beyond
stmt_need-returns-in-Gather-clause-beyond t c = same-beyond _ _ _ c.gather_need.ensures.beyond (sym (gather-is _ _ _ _ _ _ c.in-Gather.is c.as_slice-in-Gather.ensures))

pub stmt_need-returns-in-Step-clause-need : goal.stmt_need-returns-in-Step-clause-need
stmt_need-returns-in-Step-clause-need t c = same _ _ _ c.number_need.ensures.need (sym (step-is _ _ c.in-Step.is))

pub stmt_need-returns-in-Step-clause-beyond : goal.stmt_need-returns-in-Step-clause-beyond
stmt_need-returns-in-Step-clause-beyond t c = same-beyond _ _ _ c.number_need.ensures.beyond (sym (step-is _ _ c.in-Step.is))

pub stmt_need-returns-in-Printf-clause-need : goal.stmt_need-returns-in-Printf-clause-need
stmt_need-returns-in-Printf-clause-need t c = same _ _ _ c.taking_need.ensures.need (sym (printf-is _ _ _ _ c.in-Printf.is c.as_slice-in-Printf.ensures))

pub stmt_need-returns-in-Printf-clause-beyond : goal.stmt_need-returns-in-Printf-clause-beyond
stmt_need-returns-in-Printf-clause-beyond t c = same-beyond _ _ _ c.taking_need.ensures.beyond (sym (printf-is _ _ _ _ c.in-Printf.is c.as_slice-in-Printf.ensures))

pub stmt_need-returns-in-Delete-clause-need : goal.stmt_need-returns-in-Delete-clause-need
stmt_need-returns-in-Delete-clause-need t c = same _ _ _ c.taking_need-in-Delete.ensures.need (sym (delete-is _ _ _ _ c.in-Delete.is c.as_slice-in-Delete.ensures))

pub stmt_need-returns-in-Delete-clause-beyond : goal.stmt_need-returns-in-Delete-clause-beyond
stmt_need-returns-in-Delete-clause-beyond t c = same-beyond _ _ _ c.taking_need-in-Delete.ensures.beyond (sym (delete-is _ _ _ _ c.in-Delete.is c.as_slice-in-Delete.ensures))

pub stmt_need-returns-in-Print-clause-need : goal.stmt_need-returns-in-Print-clause-need
stmt_need-returns-in-Print-clause-need t c = c.figures.ensures ∙ sym (ap stmt_need c.in-Print.is ∙ form.Print-need _ _ _)

pub stmt_need-returns-in-Print-clause-beyond : goal.stmt_need-returns-in-Print-clause-beyond
stmt_need-returns-in-Print-clause-beyond t c = tt

pub stmt_need-returns-in-Clear-clause-need : goal.stmt_need-returns-in-Clear-clause-need
stmt_need-returns-in-Clear-clause-need t c = c.figures-in-Clear.ensures ∙ sym (ap stmt_need c.in-Clear.is ∙ form.Clear-need _)

pub stmt_need-returns-in-Clear-clause-beyond : goal.stmt_need-returns-in-Clear-clause-beyond
stmt_need-returns-in-Clear-clause-beyond t c = tt

pub stmt_need-returns-in-Zero-clause-need : goal.stmt_need-returns-in-Zero-clause-need
stmt_need-returns-in-Zero-clause-need t c = c.figures-in-Zero.ensures ∙ sym (ap stmt_need c.in-Zero.is ∙ form.Zero-need _)

pub stmt_need-returns-in-Zero-clause-beyond : goal.stmt_need-returns-in-Zero-clause-beyond
stmt_need-returns-in-Zero-clause-beyond t c = tt

pub stmt_need-returns-in-Jump-clause-need : goal.stmt_need-returns-in-Jump-clause-need
stmt_need-returns-in-Jump-clause-need t c = c.jump_need.ensures ∙ sym (ap stmt_need c.in-Jump.is ∙ form.Jump-need _)

pub stmt_need-returns-in-Jump-clause-beyond : goal.stmt_need-returns-in-Jump-clause-beyond
stmt_need-returns-in-Jump-clause-beyond t c = tt

pub tested_need-returns-clause-need : goal.tested_need-returns-clause-need
tested_need-returns-clause-need t c = same _ _ _ c.greater_and.ensures.both (greater-are c.args.slots _ _ _ _ c.in_ok-test.ensures.need c.in_ok-block.ensures.need)

pub tested_need-returns-clause-beyond : goal.tested_need-returns-clause-beyond
tested_need-returns-clause-beyond t c = same-beyond _ _ _ c.greater_and.ensures.beyond (greater-are c.args.slots _ _ _ _ c.in_ok-test.ensures.need c.in_ok-block.ensures.need)

pub stmt_need-returns-in_ok-greater-in-If-clause-beyond : goal.stmt_need-returns-in_ok-greater-in-If-clause-beyond
stmt_need-returns-in_ok-greater-in-If-clause-beyond t c = tt

pub stmt_need-returns-in-While-clause-need : goal.stmt_need-returns-in-While-clause-need
stmt_need-returns-in-While-clause-need t c = same _ _ _ c.tested_need-in-While.ensures.need (sym (while-is _ _ _ _ c.in-While.is))

pub stmt_need-returns-in-While-clause-beyond : goal.stmt_need-returns-in-While-clause-beyond
stmt_need-returns-in-While-clause-beyond t c = same-beyond _ _ _ c.tested_need-in-While.ensures.beyond (sym (while-is _ _ _ _ c.in-While.is))

pub stmt_need-returns-in-Unroll-clause-need : goal.stmt_need-returns-in-Unroll-clause-need
stmt_need-returns-in-Unroll-clause-need t c = same _ _ _ c.unroll_need.ensures.need (sym (unroll-is _ _ _ _ c.in-Unroll.is))

pub stmt_need-returns-in-Unroll-clause-beyond : goal.stmt_need-returns-in-Unroll-clause-beyond
stmt_need-returns-in-Unroll-clause-beyond t c = same-beyond _ _ _ c.unroll_need.ensures.beyond (sym (unroll-is _ _ _ _ c.in-Unroll.is))

pub unroll_need-returns-in_err-block-clause-need : goal.unroll_need-returns-in_err-block-clause-need
unroll_need-returns-in_err-block-clause-need t c = failed _ _ c.from_residual.result c.from_residual.ensures.1

pub unroll_need-returns-in_err-block-clause-beyond : goal.unroll_need-returns-in_err-block-clause-beyond
unroll_need-returns-in_err-block-clause-beyond t c = at-err c.from_residual.result (part-unroll _ _ c.in_err-block.ensures.beyond refl)

pub block_need-loop-left-init : goal.block_need-loop-left-init
block_need-loop-left-init t c = record { within = omega arith; sums = c.figures-all.ensures ∙ ap (λ (l : List TypedStmt). all_need (map stmt_need l)) (sym (drop_all (length c.as_slice-stmts.result.now) c.as_slice-stmts.result.now (omega arith))) }

pub block_need-loop-left-preserved : goal.block_need-loop-left-preserved
block_need-loop-left-preserved t c =
    record {
      within = omega (arith, c.loop-left.invariant.within);
      sums = needs_from stmt_need c.as_slice-stmts.result.now _ c.loop-left.left _ _ _ _ (omega arith) (omega (arith, c.loop-left.invariant.within)) c.index-stmts-left.is c.loop-left.invariant.sums c.in_ok-one.ensures.need c.in_ok-all.ensures.greater;
    }

pub stmt_need-loop-left-init : goal.stmt_need-loop-left-init
stmt_need-loop-left-init t c = record { within = omega arith; sums = (c.figures-all).ensures ∙ ap tree_arms_need (sym (drop_all (length c.as_slice-arms.result.now) c.as_slice-arms.result.now (omega arith))) }

pub stmt_need-loop-left-preserved : goal.stmt_need-loop-left-preserved
stmt_need-loop-left-preserved t c =
    record {
      within = omega (arith, c.loop-left.invariant.within);
      sums = arms_from c.as_slice-arms.result.now _ c.loop-left.left _ _ _ _ _ (omega arith) (omega (arith, c.loop-left.invariant.within)) c.index-arms-left-in-loop-left.is c.index-arms-left.is c.loop-left.invariant.sums c.in_ok-one-in-If.ensures.need c.in_ok-all-in-If.ensures.greater;
    }

pub stmt_need-tested_need-requires-in-While : goal.stmt_need-tested_need-requires-in-While
stmt_need-tested_need-requires-in-While t c =
    let below : block_size c.in-While.block < stmt_size c.args.s.now = while_block _ _ _ _ c.in-While.is in
    omega (arith, below, c.decreases)

pub stmt_need-unroll_need-requires : goal.stmt_need-unroll_need-requires
stmt_need-unroll_need-requires t c =
    let below : block_size c.in-Unroll.block < stmt_size c.args.s.now = unroll_block _ _ _ _ c.in-Unroll.is in
    omega (arith, below, c.decreases)
