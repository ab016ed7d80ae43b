use Rattle.std.proofs.Common.{[], refl, rules, sym}
use Rattle.bt_ast.specs.declared.stmt.StmtKind.TheVariants as stmts
use Rattle.bt_parser.proofs.Added.{added_on, added_reads, beside_on, beside_reads, pair_on, pair_reads, refused_added}
use Rattle.bt_parser.specs.Statements.{arms_on, body_on}
use Rattle.bt_grammar.specs.Tokens.{items}
use Rattle.bt_parser.proofs.Blocks.{arm_is, arms_turns, block_is, body_start, body_turns, control_is, second_left}
use Rattle.bt_parser.proofs.Mirrored.{on_err, refused_reads, shorter_on}
use Rattle.std.proofs.Math.Nat.{lt_trans, le_of_lt, le_refl, lt_of_le_of_lt, lt_of_lt_of_le}
use Rattle.bt_parser.proofs.block.+block.Goals as goal

pub arm-returns-in_err-condition-clause-reads : goal.arm-returns-in_err-condition-clause-reads
arm-returns-in_err-condition-clause-reads t c = refused_reads _ _ _ _ c.from_residual.ensures.1 (λ other. rw (arm_is (items c.args.tokens.now), c.in_err-condition.ensures.reads other) refl)

pub arm-returns-clause-reads : goal.arm-returns-clause-reads
arm-returns-clause-reads t c = rw (arm_is (items c.args.tokens.now), c.in_ok-condition.ensures.reads) (pair_reads _ _ _ _ _ c.block.ensures.reads c.beside.ensures)

pub block-returns-in_err-place-clause-reads : goal.block-returns-in_err-place-clause-reads
block-returns-in_err-place-clause-reads t c = refused_reads _ _ _ _ c.from_residual.ensures.1 (λ other. rw (block_is (items c.args.tokens.now), c.in_err-place.ensures.reads other) refl)

pub block-returns-in_err-stmts-clause-reads : goal.block-returns-in_err-stmts-clause-reads
block-returns-in_err-stmts-clause-reads t c = refused_reads _ _ _ _ c.from_residual-in_err-stmts.ensures.1 (λ other. rw (block_is (items c.args.tokens.now), c.in_ok-place.ensures.reads, c.in_err-stmts.ensures.reads other) refl)

pub block-returns-clause-reads : goal.block-returns-clause-reads
block-returns-clause-reads t c = rw (block_is (items c.args.tokens.now), c.in_ok-place.ensures.reads, c.in_ok-stmts.ensures.reads) refl

pub body-loop-alloc-init : goal.body-loop-alloc-init
body-loop-alloc-init t c = (rw c.new-stmts.ensures (sym (body_start (items c.args.tokens.now))), le_refl _)

pub body-returns-in_err-stmts-clause-reads : goal.body-returns-in_err-stmts-clause-reads
body-returns-in_err-stmts-clause-reads t c = refused_reads _ _ _ _ c.from_residual.ensures.1 (λ other. rw (← c.loop-alloc.invariant.0, body_turns c.loop-alloc.stmts (items c.loop-alloc.tokens), ← c.loop-alloc-test.ensures.class, refused_added _ _ _ _ c.stmt.ensures.reads c.in_err-stmts.ensures other) refl)

pub body-returns-clause-reads : goal.body-returns-clause-reads
body-returns-clause-reads t c = rw (← c.loop-alloc.invariant.0, body_turns c.loop-alloc.stmts (items c.loop-alloc.tokens), ← c.loop-alloc-test.ensures.class, c.skip.ensures.items) refl

pub body-loop-alloc-preserved : goal.body-loop-alloc-preserved
body-loop-alloc-preserved t c = (
  rw (← c.loop-alloc.invariant.0, body_turns c.loop-alloc.stmts (items c.loop-alloc.tokens), ← c.loop-alloc-test.ensures.class)
      (added_reads body_on _ _ _ _ _ c.stmt.ensures.reads c.in_ok-stmts.ensures),
  le_of_lt (lt_of_lt_of_le (added_on _ _ _ _ c.stmt.ensures.shorter c.in_ok-stmts.ensures) c.loop-alloc.invariant.1),
)

pub branches-returns-in_err-arms-2-clause-reads : goal.branches-returns-in_err-arms-2-clause-reads
branches-returns-in_err-arms-2-clause-reads t c = refused_reads _ _ _ _ c.from_residual-in_err-arms-2.ensures.1 (λ other. rw (← c.loop-tokens.invariant.0, arms_turns c.loop-tokens.arms (items c.loop-tokens.tokens), ← c.loop-tokens-test.ensures.class, ← c.skip.ensures.items, ← c.skip-in-loop-tokens.ensures.items, refused_added _ _ _ _ c.arm-in-loop-tokens.ensures.reads c.in_err-arms-2.ensures other) refl)

pub branches-returns-in_err-arms-3-clause-reads : goal.branches-returns-in_err-arms-3-clause-reads
branches-returns-in_err-arms-3-clause-reads t c = refused_reads _ _ _ _ c.from_residual-in_err-arms-3.ensures.1 (λ other. rw (← c.loop-tokens.invariant.0, arms_turns c.loop-tokens.arms (items c.loop-tokens.tokens), ← c.loop-tokens-test.ensures.class, refused_added _ _ _ _ c.otherwise.ensures.reads (λ _. c.in_err-arms-3.ensures) other) refl)

pub branches-returns-clause-reads : goal.branches-returns-clause-reads
branches-returns-clause-reads t c = rw (← c.loop-tokens.invariant.0, arms_turns c.loop-tokens.arms (items c.loop-tokens.tokens), ← c.loop-tokens-test.ensures.class) (beside_reads stmts.If _ _ _ _ _ _ c.otherwise.ensures.reads c.in_ok-arms-3.ensures)

pub branches-loop-tokens-preserved : goal.branches-loop-tokens-preserved
branches-loop-tokens-preserved t c = (
  rw (
    ← c.loop-tokens.invariant.0,
    arms_turns c.loop-tokens.arms (items c.loop-tokens.tokens),
    ← c.loop-tokens-test.ensures.class,
    ← c.skip.ensures.items,
    ← c.skip-in-loop-tokens.ensures.items,
  ) (added_reads arms_on _ _ _ _ _ c.arm-in-loop-tokens.ensures.reads c.in_ok-arms-2.ensures),
  lt_trans (added_on _ _ _ _ c.arm-in-loop-tokens.ensures.shorter c.in_ok-arms-2.ensures)
      (lt_trans c.skip-in-loop-tokens.ensures.shorter (lt_trans c.skip.ensures.shorter c.loop-tokens.invariant.1)),
)

pub control-returns-then-sees-clause-reads : goal.control-returns-then-sees-clause-reads
control-returns-then-sees-clause-reads t c = rw (control_is (items c.args.tokens.now), ← c.if-sees.ensures.class, ← c.skip-place.ensures.items, ← c.skip-place.ensures.place, c.in_ok-kind.ensures.reads) refl

pub control-returns-then-sees-2-clause-reads : goal.control-returns-then-sees-2-clause-reads
control-returns-then-sees-2-clause-reads t c = rw (control_is (items c.args.tokens.now), ← c.if-sees.ensures.class, ← c.if-sees-2.ensures.class, ← c.skip-place-then-sees-2.ensures.items, ← c.skip-place-then-sees-2.ensures.place, c.in_ok-condition.ensures.reads) refl

pub control-returns-clause-reads : goal.control-returns-clause-reads
control-returns-clause-reads t c = rw (control_is (items c.args.tokens.now), ← c.if-sees.ensures.class, ← c.if-sees-2.ensures.class) c.unroll.ensures.reads

pub arm-returns-in_err-condition-clause-shorter : goal.arm-returns-in_err-condition-clause-shorter
arm-returns-in_err-condition-clause-shorter t c = on_err _ _ c.from_residual.ensures.0

pub block-returns-in_err-place-clause-shorter : goal.block-returns-in_err-place-clause-shorter
block-returns-in_err-place-clause-shorter t c = on_err _ _ c.from_residual.ensures.0

pub block-returns-in_err-stmts-clause-shorter : goal.block-returns-in_err-stmts-clause-shorter
block-returns-in_err-stmts-clause-shorter t c = on_err _ _ c.from_residual-in_err-stmts.ensures.0

pub body-returns-in_err-stmts-clause-shorter : goal.body-returns-in_err-stmts-clause-shorter
body-returns-in_err-stmts-clause-shorter t c = on_err _ _ c.from_residual.ensures.0

pub branches-returns-in_err-arms-2-clause-shorter : goal.branches-returns-in_err-arms-2-clause-shorter
branches-returns-in_err-arms-2-clause-shorter t c = on_err _ _ c.from_residual-in_err-arms-2.ensures.0

pub branches-returns-in_err-arms-3-clause-shorter : goal.branches-returns-in_err-arms-3-clause-shorter
branches-returns-in_err-arms-3-clause-shorter t c = on_err _ _ c.from_residual-in_err-arms-3.ensures.0

pub branches-returns-in_err-arms-clause-reads : goal.branches-returns-in_err-arms-clause-reads
branches-returns-in_err-arms-clause-reads t c = refused_reads _ _ _ _ c.from_residual.ensures.1 (λ other. rw (refused_added _ _ _ _ c.arm.ensures.reads c.in_err-arms.ensures other) refl)

pub branches-returns-in_err-arms-clause-shorter : goal.branches-returns-in_err-arms-clause-shorter
branches-returns-in_err-arms-clause-shorter t c = on_err _ _ c.from_residual.ensures.0

pub otherwise-returns-then-not-sees-clause-reads : goal.otherwise-returns-then-not-sees-clause-reads
otherwise-returns-then-not-sees-clause-reads t c = rw (← c.if-not-sees.ensures.class) refl

pub otherwise-returns-in_err-block-clause-reads : goal.otherwise-returns-in_err-block-clause-reads
otherwise-returns-in_err-block-clause-reads t c = refused_reads _ _ _ _ c.from_residual.ensures.1 (λ other. rw (← c.if-not-sees.ensures.class, ← c.skip.ensures.items, c.in_err-block.ensures.reads other) refl)

pub otherwise-returns-in_err-block-clause-no_longer : goal.otherwise-returns-in_err-block-clause-no_longer
otherwise-returns-in_err-block-clause-no_longer t c = on_err _ _ c.from_residual.ensures.0

pub otherwise-returns-clause-reads : goal.otherwise-returns-clause-reads
otherwise-returns-clause-reads t c = rw (← c.if-not-sees.ensures.class, ← c.skip.ensures.items, c.in_ok-block.ensures.reads) refl

pub unroll-returns-in_err-place-clause-reads : goal.unroll-returns-in_err-place-clause-reads
unroll-returns-in_err-place-clause-reads t c = refused_reads _ _ _ _ c.from_residual.ensures.1 (λ other. rw (c.in_err-place.ensures.reads other) refl)

pub unroll-returns-in_err-place-clause-shorter : goal.unroll-returns-in_err-place-clause-shorter
unroll-returns-in_err-place-clause-shorter t c = on_err _ _ c.from_residual.ensures.0

pub unroll-returns-in_err-turns-clause-reads : goal.unroll-returns-in_err-turns-clause-reads
unroll-returns-in_err-turns-clause-reads t c = refused_reads _ _ _ _ c.from_residual-in_err-turns.ensures.1 (λ other. rw (c.in_ok-place.ensures.reads, c.in_err-turns.ensures.reads other) refl)

pub unroll-returns-in_err-turns-clause-shorter : goal.unroll-returns-in_err-turns-clause-shorter
unroll-returns-in_err-turns-clause-shorter t c = on_err _ _ c.from_residual-in_err-turns.ensures.0

pub unroll-returns-in_err-block-clause-reads : goal.unroll-returns-in_err-block-clause-reads
unroll-returns-in_err-block-clause-reads t c = refused_reads _ _ _ _ c.from_residual-in_err-block.ensures.1 (λ other. rw (c.in_ok-place.ensures.reads, c.in_ok-turns.ensures.reads, c.in_err-block.ensures.reads other) refl)

pub unroll-returns-in_err-block-clause-shorter : goal.unroll-returns-in_err-block-clause-shorter
unroll-returns-in_err-block-clause-shorter t c = on_err _ _ c.from_residual-in_err-block.ensures.0

pub branches-skip-requires : goal.branches-skip-requires
branches-skip-requires t c = le_of_lt (c.loop-tokens-test.ensures.some refl)

pub branches-skip-requires-in-loop-tokens : goal.branches-skip-requires-in-loop-tokens
branches-skip-requires-in-loop-tokens t c = second_left c.loop-tokens.tokens c.skip.new.self c.skip.ensures.items (c.loop-tokens-test.ensures.some refl)

pub unroll-returns-clause-reads : goal.unroll-returns-clause-reads
unroll-returns-clause-reads t c = rw (c.in_ok-place.ensures.reads, c.in_ok-turns.ensures.reads, c.in_ok-block.ensures.reads) (search rules)

pub unroll-returns-clause-shorter : goal.unroll-returns-clause-shorter
unroll-returns-clause-shorter t c = lt_trans c.in_ok-block.ensures.shorter (lt_trans c.in_ok-turns.ensures.shorter c.in_ok-place.ensures.shorter)

pub control-skip-place-requires : goal.control-skip-place-requires
control-skip-place-requires t c = c.if-sees.ensures.some refl

pub control-skip-place-requires-then-sees-2 : goal.control-skip-place-requires-then-sees-2
control-skip-place-requires-then-sees-2 t c = c.if-sees-2.ensures.some refl

pub control-returns-then-sees-clause-shorter : goal.control-returns-then-sees-clause-shorter
control-returns-then-sees-clause-shorter t c = lt_trans c.in_ok-kind.ensures.shorter c.skip-place.ensures.shorter

pub control-returns-then-sees-2-clause-shorter : goal.control-returns-then-sees-2-clause-shorter
control-returns-then-sees-2-clause-shorter t c = lt_trans c.in_ok-condition.ensures.shorter c.skip-place-then-sees-2.ensures.shorter

pub body-skip-requires : goal.body-skip-requires
body-skip-requires t c = c.loop-alloc-test.ensures.some refl

pub otherwise-skip-requires : goal.otherwise-skip-requires
otherwise-skip-requires t c = c.if-not-sees.ensures.some refl

pub stmt-returns-then-begins_control-clause-reads : goal.stmt-returns-then-begins_control-clause-reads
stmt-returns-then-begins_control-clause-reads t c = rw (← c.if-begins_control.ensures) c.control.ensures.reads

pub stmt-returns-else-begins_control-clause-reads : goal.stmt-returns-else-begins_control-clause-reads
stmt-returns-else-begins_control-clause-reads t c = rw (← c.if-begins_control.ensures) c.ended.ensures.reads

pub body-loop-alloc-smaller : goal.body-loop-alloc-smaller
body-loop-alloc-smaller t c = added_on _ _ _ _ c.stmt.ensures.shorter c.in_ok-stmts.ensures

pub branches-loop-tokens-smaller : goal.branches-loop-tokens-smaller
branches-loop-tokens-smaller t c = lt_trans (added_on _ _ _ _ c.arm-in-loop-tokens.ensures.shorter c.in_ok-arms-2.ensures) (lt_trans c.skip-in-loop-tokens.ensures.shorter c.skip.ensures.shorter)

pub branches-returns-clause-shorter : goal.branches-returns-clause-shorter
branches-returns-clause-shorter t c = lt_of_le_of_lt (beside_on _ _ _ c.otherwise.ensures.no_longer c.in_ok-arms-3.ensures.1) c.loop-tokens.invariant.1

pub body-returns-clause-shorter : goal.body-returns-clause-shorter
body-returns-clause-shorter t c = lt_of_lt_of_le c.skip.ensures.shorter c.loop-alloc.invariant.1

pub arm-returns-clause-shorter : goal.arm-returns-clause-shorter
arm-returns-clause-shorter t c = shorter_on _ _ _ _ (pair_on _ _ _ _ c.block.ensures.shorter c.beside.ensures) c.in_ok-condition.ensures.shorter

pub otherwise-returns-clause-no_longer : goal.otherwise-returns-clause-no_longer
otherwise-returns-clause-no_longer t c = le_of_lt (lt_trans c.in_ok-block.ensures.shorter c.skip.ensures.shorter)

pub block-returns-clause-shorter : goal.block-returns-clause-shorter
block-returns-clause-shorter t c = lt_trans c.in_ok-stmts.ensures.shorter c.in_ok-place.ensures.shorter

pub branches-loop-tokens-init : goal.branches-loop-tokens-init
branches-loop-tokens-init t c = (added_reads arms_on _ _ _ [] _ c.arm.ensures.reads (rw c.new.ensures at c.in_ok-arms.ensures), added_on _ _ _ _ c.arm.ensures.shorter c.in_ok-arms.ensures)

pub control-returns-in_err-kind-clause-reads : goal.control-returns-in_err-kind-clause-reads
control-returns-in_err-kind-clause-reads t c = refused_reads _ _ _ _ c.from_residual.ensures.1 (λ other. rw (control_is (items c.args.tokens.now), ← c.if-sees.ensures.class, ← c.skip-place.ensures.items, ← c.skip-place.ensures.place, c.in_err-kind.ensures.reads other) refl)

pub control-returns-in_err-kind-clause-shorter : goal.control-returns-in_err-kind-clause-shorter
control-returns-in_err-kind-clause-shorter t c = on_err _ _ c.from_residual.ensures.0

pub control-returns-in_err-condition-clause-reads : goal.control-returns-in_err-condition-clause-reads
control-returns-in_err-condition-clause-reads t c = refused_reads _ _ _ _ c.from_residual-in_err-condition.ensures.1 (λ other. rw (control_is (items c.args.tokens.now), ← c.if-sees.ensures.class, ← c.if-sees-2.ensures.class, ← c.skip-place-then-sees-2.ensures.items, ← c.skip-place-then-sees-2.ensures.place, c.in_err-condition.ensures.reads other) refl)

pub control-returns-in_err-condition-clause-shorter : goal.control-returns-in_err-condition-clause-shorter
control-returns-in_err-condition-clause-shorter t c = on_err _ _ c.from_residual-in_err-condition.ensures.0

pub control-returns-clause-shorter : goal.control-returns-clause-shorter
control-returns-clause-shorter t c = c.unroll.ensures.shorter

pub stmt-returns-then-begins_control-clause-shorter : goal.stmt-returns-then-begins_control-clause-shorter
stmt-returns-then-begins_control-clause-shorter t c = c.control.ensures.shorter

pub stmt-returns-else-begins_control-clause-shorter : goal.stmt-returns-else-begins_control-clause-shorter
stmt-returns-else-begins_control-clause-shorter t c = c.ended.ensures.shorter
