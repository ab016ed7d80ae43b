use Rattle.std.proofs.Common.{refl}
use Rattle.bt_grammar.specs.Tokens.{items}
use Rattle.bt_parser.proofs.Added.{beside_on, beside_reads, refused_beside, added_on, added_reads, refused_added, until_is}
use Rattle.bt_grammar.specs.Trees.{binary_kind, expr, place_of_expr}
use Rattle.bt_grammar.specs.Rules.{value}
use Rattle.bt_parser.specs.Mirror.{values_on}
use Rattle.bt_parser.proofs.Mirrored.{assignable_is, expression_is, keyed_is, level_is, level_turns, made_reads, no_longer_on, primary_is, refused_reads, on_ok, on_err, unary_is, values_turns, shorter_on}
use Rattle.std.proofs.Math.Nat.{lt_trans, lt_of_le_of_lt}
use Rattle.bt_parser.proofs.expr.+expr.Goals as goal

pub alternatives-returns-clause-reads : goal.alternatives-returns-clause-reads
alternatives-returns-clause-reads t c = made_reads _ _ _ _ c.boxed_both.ensures (rw (c.in_ok-yes.ensures.reads, c.in_ok-no.ensures.reads) refl)

pub choice-returns-clause-reads : goal.choice-returns-clause-reads
choice-returns-clause-reads t c = made_reads _ _ _ _ c.choose.ensures (rw c.in_ok-both.ensures.reads refl)

pub closed-returns-clause-reads : goal.closed-returns-clause-reads
closed-returns-clause-reads t c = rw (c.in_ok-inner.ensures.reads, c.in_ok-new.ensures) refl

pub joined-returns-clause-reads : goal.joined-returns-clause-reads
joined-returns-clause-reads t c = rw (← c.tighter.ensures.value, c.joined_kind-kind.ensures, c.in_ok-both.ensures) (beside_reads (λ left right. expr (binary_kind c.args.class left right) (place_of_expr c.args.left)) _ _ _ _ _ _ c.operand.ensures.reads c.in_ok-left.ensures)

pub assignable-returns-in_err-keyed-clause-reads : goal.assignable-returns-in_err-keyed-clause-reads
assignable-returns-in_err-keyed-clause-reads t c = refused_reads _ _ _ _ c.from_residual.ensures.1 (λ other. rw (assignable_is (items c.args.tokens.now), ← c.if-sees.ensures.class, c.in_err-keyed.ensures.reads other) refl)

pub assignable-returns-then-sees-clause-reads : goal.assignable-returns-then-sees-clause-reads
assignable-returns-then-sees-clause-reads t c = rw (assignable_is (items c.args.tokens.now), ← c.if-sees.ensures.class, c.in_ok-keyed.ensures.reads) refl

pub assignable-returns-in_err-bytes-clause-reads : goal.assignable-returns-in_err-bytes-clause-reads
assignable-returns-in_err-bytes-clause-reads t c = refused_reads _ _ _ _ c.from_residual-in_err-bytes.ensures.1 (λ other. rw (assignable_is (items c.args.tokens.now), ← c.if-sees.ensures.class, c.in_err-bytes.ensures.reads other) refl)

pub assignable-returns-clause-reads : goal.assignable-returns-clause-reads
assignable-returns-clause-reads t c = rw (assignable_is (items c.args.tokens.now), ← c.if-sees.ensures.class, c.in_ok-bytes.ensures.reads) refl

pub expression-returns-in_err-condition-clause-reads : goal.expression-returns-in_err-condition-clause-reads
expression-returns-in_err-condition-clause-reads t c = refused_reads _ _ _ _ c.from_residual.ensures.1 (λ other. rw (expression_is c.args.in_predicate (items c.args.tokens.now), c.in_err-condition.ensures.reads other) refl)

pub expression-returns-then-not-sees-clause-reads : goal.expression-returns-then-not-sees-clause-reads
expression-returns-then-not-sees-clause-reads t c = rw (expression_is c.args.in_predicate (items c.args.tokens.now), c.in_ok-condition.ensures.reads, ← c.if-not-sees.ensures.class) refl

pub expression-returns-clause-reads : goal.expression-returns-clause-reads
expression-returns-clause-reads t c = rw (expression_is c.args.in_predicate (items c.args.tokens.now), c.in_ok-condition.ensures.reads, ← c.if-not-sees.ensures.class, ← c.skip.ensures.items) c.choice.ensures.reads

pub keyed-returns-in_err-bytes-clause-reads : goal.keyed-returns-in_err-bytes-clause-reads
keyed-returns-in_err-bytes-clause-reads t c = refused_reads _ _ _ _ c.from_residual.ensures.1 (λ other. rw (keyed_is (items c.args.tokens.now), c.in_err-bytes.ensures.reads other) refl)

pub keyed-returns-in_err-keys-clause-reads : goal.keyed-returns-in_err-keys-clause-reads
keyed-returns-in_err-keys-clause-reads t c = refused_reads _ _ _ _ c.from_residual-in_err-keys.ensures.1 (λ other. rw (keyed_is (items c.args.tokens.now), c.in_ok-bytes.ensures.reads, c.in_err-keys.ensures.reads other) refl)

pub keyed-returns-clause-reads : goal.keyed-returns-clause-reads
keyed-returns-clause-reads t c = rw (keyed_is (items c.args.tokens.now), c.in_ok-bytes.ensures.reads, c.in_ok-keys.ensures.reads) refl

pub level-returns-in_err-left-clause-reads : goal.level-returns-in_err-left-clause-reads
level-returns-in_err-left-clause-reads t c = refused_reads _ _ _ _ c.from_residual.ensures.1 (λ other. rw (level_is c.args.in_predicate c.args.tier (items c.args.tokens.now), ← c.tighter.ensures.value, c.in_err-left.ensures.reads other) refl)

pub level-loop-class-init : goal.level-loop-class-init
level-loop-class-init t c = (rw (level_is c.args.in_predicate c.args.tier (items c.args.tokens.now), ← c.tighter.ensures.value, c.in_ok-left.ensures.reads) refl, c.in_ok-left.ensures.shorter)

pub level-returns-in_err-left-2-clause-reads : goal.level-returns-in_err-left-2-clause-reads
level-returns-in_err-left-2-clause-reads t c = refused_reads _ _ _ _ c.from_residual-in_err-left-2.ensures.1 (λ other. rw (← c.loop-class.invariant.0, level_turns c.args.in_predicate c.args.tier c.loop-class.left (items c.loop-class.tokens), ← c.in-Some.ensures.class, ← c.skip.ensures.items, c.in_err-left-2.ensures.reads other) refl)

pub level-returns-clause-reads : goal.level-returns-clause-reads
level-returns-clause-reads t c = rw (← c.loop-class.invariant.0, level_turns c.args.in_predicate c.args.tier c.loop-class.left (items c.loop-class.tokens), ← c.in_default.ensures.class) refl

pub level-loop-class-preserved : goal.level-loop-class-preserved
level-loop-class-preserved t c = (
  rw (
    ← c.loop-class.invariant.0,
    level_turns c.args.in_predicate c.args.tier c.loop-class.left (items c.loop-class.tokens),
    ← c.in-Some.ensures.class,
    ← c.skip.ensures.items,
    c.in_ok-left-2.ensures.reads,
  ) refl,
  lt_trans c.in_ok-left-2.ensures.shorter (lt_trans c.skip.ensures.shorter c.loop-class.invariant.1),
)

pub primary-returns-in_err-map-clause-reads : goal.primary-returns-in_err-map-clause-reads
primary-returns-in_err-map-clause-reads t c = refused_reads _ _ _ _ c.from_residual.ensures.1 (λ other. rw (primary_is (items c.args.tokens.now), ← c.if-sees.ensures.class, ← c.if-sees-2.ensures.class, c.in_err-map.ensures.reads other) refl)

pub primary-returns-then-sees-2-clause-reads : goal.primary-returns-then-sees-2-clause-reads
primary-returns-then-sees-2-clause-reads t c = rw (primary_is (items c.args.tokens.now), ← c.if-sees.ensures.class, ← c.if-sees-2.ensures.class, c.in_ok-map.ensures.reads) c.map_value.ensures.reads

pub primary-returns-then-sees-clause-reads : goal.primary-returns-then-sees-clause-reads
primary-returns-then-sees-clause-reads t c = rw (primary_is (items c.args.tokens.now), ← c.if-sees.ensures.class, ← c.skip-place.ensures.items, ← c.skip-place.ensures.place) c.closed.ensures.reads

pub primary-returns-clause-reads : goal.primary-returns-clause-reads
primary-returns-clause-reads t c = rw (primary_is (items c.args.tokens.now), ← c.if-sees.ensures.class, ← c.if-sees-2.ensures.class, ← c.in-Some.ensures.class, ← c.skip-place-2.ensures.items, ← c.skip-place-2.ensures.place) c.stepped.ensures.reads

pub primary-returns-in_default-clause-reads : goal.primary-returns-in_default-clause-reads
primary-returns-in_default-clause-reads t c = rw (primary_is (items c.args.tokens.now), ← c.if-sees.ensures.class, ← c.if-sees-2.ensures.class, ← c.in_default.ensures.class) c.leaf.ensures.reads

pub unary-returns-in_default-clause-reads : goal.unary-returns-in_default-clause-reads
unary-returns-in_default-clause-reads t c = rw (unary_is (items c.args.tokens.now), ← c.in_default.ensures.class) c.primary.ensures.reads

pub unary-returns-in_err-unary-clause-reads : goal.unary-returns-in_err-unary-clause-reads
unary-returns-in_err-unary-clause-reads t c = refused_reads _ _ _ _ c.from_residual.ensures.1 (λ other. rw (unary_is (items c.args.tokens.now), ← c.in-Some.ensures.class, ← c.skip-place.ensures.items, c.in_err-unary.ensures.reads other) refl)

pub unary-returns-clause-reads : goal.unary-returns-clause-reads
unary-returns-clause-reads t c = rw (unary_is (items c.args.tokens.now), ← c.in-Some.ensures.class, ← c.skip-place.ensures.items, ← c.skip-place.ensures.place, c.in_ok-unary.ensures.reads, c.in_ok-value.ensures) refl

pub values-returns-in_err-values-2-clause-reads : goal.values-returns-in_err-values-2-clause-reads
values-returns-in_err-values-2-clause-reads t c = refused_reads _ _ _ _ c.from_residual-in_err-values-2.ensures.1 (λ other. rw (← c.loop-alloc.invariant.0, values_turns c.loop-alloc.values (items c.loop-alloc.tokens), ← c.loop-alloc-test.ensures.class, ← c.skip.ensures.items, refused_added _ _ _ _ c.expression-in-loop-alloc.ensures.reads c.in_err-values-2.ensures other) refl)

pub values-returns-clause-reads : goal.values-returns-clause-reads
values-returns-clause-reads t c = rw (← c.loop-alloc.invariant.0, values_turns c.loop-alloc.values (items c.loop-alloc.tokens), ← c.loop-alloc-test.ensures.class) refl

pub values-loop-alloc-preserved : goal.values-loop-alloc-preserved
values-loop-alloc-preserved t c = (
  rw (
    ← c.loop-alloc.invariant.0,
    values_turns c.loop-alloc.values (items c.loop-alloc.tokens),
    ← c.loop-alloc-test.ensures.class,
    ← c.skip.ensures.items,
  ) (added_reads values_on _ _ _ _ _ c.expression-in-loop-alloc.ensures.reads c.in_ok-values-2.ensures),
  lt_trans (added_on _ _ _ _ c.expression-in-loop-alloc.ensures.shorter c.in_ok-values-2.ensures) (lt_trans c.skip.ensures.shorter c.loop-alloc.invariant.1),
)

pub alternatives-returns-in_err-yes-clause-reads : goal.alternatives-returns-in_err-yes-clause-reads
alternatives-returns-in_err-yes-clause-reads t c = refused_reads _ _ _ _ c.from_residual.ensures.1 (λ other. rw (c.in_err-yes.ensures.reads other) refl)

pub alternatives-returns-in_err-yes-clause-shorter : goal.alternatives-returns-in_err-yes-clause-shorter
alternatives-returns-in_err-yes-clause-shorter t c = on_err _ _ c.from_residual.ensures.0

pub alternatives-returns-in_err-no-clause-reads : goal.alternatives-returns-in_err-no-clause-reads
alternatives-returns-in_err-no-clause-reads t c = refused_reads _ _ _ _ c.from_residual-in_err-no.ensures.1 (λ other. rw (c.in_ok-yes.ensures.reads, c.in_err-no.ensures.reads other) refl)

pub alternatives-returns-in_err-no-clause-shorter : goal.alternatives-returns-in_err-no-clause-shorter
alternatives-returns-in_err-no-clause-shorter t c = on_err _ _ c.from_residual-in_err-no.ensures.0

pub assignable-returns-in_err-keyed-clause-shorter : goal.assignable-returns-in_err-keyed-clause-shorter
assignable-returns-in_err-keyed-clause-shorter t c = on_err _ _ c.from_residual.ensures.0

pub assignable-returns-in_err-bytes-clause-shorter : goal.assignable-returns-in_err-bytes-clause-shorter
assignable-returns-in_err-bytes-clause-shorter t c = on_err _ _ c.from_residual-in_err-bytes.ensures.0

pub choice-returns-in_err-both-clause-reads : goal.choice-returns-in_err-both-clause-reads
choice-returns-in_err-both-clause-reads t c = refused_reads _ _ _ _ c.from_residual.ensures.1 (λ other. rw (c.in_err-both.ensures.reads other) refl)

pub choice-returns-in_err-both-clause-shorter : goal.choice-returns-in_err-both-clause-shorter
choice-returns-in_err-both-clause-shorter t c = on_err _ _ c.from_residual.ensures.0

pub choice-returns-clause-shorter : goal.choice-returns-clause-shorter
choice-returns-clause-shorter t c = on_ok _ _ c.in_ok-both.ensures.shorter

pub closed-returns-in_err-inner-clause-reads : goal.closed-returns-in_err-inner-clause-reads
closed-returns-in_err-inner-clause-reads t c = refused_reads _ _ _ _ c.from_residual.ensures.1 (λ other. rw (c.in_err-inner.ensures.reads other) refl)

pub closed-returns-in_err-inner-clause-shorter : goal.closed-returns-in_err-inner-clause-shorter
closed-returns-in_err-inner-clause-shorter t c = on_err _ _ c.from_residual.ensures.0

pub closed-returns-clause-shorter : goal.closed-returns-clause-shorter
closed-returns-clause-shorter t c = c.in_ok-inner.ensures.shorter

pub expression-returns-in_err-condition-clause-shorter : goal.expression-returns-in_err-condition-clause-shorter
expression-returns-in_err-condition-clause-shorter t c = on_err _ _ c.from_residual.ensures.0

pub joined-returns-in_err-left-clause-reads : goal.joined-returns-in_err-left-clause-reads
joined-returns-in_err-left-clause-reads t c = refused_reads _ _ _ _ c.from_residual.ensures.1 (λ other. rw (← c.tighter.ensures.value, refused_beside _ _ _ _ c.operand.ensures.reads c.in_err-left.ensures other) refl)

pub joined-returns-in_err-left-clause-shorter : goal.joined-returns-in_err-left-clause-shorter
joined-returns-in_err-left-clause-shorter t c = on_err _ _ c.from_residual.ensures.0

pub joined-returns-clause-shorter : goal.joined-returns-clause-shorter
joined-returns-clause-shorter t c = beside_on _ _ _ c.operand.ensures.shorter c.in_ok-left.ensures.1

pub keyed-returns-in_err-bytes-clause-shorter : goal.keyed-returns-in_err-bytes-clause-shorter
keyed-returns-in_err-bytes-clause-shorter t c = on_err _ _ c.from_residual.ensures.0

pub keyed-returns-in_err-keys-clause-shorter : goal.keyed-returns-in_err-keys-clause-shorter
keyed-returns-in_err-keys-clause-shorter t c = on_err _ _ c.from_residual-in_err-keys.ensures.0

pub level-returns-in_err-left-clause-shorter : goal.level-returns-in_err-left-clause-shorter
level-returns-in_err-left-clause-shorter t c = on_err _ _ c.from_residual.ensures.0

pub level-returns-in_err-left-2-clause-shorter : goal.level-returns-in_err-left-2-clause-shorter
level-returns-in_err-left-2-clause-shorter t c = on_err _ _ c.from_residual-in_err-left-2.ensures.0

pub primary-returns-in_err-map-clause-shorter : goal.primary-returns-in_err-map-clause-shorter
primary-returns-in_err-map-clause-shorter t c = on_err _ _ c.from_residual.ensures.0

pub stepped-returns-in_err-target-clause-reads : goal.stepped-returns-in_err-target-clause-reads
stepped-returns-in_err-target-clause-reads t c = refused_reads _ _ _ _ c.from_residual.ensures.1 (λ other. rw (c.in_err-target.ensures.reads other) refl)

pub stepped-returns-in_err-target-clause-shorter : goal.stepped-returns-in_err-target-clause-shorter
stepped-returns-in_err-target-clause-shorter t c = on_err _ _ c.from_residual.ensures.0

pub unary-returns-in_err-unary-clause-shorter : goal.unary-returns-in_err-unary-clause-shorter
unary-returns-in_err-unary-clause-shorter t c = on_err _ _ c.from_residual.ensures.0

pub values-returns-in_err-values-clause-reads : goal.values-returns-in_err-values-clause-reads
values-returns-in_err-values-clause-reads t c = refused_reads _ _ _ _ c.from_residual.ensures.1 (λ other. rw (refused_added _ _ _ _ c.expression.ensures.reads c.in_err-values.ensures other) refl)

pub values-returns-in_err-values-clause-shorter : goal.values-returns-in_err-values-clause-shorter
values-returns-in_err-values-clause-shorter t c = on_err _ _ c.from_residual.ensures.0

pub values-returns-in_err-values-2-clause-shorter : goal.values-returns-in_err-values-2-clause-shorter
values-returns-in_err-values-2-clause-shorter t c = on_err _ _ c.from_residual-in_err-values-2.ensures.0

pub value_until-returns-clause-reads : goal.value_until-returns-clause-reads
value_until-returns-clause-reads t c = rw (until_is c.args.class value (items c.args.tokens.now)) (c.until.ensures.reads _ c.expression-value.ensures.reads)

pub operand-returns-in-None-clause-reads : goal.operand-returns-in-None-clause-reads
operand-returns-in-None-clause-reads t c = rw c.in-None.is c.unary.ensures.reads

pub operand-returns-in-Some-clause-reads : goal.operand-returns-in-Some-clause-reads
operand-returns-in-Some-clause-reads t c = rw c.in-Some.is c.level.ensures.reads

pub stepped-returns-clause-reads : goal.stepped-returns-clause-reads
stepped-returns-clause-reads t c = rw (c.in_ok-target.ensures.reads, c.step_value.ensures) refl

pub keys-returns-clause-reads : goal.keys-returns-clause-reads
keys-returns-clause-reads t c = let v = rw c.new-none.ensures at c.values-keys.ensures.reads in rw (← c.if-not-sees.ensures.class, ← c.skip.ensures.items) (c.until.ensures.reads _ v)

pub keys-returns-then-not-sees-clause-reads : goal.keys-returns-then-not-sees-clause-reads
keys-returns-then-not-sees-clause-reads t c = rw (← c.if-not-sees.ensures.class, c.new-none.ensures) refl

pub keys-skip-requires : goal.keys-skip-requires
keys-skip-requires t c = c.if-not-sees.ensures.some refl

pub keys-returns-clause-no_longer : goal.keys-returns-clause-no_longer
keys-returns-clause-no_longer t c = no_longer_on _ _ _ (c.until.ensures.shorter _ (no_longer_on _ _ _ (shorter_on _ _ _ _ c.values-keys.ensures.shorter c.skip.ensures.shorter)))

pub expression-returns-clause-shorter : goal.expression-returns-clause-shorter
expression-returns-clause-shorter t c = shorter_on _ _ _ _ c.choice.ensures.shorter (lt_trans c.skip.ensures.shorter c.in_ok-condition.ensures.shorter)

pub expression-returns-then-not-sees-clause-shorter : goal.expression-returns-then-not-sees-clause-shorter
expression-returns-then-not-sees-clause-shorter t c = c.in_ok-condition.ensures.shorter

pub expression-skip-requires : goal.expression-skip-requires
expression-skip-requires t c = c.if-not-sees.ensures.some refl

pub values-skip-requires : goal.values-skip-requires
values-skip-requires t c = c.loop-alloc-test.ensures.some refl

pub level-skip-requires : goal.level-skip-requires
level-skip-requires t c = c.in-Some.ensures.some refl

pub alternatives-returns-clause-shorter : goal.alternatives-returns-clause-shorter
alternatives-returns-clause-shorter t c = on_ok _ _ (lt_trans c.in_ok-no.ensures.shorter c.in_ok-yes.ensures.shorter)

pub values-loop-alloc-smaller : goal.values-loop-alloc-smaller
values-loop-alloc-smaller t c = lt_trans (added_on _ _ _ _ c.expression-in-loop-alloc.ensures.shorter c.in_ok-values-2.ensures) c.skip.ensures.shorter

pub values-returns-clause-shorter : goal.values-returns-clause-shorter
values-returns-clause-shorter t c = c.loop-alloc.invariant.1

pub unary-returns-clause-shorter : goal.unary-returns-clause-shorter
unary-returns-clause-shorter t c = lt_trans c.in_ok-unary.ensures.shorter c.skip-place.ensures.shorter

pub unary-skip-place-requires : goal.unary-skip-place-requires
unary-skip-place-requires t c = c.in-Some.ensures.some refl

pub assignable-returns-clause-shorter : goal.assignable-returns-clause-shorter
assignable-returns-clause-shorter t c = c.in_ok-bytes.ensures.shorter

pub assignable-returns-then-sees-clause-shorter : goal.assignable-returns-then-sees-clause-shorter
assignable-returns-then-sees-clause-shorter t c = c.in_ok-keyed.ensures.shorter

pub primary-skip-place-requires : goal.primary-skip-place-requires
primary-skip-place-requires t c = c.if-sees.ensures.some refl

pub primary-skip-place-requires-2 : goal.primary-skip-place-requires-2
primary-skip-place-requires-2 t c = c.in-Some.ensures.some refl

pub primary-returns-then-sees-clause-shorter : goal.primary-returns-then-sees-clause-shorter
primary-returns-then-sees-clause-shorter t c = shorter_on _ _ _ _ c.closed.ensures.shorter c.skip-place.ensures.shorter

pub primary-returns-clause-shorter : goal.primary-returns-clause-shorter
primary-returns-clause-shorter t c = shorter_on _ _ _ _ c.stepped.ensures.shorter c.skip-place-2.ensures.shorter

pub primary-returns-then-sees-2-clause-shorter : goal.primary-returns-then-sees-2-clause-shorter
primary-returns-then-sees-2-clause-shorter t c = lt_of_le_of_lt c.map_value.ensures.no_longer c.in_ok-map.ensures.shorter

pub keyed-returns-clause-shorter : goal.keyed-returns-clause-shorter
keyed-returns-clause-shorter t c = lt_of_le_of_lt c.in_ok-keys.ensures.no_longer c.in_ok-bytes.ensures.shorter

pub value_until-returns-clause-shorter : goal.value_until-returns-clause-shorter
value_until-returns-clause-shorter t c = c.until.ensures.shorter _ (no_longer_on _ _ _ c.expression-value.ensures.shorter)

pub level-loop-class-smaller : goal.level-loop-class-smaller
level-loop-class-smaller t c = lt_trans c.in_ok-left-2.ensures.shorter c.skip.ensures.shorter

pub level-returns-clause-shorter : goal.level-returns-clause-shorter
level-returns-clause-shorter t c = c.loop-class.invariant.1

pub values-loop-alloc-init : goal.values-loop-alloc-init
values-loop-alloc-init t c = (added_reads values_on _ _ _ _ _ c.expression.ensures.reads c.in_ok-values.ensures, added_on _ _ _ _ c.expression.ensures.shorter c.in_ok-values.ensures)

pub primary-returns-in_default-clause-shorter : goal.primary-returns-in_default-clause-shorter
primary-returns-in_default-clause-shorter t c = c.leaf.ensures.shorter

pub stepped-returns-clause-shorter : goal.stepped-returns-clause-shorter
stepped-returns-clause-shorter t c = c.in_ok-target.ensures.shorter

pub unary-returns-in_default-clause-shorter : goal.unary-returns-in_default-clause-shorter
unary-returns-in_default-clause-shorter t c = c.primary.ensures.shorter

pub operand-returns-in-Some-clause-shorter : goal.operand-returns-in-Some-clause-shorter
operand-returns-in-Some-clause-shorter t c = c.level.ensures.shorter

pub operand-returns-in-None-clause-shorter : goal.operand-returns-in-None-clause-shorter
operand-returns-in-None-clause-shorter t c = c.unary.ensures.shorter
