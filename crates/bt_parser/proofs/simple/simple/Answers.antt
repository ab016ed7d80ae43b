use Rattle.bt_grammar.specs.Tokens.{items}
use Rattle.bt_parser.proofs.Stated.{simple_is}
use Rattle.std.proofs.Common.{refl}
use Rattle.std.proofs.Math.Nat.{lt_trans}
use Rattle.bt_parser.proofs.Mirrored.{on_err, refused_reads}
use Rattle.bt_parser.proofs.simple.simple.Goals as goal

pub returns-then-sees-clause-reads : goal.returns-then-sees-clause-reads
returns-then-sees-clause-reads c = rw (simple_is (items c.args.tokens.now), ← c.if-sees.ensures.class) c.map_stmt.ensures.reads

pub returns-then-sees-2-clause-reads : goal.returns-then-sees-2-clause-reads
returns-then-sees-2-clause-reads c = rw (simple_is (items c.args.tokens.now), ← c.if-sees.ensures.class, ← c.if-sees-2.ensures.class) c.var_stmt.ensures.reads

pub returns-in_default-clause-reads : goal.returns-in_default-clause-reads
returns-in_default-clause-reads c = rw (simple_is (items c.args.tokens.now), ← c.if-sees.ensures.class, ← c.if-sees-2.ensures.class, ← c.in_default.ensures.class) c.call.ensures.reads

pub returns-clause-reads : goal.returns-clause-reads
returns-clause-reads c =
    rw (
      simple_is (items c.args.tokens.now),
      ← c.if-sees.ensures.class,
      ← c.if-sees-2.ensures.class,
      ← c.in-Some.ensures.class,
      ← c.skip-place.ensures.items,
      ← c.skip-place.ensures.place,
      c.in_ok-target.ensures.reads,
    ) refl

pub returns-then-sees-clause-shorter : goal.returns-then-sees-clause-shorter
returns-then-sees-clause-shorter c = c.map_stmt.ensures.shorter

pub returns-then-sees-2-clause-shorter : goal.returns-then-sees-2-clause-shorter
returns-then-sees-2-clause-shorter c = c.var_stmt.ensures.shorter

pub returns-in_default-clause-shorter : goal.returns-in_default-clause-shorter
returns-in_default-clause-shorter c = c.call.ensures.shorter

pub skip-place-requires : goal.skip-place-requires
skip-place-requires c = c.in-Some.ensures.some refl

pub returns-clause-shorter : goal.returns-clause-shorter
returns-clause-shorter c = lt_trans c.in_ok-target.ensures.shorter c.skip-place.ensures.shorter

pub returns-in_err-target-clause-reads : goal.returns-in_err-target-clause-reads
returns-in_err-target-clause-reads c = refused_reads _ _ _ _ c.from_residual.ensures.1 (λ other. rw (simple_is (items c.args.tokens.now), ← c.if-sees.ensures.class, ← c.if-sees-2.ensures.class, ← c.in-Some.ensures.class, ← c.skip-place.ensures.items, ← c.skip-place.ensures.place, c.in_err-target.ensures.reads other) refl)

pub returns-in_err-target-clause-shorter : goal.returns-in_err-target-clause-shorter
returns-in_err-target-clause-shorter c = on_err _ _ c.from_residual.ensures.0
