use Rattle.std.proofs.Common.{refl}
use Rattle.std.proofs.Math.Nat.{lt_trans}
use Rattle.bt_parser.proofs.Mirrored.{on_err, refused_reads}
use Rattle.bt_parser.proofs.call.deleted.Goals as goal

pub skip-requires : goal.skip-requires
skip-requires c = c.if-sees.ensures.some refl

pub skip-requires-then-sees-2 : goal.skip-requires-then-sees-2
skip-requires-then-sees-2 c = c.if-sees-2.ensures.some refl

pub returns-in_err-key-clause-reads : goal.returns-in_err-key-clause-reads
returns-in_err-key-clause-reads c = refused_reads _ _ _ _ c.from_residual.ensures.1 (λ other. rw (← c.if-sees.ensures.class, ← c.skip.ensures.items, c.in_err-key.ensures.reads other) refl)

pub returns-in_err-key-clause-shorter : goal.returns-in_err-key-clause-shorter
returns-in_err-key-clause-shorter c = on_err _ _ c.from_residual.ensures.0

pub returns-then-sees-clause-reads : goal.returns-then-sees-clause-reads
returns-then-sees-clause-reads c = rw (← c.if-sees.ensures.class, ← c.skip.ensures.items, c.in_ok-key.ensures.reads) refl

pub returns-then-sees-clause-shorter : goal.returns-then-sees-clause-shorter
returns-then-sees-clause-shorter c = lt_trans c.in_ok-key.ensures.shorter c.skip.ensures.shorter

pub returns-in_err-keys-clause-reads : goal.returns-in_err-keys-clause-reads
returns-in_err-keys-clause-reads c = refused_reads _ _ _ _ c.from_residual-in_err-keys.ensures.1 (λ other. rw (← c.if-sees.ensures.class, ← c.if-sees-2.ensures.class, ← c.skip-then-sees-2.ensures.items, c.in_err-keys.ensures.reads other) refl)

pub returns-in_err-keys-clause-shorter : goal.returns-in_err-keys-clause-shorter
returns-in_err-keys-clause-shorter c = on_err _ _ c.from_residual-in_err-keys.ensures.0

pub returns-then-sees-2-clause-reads : goal.returns-then-sees-2-clause-reads
returns-then-sees-2-clause-reads c = rw (← c.if-sees.ensures.class, ← c.if-sees-2.ensures.class, ← c.skip-then-sees-2.ensures.items, c.in_ok-keys.ensures.reads) refl

pub returns-then-sees-2-clause-shorter : goal.returns-then-sees-2-clause-shorter
returns-then-sees-2-clause-shorter c = lt_trans c.in_ok-keys.ensures.shorter c.skip-then-sees-2.ensures.shorter

pub returns-in_err-expect-clause-reads : goal.returns-in_err-expect-clause-reads
returns-in_err-expect-clause-reads c = refused_reads _ _ _ _ c.from_residual-in_err-expect.ensures.1 (λ other. rw (← c.if-sees.ensures.class, ← c.if-sees-2.ensures.class, c.in_err-expect.ensures.reads other) refl)

pub returns-in_err-expect-clause-shorter : goal.returns-in_err-expect-clause-shorter
returns-in_err-expect-clause-shorter c = on_err _ _ c.from_residual-in_err-expect.ensures.0

pub returns-clause-reads : goal.returns-clause-reads
returns-clause-reads c = rw (← c.if-sees.ensures.class, ← c.if-sees-2.ensures.class, c.in_ok-expect.ensures.reads, c.new.ensures) refl

pub returns-clause-shorter : goal.returns-clause-shorter
returns-clause-shorter c = c.in_ok-expect.ensures.shorter
