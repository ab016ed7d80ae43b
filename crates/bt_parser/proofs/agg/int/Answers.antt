use Rattle.std.proofs.Common.{refl, rules}
use Rattle.bt_grammar.specs.Tokens.{items}
use Rattle.bt_parser.proofs.Mirrored.{on_err, refused_reads}
use Rattle.bt_parser.proofs.Stated.{int_is}
use Rattle.std.proofs.Math.Nat.{lt_trans}
use Rattle.bt_parser.proofs.agg.int.Goals as goal

pub returns-then-not-sees-clause-reads : goal.returns-then-not-sees-clause-reads
returns-then-not-sees-clause-reads c = rw (int_is (items c.args.tokens.now), ← c.if-not-sees.ensures.class) c.number.ensures.reads

pub returns-in_err-number-clause-reads : goal.returns-in_err-number-clause-reads
returns-in_err-number-clause-reads c = refused_reads _ _ _ _ c.from_residual.ensures.1 (λ other. rw (int_is (items c.args.tokens.now), ← c.if-not-sees.ensures.class, ← c.skip.ensures.items, c.in_err-number.ensures.reads other) refl)

pub returns-in_err-number-clause-shorter : goal.returns-in_err-number-clause-shorter
returns-in_err-number-clause-shorter c = on_err _ _ c.from_residual.ensures.0

pub returns-clause-reads : goal.returns-clause-reads
returns-clause-reads c = rw (int_is (items c.args.tokens.now), ← c.if-not-sees.ensures.class, ← c.skip.ensures.items, c.in_ok-number.ensures.reads) (search rules)

pub skip-requires : goal.skip-requires
skip-requires c = c.if-not-sees.ensures.some refl

pub returns-clause-shorter : goal.returns-clause-shorter
returns-clause-shorter c = lt_trans c.in_ok-number.ensures.shorter c.skip.ensures.shorter
