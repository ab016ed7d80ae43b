use Rattle.std.proofs.Common.{refl, rules}
use Rattle.bt_grammar.specs.Tokens.{items}
use Rattle.bt_parser.proofs.Mirrored.{on_err, refused_reads}
use Rattle.bt_parser.proofs.Stated.{limit_is}
use Rattle.bt_parser.proofs.call.limit.Goals as goal

pub returns-then-not-sees-clause-reads : goal.returns-then-not-sees-clause-reads
returns-then-not-sees-clause-reads c = rw (limit_is (items c.args.tokens.now), ← c.if-not-sees.ensures.class) refl

pub returns-in_err-number-clause-reads : goal.returns-in_err-number-clause-reads
returns-in_err-number-clause-reads c = refused_reads _ _ _ _ c.from_residual.ensures.1 (λ other. rw (limit_is (items c.args.tokens.now), ← c.if-not-sees.ensures.class, ← c.skip.ensures.items, c.in_err-number.ensures.reads other) refl)

pub returns-in_err-number-clause-no_longer : goal.returns-in_err-number-clause-no_longer
returns-in_err-number-clause-no_longer c = on_err _ _ c.from_residual.ensures.0

pub returns-clause-reads : goal.returns-clause-reads
returns-clause-reads c = rw (limit_is (items c.args.tokens.now), ← c.if-not-sees.ensures.class, ← c.skip.ensures.items, c.in_ok-number.ensures.reads) (search rules)

pub skip-requires : goal.skip-requires
skip-requires c = c.if-not-sees.ensures.some refl
