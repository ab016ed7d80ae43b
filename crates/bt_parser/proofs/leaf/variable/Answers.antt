use Rattle.std.proofs.Common.{refl}
use Rattle.bt_grammar.specs.Tokens.{items}
use Rattle.bt_parser.proofs.Mirrored.{on_err, refused_reads, variable_is}
use Rattle.std.proofs.Math.Nat.{lt_trans}
use Rattle.bt_parser.proofs.leaf.variable.Goals as goal

pub returns-in_err-bytes-clause-reads : goal.returns-in_err-bytes-clause-reads
returns-in_err-bytes-clause-reads c = refused_reads _ _ _ _ c.from_residual.ensures.1 (λ other. rw (variable_is (items c.args.tokens.now), c.in_err-bytes.ensures.reads other) refl)

pub returns-in_err-bytes-clause-shorter : goal.returns-in_err-bytes-clause-shorter
returns-in_err-bytes-clause-shorter c = on_err _ _ c.from_residual.ensures.0

pub returns-in_default-clause-reads : goal.returns-in_default-clause-reads
returns-in_default-clause-reads c = rw (variable_is (items c.args.tokens.now), c.in_ok-bytes.ensures.reads, ← c.in_default.ensures.class) refl

pub returns-clause-reads : goal.returns-clause-reads
returns-clause-reads c = rw (variable_is (items c.args.tokens.now), c.in_ok-bytes.ensures.reads, ← c.in-Some.ensures.class, ← c.skip.ensures.items) refl

pub skip-requires : goal.skip-requires
skip-requires c = c.in-Some.ensures.some refl

pub returns-in_default-clause-shorter : goal.returns-in_default-clause-shorter
returns-in_default-clause-shorter c = c.in_ok-bytes.ensures.shorter

pub returns-clause-shorter : goal.returns-clause-shorter
returns-clause-shorter c = lt_trans c.skip.ensures.shorter c.in_ok-bytes.ensures.shorter
