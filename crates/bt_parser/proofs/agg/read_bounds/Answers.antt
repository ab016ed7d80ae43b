use Rattle.std.proofs.Common.{refl, rules}
use Rattle.bt_grammar.specs.Tokens.{items}
use Rattle.bt_parser.proofs.Mirrored.{on_err, refused_reads}
use Rattle.bt_parser.proofs.Stated.{bounds_is}
use Rattle.std.proofs.Math.Nat.{lt_trans}
use Rattle.bt_parser.proofs.agg.read_bounds.Goals as goal

pub returns-in_err-min-clause-reads : goal.returns-in_err-min-clause-reads
returns-in_err-min-clause-reads c = refused_reads _ _ _ _ c.from_residual.ensures.1 (λ other. rw (bounds_is (items c.args.tokens.now), c.in_err-min.ensures.reads other) refl)

pub returns-in_err-min-clause-shorter : goal.returns-in_err-min-clause-shorter
returns-in_err-min-clause-shorter c = on_err _ _ c.from_residual.ensures.0

pub returns-in_err-max-clause-reads : goal.returns-in_err-max-clause-reads
returns-in_err-max-clause-reads c = refused_reads _ _ _ _ c.from_residual-in_err-max.ensures.1 (λ other. rw (bounds_is (items c.args.tokens.now), c.in_ok-min.ensures.reads, c.in_err-max.ensures.reads other) refl)

pub returns-in_err-max-clause-shorter : goal.returns-in_err-max-clause-shorter
returns-in_err-max-clause-shorter c = on_err _ _ c.from_residual-in_err-max.ensures.0

pub returns-in_err-step-clause-reads : goal.returns-in_err-step-clause-reads
returns-in_err-step-clause-reads c = refused_reads _ _ _ _ c.from_residual-in_err-step.ensures.1 (λ other. rw (bounds_is (items c.args.tokens.now), c.in_ok-min.ensures.reads, c.in_ok-max.ensures.reads, c.in_err-step.ensures.reads other) refl)

pub returns-in_err-step-clause-shorter : goal.returns-in_err-step-clause-shorter
returns-in_err-step-clause-shorter c = on_err _ _ c.from_residual-in_err-step.ensures.0

pub returns-clause-reads : goal.returns-clause-reads
returns-clause-reads c = rw (bounds_is (items c.args.tokens.now), c.in_ok-min.ensures.reads, c.in_ok-max.ensures.reads, c.in_ok-step.ensures.reads) (search rules)

pub returns-clause-shorter : goal.returns-clause-shorter
returns-clause-shorter c = lt_trans c.in_ok-step.ensures.shorter (lt_trans c.in_ok-max.ensures.shorter c.in_ok-min.ensures.shorter)
