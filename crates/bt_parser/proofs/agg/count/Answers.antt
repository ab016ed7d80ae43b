use Rattle.std.proofs.Common.{refl}
use Rattle.bt_grammar.specs.Tokens.{items}
use Rattle.bt_parser.proofs.Mirrored.{on_err, refused_reads}
use Rattle.bt_parser.proofs.Stated.{count_is}
use Rattle.std.proofs.Math.Nat.{lt_trans}
use Rattle.bt_parser.proofs.agg.count.Goals as goal

pub returns-in_err-place-clause-reads : goal.returns-in_err-place-clause-reads
returns-in_err-place-clause-reads c = refused_reads _ _ _ _ c.from_residual.ensures.1 (λ other. rw (count_is (items c.args.tokens.now), c.in_err-place.ensures.reads other) refl)

pub returns-in_err-place-clause-shorter : goal.returns-in_err-place-clause-shorter
returns-in_err-place-clause-shorter c = on_err _ _ c.from_residual.ensures.0

pub returns-in_err-expect-clause-reads : goal.returns-in_err-expect-clause-reads
returns-in_err-expect-clause-reads c = refused_reads _ _ _ _ c.from_residual-in_err-expect.ensures.1 (λ other. rw (count_is (items c.args.tokens.now), c.in_ok-place.ensures.reads, c.in_err-expect.ensures.reads other) refl)

pub returns-in_err-expect-clause-shorter : goal.returns-in_err-expect-clause-shorter
returns-in_err-expect-clause-shorter c = on_err _ _ c.from_residual-in_err-expect.ensures.0

pub returns-in_err-expect-2-clause-reads : goal.returns-in_err-expect-2-clause-reads
returns-in_err-expect-2-clause-reads c = refused_reads _ _ _ _ c.from_residual-in_err-expect-2.ensures.1 (λ other. rw (count_is (items c.args.tokens.now), c.in_ok-place.ensures.reads, c.in_ok-expect.ensures.reads, c.in_err-expect-2.ensures.reads other) refl)

pub returns-in_err-expect-2-clause-shorter : goal.returns-in_err-expect-2-clause-shorter
returns-in_err-expect-2-clause-shorter c = on_err _ _ c.from_residual-in_err-expect-2.ensures.0

pub returns-clause-reads : goal.returns-clause-reads
returns-clause-reads c = rw (count_is (items c.args.tokens.now), c.in_ok-place.ensures.reads, c.in_ok-expect.ensures.reads, c.in_ok-expect-2.ensures.reads) refl

pub returns-clause-shorter : goal.returns-clause-shorter
returns-clause-shorter c = lt_trans c.in_ok-expect-2.ensures.shorter (lt_trans c.in_ok-expect.ensures.shorter c.in_ok-place.ensures.shorter)
