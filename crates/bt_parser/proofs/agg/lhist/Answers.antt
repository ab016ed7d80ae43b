use Rattle.std.proofs.Common.{refl, rules}
use Rattle.bt_grammar.specs.Tokens.{items}
use Rattle.bt_parser.proofs.Mirrored.{on_err, refused_reads}
use Rattle.bt_parser.proofs.Stated.{lhist_is}
use Rattle.std.proofs.Math.Nat.{lt_trans}
use Rattle.bt_parser.proofs.agg.lhist.Goals as goal

pub returns-in_err-place-clause-reads : goal.returns-in_err-place-clause-reads
returns-in_err-place-clause-reads c = refused_reads _ _ _ _ c.from_residual.ensures.1 (λ other. rw (lhist_is (items c.args.tokens.now), c.in_err-place.ensures.reads other) refl)

pub returns-in_err-place-clause-shorter : goal.returns-in_err-place-clause-shorter
returns-in_err-place-clause-shorter c = on_err _ _ c.from_residual.ensures.0

pub returns-in_err-expect-clause-reads : goal.returns-in_err-expect-clause-reads
returns-in_err-expect-clause-reads c = refused_reads _ _ _ _ c.from_residual-in_err-expect.ensures.1 (λ other. rw (lhist_is (items c.args.tokens.now), c.in_ok-place.ensures.reads, c.in_err-expect.ensures.reads other) refl)

pub returns-in_err-expect-clause-shorter : goal.returns-in_err-expect-clause-shorter
returns-in_err-expect-clause-shorter c = on_err _ _ c.from_residual-in_err-expect.ensures.0

pub returns-in_err-number-clause-reads : goal.returns-in_err-number-clause-reads
returns-in_err-number-clause-reads c = refused_reads _ _ _ _ c.from_residual-in_err-number.ensures.1 (λ other. rw (lhist_is (items c.args.tokens.now), c.in_ok-place.ensures.reads, c.in_ok-expect.ensures.reads, c.in_err-number.ensures.reads other) refl)

pub returns-in_err-number-clause-shorter : goal.returns-in_err-number-clause-shorter
returns-in_err-number-clause-shorter c = on_err _ _ c.from_residual-in_err-number.ensures.0

pub returns-in_err-min-clause-reads : goal.returns-in_err-min-clause-reads
returns-in_err-min-clause-reads c = refused_reads _ _ _ _ c.from_residual-in_err-min.ensures.1 (λ other. rw (lhist_is (items c.args.tokens.now), c.in_ok-place.ensures.reads, c.in_ok-expect.ensures.reads, c.in_ok-number.ensures.reads, c.in_err-min.ensures.reads other) refl)

pub returns-in_err-min-clause-shorter : goal.returns-in_err-min-clause-shorter
returns-in_err-min-clause-shorter c = on_err _ _ c.from_residual-in_err-min.ensures.0

pub returns-clause-reads : goal.returns-clause-reads
returns-clause-reads c =
    rw (
      lhist_is (items c.args.tokens.now),
      c.in_ok-place.ensures.reads,
      c.in_ok-expect.ensures.reads,
      c.in_ok-number.ensures.reads,
      c.in_ok-min.ensures.reads,
    ) (search rules)

pub returns-clause-shorter : goal.returns-clause-shorter
returns-clause-shorter c =
    lt_trans c.in_ok-min.ensures.shorter (lt_trans c.in_ok-number.ensures.shorter (lt_trans c.in_ok-expect.ensures.shorter c.in_ok-place.ensures.shorter))
