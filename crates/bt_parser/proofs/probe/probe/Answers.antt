use Rattle.std.proofs.Common.{refl, sym, length, ◌<◌, subst}
use Rattle.bt_grammar.specs.Tokens.{items}
use Rattle.bt_parser.proofs.Probed.{probe_is}
use Rattle.std.proofs.Math.Nat.{lt_trans}
use Rattle.bt_parser.proofs.Mirrored.{on_err, refused_reads}
use Rattle.bt_parser.proofs.probe.probe.Goals as goal

pub returns-in_err-points-clause-reads : goal.returns-in_err-points-clause-reads
returns-in_err-points-clause-reads c =
    refused_reads _ _ _ _ c.from_residual.ensures.1 (λ other. rw (probe_is (items c.args.tokens.now), c.in_err-points.ensures.reads other) refl)

pub returns-in_err-predicate-clause-reads : goal.returns-in_err-predicate-clause-reads
returns-in_err-predicate-clause-reads c =
    refused_reads _ _ _ _ c.from_residual-in_err-predicate.ensures.1
    (λ other. rw (probe_is (items c.args.tokens.now), c.in_ok-points.ensures.reads, c.in_err-predicate.ensures.reads other) refl)

pub returns-clause-reads : goal.returns-clause-reads
returns-clause-reads c =
    rw (
      probe_is (items c.args.tokens.now),
      c.in_ok-points.ensures.reads,
      c.in_ok-predicate.ensures.reads,
      c.place_of_points-place.ensures,
      c.as_slice.ensures,
    ) refl

pub returns-in_err-points-clause-shorter : goal.returns-in_err-points-clause-shorter
returns-in_err-points-clause-shorter c = on_err _ _ c.from_residual.ensures.0

pub returns-in_err-predicate-clause-shorter : goal.returns-in_err-predicate-clause-shorter
returns-in_err-predicate-clause-shorter c = on_err _ _ c.from_residual-in_err-predicate.ensures.0

pub returns-clause-shorter : goal.returns-clause-shorter
returns-clause-shorter c = lt_trans c.in_ok-predicate.ensures.shorter c.in_ok-points.ensures.shorter

pub place_of_points-place-requires : goal.place_of_points-place-requires
place_of_points-place-requires c = subst (λ z. 0 < length z) (sym c.as_slice.ensures) c.in_ok-points.ensures.some
