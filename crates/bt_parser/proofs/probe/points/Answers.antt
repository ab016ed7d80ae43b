use Rattle.bt_grammar.specs.Tokens.{items}
use Rattle.bt_parser.specs.Probes.{points_on}
use Rattle.bt_parser.proofs.Added.{added_on, added_reads, refused_added}
use Rattle.bt_parser.proofs.Probed.{points_start, points_turns, some_added}
use Rattle.std.proofs.Common.{[], refl}
use Rattle.std.proofs.Math.Nat.{lt_trans}
use Rattle.bt_parser.proofs.Mirrored.{refused_reads}
use Rattle.bt_parser.proofs.probe.points.Goals as goal

pub returns-in_err-points-clause-reads : goal.returns-in_err-points-clause-reads
returns-in_err-points-clause-reads c =
    refused_reads _ _ _ _ c.from_residual.ensures.1
    (λ other. rw (points_start (items c.args.tokens.now), refused_added _ _ _ _ c.point.ensures.reads c.in_err-points.ensures other) refl)

pub loop-alloc-init : goal.loop-alloc-init
loop-alloc-init c = record {
  read = rw (points_start (items c.args.tokens.now)) (added_reads points_on _ _ _ [] _ c.point.ensures.reads (rw c.new.ensures at c.in_ok-points.ensures));
  shorter = added_on _ _ _ _ c.point.ensures.shorter c.in_ok-points.ensures;
  some = some_added _ _ _ c.in_ok-points.ensures;
}

pub returns-in_err-points-2-clause-reads : goal.returns-in_err-points-2-clause-reads
returns-in_err-points-2-clause-reads c =
    refused_reads _ _ _ _ c.from_residual-in_err-points-2.ensures.1
    (λ other. rw (
      ← c.loop-alloc.invariant.read,
      points_turns c.loop-alloc.points (items c.loop-alloc.tokens),
      ← c.loop-alloc-test.ensures.class,
      ← c.skip.ensures.items,
      refused_added _ _ _ _ c.point-in-loop-alloc.ensures.reads c.in_err-points-2.ensures other,
    ) refl)

pub loop-alloc-preserved : goal.loop-alloc-preserved
loop-alloc-preserved c = record {
  read = rw (
    ← c.loop-alloc.invariant.read,
    points_turns c.loop-alloc.points (items c.loop-alloc.tokens),
    ← c.loop-alloc-test.ensures.class,
    ← c.skip.ensures.items,
  ) (added_reads points_on _ _ _ _ _ c.point-in-loop-alloc.ensures.reads c.in_ok-points-2.ensures);
  shorter =
      lt_trans (added_on _ _ _ _ c.point-in-loop-alloc.ensures.shorter c.in_ok-points-2.ensures) (lt_trans c.skip.ensures.shorter c.loop-alloc.invariant.shorter);
  some = some_added _ _ _ c.in_ok-points-2.ensures;
}

pub returns-clause-reads : goal.returns-clause-reads
returns-clause-reads c =
    rw (← c.loop-alloc.invariant.read, points_turns c.loop-alloc.points (items c.loop-alloc.tokens), ← c.loop-alloc-test.ensures.class) refl

pub returns-clause-some : goal.returns-clause-some
returns-clause-some c = c.loop-alloc.invariant.some

pub returns-clause-shorter : goal.returns-clause-shorter
returns-clause-shorter c = c.loop-alloc.invariant.shorter

pub skip-requires : goal.skip-requires
skip-requires c = c.loop-alloc-test.ensures.some refl

pub loop-alloc-smaller : goal.loop-alloc-smaller
loop-alloc-smaller c = lt_trans (added_on _ _ _ _ c.point-in-loop-alloc.ensures.shorter c.in_ok-points-2.ensures) c.skip.ensures.shorter
