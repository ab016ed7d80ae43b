use Rattle.std.proofs.Common.{refl}
use Rattle.bt_grammar.specs.Tokens.{items}
use Rattle.bt_parser.proofs.Mirrored.{field_is, on_err, refused_reads}
use Rattle.std.proofs.Math.Nat.{lt_trans}
use Rattle.bt_parser.proofs.leaf.field.Goals as goal

pub returns-in_err-place-clause-reads : goal.returns-in_err-place-clause-reads
returns-in_err-place-clause-reads c = refused_reads _ _ _ _ c.from_residual.ensures.1 (λ other. rw (field_is (items c.args.tokens.now), c.in_err-place.ensures.reads other) refl)

pub returns-in_err-place-clause-shorter : goal.returns-in_err-place-clause-shorter
returns-in_err-place-clause-shorter c = on_err _ _ c.from_residual.ensures.0

pub returns-in_err-dot-clause-reads : goal.returns-in_err-dot-clause-reads
returns-in_err-dot-clause-reads c = refused_reads _ _ _ _ c.from_residual-in_err-dot.ensures.1 (λ other. rw (field_is (items c.args.tokens.now), c.in_ok-place.ensures.reads, c.in_err-dot.ensures.reads other) refl)

pub returns-in_err-dot-clause-shorter : goal.returns-in_err-dot-clause-shorter
returns-in_err-dot-clause-shorter c = on_err _ _ c.from_residual-in_err-dot.ensures.0

pub returns-in_err-word-clause-reads : goal.returns-in_err-word-clause-reads
returns-in_err-word-clause-reads c = refused_reads _ _ _ _ c.from_residual-in_err-word.ensures.1 (λ other. rw (field_is (items c.args.tokens.now), c.in_ok-place.ensures.reads, c.in_ok-dot.ensures.reads, c.in_err-word.ensures.reads other) refl)

pub returns-in_err-word-clause-shorter : goal.returns-in_err-word-clause-shorter
returns-in_err-word-clause-shorter c = on_err _ _ c.from_residual-in_err-word.ensures.0

pub returns-clause-reads : goal.returns-clause-reads
returns-clause-reads c = rw (field_is (items c.args.tokens.now), c.in_ok-place.ensures.reads, c.in_ok-dot.ensures.reads, c.in_ok-word.ensures.reads) refl

pub returns-clause-shorter : goal.returns-clause-shorter
returns-clause-shorter c = lt_trans c.in_ok-word.ensures.shorter (lt_trans c.in_ok-dot.ensures.shorter c.in_ok-place.ensures.shorter)
