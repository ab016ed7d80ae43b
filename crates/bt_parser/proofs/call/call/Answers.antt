use Rattle.std.proofs.Common.{refl}
use Rattle.bt_grammar.specs.Tokens.{items}
use Rattle.bt_parser.proofs.Mirrored.{on_err, refused_reads}
use Rattle.bt_parser.proofs.Stated.{call_is}
use Rattle.std.proofs.Math.Nat.{lt_of_le_of_lt}
use Rattle.bt_parser.proofs.call.call.Goals as goal

pub returns-in_default-clause-reads : goal.returns-in_default-clause-reads
returns-in_default-clause-reads c = λ _. rw (call_is (items c.args.tokens.now), ← c.in_default.ensures.class) refl

pub returns-in_err-kind-clause-reads : goal.returns-in_err-kind-clause-reads
returns-in_err-kind-clause-reads c = refused_reads _ _ _ _ c.from_residual.ensures.1 (λ other. rw (call_is (items c.args.tokens.now), ← c.in-Some.ensures.class, ← c.skip-place.ensures.items, ← c.skip-place.ensures.place, c.in_err-kind.ensures.reads other) refl)

pub returns-in_err-kind-clause-shorter : goal.returns-in_err-kind-clause-shorter
returns-in_err-kind-clause-shorter c = on_err _ _ c.from_residual.ensures.0

pub returns-clause-reads : goal.returns-clause-reads
returns-clause-reads c = rw (call_is (items c.args.tokens.now), ← c.in-Some.ensures.class, ← c.skip-place.ensures.items, ← c.skip-place.ensures.place, c.in_ok-kind.ensures.reads) refl

pub skip-place-requires : goal.skip-place-requires
skip-place-requires c = c.in-Some.ensures.some refl

pub returns-clause-shorter : goal.returns-clause-shorter
returns-clause-shorter c = lt_of_le_of_lt c.in_ok-kind.ensures.no_longer c.skip-place.ensures.shorter
