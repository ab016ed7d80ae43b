use Rattle.bt_core.specs.declared.operator.BinOp.TheVariants.{Div}
use Rattle.bt_grammar.specs.declared.class.Class.TheVariants.{Operator}
use Rattle.bt_grammar.specs.Form.{Expression}
use Rattle.bt_grammar.specs.Reading.{Done, reads}
use Rattle.bt_parser.proofs.Added.{behind_then}
use Rattle.std.proofs.Common.{Some, refl, true}
use Rattle.bt_grammar.specs.Tokens.{items}
use Rattle.bt_parser.proofs.Mirrored.{no_longer_on, on_err, refused_reads}
use Rattle.bt_parser.proofs.Probed.{predicate_is}
use Rattle.std.proofs.Math.Nat.{lt_trans, le_of_lt}
use Rattle.bt_parser.proofs.probe.predicate.Goals as goal

pub returns-then-not-sees-clause-reads : goal.returns-then-not-sees-clause-reads
returns-then-not-sees-clause-reads c = rw (predicate_is (items c.args.tokens.now), ← c.if-not-sees.ensures.class) refl

pub returns-in_err-value-clause-reads : goal.returns-in_err-value-clause-reads
returns-in_err-value-clause-reads c =
    refused_reads _ _ _ _ c.from_residual.ensures.1
    (λ other. rw (predicate_is (items c.args.tokens.now), ← c.if-not-sees.ensures.class, ← c.skip.ensures.items, behind_then (Operator Div) (reads (Expression true) (items c.skip.new.self)) (λ x r. Done (Some x) r), c.in_err-value.ensures.reads _ c.expression-value.ensures.reads other) refl)

pub returns-in_err-value-clause-no_longer : goal.returns-in_err-value-clause-no_longer
returns-in_err-value-clause-no_longer c = on_err _ _ c.from_residual.ensures.0

pub returns-clause-reads : goal.returns-clause-reads
returns-clause-reads c =
    rw (predicate_is (items c.args.tokens.now), ← c.if-not-sees.ensures.class, ← c.skip.ensures.items, behind_then (Operator Div) (reads (Expression true) (items c.skip.new.self)) (λ x r. Done (Some x) r), c.in_ok-value.ensures.reads _ c.expression-value.ensures.reads) refl

pub skip-requires : goal.skip-requires
skip-requires c = c.if-not-sees.ensures.some refl

pub returns-clause-no_longer : goal.returns-clause-no_longer
returns-clause-no_longer c = le_of_lt (lt_trans (c.in_ok-value.ensures.shorter _ (no_longer_on _ _ _ c.expression-value.ensures.shorter)) c.skip.ensures.shorter)
