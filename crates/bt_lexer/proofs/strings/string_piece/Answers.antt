use Rattle.std.proofs.Common.{ℕ, Vec, Global, ap, sym, ◌∙◌, ◌+◌, length}
use Rattle.bt_lexer.specs.declared.strings.StringByte.TheVariants as part
use Rattle.bt_lexer.proofs.Same.{same_answer}
use Rattle.bt_lexer.proofs.StringTurns.{string_at, string_end, goes_on, unclosed_within, closed_within}
use Rattle.bt_lexer.proofs.strings.string_piece.Goals as goal
use Rattle.bt_lexer.proofs.strings.string_piece.Goals.{in-Add+in_ok-push-in-Add, in-Escape}

pub loop-i-preserved : goal.loop-i-preserved
loop-i-preserved c =
    let at = string_at c.args.offset c.loop-i.escaped c.loop-i.text.items c.loop-i.i c.args.bytes.now in
    elim c.match-string_byte.branch [
      | in-Add+in_ok-push-in-Add w ↦ goes_on c.args.offset c.loop-i.i c.args.bytes.now _ _ _ _
          (at (part.Add w.in-Add.c) c.loop-i-test.true c.loop-i.invariant w.in-Add.ensures) w.escaped-is
          (ap (λ (v : Vec ℕ Global). v.items) w.text-is ∙ w.in_ok-push-in-Add.ensures.items)
      | in-Escape w ↦ goes_on c.args.offset c.loop-i.i c.args.bytes.now _ _ _ _
          (at part.Escape c.loop-i-test.true c.loop-i.invariant w.in-Escape.ensures) w.escaped-is
          (ap (λ (v : Vec ℕ Global). v.items) w.text-is)
    ]

pub returns-clause-value : goal.returns-clause-value
returns-clause-value c =
    same_answer _ _ (string_end c.args.offset c.loop-i.escaped c.loop-i.text.items c.loop-i.i c.args.bytes.now
    c.loop-i.auto.i-end c.loop-i-test.false c.loop-i.invariant ∙ sym c.unclosed.ensures)

pub returns-clause-within : goal.returns-clause-within
returns-clause-within c = rw c.unclosed.ensures (unclosed_within c.args.offset (length c.args.bytes.now) c.loop-i.escaped (length c.args.bytes.now + 1))

pub returns-in-Close-clause-value : goal.returns-in-Close-clause-value
returns-in-Close-clause-value c =
    same_answer _ _ (string_at c.args.offset c.loop-i.escaped c.loop-i.text.items c.loop-i.i c.args.bytes.now
    part.Close c.loop-i-test.true c.loop-i.invariant c.in-Close.ensures ∙ sym c.closed.ensures)

pub returns-in-Close-clause-within : goal.returns-in-Close-clause-within
returns-in-Close-clause-within c = rw c.closed.ensures (closed_within c.args.offset c.loop-i.text.items c.loop-i.i (length c.args.bytes.now) c.loop-i-test.true)

pub returns-in-Zero-clause-value : goal.returns-in-Zero-clause-value
returns-in-Zero-clause-value c = λ _. string_at c.args.offset c.loop-i.escaped c.loop-i.text.items c.loop-i.i c.args.bytes.now
    part.Zero c.loop-i-test.true c.loop-i.invariant c.in-Zero.ensures

pub returns-in-EndOfLine-clause-value : goal.returns-in-EndOfLine-clause-value
returns-in-EndOfLine-clause-value c =
    λ _. string_at c.args.offset c.loop-i.escaped c.loop-i.text.items c.loop-i.i c.args.bytes.now
    part.EndOfLine c.loop-i-test.true c.loop-i.invariant c.in-EndOfLine.ensures

pub returns-in-BadEscape-clause-value : goal.returns-in-BadEscape-clause-value
returns-in-BadEscape-clause-value c =
    λ _. string_at c.args.offset c.loop-i.escaped c.loop-i.text.items c.loop-i.i c.args.bytes.now
    part.BadEscape c.loop-i-test.true c.loop-i.invariant c.in-BadEscape.ensures
