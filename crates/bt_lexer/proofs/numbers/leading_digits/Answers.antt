use Rattle.std.proofs.Common.{sym, ◌∙◌, ap, ◌+◌}
use Rattle.bt_lexer.specs.Scan.{fits}
use Rattle.bt_lexer.specs.Bytes.{begins}
use Rattle.bt_lexer.proofs.DigitTurns.{digit_more, line_more, digits_end, digits_all, other_byte, lone_line}
use Rattle.bt_lexer.proofs.Same.{up_to_end}
use Rattle.bt_lexer.proofs.numbers.leading_digits.Goals as goal
use Rattle.bt_lexer.proofs.numbers.leading_digits.Goals.{then-digit-base, else-digit-base+else-b-ne95+else-not-begins_with_digit}
use Rattle.bt_lexer.proofs.numbers.leading_digits.Goals.{then-b-ne95-via-then-b-ne95, then-b-ne95-via-else-b-ne95+then-not-begins_with_digit}

pub loop-i-preserved : goal.loop-i-preserved
loop-i-preserved c = elim c.if-digit-base.branch [
  | then-digit-base w ↦
      digit_more c.args.base c.loop-i.value _ c.loop-i.i _ c.args.bytes.now c.loop-i-test.true
      c.digit_value-digit.ensures.value w.if-digit-base.true (w.value-is ∙ w.push_digit-value.ensures) ∙ c.loop-i.invariant
  | else-digit-base+else-b-ne95+else-not-begins_with_digit w ↦
      rw w.value-is (line_more c.args.base c.loop-i.value c.loop-i.i _ c.args.bytes.now c.loop-i-test.true
      c.digit_value-digit.ensures.value w.if-digit-base.false w.if-b-ne95.false
      (sym (ap (begins (fits c.args.base)) (up_to_end (c.loop-i.i + 1) c.args.bytes.now)) ∙ sym w.begins_with_digit.ensures ∙ w.if-not-begins_with_digit.false)
      ∙ c.loop-i.invariant)
]

pub returns-then-b-ne95-clause-value : goal.returns-then-b-ne95-clause-value
returns-then-b-ne95-clause-value c =
    let end = digits_end c.args.base c.loop-i.value c.loop-i.i _ c.args.bytes.now c.loop-i-test.true c.digit_value-digit.ensures.value c.if-digit-base.false in
    elim c.then-b-ne95.branch [
      | then-b-ne95-via-then-b-ne95 w ↦ sym (end (other_byte _ _ w.if-b-ne95.true)) ∙ c.loop-i.invariant
      | then-b-ne95-via-else-b-ne95+then-not-begins_with_digit w ↦
          sym (end (lone_line _ _ w.if-b-ne95.false
          (sym (ap (begins (fits c.args.base)) (up_to_end (c.loop-i.i + 1) c.args.bytes.now)) ∙ sym w.begins_with_digit.ensures ∙ w.if-not-begins_with_digit.true))) ∙ c.loop-i.invariant
    ]

pub returns-clause-value : goal.returns-clause-value
returns-clause-value c = sym (digits_all c.args.base c.loop-i.value c.loop-i.i c.args.bytes.now c.loop-i.auto.i-end c.loop-i-test.false) ∙ c.loop-i.invariant
