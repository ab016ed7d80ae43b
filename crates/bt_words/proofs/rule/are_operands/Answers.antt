use Rattle.std.proofs.Common.{◌∙◌, ap, false, refl, true}
use Rattle.bt_words.specs.Words.{is_operand}
use Rattle.bt_words.proofs.WordLoops.{all_tested, tested_word}
use Rattle.bt_words.proofs.rule.are_operands.Goals as goal

pub loop-word-preserved : goal.loop-word-preserved
loop-word-preserved c =
    tested_word is_operand c.args.words.now c.loop-word.word-index c.word-item.result _ true c.loop-word-test.true c.word-item.is
    (c.if-not-is_operand.ensures ∙ ap is_operand c.as_str.ensures.value) refl c.loop-word.invariant

pub returns-then-not-is_operand : goal.returns-then-not-is_operand
returns-then-not-is_operand c =
    tested_word is_operand c.args.words.now c.loop-word.word-index c.word-item.result _ false c.loop-word-test.true c.word-item.is
    (c.if-not-is_operand.ensures ∙ ap is_operand c.as_str.ensures.value) refl c.loop-word.invariant

pub returns : goal.returns
returns c = all_tested is_operand c.args.words.now c.loop-word.word-index c.loop-word-test.false c.loop-word.invariant
