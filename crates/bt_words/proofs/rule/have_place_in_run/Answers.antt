use Rattle.std.proofs.Common.{◌∙◌, ap, false, refl, true}
use Rattle.bt_words.specs.Words.{has_place_in_run}
use Rattle.bt_words.proofs.WordLoops.{all_tested, tested_word}
use Rattle.bt_words.proofs.rule.have_place_in_run.Goals as goal

pub loop-word-preserved : goal.loop-word-preserved
loop-word-preserved c =
    tested_word has_place_in_run c.args.words.now c.loop-word.word-index c.word-item.result _ true c.loop-word-test.true c.word-item.is
    (c.if-not-has_place_in_run.ensures ∙ ap has_place_in_run c.as_str.ensures.value) refl c.loop-word.invariant

pub returns-then-not-has_place_in_run : goal.returns-then-not-has_place_in_run
returns-then-not-has_place_in_run c =
    tested_word has_place_in_run c.args.words.now c.loop-word.word-index c.word-item.result _ false c.loop-word-test.true c.word-item.is
    (c.if-not-has_place_in_run.ensures ∙ ap has_place_in_run c.as_str.ensures.value) refl c.loop-word.invariant

pub returns : goal.returns
returns c = all_tested has_place_in_run c.args.words.now c.loop-word.word-index c.loop-word-test.false c.loop-word.invariant
