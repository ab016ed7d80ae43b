use Rattle.std.proofs.Common.{◌∙◌, sym}
use Rattle.bt_core.specs.Bytes.{is_word_byte}
use Rattle.event_layout.specs.Bytes.{is_separator, without_front}
use Rattle.tracefs_format.proofs.WordsLemmas.{words-skip, words-some, words-none, words-shorter}
use Rattle.tracefs_format.proofs.words.first_word.Goals as goal

pub returns-clause-some : goal.returns-clause-some
returns-clause-some c = λ h. rw (c.split_beginning.ensures.beginning, c.split_beginning.ensures.rest, c.without_front.ensures)
    (sym (words-skip is_word_byte c.args.bytes.now) ∙ words-some is_word_byte (without_front is_separator c.args.bytes.now) (rw (c.split_beginning.ensures.beginning, c.without_front.ensures) at h))

pub returns-clause-none : goal.returns-clause-none
returns-clause-none c = λ h. words-none is_word_byte c.args.bytes.now (rw (c.split_beginning.ensures.beginning, c.without_front.ensures) at h)

pub returns-clause-shorter : goal.returns-clause-shorter
returns-clause-shorter c = λ h. rw (c.split_beginning.ensures.rest, c.without_front.ensures)
    (words-shorter is_word_byte c.args.bytes.now (rw (c.split_beginning.ensures.beginning, c.without_front.ensures) at h))
