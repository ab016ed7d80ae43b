use Rattle.std.proofs.Common.{refl, subst}
use Rattle.bt_core.specs.Text.{IsShortText}
use Rattle.bt_core.proofs.TextLemmas.{kept_front, kept_IsShortText}
use Rattle.event_record.proofs.contexts.name_in.Goals as goal

pub returns-clause-value : goal.returns-clause-value
returns-clause-value c = kept_front c.args.comm.now c.args.comm.now c.text_len-len.result c.min.result c.min.ensures c.text_len-len.ensures refl

pub returns-clause-short : goal.returns-clause-short
returns-clause-short c =
    subst IsShortText (kept_front c.args.comm.now c.args.comm.now c.text_len-len.result c.min.result c.min.ensures c.text_len-len.ensures refl)
    (kept_IsShortText c.args.comm.now c.args.comm.now c.text_len-len.result c.min.result c.min.ensures c.text_len-len.ensures refl).1
