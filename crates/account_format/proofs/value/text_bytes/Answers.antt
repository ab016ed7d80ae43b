use Rattle.account_format.proofs.ValueLaws.{text_padded}
use Rattle.account_format.proofs.value.text_bytes.Goals as goal

pub returns : goal.returns
returns c = text_padded c.bytes-text.result.now c.args.text.now c.copy_from_slice.new.self c.bytes-text.ensures.value c.copy_from_slice.ensures.after
