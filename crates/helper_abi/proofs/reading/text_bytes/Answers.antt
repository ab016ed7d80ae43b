use Rattle.std.proofs.Common.{◌-◌, ◌++◌, length, ap, ◌∙◌}
use Rattle.std.proofs.lemmas.List.{drop-replicate}
use Rattle.std.specs.Prelude.{replicate}
use Rattle.helper_abi.proofs.reading.text_bytes.Goals as goal

pub returns : goal.returns
returns c =
    let text = c.bytes-text.result.now in
    rw c.copy_from_slice.ensures.after (ap (λ l. text ++ l) (drop-replicate (length text) 64 0) ∙ ap (λ s. s ++ replicate (64 - length s) 0) c.bytes-text.ensures.value)
