use Rattle.std.proofs.Common.{◌+◌, ◌-◌, ◌++◌, List, ℕ, take, ap, ◌∙◌, arith}
use Rattle.std.specs.Int.{w64, to_le_bytes}
use borrow.Rule.Slice.PartMut.{put_mid, Post-is}
use Rattle.event_record.proofs.contexts.put_word.Goals as goal

pub returns-clause-put : goal.returns-clause-put
returns-clause-put c =
    let place = c.args.place in let bytes = c.args.bytes.now in
    ap (λ (l : List ℕ). put_mid place (place + 8 - place) bytes l) (c.copy_from_slice.ensures.after ∙ c.to_le_bytes.ensures)
    ∙ ap (λ (l : List ℕ). take place bytes ++ (to_le_bytes w64 c.args.number ++ l)) (Post-is place (place + 8) bytes (omega arith))
