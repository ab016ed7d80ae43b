use Rattle.std.proofs.Common.{◌<◌, ◌++◌, ap, ◌∙◌, length, List, ℕ, arith}
use Rattle.bpf_encode.proofs.Lines.{line_written}
use Rattle.bpf_encode.proofs.listing.push_line.Goals as goal

pub returns : goal.returns
returns c =
    let long : 0 < length c.args.slot.now = omega arith in
    line_written c.args.text.now.items c.args.number c.args.slot.now _ _ _ _ long
    (c.in_ok-extend_from_slice.ensures.items ∙ ap (λ (l : List ℕ). c.args.text.now.items ++ l) c.four_digits.ensures)
    c.in_ok-push.ensures.items
    c.in_ok-push_bytes.ensures
    c.in_ok-push-2.ensures.items
