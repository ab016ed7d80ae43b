use Rattle.fmt_text.proofs.Written.{three_added}
use Rattle.fmt_text.proofs.rendering.write_right.Goals as goal

pub returns : goal.returns
returns c =
    three_added c.args.out.now.items _ _ _ _ _ _ c.in_ok-write_copies.ensures c.in_ok-extend_from_slice.ensures.items
    c.in_ok-extend_from_slice-2.ensures.items
