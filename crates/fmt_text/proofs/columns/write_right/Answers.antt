use Rattle.std.proofs.Common.{ℕ, ◌++◌, ap, ◌∙◌}
use Rattle.std.specs.Prelude.{replicate}
use Rattle.fmt_text.proofs.Written.{two_added}
use Rattle.fmt_text.proofs.columns.write_right.Goals as goal

pub returns : goal.returns
returns c =
    let filled = c.in_ok-write_copies.ensures ∙ ap (λ (n : ℕ). c.args.out.now.items ++ replicate n 32) c.saturating_sub.ensures in
    two_added c.args.out.now.items _ _ _ _ filled c.in_ok-extend_from_slice.ensures.items
