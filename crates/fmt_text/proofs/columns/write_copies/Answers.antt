use Rattle.std.proofs.Common.{◌≡◌, ℕ, List, ◌++◌, ap, ◌∙◌, arith}
use Rattle.std.specs.Prelude.{replicate}
use Rattle.std.proofs.lemmas.List.{replicate_more}
use Rattle.fmt_text.proofs.Written.{two_added}
use Rattle.fmt_text.proofs.columns.write_copies.Goals as goal

pub loop-preserved : goal.loop-preserved
loop-preserved c =
    let out = c.args.out.now.items in
    two_added out _ _ _ _ c.loop.invariant c.in_ok-push.ensures.items ∙ ap (λ (l : List ℕ). out ++ l) (replicate_more c.loop.counter c.args.byte)

pub returns : goal.returns
returns c =
    let all : c.loop.counter ≡ c.args.copies = omega (arith, c.loop-test.false, c.loop.auto.counter-end) in
    c.loop.invariant ∙ ap (λ (n : ℕ). c.args.out.now.items ++ replicate n c.args.byte) all
