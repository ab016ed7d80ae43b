use Rattle.std.proofs.Common.{arith, ◌≡◌, ◌+◌, ◌∙◌, drop, refl, false}
use Rattle.std.proofs.lemmas.Grind.{common_steps}
use Rattle.bt_lexer.specs.Scan.{closes}
use Rattle.bt_lexer.proofs.Comments.{one_further}
use Rattle.bt_lexer.proofs.separators.comment_len.Goals as goal

pub loop-i-preserved : goal.loop-i-preserved
loop-i-preserved c =
    let h : closes (drop c.loop-i.i c.args.bytes.now) ≡ false = grind (arith, common_steps) in
    one_further c.loop-i.i c.args.bytes.now c.loop-i.i (c.loop-i.i + 1) refl c.loop-i-test.true h ∙ c.loop-i.invariant
