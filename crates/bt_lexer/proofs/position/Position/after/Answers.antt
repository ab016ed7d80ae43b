use Rattle.std.proofs.Common.{◌≡◌, ◌+◌, ◌<◌, ℕ, List, drop, length, get_or, ◌∙◌, refl, add-one, arith}
use Rattle.std.proofs.Math.Seq.{drop-cons}
use Rattle.bt_lexer.specs.Scan.{after, after_byte}
use Rattle.bt_lexer.specs.declared.position.Position.{Position}
use Rattle.bt_lexer.proofs.position.Position.after.Goals as goal

-- a byte is passed
byte_more : (p q : Position) (i : ℕ) (bs : List ℕ) → i < length bs → q ≡ after_byte p (get_or bs i 0)
    → after q (drop (i + 1) bs) ≡ after p (drop i bs)
byte_more p q i bs h e = rw (e, drop-cons bs i 0 h, add-one i) refl

pub loop-b-preserved : goal.loop-b-preserved
loop-b-preserved c = (
  byte_more c.loop-b.position c.after_byte-position.result c.loop-b.b-index c.args.bytes.now c.loop-b-test.true
      c.after_byte-position.ensures.value ∙ c.loop-b.invariant.0,
  c.after_byte-position.ensures.position,
  omega (arith, c.after_byte-position.ensures.next, c.loop-b.invariant.2),
)
