use Rattle.std.proofs.Common.{◌≡◌, ◌+◌, ◌-◌, ◌*◌, ap, ◌∙◌, length, take, drop, ℕ, arith}
use Rattle.std.specs.Prelude.{◌/◌}
use Rattle.bpf_encode.proofs.Lines.{lines_more}
use Rattle.bpf_encode.proofs.listing.listing.Goals as goal

pub loop-number-preserved : goal.loop-number-preserved
loop-number-preserved c =
    let bs = c.args.bytes.now in
    let n = c.loop-number.number in
    let eight : 8 * n + 8 - 8 * n ≡ 8 = omega arith in
    c.loop-number.invariant
    ∙ lines_more bs c.loop-number.text.items _ (take (8 * n + 8 - 8 * n) (drop (8 * n) bs)) (length bs / 8) n c.loop-number-test.true
    (ap (λ (k : ℕ). take k (drop (8 * n) bs)) eight) c.in_ok-push_line.ensures
