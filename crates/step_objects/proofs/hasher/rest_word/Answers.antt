use Rattle.std.proofs.Common.{◌≡◌, ◌<◌, ◌≤◌, ◌+◌, ◌*◌, ◌^◌, ℕ, zero, suc, List, slice_index, arith, ap, ◌∙◌}
use Rattle.std.proofs.Math.Nat.{mul_left_comm, pow-le-pow_right, pow-succ'}
use Rattle.byteorder.specs.Endian.{big_from, big_number}
use Rattle.byteorder.specs.Numbers.{big_from-lt}
use Rattle.step_objects.proofs.hasher.rest_word.Goals as goal

-- a byte more is the lowest of them
one-more : (i n : ℕ) (xs : List ℕ) → big_from i (suc n) xs ≡ big_from i n xs * 256 + slice_index xs (i + n)
one-more i zero xs = let same : i + 0 ≡ i = omega arith in omega (arith, ap (slice_index xs) same)
one-more i (suc n) xs =
    let on : suc i + n ≡ i + suc n = omega arith in
    let top : slice_index xs i * 256 ^ suc n ≡ 256 * (slice_index xs i * 256 ^ n) =
    ap (λ p. slice_index xs i * p) (pow-succ' 256 n) ∙ mul_left_comm (slice_index xs i) 256 (256 ^ n) in
    omega (arith, top, one-more (suc i) n xs, ap (slice_index xs) on)

-- fewer than eight bytes are no 64 bits
pub loop-n-preserved : goal.loop-n-preserved
loop-n-preserved c =
    let bytes = c.args.bytes.now in let n = c.loop-n.n in
    let next : n + 1 ≡ suc n = omega arith in
    let here : 0 + n ≡ n = omega arith in
    let more : big_number (n + 1) bytes ≡ big_number n bytes * 256 + slice_index bytes n =
    ap (λ m. big_number m bytes) next ∙ one-more 0 n bytes ∙ ap (λ k. big_number n bytes * 256 + slice_index bytes k) here in
    let below : big_number (n + 1) bytes < 256 ^ (n + 1) = big_from-lt 0 (n + 1) bytes (λ k. omega (arith, c.type_inv.bytes k)) in
    let few : n + 1 ≤ 8 = omega (arith, c.requires, c.loop-n-test.true) in
    let some : zero < 256 = omega arith in
    let most : 256 ^ (n + 1) ≤ 256 ^ 8 = pow-le-pow_right some few in
    omega (arith, more, below, most, c.loop-n.invariant, c.from.ensures)
