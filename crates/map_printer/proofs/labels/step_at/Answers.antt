use Rattle.std.proofs.Common.{◌≡◌, ℕ, ◌*◌, ◌<◌, ◌≤◌, ℤ, pos, ◌+ℤ◌, nat_abs, ap, ◌∙◌, w64, to_z, of_z, arith}
use Rattle.std.specs.Int.{w128}
use Rattle.std.proofs.lemmas.Int.{ints, to_z-of_z, to_z_pos}
use Rattle.std.proofs.lemmas.Nat.{mul-le}
use Rattle.map_printer.specs.Buckets.{step_at}
use Rattle.map_printer.proofs.labels.step_at.Goals as goal

bounded : (j step : ℕ) → j ≤ 1001 → step < 18446744073709551616 → j * step ≤ 1001 * 18446744073709551616
bounded j step few fits = mul-le j step 1001 18446744073709551616 few (omega (arith, fits))

pub overflow_mul-length : goal.overflow_mul-length
overflow_mul-length c = let small = bounded c.args.j c.from.result c.requires (omega arith) in omega arith

pub overflow_cast-result : goal.overflow_cast-result
overflow_cast-result c = let small = bounded c.args.j c.from.result c.requires (omega arith) in omega (arith, ints)

pub overflow_add-result : goal.overflow_add-result
overflow_add-result c = let small = bounded c.args.j c.from.result c.requires (omega arith) in omega (arith, ints)

pub returns : goal.returns
returns c =
    let min = c.args.min in let step = c.args.step in let j = c.args.j in
    let size : c.from.result ≡ nat_abs step = c.from.ensures ∙ c.unsigned_abs.ensures.value ∙ ap nat_abs (to_z-of_z w64 step c.ranges.step) in
    let low : c.from-2.result ≡ min = c.from-2.ensures ∙ to_z-of_z w64 min c.ranges.min in
    let small = bounded j c.from.result c.requires (omega arith) in
    let length : to_z w128 (j * c.from.result) ≡ pos (j * nat_abs step) = to_z_pos w128 (j * c.from.result) (omega arith) ∙ ap (λ (n : ℕ). pos (j * n)) size in
    let sum : to_z w128 (of_z w128 c.from-2.result) +ℤ to_z w128 (j * c.from.result) ≡ step_at min step j =
    (λ i. (to_z-of_z w128 c.from-2.result (omega (arith, ints)) ∙ low) i +ℤ length i) in
    ap (λ (z : ℤ). to_z w128 (of_z w128 z)) sum ∙ to_z-of_z w128 (step_at min step j) (omega (arith, ints))
