use Rattle.std.proofs.Common.{◌≡◌, ◌+◌, ◌-◌, ◌*◌, ◌<◌, ℕ, true, List, length, get_or, drop, refl, sym, ◌∙◌, arith}
use Rattle.std.specs.List.{list_all, fold}
use Rattle.std.proofs.lemmas.List.{drop_more}
use Rattle.bt_core.specs.Bytes.{is_digit}
use Rattle.tracefs_format.proofs.BytesLemmas.{number_in-past}
use Rattle.tracefs_format.proofs.bytes.number_in.Goals as goal

pub returns-then-value-from : goal.returns-then-value-from
returns-then-value-from c = sym (number_in-past c.args.greatest c.loop-byte.byte-index c.args.bytes.now c.loop-byte.value (omega arith) c.loop-byte.invariant.value (grind arith))

-- a digit is passed
digit_passed : (i : ℕ) (bytes : List ℕ) → i < length bytes → true ≡ is_digit (get_or bytes i 0)
    → list_all is_digit (drop (i + 1) bytes) ≡ list_all is_digit (drop i bytes)
digit_passed i bytes inside is = rw (drop_more bytes i 0 inside, ← is) refl

-- and it is counted
digit_counted : (i value digit : ℕ) (bytes : List ℕ) → i < length bytes → digit ≡ get_or bytes i 0 - 48
    → fold (λ n digit. 10 * n + (digit - 48)) (10 * value + digit) (drop (i + 1) bytes) ≡ fold (λ n digit. 10 * n + (digit - 48)) value (drop i bytes)
digit_counted i value digit bytes inside is = rw (drop_more bytes i 0 inside, is) refl

pub loop-byte-preserved : goal.loop-byte-preserved
loop-byte-preserved c =
    let loop = c.loop-byte in
    record {
      digits = digit_passed loop.byte-index c.args.bytes.now c.loop-byte-test.true c.if-not-is_digit.ensures ∙ loop.invariant.digits;
      value = digit_counted loop.byte-index loop.value c.from.result c.args.bytes.now c.loop-byte-test.true c.from.ensures ∙ loop.invariant.value;
      within = omega (arith, c.if-value-from.false, c.from-in-loop-byte.ensures);
    }
