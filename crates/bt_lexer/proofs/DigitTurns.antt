-- Digits, byte by byte.
use Rattle.std.proofs.Common.{◌≡◌, ◌+◌, ◌<◌, ◌≤◌, ℕ, Bool, true, false, ◌&&◌, List, [], ◌∷◌, drop, length, get_or, Option, Some, refl, ap, ◌∙◌, add-one, arith}
use Rattle.std.specs.Prelude.{◌==◌}
use Rattle.std.specs.Char.{digit_value}
use Rattle.std.proofs.Math.Seq.{drop-cons}
use Rattle.std.proofs.lemmas.Bool.{lt-ltb, le-ltb}
use Rattle.std.proofs.lemmas.List.{at_drop_all}
use Rattle.bt_lexer.specs.Bytes.{begins}
use Rattle.bt_lexer.specs.Scan.{digits, fits, number_at, pushed}
use Rattle.bt_lexer.specs.declared.numbers.Digits.{Digits}
use Rattle.bt_lexer.proofs.Choices.{ne_test}

-- a digit is passed
pub digit_more : (base : ℕ) (v w : Option ℕ) (i d : ℕ) (bs : List ℕ) → i < length bs → d ≡ digit_value (get_or bs i 0) → d < base
    → w ≡ pushed base d v
    → digits base w (i + 1) (drop (i + 1) bs) ≡ digits base v i (drop i bs)
digit_more base v w i d bs h q small e =
    let s = lt-ltb d base small in
    rw (e, drop-cons bs i 0 h, add-one i, ← q, s) refl

-- a `_` before a digit is passed
pub line_more : (base : ℕ) (v : Option ℕ) (i d : ℕ) (bs : List ℕ) → i < length bs → d ≡ digit_value (get_or bs i 0)
    → base ≤ d → get_or bs i 0 ≡ 95 → begins (fits base) (drop (i + 1) bs) ≡ true
    → digits base v (i + 1) (drop (i + 1) bs) ≡ digits base v i (drop i bs)
line_more base v i d bs h q large e k =
    let s = le-ltb d base large in
    let k' = rw (add-one i) at k in
    rw (drop-cons bs i 0 h, add-one i, ← q, s, e, k') refl

-- any other byte ends the digits
pub digits_end : (base : ℕ) (v : Option ℕ) (i d : ℕ) (bs : List ℕ) → i < length bs → d ≡ digit_value (get_or bs i 0)
    → base ≤ d → (get_or bs i 0 == 95 && begins (fits base) (drop (i + 1) bs)) ≡ false
    → digits base v i (drop i bs) ≡ record { value = v; len = i }
digits_end base v i d bs h q large k =
    let s = le-ltb d base large in
    rw (drop-cons bs i 0 h, ← add-one i, ← q, s, k) refl

-- two tests of which the first fails, or the second
pub other_byte : (b : ℕ) (t : Bool) → (b ≡ 95 → ⊥) → (b == 95 && t) ≡ false
other_byte b t h = rw (ne_test b 95 h) refl

pub lone_line : (b : ℕ) (t : Bool) → b ≡ 95 → t ≡ false → (b == 95 && t) ≡ false
lone_line b t h k = rw (h, k) refl

pub digits_all : (base : ℕ) (v : Option ℕ) (i : ℕ) (bs : List ℕ) → i ≤ length bs → length bs ≤ i
    → digits base v i (drop i bs) ≡ record { value = v; len = length bs }
digits_all base v i bs h k =
    let same : i ≡ length bs = omega arith in
    at_drop_all (digits base v i) bs i k ∙ ap (λ (n : ℕ). record { value = v; len = n }) same

-- a hexadecimal number
pub hex_at : (bs rest : List ℕ) (found : Digits) → 2 ≤ length bs → get_or bs 0 0 ≡ 48 → get_or bs 1 0 ≡ 120
    → drop 2 bs ≡ rest → true ≡ begins (fits 16) rest → found ≡ digits 16 (Some 0) 0 rest
    → record { value = found.value; len = found.len + 2 } ≡ number_at bs
unfolding number_at
hex_at [] rest found h a b e k d = absurd (omega arith)
hex_at (x ∷ []) rest found h a b e k d = absurd (omega arith)
hex_at (x ∷ y ∷ bs) rest found h a b e k d = rw (a, b, d, ← e) (rw (e, ← k) refl)
