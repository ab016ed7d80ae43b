-- What is written is read again.
use Rattle.std.proofs.Common.{◌≡◌, ◌≢◌, ℕ, suc, ◌+◌, ◌-◌, ◌^◌, ◌<◌, ◌≤◌, Bool, true, false, cond, List, [], ◌∷◌, ◌++◌, length, take, drop, get_or, ℤ, pos, negsuc, FitsSigned, w64, refl, sym, ap, subst, ◌∙◌, append_assoc, append-nil, arith, take_all}
use Rattle.std.specs.List.{AllByRecursion, take_while}
use Rattle.std.specs.Int.{cast_signed, cast_unsigned, from_le_bytes, to_le_bytes}
use Rattle.std.specs.Prelude.{nat_eq}
use Rattle.std.proofs.Math.Seq.{take-append_seam, drop-append_seam}
use Rattle.std.proofs.lemmas.Bool.Decides.{nat_tests}
use Rattle.std.proofs.lemmas.Int.{ints, to_z-of_z}
use Rattle.std.proofs.lemmas.List.{take_more}
use Rattle.std.proofs.lemmas.List.Sums.{take_while-cons}
use Rattle.std.proofs.lemmas.Nat.{from_le_bytes-to_le_bytes_8}
use Rattle.bt_core.specs.declared.value.Value.{Value}
use Rattle.bt_core.specs.declared.value.Value.TheVariants.{Int, Str}
use Rattle.bt_core.specs.KeyBytes.{FitsValue}
use Rattle.bt_core.specs.Text.{IsShortText, is_text_byte, short_text}
use Rattle.print_list.specs.Codes.{Extends, after_value, number_in, value_code, value_in, values_code, values_in}

bits-small : (a : ℤ) → FitsSigned w64 a → cast_unsigned w64 a < 2 ^ 64
bits-small (pos n) f = omega (arith, ints, f)
bits-small (negsuc n) f = omega (arith, ints, f)

text_byte : (b : ℕ) → b ≢ 0 → is_text_byte b ≡ true
text_byte b ne = grind arith

-- a string has no end before its last byte
text_whole : (s : List ℕ) → AllByRecursion (λ b. b ≢ 0) s → take_while is_text_byte s ≡ s
text_whole [] h = refl
text_whole (x ∷ s) h =
    take_while-cons is_text_byte x s ∙ ap (λ (b : Bool). cond b (x ∷ take_while is_text_byte s) []) (text_byte x h.0) ∙ ap (λ (l : List ℕ). x ∷ l) (text_whole s h.1)

text_back : (s : List ℕ) → IsShortText s → short_text s ≡ s
text_back s h = ap (take_while is_text_byte) (take_all 63 s h.short) ∙ text_whole s h.no_zero

number_back : (n : ℤ) → FitsSigned w64 n → number_in (to_le_bytes w64 (cast_unsigned w64 n)) ≡ n
number_back n f =
    let bytes = to_le_bytes w64 (cast_unsigned w64 n) in
    let whole : take 8 bytes ≡ bytes = refl in
    ap (λ (l : List ℕ). cast_signed w64 (from_le_bytes w64 l)) whole
    ∙ ap (cast_signed w64) (from_le_bytes-to_le_bytes_8 (cast_unsigned w64 n) (bits-small n f))
    ∙ to_z-of_z w64 n f

-- the byte before a string is no zero, and is one more than its length
no_number : (n : ℕ) → nat_eq (n + 1) 0 ≡ false
no_number n = grind (arith, nat_tests)

one_less : (n : ℕ) → n + 1 - 1 ≡ n
one_less n = omega arith

value_back : (v : Value) (more : List ℕ) → FitsValue v → value_in (value_code v ++ more) ≡ v
value_back (Int n) more f =
    let bytes = to_le_bytes w64 (cast_unsigned w64 n) in
    ap (λ (l : List ℕ). Int (number_in l)) (take-append_seam bytes more) ∙ ap Int (number_back n f)
value_back (Str s) more f =
    ap (λ (b : Bool). cond b (Int (number_in (take 8 (s ++ more)))) (Str (short_text (take (length s + 1 - 1) (s ++ more))))) (no_number (length s))
    ∙ ap (λ (n : ℕ). Str (short_text (take n (s ++ more)))) (one_less (length s))
    ∙ ap (λ (l : List ℕ). Str (short_text l)) (take-append_seam s more) ∙ ap Str (text_back s f)

value_after : (v : Value) (more : List ℕ) → after_value (value_code v ++ more) ≡ more
value_after (Int n) more = drop-append_seam (to_le_bytes w64 (cast_unsigned w64 n)) more
value_after (Str s) more =
    ap (λ (b : Bool). cond b (drop 8 (s ++ more)) (drop (length s + 1 - 1) (s ++ more))) (no_number (length s))
    ∙ ap (λ (n : ℕ). drop n (s ++ more)) (one_less (length s)) ∙ drop-append_seam s more

pub values_back : (vs : List Value) (more : List ℕ) → AllByRecursion FitsValue vs → values_in (length vs) (values_code vs ++ more) ≡ vs
values_back [] more h = refl
values_back (v ∷ vs) more h =
    let split : values_code (v ∷ vs) ++ more ≡ value_code v ++ (values_code vs ++ more) = append_assoc (value_code v) (values_code vs) more in
    (λ i. value_in (split i) ∷ values_in (length vs) (after_value (split i)))
    ∙ (λ i. value_back v (values_code vs ++ more) h.0 i ∷ values_in (length vs) (value_after v (values_code vs ++ more) i))
    ∙ ap (λ (l : List Value). v ∷ l) (values_back vs more h.1)

-- ---- writing

values_code-append : (xs ys : List Value) → values_code (xs ++ ys) ≡ values_code xs ++ values_code ys
values_code-append [] ys = refl
values_code-append (x ∷ xs) ys = ap (λ (l : List ℕ). value_code x ++ l) (values_code-append xs ys) ∙ sym (append_assoc (value_code x) (values_code xs) (values_code ys))

fits-append : (xs : List Value) (v : Value) → AllByRecursion FitsValue xs → FitsValue v → AllByRecursion FitsValue (xs ++ v ∷ [])
fits-append [] v all one = (one, tt)
fits-append (x ∷ xs) v all one = (all.0, fits-append xs v all.1 one)

-- what is written so far
pub record Written (old new : List ℕ) (values : List Value) : Type 0 where
  pub bytes : new ≡ old ++ values_code values
  pub fit : AllByRecursion FitsValue values

-- one value more
pub one_more : (values : List Value) (i : ℕ) (v : Value) (old so_far new : List ℕ) → i < length values → v ≡ get_or values i v → Written old so_far (take i values)
    → new ≡ so_far ++ value_code v → FitsValue v → Written old new (take (i + 1) values)
one_more values i v old so_far new lt is before pushed fits =
    let more : take i values ++ v ∷ [] ≡ take (i + 1) values = ap (λ (w : Value). take i values ++ w ∷ []) is ∙ sym (take_more values i v lt) in
    let code : values_code (take i values ++ v ∷ []) ≡ values_code (take i values) ++ value_code v =
    values_code-append (take i values) (v ∷ []) ∙ ap (λ (l : List ℕ). values_code (take i values) ++ l) (append-nil (value_code v)) in
    record {
      bytes = pushed ∙ ap (λ (l : List ℕ). l ++ value_code v) before.bytes ∙ append_assoc old (values_code (take i values)) (value_code v)
          ∙ ap (λ (l : List ℕ). old ++ l) (sym code ∙ ap values_code more);
      fit = subst (AllByRecursion FitsValue) more (fits-append (take i values) v before.fit fits);
    }

-- what was begun may stand behind what is written
pub grown_more : (old so_far new : List ℕ) (values : List Value) → Written old so_far values → Extends so_far new → Extends old new
grown_more old so_far new values before e =
    (values_code values ++ e.0, e.1 ∙ ap (λ (l : List ℕ). l ++ e.0) before.bytes ∙ append_assoc old (values_code values) e.0)

-- a byte and a piece were put behind
pub piece_put : (old mid new : List ℕ) (kind : ℕ) (piece : List ℕ) → mid ≡ old ++ kind ∷ [] → new ≡ mid ++ piece → new ≡ old ++ kind ∷ piece
piece_put old mid new kind piece first second = second ∙ ap (λ (l : List ℕ). l ++ piece) first ∙ append_assoc old (kind ∷ []) piece

-- ---- reading

-- one value more is read, of as many as are left
pub read_more : (count i : ℕ) (done new whole : List Value) (rest after : List ℕ) (v : Value) → i < count → done ++ values_in (count - i) rest ≡ whole
    → v ≡ value_in rest → after ≡ after_value rest → new ≡ done ++ v ∷ [] → new ++ values_in (count - (i + 1)) after ≡ whole
read_more count i done new whole rest after v lt before is behind pushed =
    let left : count - i ≡ suc (count - (i + 1)) = omega (arith, lt) in
    (λ j. pushed j ++ values_in (count - (i + 1)) (behind j))
    ∙ append_assoc done (v ∷ []) (values_in (count - (i + 1)) (after_value rest))
    ∙ (λ j. done ++ is j ∷ values_in (count - (i + 1)) (after_value rest))
    ∙ ap (λ (n : ℕ). done ++ values_in n rest) (sym left) ∙ before

pub read_all : (count i : ℕ) (done whole : List Value) (rest : List ℕ) → count ≤ i → done ++ values_in (count - i) rest ≡ whole → done ≡ whole
read_all count i done whole rest le before =
    let none : count - i ≡ 0 = omega (arith, le) in
    sym (append-nil done) ∙ ap (λ (n : ℕ). done ++ values_in n rest) (sym none) ∙ before
