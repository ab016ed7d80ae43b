-- Numbers: what is found is the longest, with its value.
use Rattle.std.proofs.Common.{◌≡◌, ℕ, ◌+◌, ◌*◌, ◌^◌, ◌<◌, ◌≤◌, true, false, ◌&&◌, List, [], ◌∷◌, ◌++◌, length, drop, Option, Some, None, refl, ap, sym, subst, ◌∙◌, inl, inr, arith, append_assoc, nat_lt}
use Rattle.std.specs.Prelude.{◌⊎◌, ◌==◌, filter}
use Rattle.std.specs.Char.{digit_value}
use Rattle.std.specs.Str.Parse.{digits_value_after}
use Rattle.std.proofs.lemmas.Bool.{false≢true, ltb-true, ltb-false, lt-ltb, le-ltb}
use Rattle.std.proofs.lemmas.Bool.Decides.{nat_tests}
use Rattle.std.proofs.lemmas.List.{drop_at}
use Rattle.std.proofs.Math.Nat.{mul-le-mul_left, mul-one}
use Rattle.bt_core.specs.Bytes.{is_digit, is_word_byte}
use Rattle.bt_lexer.specs.Bytes.{begins}
use Rattle.bt_lexer.specs.Numbers.{AreDigits, IsNumber, not_underscore, value_of}
use Rattle.bt_lexer.specs.Tokens.{IsLongest}
use Rattle.bt_lexer.specs.Scan.{fits, limited, pushed, digits, behind_prefix, number_at, number_before, number_piece}
use Rattle.bt_lexer.specs.declared.numbers.Digits.{Digits}
use Rattle.bt_lexer.proofs.Classes.{Digit, digit_class}
use Rattle.bt_lexer.proofs.Pieces.{Answers, form_at, digits_head}
use Rattle.bt_lexer.proofs.Choices.{decided, is_eq, is_ne, and_both}

-- what may follow a digit
abbrev pub More : ℕ → List ℕ → Type 0
More base [] = Unit {0}
More base (c ∷ more) = AreDigits base (c ∷ more) ⊎ ((c ≡ 95) × AreDigits base more)

more_behind : (base d : ℕ) (xs : List ℕ) → AreDigits base (d ∷ xs) → More base xs
more_behind base d [] h = tt
more_behind base d (c ∷ xs) h = h.1

digits_from_more : (base d : ℕ) (xs : List ℕ) → digit_value d < base → More base xs → AreDigits base (d ∷ xs)
digits_from_more base d [] f h = f
digits_from_more base d (c ∷ xs) f h = (f, h)

more_from_digits : (base : ℕ) (xs : List ℕ) → AreDigits base xs → More base xs
more_from_digits base [] h = tt
more_from_digits base (c ∷ xs) h = inl h

fits_true : (base d : ℕ) → fits base d ≡ true → digit_value d < base
fits_true base d h = ltb-true (digit_value d) base h

fits_false : (base d : ℕ) → fits base d ≡ false → digit_value d < base → ⊥
fits_false base d h l = let k = ltb-false (digit_value d) base h in omega arith

-- `_` is no digit
underscore : (base d : ℕ) → base ≤ 36 → digit_value d < base → d ≡ 95 → ⊥
underscore base d b l e = absurd (let k : digit_value d ≡ 36 = ap digit_value e in omega arith)

digits_begin : (base : ℕ) (xs after bs : List ℕ) → bs ≡ xs ++ after → AreDigits base xs → begins (fits base) bs ≡ true
digits_begin base [] after bs e h = absurd h
digits_begin base (d ∷ xs) after bs e h = ap (begins (fits base)) e ∙ lt-ltb (digit_value d) base (digits_head base d xs h)

grows : (base v d : ℕ) → 1 ≤ base → v ≤ v * base + d
grows base v d h = let k : v * 1 ≤ v * base = mul-le-mul_left v h in let o = mul-one v in omega arith

pushed_limited : (base d v : ℕ) → 1 ≤ base → pushed base d (limited v) ≡ limited (v * base + d)
pushed_limited base d v h =
    decided (λ (o : Option ℕ). pushed base d o ≡ limited (v * base + d)) (nat_lt v (2 ^ 64)) (Some v) None
    (λ l. refl)
    (λ l. let big : 2 ^ 64 ≤ v = ltb-false v (2 ^ 64) l in let g = grows base v d h in rw (le-ltb (v * base + d) (2 ^ 64) (omega arith)) refl)

-- digits behind a digit, after n bytes with the value v
record IsScan (base v n : ℕ) (bs : List ℕ) (found : Digits) : Type 0 where
  front : List ℕ
  rest : List ℕ
  parts : bs ≡ front ++ rest
  digits : More base front
  size : found.len ≡ n + length front
  value : found.value ≡ limited (digits_value_after base v (filter not_underscore front))
  longest : (more after : List ℕ) → rest ≡ more ++ after → More base (front ++ more) → more ≡ []

-- such digits, where the first byte is a digit
scan_digits : (base v n : ℕ) (bs : List ℕ) (found : Digits) → base ≤ 36 → begins (fits base) bs ≡ true → (s : IsScan base v n bs found) → AreDigits base s.front
scan_digits base v n [] found b h s = absurd (false≢true h)
scan_digits base v n (d ∷ bs) found b h s = by_front s.front s.rest s.parts s.digits s.longest
  where
    by_front : (front rest : List ℕ) → d ∷ bs ≡ front ++ rest → More base front → ((more after : List ℕ) → rest ≡ more ++ after → More base (front ++ more) → more ≡ []) → AreDigits base front
    by_front [] rest e m longest = absurd (let k : d ∷ [] ≡ [] = longest (d ∷ []) bs (sym e) (inl (fits_true base d h)) in cc)
    by_front (c ∷ front) rest e (inl m) longest = m
    by_front (c ∷ front) rest e (inr m) longest = absurd (let q : d ≡ c = cc in underscore base d b (fits_true base d h) (q ∙ m.0))

scan_end : (base v n : ℕ) → IsScan base v n [] (record { value = limited v; len = n })
scan_end base v n = record { front = []; rest = []; parts = refl; digits = tt; size = omega arith; value = refl; longest = λ more after e m. nil_front more after e }
  where
    nil_front : (more after : List ℕ) → [] ≡ more ++ after → more ≡ []
    nil_front [] after e = refl
    nil_front (b ∷ more) after e = absurd cc

scan_digit : (base v n b : ℕ) (bs : List ℕ) (found : Digits) → base ≤ 36 → fits base b ≡ true → IsScan base (v * base + digit_value b) (n + 1) bs found → IsScan base v n (b ∷ bs) found
scan_digit base v n b bs found small f s = record {
  front = b ∷ s.front;
  rest = s.rest;
  parts = ap (λ (l : List ℕ). b ∷ l) s.parts;
  digits = inl (digits_from_more base b s.front (fits_true base b f) s.digits);
  size = let k = s.size in omega arith;
  value = s.value ∙ sym (ap (λ (l : List ℕ). limited (digits_value_after base v l)) (kept b s.front (λ e. underscore base b small (fits_true base b f) e)));
  longest = λ more after e m. elim m [
    | inl h ↦ s.longest more after e (more_behind base b (s.front ++ more) h)
    | inr h ↦ absurd (underscore base b small (fits_true base b f) h.0)
  ];
}
  where
    kept : (b : ℕ) (xs : List ℕ) → (b ≡ 95 → ⊥) → filter not_underscore (b ∷ xs) ≡ b ∷ filter not_underscore xs
    kept b xs h = let t : not_underscore b ≡ true = not_eq b h in rw t refl
      where
        not_eq : (b : ℕ) → (b ≡ 95 → ⊥) → not_underscore b ≡ true
        not_eq b h = grind (arith, nat_tests)

scan_underscore : (base v n b : ℕ) (bs : List ℕ) (found : Digits) → base ≤ 36 → fits base b ≡ false → (b == 95) ≡ true → begins (fits base) bs ≡ true → IsScan base v (n + 1) bs found → IsScan base v n (b ∷ bs) found
scan_underscore base v n b bs found small f u d s = record {
  front = b ∷ s.front;
  rest = s.rest;
  parts = ap (λ (l : List ℕ). b ∷ l) s.parts;
  digits = inr (is_eq b 95 u, scan_digits base v (n + 1) bs found small d s);
  size = let k = s.size in omega arith;
  value = s.value ∙ sym (ap (λ (l : List ℕ). limited (digits_value_after base v l)) (passed b s.front u));
  longest = λ more after e m. elim m [
    | inl h ↦ absurd (fits_false base b f (digits_head base b (s.front ++ more) h))
    | inr h ↦ s.longest more after e (more_from_digits base (s.front ++ more) h.1)
  ];
}
  where
    passed : (b : ℕ) (xs : List ℕ) → (b == 95) ≡ true → filter not_underscore (b ∷ xs) ≡ filter not_underscore xs
    passed b xs h = rw h refl

scan_stop : (base v n b : ℕ) (bs : List ℕ) → base ≤ 36 → fits base b ≡ false → ((b == 95) && begins (fits base) bs) ≡ false → IsScan base v n (b ∷ bs) (record { value = limited v; len = n })
scan_stop base v n b bs small f u = record { front = []; rest = b ∷ bs; parts = refl; digits = tt; size = omega arith; value = refl; longest = λ more after e m. ends more after e m }
  where
    ends : (more after : List ℕ) → b ∷ bs ≡ more ++ after → More base more → more ≡ []
    ends [] after e m = refl
    ends (c ∷ more) after e (inl m) = absurd (let q : b ≡ c = cc in fits_false base b f (subst (λ (x : ℕ). digit_value x < base) (sym q) (digits_head base c more m)))
    ends (c ∷ more) after e (inr m) = absurd (
        let q : b ≡ 95 = cc (m.0, e) in
        let tail : bs ≡ more ++ after = cc in
        let k = digits_begin base more after bs tail m.1 in
        false≢true (sym u ∙ both_hold b q k))
      where
        both_hold : (b : ℕ) → b ≡ 95 → begins (fits base) bs ≡ true → ((b == 95) && begins (fits base) bs) ≡ true
        both_hold b q k = rw (q, k) refl

scan : (base v n : ℕ) (bs : List ℕ) → 1 ≤ base → base ≤ 36 → IsScan base v n bs (digits base (limited v) n bs)
scan base v n [] one small = scan_end base v n
scan base v n (b ∷ bs) one small =
    decided (λ (found : Digits). IsScan base v n (b ∷ bs) found) (fits base b) _ _
    (λ f. rw (pushed_limited base (digit_value b) v one) (scan_digit base v n b bs _ small f (scan base (v * base + digit_value b) (n + 1) bs one small)))
    (λ f. decided (λ (found : Digits). IsScan base v n (b ∷ bs) found) ((b == 95) && begins (fits base) bs) _ _
    (λ u. let both = and_both (b == 95) (begins (fits base) bs) u in scan_underscore base v n b bs _ small f both.0 both.1 (scan base v (n + 1) bs one small))
    (λ u. scan_stop base v n b bs small f u))

-- ---- numbers

-- the longest digits at the front
record IsLeading (base : ℕ) (bs : List ℕ) (found : Digits) : Type 0 where
  front : List ℕ
  rest : List ℕ
  parts : bs ≡ front ++ rest
  digits : AreDigits base front
  size : found.len ≡ length front
  value : found.value ≡ limited (value_of base front)
  longest : (more after : List ℕ) → rest ≡ more ++ after → AreDigits base (front ++ more) → more ≡ []

leading : (base : ℕ) (bs : List ℕ) → 1 ≤ base → base ≤ 36 → begins (fits base) bs ≡ true → IsLeading base bs (digits base (Some 0) 0 bs)
leading base bs one small h =
    let s = scan base 0 0 bs one small in
    record {
      front = s.front;
      rest = s.rest;
      parts = s.parts;
      digits = scan_digits base 0 0 bs _ small h s;
      size = let k = s.size in omega arith;
      value = s.value;
      longest = λ more after e d. s.longest more after e (more_from_digits base (s.front ++ more) d);
    }

-- the longest number at the front
pub record IsNumberAt (bs : List ℕ) (found : Digits) : Type 0 where
  pub front : List ℕ
  pub rest : List ℕ
  pub n : ℕ
  pub parts : bs ≡ front ++ rest
  pub number : IsNumber front n
  pub size : found.len ≡ length front
  pub value : found.value ≡ limited n
  pub longest : IsLongest front rest

digit_longest : (d : ℕ) (front rest : List ℕ) → is_digit d ≡ true → ((more after : List ℕ) → rest ≡ more ++ after → (n : ℕ) → IsNumber (d ∷ front ++ more) n → more ≡ []) → IsLongest (d ∷ front) rest
digit_longest d front rest h longest more after kind e p = let m = form_at kind d (front ++ more) Digit (digit_class d h) p in longest more after e m.0 m.2

-- no hexadecimal number begins here
abbrev NoHexadecimal : List ℕ → Type 0
NoHexadecimal bs = (digits after : List ℕ) → bs ≡ 48 ∷ 120 ∷ digits ++ after → AreDigits 16 digits → ⊥

octal_at : (bs : List ℕ) → NoHexadecimal (48 ∷ bs) → IsNumberAt (48 ∷ bs) (digits 8 (Some 0) 0 (48 ∷ bs))
octal_at bs none = by_front (leading 8 (48 ∷ bs) (omega arith) (omega arith) refl)
  where
    by_front : IsLeading 8 (48 ∷ bs) (digits 8 (Some 0) 0 (48 ∷ bs)) → IsNumberAt (48 ∷ bs) (digits 8 (Some 0) 0 (48 ∷ bs))
    by_front l = by_cases l.front l.rest l.parts l.digits l.size l.value l.longest
      where
        by_cases : (front rest : List ℕ) → 48 ∷ bs ≡ front ++ rest → AreDigits 8 front → (digits 8 (Some 0) 0 (48 ∷ bs)).len ≡ length front → (digits 8 (Some 0) 0 (48 ∷ bs)).value ≡ limited (value_of 8 front)
            → ((more after : List ℕ) → rest ≡ more ++ after → AreDigits 8 (front ++ more) → more ≡ []) → IsNumberAt (48 ∷ bs) (digits 8 (Some 0) 0 (48 ∷ bs))
        by_cases [] rest e d size value longest = absurd d
        by_cases (c ∷ front) rest e d size value longest =
            let q : c ≡ 48 = cc in
            record {
              front = c ∷ front;
              rest = rest;
              n = value_of 8 (c ∷ front);
              parts = e;
              number = inr (inl (q, d, refl));
              size = size;
              value = value;
              longest = digit_longest c front rest (ap is_digit q) (λ more after e' n m. ends more after e' n m q);
            }
          where
            ends : (more after : List ℕ) → rest ≡ more ++ after → (n : ℕ) → IsNumber (c ∷ front ++ more) n → c ≡ 48 → more ≡ []
            ends more after e' n (inl m) q = absurd (m.0 q)
            ends more after e' n (inr (inl m)) q = longest more after e' m.1
            ends more after e' n (inr (inr m)) q = absurd (none m.0 after (e ∙ ap (λ (l : List ℕ). c ∷ front ++ l) e' ∙ sym (append_assoc (c ∷ front) more after) ∙ ap (λ (l : List ℕ). l ++ after) m.1) m.2)

decimal_at : (b : ℕ) (bs : List ℕ) → is_digit b ≡ true → (b ≡ 48 → ⊥) → IsNumberAt (b ∷ bs) (digits 10 (Some 0) 0 (b ∷ bs))
decimal_at b bs h zero_apart = by_front (leading 10 (b ∷ bs) (omega arith) (omega arith) (digit_fits b h))
  where
    digit_fits : (b : ℕ) → is_digit b ≡ true → fits 10 b ≡ true
    digit_fits b h = grind (arith, nat_tests)

    by_front : IsLeading 10 (b ∷ bs) (digits 10 (Some 0) 0 (b ∷ bs)) → IsNumberAt (b ∷ bs) (digits 10 (Some 0) 0 (b ∷ bs))
    by_front l = by_cases l.front l.rest l.parts l.digits l.size l.value l.longest
      where
        by_cases : (front rest : List ℕ) → b ∷ bs ≡ front ++ rest → AreDigits 10 front → (digits 10 (Some 0) 0 (b ∷ bs)).len ≡ length front → (digits 10 (Some 0) 0 (b ∷ bs)).value ≡ limited (value_of 10 front)
            → ((more after : List ℕ) → rest ≡ more ++ after → AreDigits 10 (front ++ more) → more ≡ []) → IsNumberAt (b ∷ bs) (digits 10 (Some 0) 0 (b ∷ bs))
        by_cases [] rest e d size value longest = absurd d
        by_cases (c ∷ front) rest e d size value longest =
            let q : b ≡ c = cc in
            record {
              front = c ∷ front;
              rest = rest;
              n = value_of 10 (c ∷ front);
              parts = e;
              number = inl (λ k. zero_apart (q ∙ k), d, refl);
              size = size;
              value = value;
              longest = digit_longest c front rest (ap is_digit (sym q) ∙ h) (λ more after e' n m. ends more after e' n m (λ k. zero_apart (q ∙ k)));
            }
          where
            ends : (more after : List ℕ) → rest ≡ more ++ after → (n : ℕ) → IsNumber (c ∷ front ++ more) n → (c ≡ 48 → ⊥) → more ≡ []
            ends more after e' n (inl m) q = longest more after e' m.1
            ends more after e' n (inr (inl m)) q = absurd (q m.0)
            ends more after e' n (inr (inr m)) q = absurd (let k : c ≡ 48 = cc m.1 in q k)

-- `0x` begins no octal digits
pub no_octal : (xs : List ℕ) → AreDigits 8 (48 ∷ 120 ∷ xs) → ⊥
no_octal xs (f, inl h) = absurd (let k : 33 < 8 = digits_head 8 120 xs h in omega arith)
no_octal xs (f, inr h) = absurd (let k : 120 ≡ 95 = h.0 in omega arith)

hexadecimal_at : (bs : List ℕ) → begins (fits 16) bs ≡ true → IsNumberAt (48 ∷ 120 ∷ bs) (behind_prefix (digits 16 (Some 0) 0 bs))
hexadecimal_at bs h =
    let l = leading 16 bs (omega arith) (omega arith) h in
    record {
      front = 48 ∷ 120 ∷ l.front;
      rest = l.rest;
      n = value_of 16 l.front;
      parts = ap (λ (xs : List ℕ). 48 ∷ 120 ∷ xs) l.parts;
      number = inr (inr (l.front, refl, l.digits, refl));
      size = let k = l.size in omega arith;
      value = l.value;
      longest = digit_longest 48 (120 ∷ l.front) l.rest refl (λ more after e n m. ends l more after e n m);
    }
  where
    ends : (l : IsLeading 16 bs (digits 16 (Some 0) 0 bs)) (more after : List ℕ) → l.rest ≡ more ++ after → (n : ℕ) → IsNumber (48 ∷ 120 ∷ l.front ++ more) n → more ≡ []
    ends l more after e n (inl m) = absurd (m.0 refl)
    ends l more after e n (inr (inl m)) = absurd (no_octal (l.front ++ more) m.1)
    ends l more after e n (inr (inr m)) = let k : l.front ++ more ≡ m.0 = cc m.1 in l.longest more after e (subst (AreDigits 16) (sym k) m.2)

pub number_found : (bs : List ℕ) → begins is_digit bs ≡ true → IsNumberAt bs (number_at bs)
unfolding number_at
number_found [] h = absurd (false≢true h)
number_found (b ∷ []) h = decided (IsNumberAt (b ∷ [])) (b == 48) _ _
    (λ z. let q = is_eq b 48 z in rw q (octal_at [] (λ digits after e d. cc)))
    (λ z. decimal_at b [] h (is_ne b 48 z))
number_found (b ∷ c ∷ bs) h = decided (IsNumberAt (b ∷ c ∷ bs)) (b == 48) _ _
    (λ z. let q = is_eq b 48 z in rw q (decided (IsNumberAt (48 ∷ c ∷ bs)) ((c == 120) && begins (fits 16) bs) _ _
    (λ x. let both = and_both (c == 120) (begins (fits 16) bs) x in let k = is_eq c 120 both.0 in rw k (hexadecimal_at bs both.1))
    (λ x. octal_at (c ∷ bs) (λ digits after e d. let k : c ≡ 120 = cc in let tail : bs ≡ digits ++ after = cc in false≢true (sym x ∙ both_hold c k (digits_begin 16 digits after bs tail d))))))
    (λ z. decimal_at b (c ∷ bs) h (is_ne b 48 z))
  where
    both_hold : (c : ℕ) → c ≡ 120 → begins (fits 16) bs ≡ true → ((c == 120) && begins (fits 16) bs) ≡ true
    both_hold c q k = rw (q, k) refl

pub number_sound : (offset : ℕ) (bs : List ℕ) → begins is_digit bs ≡ true → Answers offset bs (number_piece offset bs)
unfolding number_piece
number_sound offset bs h =
    let f = number_found bs h in
    let rest : drop (number_at bs).len bs ≡ f.rest = ap (drop (number_at bs).len) f.parts ∙ drop_at f.front f.rest (number_at bs).len (sym f.size) in
    rw (rest, f.size, f.value) (decided (λ (o : Option ℕ). Answers offset bs (number_before offset (length f.front) f.rest o)) (nat_lt f.n (2 ^ 64)) _ _
    (λ l. decided (Answers offset bs) (begins is_word_byte f.rest) _ _
    (λ w. inr (inl (f.front, f.rest, f.n, (f.parts, f.number, f.longest), ltb-true f.n (2 ^ 64) l, w, refl)))
    (λ w. record { piece = f.front; rest = f.rest; parts = f.parts; size = refl; is = (f.n, refl, f.number); longest = f.longest }))
    (λ l. (f.front, f.rest, f.n, (f.parts, f.number, f.longest), ltb-false f.n (2 ^ 64) l, refl)))
