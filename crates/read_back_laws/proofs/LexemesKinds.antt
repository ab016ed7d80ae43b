-- What is a token of some text can be written.
use Rattle.std.proofs.Common.{◌≡◌, ℕ, zero, suc, ◌^◌, ◌<◌, false, List, [], ◌∷◌, length, refl, ap, sym, subst, ◌∙◌, inl, inr, arith}
use Rattle.std.specs.Prelude.{decimal, filter, nat_eq, ◌==◌}
use Rattle.std.specs.Char.{digit_value}
use Rattle.std.specs.Int.{w64, cast_unsigned}
use Rattle.std.specs.Str.Parse.{AllDigits, digits_value}
use Rattle.std.proofs.Math.ListN.{get_or}
use Rattle.std.proofs.lemmas.Int.{of_z-to_z}
use Rattle.std.proofs.lemmas.Fmt.{decimal_is_IsNumeral, first_decimal, decimal_digit}
use Rattle.bt_lexer.specs.declared.token.TokenKind.{TokenKind}
use Rattle.bt_lexer.specs.declared.token.TokenKind.TheVariants as kinds
use Rattle.bt_lexer.specs.Words.{IsWord, IsAttach, IsMapName, IsVarName}
use Rattle.bt_lexer.specs.Marks.{IsMark}
use Rattle.bt_lexer.specs.Numbers.{AreDigits, IsNumber, value_of, not_underscore}
use Rattle.bt_lexer.specs.Strings.{IsSpelling, IsSpelled}
use Rattle.bt_lexer.proofs.Choices.{decided, is_eq, is_ne, ne_test, tails, nil_apart}
use Rattle.ast_text.specs.Words.{quoted_byte, quoted_bytes}
use Rattle.read_back_laws.proofs.Lexemes.{Sound, Valid}

-- ---- numbers

are_digits : (ds : List ℕ) → 0 < length ds → AllDigits 10 ds → AreDigits 10 ds
are_digits [] l h = absurd (omega arith)
are_digits (d ∷ []) l h = h.0
are_digits (d ∷ c ∷ ds) l h = (h.0, inl (are_digits (c ∷ ds) (omega arith) h.1))

no_underscore : (d : ℕ) → digit_value d < 10 → (d == 95) ≡ false
no_underscore d h = ne_test d 95 (λ e. absurd (let q : digit_value d ≡ 36 = ap digit_value e in omega arith))

digits_kept : (ds : List ℕ) → AllDigits 10 ds → filter not_underscore ds ≡ ds
digits_kept [] h = refl
digits_kept (d ∷ ds) h = rw (no_underscore d h.0) (ap (λ (l : List ℕ). d ∷ l) (digits_kept ds h.1))

abbrev WritesNumber : List ℕ → ℕ → Type 0
WritesNumber ds n = IsNumber ds n × ((m : ℕ) → IsNumber ds m → m < 2 ^ 64)

digits_write : (ds : List ℕ) (n : ℕ) → n < 2 ^ 64 → 0 < length ds → AllDigits 10 ds → digits_value 10 ds ≡ n → 48 < get_or ds 0 0 → WritesNumber ds n
digits_write [] n small l h v f = absurd (omega arith)
digits_write (d ∷ ds) n small l h v f =
    let value : value_of 10 (d ∷ ds) ≡ n = ap (digits_value 10) (digits_kept (d ∷ ds) h) ∙ v in
    (inl ((λ e. not_zero e f), are_digits (d ∷ ds) l h, sym value), only value)
  where
    not_zero : d ≡ 48 → 48 < d → ⊥
    not_zero e f = absurd (omega arith)

    only : value_of 10 (d ∷ ds) ≡ n → (m : ℕ) → IsNumber (d ∷ ds) m → m < 2 ^ 64
    only value m (inl g) = subst (λ (x : ℕ). x < 2 ^ 64) (sym (g.2 ∙ value)) small
    only value m (inr (inl g)) = absurd (not_zero g.0 f)
    only value m (inr (inr g)) = absurd (not_zero (cc g.1) f)

zero_writes : WritesNumber (48 ∷ []) 0
zero_writes = (inr (inl (refl, omega arith, refl)), only)
  where
    only : (m : ℕ) → IsNumber (48 ∷ []) m → m < 2 ^ 64
    only m (inl g) = absurd (g.0 refl)
    only m (inr (inl g)) = let e : m ≡ 0 = g.2 in omega arith
    only m (inr (inr g)) = absurd (nil_apart 120 g.0 (sym (tails 48 48 [] (120 ∷ g.0) g.1)))

pub decimal_writes : (n : ℕ) → n < 2 ^ 64 → WritesNumber (decimal n) n
decimal_writes zero small = subst (λ (ds : List ℕ). WritesNumber ds 0) (sym (decimal_digit 0 (omega arith))) zero_writes
decimal_writes (suc n) small = let d = decimal_is_IsNumeral (suc n) small in
    digits_write (decimal (suc n)) (suc n) small d.0.0 d.0.1 d.1 (first_decimal (suc n) (omega arith) small)

-- ---- strings

not_zero_byte : (source : List ℕ) (c : ℕ) → IsSpelling source c → c ≡ 0 → ⊥
not_zero_byte source c (inl h) e = h.1.3 e
not_zero_byte source c (inr (x, h, inl g)) e = absurd (let q = g.1 in omega arith)
not_zero_byte source c (inr (x, h, inr (inl g))) e = absurd (let q = g.1 in omega arith)
not_zero_byte source c (inr (x, h, inr (inr (inl g)))) e = absurd (let q = g.1 in omega arith)
not_zero_byte source c (inr (x, h, inr (inr (inr (inl g))))) e = absurd (let q = g.1 in omega arith)
not_zero_byte source c (inr (x, h, inr (inr (inr (inr g))))) e = absurd (let q = g.1 in omega arith)

quoted_spelling : (c : ℕ) → (c ≡ 0 → ⊥) → IsSpelling (quoted_byte c) c
quoted_spelling c some =
    decided (λ (source : List ℕ). IsSpelling source c) (nat_eq c 10) _ _ (λ h. inr (110, refl, inl (refl, is_eq c 10 h))) (λ h10.
    decided (λ (source : List ℕ). IsSpelling source c) (nat_eq c 9) _ _ (λ h. inr (116, refl, inr (inl (refl, is_eq c 9 h)))) (λ h9.
    decided (λ (source : List ℕ). IsSpelling source c) (nat_eq c 13) _ _ (λ h. inr (114, refl, inr (inr (inl (refl, is_eq c 13 h))))) (λ h13.
    decided (λ (source : List ℕ). IsSpelling source c) (nat_eq c 34) _ _ (λ h. inr (34, refl, inr (inr (inr (inl (refl, is_eq c 34 h)))))) (λ h34.
    decided (λ (source : List ℕ). IsSpelling source c) (nat_eq c 92) _ _ (λ h. inr (92, refl, inr (inr (inr (inr (refl, is_eq c 92 h)))))) (λ h92.
    inl (refl, (is_ne c 34 h34, is_ne c 92 h92, is_ne c 10 h10, some)))))))

quoted_spelled : (source text : List ℕ) → IsSpelled source text → IsSpelled (quoted_bytes text) text
quoted_spelled source [] h = refl
quoted_spelled source (c ∷ text) (first, more, e, s, rest) = (quoted_byte c, quoted_bytes text, refl, quoted_spelling c (not_zero_byte first c s), quoted_spelled more text rest)

-- ---- each kind

pub sound_valid : (k : TokenKind) → Sound k → Valid k
sound_valid (kinds.Word w) (bs, (e, h), l) = ((refl, subst IsWord (sym e) h), tt)
sound_valid (kinds.Attach w) (bs, (e, h), l) = ((refl, subst IsAttach (sym e) h), tt)
sound_valid (kinds.Map w) (bs, (e, h), l) = ((refl, subst IsMapName (sym e) h), tt)
sound_valid (kinds.Var w) (bs, (e, h), l) = ((refl, subst IsVarName (sym e) h), tt)
sound_valid (kinds.Number v) (bs, (n, e, h), l) =
    let small : n < 2 ^ 64 = l n h in
    let bits : cast_unsigned w64 v ≡ n = ap (cast_unsigned w64) e ∙ of_z-to_z w64 n small in
    let w : WritesNumber (decimal (cast_unsigned w64 v)) n = subst (λ (m : ℕ). WritesNumber (decimal m) n) (sym bits) (decimal_writes n small) in
    ((n, e, w.0), w.1)
sound_valid (kinds.Text t) (bs, h, l) = ((quoted_bytes t, refl, quoted_spelled h.0 t h.2), l)
sound_valid (kinds.Mark w) (bs, (e, h), l) = ((refl, subst IsMark (sym e) h), tt)
