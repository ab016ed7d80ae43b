-- Strings: what is found is the longest, with its bytes after escapes.
use Rattle.std.proofs.Common.{◌≡◌, ℕ, ◌+◌, true, false, List, [], ◌∷◌, ◌++◌, length, Option, Some, None, refl, ap, sym, subst, ◌∙◌, inl, inr, arith, append_assoc, nat_lt, add-zero}
use Rattle.std.specs.Prelude.{◌==◌}
use Rattle.std.proofs.lemmas.Bool.{ltb-true}
use Rattle.std.proofs.lemmas.List.{length-append, append-nil}
use Rattle.bt_core.specs.declared.limits.TheConstants.{STRING_TOKEN_BYTES}
use Rattle.bt_lexer.specs.Strings.{IsEscape, IsPlain, IsSpelling, IsSpelled, NoEscape}
use Rattle.bt_lexer.specs.Tokens.{IsLongest}
use Rattle.bt_lexer.specs.Scan.{escape_of, escaped_byte, string_byte, closed, string_step, string_from, string_piece}
use Rattle.bt_lexer.specs.declared.strings.StringByte.{StringByte}
use Rattle.bt_lexer.specs.declared.strings.StringByte.TheVariants as part
use Rattle.bt_lexer.proofs.Classes.{Quote}
use Rattle.bt_lexer.proofs.Pieces.{Answers, form_at}
use Rattle.bt_lexer.proofs.Choices.{decided, is_eq, is_ne, ne_test, tails, heads_apart}

-- ---- one byte

plain_byte : (c : ℕ) → IsPlain c → string_byte false c ≡ part.Add c
plain_byte c h = rw (ne_test c 34 h.0, ne_test c 10 h.2, ne_test c 0 h.3, ne_test c 92 h.1) refl

escape_byte : (e c : ℕ) → IsEscape e c → escape_of e ≡ Some c
escape_byte e c (inl h) = rw (h.0, h.1) refl
escape_byte e c (inr (inl h)) = rw (h.0, h.1) refl
escape_byte e c (inr (inr (inl h))) = rw (h.0, h.1) refl
escape_byte e c (inr (inr (inr (inl h)))) = rw (h.0, h.1) refl
escape_byte e c (inr (inr (inr (inr h)))) = rw (h.0, h.1) refl

some_is : (m n : ℕ) → Some m ≡ Some n → m ≡ n
some_is m n e = cc

none_some : (n : ℕ) → None ≡ Some n → ⊥
none_some n e = cc

byte_escape : (e c : ℕ) → escape_of e ≡ Some c → IsEscape e c
byte_escape e c =
    decided (λ (o : Option ℕ). o ≡ Some c → IsEscape e c) (e == 110) _ _ (λ t q. inl (is_eq e 110 t, sym (some_is 10 c q))) (λ _.
    decided (λ (o : Option ℕ). o ≡ Some c → IsEscape e c) (e == 116) _ _ (λ t q. inr (inl (is_eq e 116 t, sym (some_is 9 c q)))) (λ _.
    decided (λ (o : Option ℕ). o ≡ Some c → IsEscape e c) (e == 114) _ _ (λ t q. inr (inr (inl (is_eq e 114 t, sym (some_is 13 c q))))) (λ _.
    decided (λ (o : Option ℕ). o ≡ Some c → IsEscape e c) (e == 34) _ _ (λ t q. inr (inr (inr (inl (is_eq e 34 t, sym (some_is 34 c q)))))) (λ _.
    decided (λ (o : Option ℕ). o ≡ Some c → IsEscape e c) (e == 92) _ _ (λ t q. inr (inr (inr (inr (is_eq e 92 t, sym (some_is 92 c q)))))) (λ _ q. absurd (none_some c q))))))

no_escape : (e : ℕ) (bs : List ℕ) → escape_of e ≡ None → NoEscape (e ∷ bs)
no_escape e bs h c k = none_some c (sym h ∙ escape_byte e c k)

pub escape_none : (e : ℕ) (bs : List ℕ) → NoEscape (e ∷ bs) → escape_of e ≡ None
escape_none e bs h = by_option (escape_of e) refl
  where
    by_option : (o : Option ℕ) → escape_of e ≡ o → escape_of e ≡ None
    by_option None q = q
    by_option (Some c) q = absurd (h c (byte_escape e c q))

-- ---- sources

pub spelled_push : (source text first : List ℕ) (c : ℕ) → IsSpelled source text → IsSpelling first c → IsSpelled (source ++ first) (text ++ c ∷ [])
spelled_push source [] first c s k = (first, [], ap (λ (l : List ℕ). l ++ first) s ∙ sym (append-nil first), k, refl)
spelled_push source (d ∷ text) first c s k = (s.0, s.1 ++ first, ap (λ (l : List ℕ). l ++ first) s.2 ∙ append_assoc s.0 s.1 first, s.3, spelled_push s.1 text first c s.4 k)

-- the source of a text is passed
pub passes : (offset : ℕ) (text source before : List ℕ) (n : ℕ) (rest : List ℕ) → IsSpelled source text
    → string_from offset false before n (source ++ rest) ≡ string_from offset false (before ++ text) (n + length source) rest
passes offset [] source before n rest s = rw (s, append-nil before, add-zero n) refl
passes offset (c ∷ text) source before n rest s = by_first (λ m. passes offset text s.1 (before ++ c ∷ []) m rest s.4) s.3
  where
    regroup : (first : List ℕ) → source ≡ first ++ s.1 → source ++ rest ≡ first ++ (s.1 ++ rest)
    regroup first e = ap (λ (l : List ℕ). l ++ rest) e ∙ append_assoc first s.1 rest

    size : (first : List ℕ) → source ≡ first ++ s.1 → length source ≡ length first + length s.1
    size first e = ap length e ∙ length-append first s.1

    onward : ((m : ℕ) → string_from offset false (before ++ c ∷ []) m (s.1 ++ rest) ≡ string_from offset false ((before ++ c ∷ []) ++ text) (m + length s.1) rest) → (m : ℕ) → m + length s.1 ≡ n + length source → string_from offset false (before ++ c ∷ []) m (s.1 ++ rest) ≡ string_from offset false (before ++ c ∷ text) (n + length source) rest
    onward again m e = again m ∙ ap (λ (l : List ℕ). string_from offset false l (m + length s.1) rest) (append_assoc before (c ∷ []) text) ∙ ap (λ (k : ℕ). string_from offset false (before ++ c ∷ text) k rest) e

    by_first : ((m : ℕ) → string_from offset false (before ++ c ∷ []) m (s.1 ++ rest) ≡ string_from offset false ((before ++ c ∷ []) ++ text) (m + length s.1) rest) → IsSpelling s.0 c → string_from offset false before n (source ++ rest) ≡ string_from offset false (before ++ c ∷ text) (n + length source) rest
    by_first again (inl h) =
        let e : source ≡ (c ∷ []) ++ s.1 = s.2 ∙ ap (λ (l : List ℕ). l ++ s.1) h.0 in
        rw (regroup (c ∷ []) e, plain_byte c h.1) (onward again (n + 1) (let k = size (c ∷ []) e in omega arith))
    by_first again (inr h) =
        let e : source ≡ (92 ∷ h.0 ∷ []) ++ s.1 = s.2 ∙ ap (λ (l : List ℕ). l ++ s.1) h.1 in
        rw (regroup (92 ∷ h.0 ∷ []) e, escape_byte h.0 c h.2) (onward again (n + 1 + 1) (let k = size (92 ∷ h.0 ∷ []) e in omega arith))

-- no byte of a string is spelled here
abbrev pub NoSpelling : List ℕ → Type 0
NoSpelling bs = (first more : List ℕ) (c : ℕ) → bs ≡ first ++ more → IsSpelling first c → ⊥

pub spelling_unique : (f g : List ℕ) (c d : ℕ) (x y : List ℕ) → IsSpelling f c → IsSpelling g d → f ++ x ≡ g ++ y → (f ≡ g) × (c ≡ d) × (x ≡ y)
spelling_unique f g c d x y (inl h) (inl k) e =
    let e' : c ∷ x ≡ d ∷ y = ap (λ (l : List ℕ). l ++ x) (sym h.0) ∙ e ∙ ap (λ (l : List ℕ). l ++ y) k.0 in
    let q : c ≡ d = cc e' in
    (h.0 ∙ ap (λ (n : ℕ). n ∷ []) q ∙ sym k.0, q, cc e')
spelling_unique f g c d x y (inl h) (inr k) e =
    let e' : c ∷ x ≡ 92 ∷ k.0 ∷ y = ap (λ (l : List ℕ). l ++ x) (sym h.0) ∙ e ∙ ap (λ (l : List ℕ). l ++ y) k.1 in
    absurd (h.1.1 (cc e'))
spelling_unique f g c d x y (inr h) (inl k) e =
    let e' : 92 ∷ h.0 ∷ x ≡ d ∷ y = ap (λ (l : List ℕ). l ++ x) (sym h.1) ∙ e ∙ ap (λ (l : List ℕ). l ++ y) k.0 in
    absurd (k.1.1 (let q : 92 ≡ d = cc e' in sym q))
spelling_unique f g c d x y (inr h) (inr k) e =
    let e' : 92 ∷ h.0 ∷ x ≡ 92 ∷ k.0 ∷ y = ap (λ (l : List ℕ). l ++ x) (sym h.1) ∙ e ∙ ap (λ (l : List ℕ). l ++ y) k.1 in
    let q : h.0 ≡ k.0 = cc e' in
    (h.1 ∙ ap (λ (n : ℕ). 92 ∷ n ∷ []) q ∙ sym k.1, some_is c d (sym (escape_byte h.0 c h.2) ∙ ap escape_of q ∙ escape_byte k.0 d k.2), cc e')

pub spelled_unique : (t u s r x y : List ℕ) → IsSpelled s t → IsSpelled r u → NoSpelling x → NoSpelling y → s ++ x ≡ r ++ y → (s ≡ r) × (t ≡ u) × (x ≡ y)
spelled_unique [] [] s r x y h k nx ny e = (h ∙ sym k, refl, ap (λ (l : List ℕ). l ++ x) (sym h) ∙ e ∙ ap (λ (l : List ℕ). l ++ y) k)
spelled_unique [] (d ∷ u) s r x y h k nx ny e =
    absurd (nx k.0 (k.1 ++ y) d (ap (λ (l : List ℕ). l ++ x) (sym h) ∙ e ∙ ap (λ (l : List ℕ). l ++ y) k.2 ∙ append_assoc k.0 k.1 y) k.3)
spelled_unique (c ∷ t) [] s r x y h k nx ny e =
    absurd (ny h.0 (h.1 ++ x) c (ap (λ (l : List ℕ). l ++ y) (sym k) ∙ sym e ∙ ap (λ (l : List ℕ). l ++ x) h.2 ∙ append_assoc h.0 h.1 x) h.3)
spelled_unique (c ∷ t) (d ∷ u) s r x y h k nx ny e =
    let e' : h.0 ++ (h.1 ++ x) ≡ k.0 ++ (k.1 ++ y) = sym (append_assoc h.0 h.1 x) ∙ ap (λ (l : List ℕ). l ++ x) (sym h.2) ∙ e ∙ ap (λ (l : List ℕ). l ++ y) k.2 ∙ append_assoc k.0 k.1 y in
    let one = spelling_unique h.0 k.0 c d (h.1 ++ x) (k.1 ++ y) h.3 k.3 e' in
    let more = spelled_unique t u h.1 k.1 x y h.4 k.4 nx ny one.2 in
    (h.2 ∙ ap (λ (l : List ℕ). l ++ h.1) one.0 ∙ ap (λ (l : List ℕ). k.0 ++ l) more.0 ∙ sym k.2, ap (λ (n : ℕ). n ∷ t) one.1 ∙ ap (λ (l : List ℕ). d ∷ l) more.1, more.2)

pub quote_ends : (bs : List ℕ) → NoSpelling (34 ∷ bs)
quote_ends bs first more c e (inl h) =
    let e' : 34 ∷ bs ≡ c ∷ more = e ∙ ap (λ (l : List ℕ). l ++ more) h.0 in
    h.1.0 (let q : 34 ≡ c = cc e' in sym q)
quote_ends bs first more c e (inr h) =
    let e' : 34 ∷ bs ≡ 92 ∷ h.0 ∷ more = e ∙ ap (λ (l : List ℕ). l ++ more) h.1 in
    heads_apart 34 92 bs (h.0 ∷ more) refl e'

-- ---- pieces

string_longest : (source text rest : List ℕ) → IsSpelled source text → IsLongest (34 ∷ source ++ 34 ∷ []) rest
string_longest source text rest s more after kind e h =
    let p = form_at kind 34 ((source ++ 34 ∷ []) ++ more) Quote refl h in
    let same : source ++ (34 ∷ more) ≡ p.2.0 ++ (34 ∷ []) = sym (append_assoc source (34 ∷ []) more) ∙ tails 34 34 _ _ p.2.1 in
    let u = spelled_unique text p.0 source p.2.0 (34 ∷ more) (34 ∷ []) s p.2.2 (quote_ends more) (quote_ends []) same in
    cc u.2

closed_sound : (offset : ℕ) (source text rest : List ℕ) → IsSpelled source text → Answers offset (34 ∷ source ++ 34 ∷ rest) (closed offset text (length source))
closed_sound offset source text rest s = decided (Answers offset (34 ∷ source ++ 34 ∷ rest)) (nat_lt STRING_TOKEN_BYTES (length text)) _ _
    (λ l. (source, text, rest, (refl, s), ltb-true STRING_TOKEN_BYTES (length text) l, refl))
    (λ l. record {
      piece = 34 ∷ source ++ 34 ∷ [];
      rest = rest;
      parts = ap (λ (l : List ℕ). 34 ∷ l) (sym (append_assoc source (34 ∷ []) rest));
      size = let k = length-append source (34 ∷ []) in omega arith;
      is = (source, refl, s);
      longest = string_longest source text rest s;
    })

-- what one byte does, where no backslash stands before it
by_byte : (offset : ℕ) (source text : List ℕ) (b : ℕ) (bs : List ℕ) → IsSpelled source text
    → (b ≡ 92 → Answers offset (34 ∷ source ++ b ∷ bs) (string_from offset true text (length source + 1) bs))
    → (IsPlain b → Answers offset (34 ∷ source ++ b ∷ bs) (string_from offset false (text ++ b ∷ []) (length source + 1) bs))
    → Answers offset (34 ∷ source ++ b ∷ bs) (string_from offset false text (length source) (b ∷ bs))
by_byte offset source text b bs s escape plain =
    decided P (b == 34) _ _ (λ t. let q = is_eq b 34 t in rw q (closed_sound offset source text bs s)) (λ t0.
    decided P (b == 10) _ _ (λ t. (source, text, b ∷ bs, (refl, s), is_eq b 10 t, refl)) (λ t1.
    decided P (b == 0) _ _ (λ t. let q = is_eq b 0 t in inr (inr (source, text, bs, (ap (λ (n : ℕ). 34 ∷ source ++ n ∷ bs) q, s), refl))) (λ t2.
    decided P (b == 92) _ _ (λ t. escape (is_eq b 92 t)) (λ t3. plain (is_ne b 34 t0, is_ne b 92 t3, is_ne b 10 t1, is_ne b 0 t2)))))
  where
    P : StringByte → Type 0
    P y = Answers offset (34 ∷ source ++ b ∷ bs) (string_step (λ e t. string_from offset e t (length source + 1) bs) offset text (length source) y)

-- a backslash, and what stands behind it
escape_sound : (offset : ℕ) (source text : List ℕ) (e : ℕ) (bs : List ℕ) → IsSpelled source text
    → ((c : ℕ) → IsEscape e c → Answers offset (34 ∷ source ++ 92 ∷ e ∷ bs) (string_from offset false (text ++ c ∷ []) (length source + 1 + 1) bs))
    → Answers offset (34 ∷ source ++ 92 ∷ e ∷ bs) (string_from offset true text (length source + 1) (e ∷ bs))
escape_sound offset source text e bs s more = by_option (escape_of e) refl
  where
    by_option : (o : Option ℕ) → escape_of e ≡ o → Answers offset (34 ∷ source ++ 92 ∷ e ∷ bs) (string_step (λ e t. string_from offset e t (length source + 1 + 1) bs) offset text (length source + 1) (escaped_byte o))
    by_option None q = (source, text, e ∷ bs, (refl, s), no_escape e bs q, omega arith)
    by_option (Some c) q = more c (byte_escape e c q)

grown : (source : List ℕ) (b : ℕ) → length (source ++ b ∷ []) ≡ length source + 1
grown source b = omega (arith, length-append source (b ∷ []))

-- the same, with one byte's source moved over
onward : (offset : ℕ) (source first text bs : List ℕ) (n : ℕ) → length (source ++ first) ≡ n → Answers offset (34 ∷ (source ++ first) ++ bs) (string_from offset false text (length (source ++ first)) bs)
    → Answers offset (34 ∷ source ++ (first ++ bs)) (string_from offset false text n bs)
onward offset source first text bs n e a =
    subst (λ (k : ℕ). Answers offset (34 ∷ source ++ (first ++ bs)) (string_from offset false text k bs)) e
    (subst (λ (l : List ℕ). Answers offset (34 ∷ l) (string_from offset false text (length (source ++ first)) bs)) (append_assoc source first bs) a)

-- a string from some byte on, behind the source of a text
string_from_sound : (offset : ℕ) (source text bs : List ℕ) → IsSpelled source text → Answers offset (34 ∷ source ++ bs) (string_from offset false text (length source) bs)
string_from_sound offset source text [] s = (source, text, [], (refl, s), tt, refl)
string_from_sound offset source text (b ∷ []) s = by_byte offset source text b [] s
    (λ q. (source, text, [], (ap (λ (n : ℕ). 34 ∷ source ++ n ∷ []) q, s), tt, omega arith))
    (λ p. onward offset source (b ∷ []) (text ++ b ∷ []) [] (length source + 1) (grown source b) (string_from_sound offset (source ++ b ∷ []) (text ++ b ∷ []) [] (spelled_push source text (b ∷ []) b s (inl (refl, p)))))
string_from_sound offset source text (b ∷ c ∷ bs) s = by_byte offset source text b (c ∷ bs) s
    (λ q. rw q (escape_sound offset source text c bs s (λ d k.
    onward offset source (92 ∷ c ∷ []) (text ++ d ∷ []) bs (length source + 1 + 1) (omega (arith, length-append source (92 ∷ c ∷ []))) (string_from_sound offset (source ++ 92 ∷ c ∷ []) (text ++ d ∷ []) bs (spelled_push source text (92 ∷ c ∷ []) d s (inr (c, refl, k)))))))
    (λ p. onward offset source (b ∷ []) (text ++ b ∷ []) (c ∷ bs) (length source + 1) (grown source b) (string_from_sound offset (source ++ b ∷ []) (text ++ b ∷ []) (c ∷ bs) (spelled_push source text (b ∷ []) b s (inl (refl, p)))))

pub string_sound : (offset : ℕ) (bs : List ℕ) → Answers offset (34 ∷ bs) (string_piece offset bs)
string_sound offset bs = string_from_sound offset [] [] bs refl
