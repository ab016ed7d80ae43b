-- Marks: what is found is the longest.
use Rattle.std.proofs.Common.{◌≡◌, ◌≢◌, ℕ, ◌<◌, Bool, true, false, ◌||◌, List, [], ◌∷◌, ◌++◌, length, take, Option, refl, ap, sym, subst, ◌∙◌, inl, inr, arith, codes, lit<}
use Rattle.std.specs.Prelude.{◌⊎◌, ◌==◌}
use Rattle.std.specs.List.{list_any, AllByRecursion}
use Rattle.std.proofs.lemmas.Bool.{false≢true}
use Rattle.std.proofs.lemmas.Bool.Decides.{nat_tests}
use Rattle.std.proofs.lemmas.List.{take_at, append_assoc}
use Rattle.bt_lexer.specs.Bytes.{is_blank}
use Rattle.bt_lexer.specs.Marks.{IsMark}
use Rattle.bt_lexer.specs.Tokens.{IsPiece, IsLongest}
use Rattle.bt_lexer.specs.Scan.{is_single, is_double, is_triple, mark_len, mark_of, mark_piece, slash_piece}
use Rattle.bt_lexer.specs.declared.token.TokenKind.{TokenKind}
use Rattle.bt_lexer.proofs.Classes.{Quote, Slash, Other, class_of, apart}
use Rattle.bt_lexer.proofs.Pieces.{Answers, form_at, marks_pass, some_byte}
use Rattle.bt_lexer.proofs.Choices.{decided, is_eq, is_ne, and_both, or_cases, tails}
use Rattle.bt_lexer.proofs.SeparatorPieces.{line_sound, comment_sound}

-- what holds of each byte of a list holds of a byte in it
among : (P : ℕ → Type 0) (b : ℕ) (xs : List ℕ) → AllByRecursion P xs → list_any (λ m. m == b) xs ≡ true → P b
among P b [] all h = absurd (false≢true h)
among P b (x ∷ xs) all h = elim (or_cases (x == b) (list_any (λ m. m == b) xs) h) [
  | inl e ↦ subst P (is_eq x b e) all.0
  | inr more ↦ among P b xs all.1 more
]

-- ---- the tests say which bytes are marks

abbrev is_mark : List ℕ → Bool
is_mark [] = false
is_mark (b ∷ []) = is_single b
is_mark (b ∷ c ∷ []) = is_double b c
is_mark (b ∷ c ∷ d ∷ []) = is_triple b c d
is_mark (b ∷ c ∷ d ∷ e ∷ bs) = false

mark_tested : (w : List ℕ) → IsMark w → is_mark w ≡ true
mark_tested w m = marks_pass is_mark refl w m

single_mark : (b : ℕ) → is_single b ≡ true → IsMark (b ∷ [])
single_mark b h = among (λ x. IsMark (x ∷ [])) b (codes "{}()[],;.=+-*/%&|^~!<>?:") ((21, lit< tt, refl), ((22, lit< tt, refl), ((23, lit< tt, refl), ((24, lit< tt, refl), ((25, lit< tt, refl), ((26, lit< tt, refl), ((27, lit< tt, refl), ((28, lit< tt, refl), ((29, lit< tt, refl), ((30, lit< tt, refl), ((31, lit< tt, refl), ((32, lit< tt, refl), ((33, lit< tt, refl), ((34, lit< tt, refl), ((35, lit< tt, refl), ((36, lit< tt, refl), ((37, lit< tt, refl), ((38, lit< tt, refl), ((39, lit< tt, refl), ((40, lit< tt, refl), ((41, lit< tt, refl), ((42, lit< tt, refl), ((43, lit< tt, refl), ((44, lit< tt, refl), tt)))))))))))))))))))))))) h

assign_mark : (b : ℕ) → list_any (λ m. m == b) (codes "+-*/%&|^<>=!") ≡ true → IsMark (b ∷ 61 ∷ [])
assign_mark b h = among (λ x. IsMark (x ∷ 61 ∷ [])) b (codes "+-*/%&|^<>=!") ((4, lit< tt, refl), ((5, lit< tt, refl), ((6, lit< tt, refl), ((7, lit< tt, refl), ((8, lit< tt, refl), ((9, lit< tt, refl), ((10, lit< tt, refl), ((11, lit< tt, refl), ((14, lit< tt, refl), ((15, lit< tt, refl), ((16, lit< tt, refl), ((17, lit< tt, refl), tt)))))))))))) h

doubled_mark : (b : ℕ) → list_any (λ m. m == b) (codes "+-<&|") ≡ true → IsMark (b ∷ b ∷ [])
doubled_mark b h = among (λ x. IsMark (x ∷ x ∷ [])) b (codes "+-<&|") ((2, lit< tt, refl), ((3, lit< tt, refl), ((12, lit< tt, refl), ((18, lit< tt, refl), ((19, lit< tt, refl), tt))))) h

arrow_mark : (b : ℕ) → (b == 45 || b == 62) ≡ true → IsMark (b ∷ 62 ∷ [])
arrow_mark b h = elim (or_cases (b == 45) (b == 62) h) [
  | inl e ↦ subst (λ (x : ℕ). IsMark (x ∷ 62 ∷ [])) (sym (is_eq b 45 e)) (20, lit< tt, refl)
  | inr e ↦ subst (λ (x : ℕ). IsMark (x ∷ 62 ∷ [])) (sym (is_eq b 62 e)) (13, lit< tt, refl)
]

double_mark : (b c : ℕ) → is_double b c ≡ true → IsMark (b ∷ c ∷ [])
double_mark b c h =
    decided (λ (t : Bool). t ≡ true → IsMark (b ∷ c ∷ [])) (c == 61) _ _
    (λ e k. let q = is_eq c 61 e in rw q (assign_mark b k)) (λ _.
    decided (λ (t : Bool). t ≡ true → IsMark (b ∷ c ∷ [])) (c == 62) _ _
    (λ e k. let q = is_eq c 62 e in rw q (arrow_mark b k))
    (λ _ k. let k2 = and_both (b == c) _ k in rw (← is_eq b c k2.0) (doubled_mark b k2.1))) h

triple_mark : (b c d : ℕ) → is_triple b c d ≡ true → IsMark (b ∷ c ∷ d ∷ [])
triple_mark b c d h =
    let k = and_both (d == 61) _ h in
    let k2 = and_both (b == c) _ k.1 in
    let q = is_eq d 61 k.0 in
    let p = is_eq b c k2.0 in
    rw (q, ← p) (elim (or_cases (b == 60) (b == 62) k2.1) [
      | inl e ↦ subst (λ (x : ℕ). IsMark (x ∷ x ∷ 61 ∷ [])) (sym (is_eq b 60 e)) (0, lit< tt, refl)
      | inr e ↦ subst (λ (x : ℕ). IsMark (x ∷ x ∷ 61 ∷ [])) (sym (is_eq b 62 e)) (1, lit< tt, refl)
    ])

-- ---- the longest mark

pub record IsMarkAt (bs : List ℕ) (n : ℕ) : Type 0 where
  pub mark : List ℕ
  pub rest : List ℕ
  pub parts : bs ≡ mark ++ rest
  pub some : 0 < n
  pub size : n ≡ length mark
  pub is : IsMark mark
  pub longest : (more after : List ℕ) → rest ≡ more ++ after → IsMark (mark ++ more) → more ≡ []

abbrev pub NoMark : List ℕ → Type 0
NoMark bs = (mark rest : List ℕ) → bs ≡ mark ++ rest → IsMark mark → ⊥

abbrev pub MarkAnswers : List ℕ → ℕ → Type 0
MarkAnswers bs n = ((n ≡ 0) × NoMark bs) ⊎ IsMarkAt bs n

-- no mark is longer, by the bytes that would follow
not_marks : (w : List ℕ) → is_mark w ≡ false → IsMark w → ⊥
not_marks w h m = false≢true (sym h ∙ mark_tested w m)

none_one : (b : ℕ) → is_single b ≡ false → NoMark (b ∷ [])
none_one b s [] rest e m = not_marks [] refl m
none_one b s (x ∷ []) rest e m = not_marks (x ∷ []) (let q : b ≡ x = cc in rw (← q) s) m
none_one b s (x ∷ y ∷ mark) rest e m = absurd cc

none_two : (b c : ℕ) → is_double b c ≡ false → is_single b ≡ false → NoMark (b ∷ c ∷ [])
none_two b c d s [] rest e m = not_marks [] refl m
none_two b c d s (x ∷ []) rest e m = not_marks (x ∷ []) (let q : b ≡ x = cc in rw (← q) s) m
none_two b c d s (x ∷ y ∷ []) rest e m = not_marks (x ∷ y ∷ []) (let q : b ≡ x = cc in let p : c ≡ y = cc in rw (← q, ← p) d) m
none_two b c d s (x ∷ y ∷ z ∷ mark) rest e m = absurd cc

none_more : (b c d : ℕ) (bs : List ℕ) → is_triple b c d ≡ false → is_double b c ≡ false → is_single b ≡ false → NoMark (b ∷ c ∷ d ∷ bs)
none_more b c d bs t u s [] rest e m = not_marks [] refl m
none_more b c d bs t u s (x ∷ []) rest e m = not_marks (x ∷ []) (let q : b ≡ x = cc in rw (← q) s) m
none_more b c d bs t u s (x ∷ y ∷ []) rest e m = not_marks (x ∷ y ∷ []) (let q : b ≡ x = cc in let p : c ≡ y = cc in rw (← q, ← p) u) m
none_more b c d bs t u s (x ∷ y ∷ z ∷ []) rest e m = not_marks (x ∷ y ∷ z ∷ []) (let q : b ≡ x = cc in let p : c ≡ y = cc in let o : d ≡ z = cc in rw (← q, ← p, ← o) t) m
none_more b c d bs t u s (x ∷ y ∷ z ∷ w ∷ mark) rest e m = not_marks (x ∷ y ∷ z ∷ w ∷ mark) refl m

-- a mark of one byte, where no longer one begins
one_longest : (b : ℕ) (rest : List ℕ) → ((c : ℕ) (after : List ℕ) → rest ≡ c ∷ after → is_double b c ≡ false) → ((c d : ℕ) (after : List ℕ) → rest ≡ c ∷ d ∷ after → is_triple b c d ≡ false)
    → (more after : List ℕ) → rest ≡ more ++ after → IsMark (b ∷ more) → more ≡ []
one_longest b rest u t [] after e m = refl
one_longest b rest u t (c ∷ []) after e m = absurd (not_marks (b ∷ c ∷ []) (u c after e) m)
one_longest b rest u t (c ∷ d ∷ []) after e m = absurd (not_marks (b ∷ c ∷ d ∷ []) (t c d after e) m)
one_longest b rest u t (c ∷ d ∷ x ∷ more) after e m = absurd (not_marks (b ∷ c ∷ d ∷ x ∷ more) refl m)

two_longest : (b c : ℕ) (rest : List ℕ) → ((d : ℕ) (after : List ℕ) → rest ≡ d ∷ after → is_triple b c d ≡ false) → (more after : List ℕ) → rest ≡ more ++ after → IsMark (b ∷ c ∷ more) → more ≡ []
two_longest b c rest t [] after e m = refl
two_longest b c rest t (d ∷ []) after e m = absurd (not_marks (b ∷ c ∷ d ∷ []) (t d after e) m)
two_longest b c rest t (d ∷ x ∷ more) after e m = absurd (not_marks (b ∷ c ∷ d ∷ x ∷ more) refl m)

three_longest : (b c d : ℕ) (rest more after : List ℕ) → rest ≡ more ++ after → IsMark (b ∷ c ∷ d ∷ more) → more ≡ []
three_longest b c d rest [] after e m = refl
three_longest b c d rest (x ∷ more) after e m = absurd (not_marks (b ∷ c ∷ d ∷ x ∷ more) refl m)

one_at : (b : ℕ) (rest : List ℕ) → is_single b ≡ true → ((c : ℕ) (after : List ℕ) → rest ≡ c ∷ after → is_double b c ≡ false) → ((c d : ℕ) (after : List ℕ) → rest ≡ c ∷ d ∷ after → is_triple b c d ≡ false) → IsMarkAt (b ∷ rest) 1
one_at b rest s u t = record { mark = b ∷ []; rest = rest; parts = refl; some = omega arith; size = refl; is = single_mark b s; longest = one_longest b rest u t }

two_at : (b c : ℕ) (rest : List ℕ) → is_double b c ≡ true → ((d : ℕ) (after : List ℕ) → rest ≡ d ∷ after → is_triple b c d ≡ false) → IsMarkAt (b ∷ c ∷ rest) 2
two_at b c rest u t = record { mark = b ∷ c ∷ []; rest = rest; parts = refl; some = omega arith; size = refl; is = double_mark b c u; longest = two_longest b c rest t }

three_at : (b c d : ℕ) (rest : List ℕ) → is_triple b c d ≡ true → IsMarkAt (b ∷ c ∷ d ∷ rest) 3
three_at b c d rest t = record { mark = b ∷ c ∷ d ∷ []; rest = rest; parts = refl; some = omega arith; size = refl; is = triple_mark b c d t; longest = three_longest b c d rest }

pub mark_found : (bs : List ℕ) → MarkAnswers bs (mark_len bs)
unfolding mark_len
mark_found [] = inl (refl, λ mark rest e m. nothing mark rest e m)
  where
    nothing : (mark rest : List ℕ) → [] ≡ mark ++ rest → IsMark mark → ⊥
    nothing [] rest e m = not_marks [] refl m
    nothing (x ∷ mark) rest e m = cc
mark_found (b ∷ []) = decided (MarkAnswers (b ∷ [])) (is_single b) 1 0
    (λ s. inr (one_at b [] s (λ c after e. absurd cc) (λ c d after e. absurd cc)))
    (λ s. inl (refl, none_one b s))
mark_found (b ∷ c ∷ []) = decided (MarkAnswers (b ∷ c ∷ [])) (is_double b c) 2 _
    (λ u. inr (two_at b c [] u (λ d after e. absurd cc)))
    (λ u. decided (MarkAnswers (b ∷ c ∷ [])) (is_single b) 1 0
    (λ s. inr (one_at b (c ∷ []) s (λ x after e. let q : c ≡ x = cc in rw (← q) u) (λ x y after e. absurd cc)))
    (λ s. inl (refl, none_two b c u s)))
mark_found (b ∷ c ∷ d ∷ bs) = decided (MarkAnswers (b ∷ c ∷ d ∷ bs)) (is_triple b c d) 3 _
    (λ t. inr (three_at b c d bs t))
    (λ t. decided (MarkAnswers (b ∷ c ∷ d ∷ bs)) (is_double b c) 2 _
    (λ u. inr (two_at b c (d ∷ bs) u (λ x after e. let q : d ≡ x = cc in rw (← q) t)))
    (λ u. decided (MarkAnswers (b ∷ c ∷ d ∷ bs)) (is_single b) 1 0
    (λ s. inr (one_at b (c ∷ d ∷ bs) s (λ x after e. let q : c ≡ x = cc in rw (← q) u) (λ x y after e. let q : c ≡ x = cc in let p : d ≡ y = cc in rw (← q, ← p) t)))
    (λ s. inl (refl, none_more b c d bs t u s))))

-- ---- pieces

-- what begins with these bytes can only be a mark
abbrev OnlyMarks : ℕ → List ℕ → Type 0
OnlyMarks b bs = (kind : Option TokenKind) (xs after : List ℕ) → bs ≡ xs ++ after → IsPiece kind (b ∷ xs) → IsMark (b ∷ xs)

mark_longest : (b : ℕ) (bs : List ℕ) → OnlyMarks b bs → (mark rest : List ℕ) → b ∷ bs ≡ mark ++ rest → IsMark mark
    → ((more after : List ℕ) → rest ≡ more ++ after → IsMark (mark ++ more) → more ≡ []) → IsLongest mark rest
mark_longest b bs only [] rest parts m longest more after kind e h = absurd (not_marks [] refl m)
mark_longest b bs only (c ∷ mark) rest parts m longest more after kind e h =
    let q : b ≡ c = cc parts in
    let tail : bs ≡ (mark ++ more) ++ after = tails b c bs (mark ++ rest) parts ∙ ap (λ (l : List ℕ). mark ++ l) e ∙ sym (append_assoc mark more after) in
    longest more after e (subst (λ (x : ℕ). IsMark (x ∷ mark ++ more)) q (only kind (mark ++ more) after tail (subst (λ (x : ℕ). IsPiece kind (x ∷ mark ++ more)) (sym q) h)))

no_mark_begins : (b : ℕ) (bs : List ℕ) → OnlyMarks b bs → NoMark (b ∷ bs) → (piece rest : List ℕ) (kind : Option TokenKind) → b ∷ bs ≡ piece ++ rest → IsPiece kind piece → ⊥
no_mark_begins b bs only none [] rest kind e h = some_byte kind h
no_mark_begins b bs only none (c ∷ piece) rest kind e h =
    let q : b ≡ c = cc e in
    let tail : bs ≡ piece ++ rest = tails b c bs (piece ++ rest) e in
    let m = only kind piece rest tail (subst (λ (x : ℕ). IsPiece kind (x ∷ piece)) (sym q) h) in
    none (b ∷ piece) rest (ap (λ (l : List ℕ). b ∷ l) tail) m

some_len : (n : ℕ) → 0 < n → (n == 0) ≡ false
some_len n h = grind (arith, nat_tests)

mark_sound : (offset b : ℕ) (bs : List ℕ) → b ≢ 34 → OnlyMarks b bs → Answers offset (b ∷ bs) (mark_piece offset (b ∷ bs))
mark_sound offset b bs quote only = by_found (mark_len (b ∷ bs)) (mark_found (b ∷ bs))
  where
    by_found : (n : ℕ) → MarkAnswers (b ∷ bs) n → Answers offset (b ∷ bs) (mark_of offset (b ∷ bs) n)
    by_found n (inl none) = rw none.0 (inl ((quote, no_mark_begins b bs only none.1), refl))
    by_found n (inr m) =
        let taken : take n (b ∷ bs) ≡ m.mark = ap (take n) m.parts ∙ take_at m.mark m.rest n (sym m.size) in
        rw (some_len n m.some, taken) record {
          piece = m.mark;
          rest = m.rest;
          parts = m.parts;
          size = m.size;
          is = (refl, m.is);
          longest = mark_longest b bs only m.mark m.rest m.parts m.is m.longest;
        }

pub other_sound : (offset b : ℕ) (bs : List ℕ) → class_of b ≡ Other → Answers offset (b ∷ bs) (mark_piece offset (b ∷ bs))
other_sound offset b bs h = mark_sound offset b bs (λ e. apart Other Quote refl (sym h ∙ ap class_of e)) (λ kind xs after e p. (form_at kind b xs Other h p).1)

-- `/` begins a mark only where no comment begins
slash_only : (bs : List ℕ) → ((c : ℕ) (rest : List ℕ) → bs ≡ c ∷ rest → (c ≢ 47) × (c ≢ 42)) → OnlyMarks 47 bs
slash_only bs apart_from kind xs after e p = elim (form_at kind 47 xs Slash refl p) [
  | inr m ↦ m.1
  | inl (e', inl k) ↦ absurd (not_blank k.0 (cc k.1) k.2)
  | inl (e', inr (inl k)) ↦ absurd ((apart_from 47 (k.0 ++ after) (e ∙ ap (λ (l : List ℕ). l ++ after) (tails 47 47 _ _ k.1))).0 refl)
  | inl (e', inr (inr k)) ↦ absurd ((apart_from 42 ((k.0 ++ 42 ∷ 47 ∷ []) ++ after) (e ∙ ap (λ (l : List ℕ). l ++ after) (tails 47 47 _ _ k.1))).1 refl)
]
  where
    not_blank : (b : ℕ) → 47 ≡ b → is_blank b ≡ true → ⊥
    not_blank b e h = false≢true (ap is_blank e ∙ h)

pub slash_sound : (offset : ℕ) (bs : List ℕ) → Answers offset (47 ∷ bs) (slash_piece offset bs)
unfolding slash_piece
slash_sound offset [] = mark_sound offset 47 [] (λ e. absurd (omega arith)) (slash_only [] (λ c rest e. absurd cc))
slash_sound offset (c ∷ bs) = decided (Answers offset (47 ∷ c ∷ bs)) (c == 47) _ _
    (λ h. let q = is_eq c 47 h in rw q (line_sound offset bs))
    (λ h. decided (Answers offset (47 ∷ c ∷ bs)) (c == 42) _ _
    (λ k. let q = is_eq c 42 k in rw q (comment_sound offset bs))
    (λ k. mark_sound offset 47 (c ∷ bs) (λ e. absurd (omega arith)) (slash_only (c ∷ bs) (λ d rest e. let q : c ≡ d = cc in (λ p. is_ne c 47 h (q ∙ p), λ p. is_ne c 42 k (q ∙ p))))))
