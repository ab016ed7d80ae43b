-- Blanks and comments: what is found is the longest.
use Rattle.std.proofs.Common.{◌≡◌, ℕ, ◌+◌, Bool, true, false, not, ◌||◌, ◌&&◌, List, [], ◌∷◌, ◌++◌, length, Option, Some, None, refl, ap, sym, subst, ◌∙◌, inl, inr, arith, append_assoc}
use Rattle.std.specs.Prelude.{◌==◌}
use Rattle.std.proofs.lemmas.Bool.{false≢true}
use Rattle.std.proofs.lemmas.List.{length-append}
use Rattle.bt_lexer.specs.Bytes.{is_blank, not_newline, Every, begins}
use Rattle.bt_lexer.specs.Separators.{IsSeparator, NeverCloses}
use Rattle.bt_lexer.specs.Marks.{IsMark}
use Rattle.bt_lexer.specs.Tokens.{IsLongest}
use Rattle.bt_lexer.specs.Scan.{separator, line_len, closes, comment_len, comment_piece}
use Rattle.bt_lexer.proofs.Classes.{Blank, Slash, class_of, blank_class, apart}
use Rattle.bt_lexer.proofs.Pieces.{Answers, form_at, marks_pass}
use Rattle.bt_lexer.proofs.Choices.{decided, is_eq, and_both, tails, heads_apart, nil_apart}
use Rattle.bt_lexer.proofs.Runs.{run, no_more, every_back}

-- ---- blanks

-- a separator that begins with no `/` is one byte
pub one_blank : (b : ℕ) (xs : List ℕ) → class_of b ≡ Blank → IsSeparator (b ∷ xs) → xs ≡ []
one_blank b xs q (inl h) = cc h.1
one_blank b xs q (inr (inl h)) = absurd (let e : b ≡ 47 = cc h.1 in apart Blank Slash refl (sym q ∙ ap class_of e))
one_blank b xs q (inr (inr h)) = absurd (let e : b ≡ 47 = cc h.1 in apart Blank Slash refl (sym q ∙ ap class_of e))

pub blank_sound : (offset b : ℕ) (bs : List ℕ) → is_blank b ≡ true → Answers offset (b ∷ bs) (separator 1)
blank_sound offset b bs h = record {
  piece = b ∷ [];
  rest = bs;
  parts = refl;
  size = refl;
  is = inl (b, refl, h);
  longest = λ more after kind e p. one_blank b more (blank_class b h) (form_at kind b more Blank (blank_class b h) p).1;
}

-- ---- what begins with `/`

-- no mark begins as a comment does
abbrev no_comment : List ℕ → Bool
no_comment [] = true
no_comment (b ∷ []) = true
no_comment (b ∷ c ∷ bs) = not (b == 47 && (c == 47 || c == 42))

pub mark_is_no_comment : (c : ℕ) (xs : List ℕ) → (c == 47 || c == 42) ≡ true → IsMark (47 ∷ c ∷ xs) → ⊥
mark_is_no_comment c xs h m = let k = marks_pass no_comment refl (47 ∷ c ∷ xs) m in false≢true (ap not (sym h) ∙ k)

line_longest : (front rest : List ℕ) → begins not_newline rest ≡ false → IsLongest (47 ∷ 47 ∷ front) rest
line_longest front rest stop more after kind e h = elim (form_at kind 47 (47 ∷ front ++ more) Slash refl h) [
  | inl (e', inl k) ↦ absurd (nil_apart 47 (front ++ more) (tails 47 k.0 _ _ k.1))
  | inl (e', inr (inl k)) ↦ no_more not_newline more after rest e stop (every_back not_newline front more (subst (Every not_newline) (sym (tails 47 47 _ _ (tails 47 47 _ _ k.1))) k.2))
  | inl (e', inr (inr k)) ↦ absurd (heads_apart _ _ _ _ refl (tails 47 47 _ _ k.1))
  | inr m ↦ absurd (mark_is_no_comment 47 (front ++ more) refl m.1)
]

pub line_sound : (offset : ℕ) (bs : List ℕ) → Answers offset (47 ∷ 47 ∷ bs) (separator (line_len bs + 2))
line_sound offset bs =
    let r = run not_newline bs in
    record {
      piece = 47 ∷ 47 ∷ r.0;
      rest = r.1;
      parts = ap (λ (l : List ℕ). 47 ∷ 47 ∷ l) r.2.parts;
      size = let k = r.2.len in omega arith;
      is = inr (inl (r.0, refl, r.2.every));
      longest = line_longest r.0 r.1 r.2.stop;
    }

-- ---- comments that end at `*/`

-- what counting up to the first `*/` says
abbrev Counted : ℕ → List ℕ → Option ℕ → Type 0
Counted n bs None = NeverCloses bs
Counted n bs (Some m) = (body rest : List ℕ) × (bs ≡ body ++ 42 ∷ 47 ∷ rest) × NeverCloses body × (m ≡ n + length body + 2)

nil_never : NeverCloses []
nil_never [] back e = cc
nil_never (b ∷ front) back e = cc

closes_here : (b : ℕ) (bs : List ℕ) → closes (b ∷ bs) ≡ true → (rest : List ℕ) × (b ∷ bs ≡ 42 ∷ 47 ∷ rest)
closes_here b [] h = absurd (false≢true h)
closes_here b (c ∷ bs) h = let k = both b c h in (bs, rw (k.0, k.1) refl)
  where
    both : (b c : ℕ) → (b == 42 && c == 47) ≡ true → (b ≡ 42) × (c ≡ 47)
    both b c h = let k = and_both (b == 42) (c == 47) h in (is_eq b 42 k.0, is_eq c 47 k.1)

never_more : (b : ℕ) (bs after : List ℕ) → closes (b ∷ bs ++ after) ≡ false → NeverCloses bs → NeverCloses (b ∷ bs)
never_more b bs after h never [] back e = absurd (
    let k : closes (b ∷ bs ++ after) ≡ true = ap (λ (l : List ℕ). closes (l ++ after)) e in
    false≢true (sym h ∙ k))
never_more b bs after h never (c ∷ front) back e = never front back (tails b c bs _ e)

counted : (n : ℕ) (bs : List ℕ) → Counted n bs (comment_len n bs)
counted n [] = nil_never
counted n (b ∷ bs) = decided (Counted n (b ∷ bs)) (closes (b ∷ bs)) _ _
    (λ h. let k = closes_here b bs h in ([], k.0, k.1, nil_never, omega arith))
    (λ h. further h (comment_len (n + 1) bs) (counted (n + 1) bs))
  where
    further : closes (b ∷ bs) ≡ false → (o : Option ℕ) → Counted (n + 1) bs o → Counted n (b ∷ bs) o
    further h None k = never_more b bs [] (ap closes (ap (λ (l : List ℕ). b ∷ l) (append_nil bs)) ∙ h) k
      where
        append_nil : (xs : List ℕ) → xs ++ [] ≡ xs
        append_nil [] = refl
        append_nil (x ∷ xs) = ap (λ (l : List ℕ). x ∷ l) (append_nil xs)
    further h (Some m) k = (b ∷ k.0, k.1, ap (λ (l : List ℕ). b ∷ l) k.2, never_more b k.0 (42 ∷ 47 ∷ k.1) (ap (λ (l : List ℕ). closes (b ∷ l)) (sym k.2) ∙ h) k.3, let q = k.4 in omega arith)

-- there is one first `*/`
pub first_close : (body other rest after : List ℕ) → NeverCloses body → NeverCloses other → body ++ 42 ∷ 47 ∷ rest ≡ other ++ 42 ∷ 47 ∷ after → rest ≡ after
first_close [] [] rest after n m e = cc
first_close [] (c ∷ other) rest after n m e = absurd (second other m e)
  where
    second : (other : List ℕ) → NeverCloses (c ∷ other) → 42 ∷ 47 ∷ rest ≡ c ∷ other ++ 42 ∷ 47 ∷ after → ⊥
    second [] m e = absurd (let q : ◌≡◌ {A = ℕ} 47 42 = cc in omega arith)
    second (d ∷ other) m e = m [] other (let q : c ≡ 42 = cc in let p : d ≡ 47 = cc in rw (q, p) refl)
first_close (b ∷ body) [] rest after n m e = absurd (second body n e)
  where
    second : (body : List ℕ) → NeverCloses (b ∷ body) → b ∷ body ++ 42 ∷ 47 ∷ rest ≡ 42 ∷ 47 ∷ after → ⊥
    second [] n e = absurd (let q : ◌≡◌ {A = ℕ} 42 47 = cc in omega arith)
    second (d ∷ body) n e = n [] body (let q : b ≡ 42 = cc in let p : d ≡ 47 = cc in rw (q, p) refl)
first_close (b ∷ body) (c ∷ other) rest after n m e = first_close body other rest after (λ f k q. n (b ∷ f) k (ap (λ (l : List ℕ). b ∷ l) q)) (λ f k q. m (c ∷ f) k (ap (λ (l : List ℕ). c ∷ l) q)) (tails b c _ _ e)

block_longest : (body rest : List ℕ) → NeverCloses body → IsLongest (47 ∷ 42 ∷ body ++ 42 ∷ 47 ∷ []) rest
block_longest body rest never more after kind e h = elim (form_at kind 47 (42 ∷ (body ++ 42 ∷ 47 ∷ []) ++ more) Slash refl h) [
  | inl (e', inl k) ↦ absurd (nil_apart 42 _ (tails 47 k.0 _ _ k.1))
  | inl (e', inr (inl k)) ↦ absurd (heads_apart _ _ _ _ refl (tails 47 47 _ _ k.1))
  | inl (e', inr (inr k)) ↦ first_close body k.0 more [] never k.2 (sym (append_assoc body (42 ∷ 47 ∷ []) more) ∙ tails 42 42 _ _ (tails 47 47 _ _ k.1))
  | inr m ↦ absurd (mark_is_no_comment 42 _ refl m.1)
]

pub comment_sound : (offset : ℕ) (bs : List ℕ) → Answers offset (47 ∷ 42 ∷ bs) (comment_piece offset (comment_len 0 bs))
comment_sound offset bs = by_count (comment_len 0 bs) (counted 0 bs)
  where
    by_count : (o : Option ℕ) → Counted 0 bs o → Answers offset (47 ∷ 42 ∷ bs) (comment_piece offset o)
    by_count None k = (bs, refl, k, refl)
    by_count (Some m) k = record {
      piece = 47 ∷ 42 ∷ k.0 ++ 42 ∷ 47 ∷ [];
      rest = k.1;
      parts = ap (λ (l : List ℕ). 47 ∷ 42 ∷ l) (k.2 ∙ sym (append_assoc k.0 (42 ∷ 47 ∷ []) k.1));
      size = let q = k.4 in let p = length-append k.0 (42 ∷ 47 ∷ []) in omega arith;
      is = inr (inr (k.0, refl, k.3));
      longest = block_longest k.0 k.1 k.3;
    }

-- a comment that never closes is found to be open
pub open_comment : (offset : ℕ) (bs : List ℕ) → NeverCloses bs → comment_piece offset (comment_len 0 bs) ≡ comment_piece offset None
open_comment offset bs never = by_count (comment_len 0 bs) (counted 0 bs)
  where
    by_count : (o : Option ℕ) → Counted 0 bs o → comment_piece offset o ≡ comment_piece offset None
    by_count None k = refl
    by_count (Some m) k = absurd (never k.0 k.1 k.2)
