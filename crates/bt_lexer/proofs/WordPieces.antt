-- Words, attach tokens, and the names of maps and variables: what is found is the longest.
use Rattle.std.proofs.Common.{◌≡◌, ℕ, ◌+◌, true, false, ◌&&◌, List, [], ◌∷◌, ◌++◌, length, take, Option, Some, refl, ap, sym, subst, ◌∙◌, inl, inr, arith, codes, append_assoc, bytes_eq, zero-add, suc-add}
use Rattle.std.specs.Prelude.{◌⊎◌}
use Rattle.std.proofs.lemmas.Bool.Decides.{nat_tests}
use Rattle.std.proofs.lemmas.Slice.Eq.{bytes_eq-Decides}
use Rattle.std.proofs.lemmas.List.{take_at, drop_at, length-append, append_cancel_left}
use Rattle.bt_core.specs.Bytes.{is_letter, is_word_byte}
use Rattle.bt_lexer.specs.Bytes.{is_attach_byte, Every, begins}
use Rattle.bt_lexer.specs.Words.{IsWord, IsAttach, IsAttachWord}
use Rattle.bt_lexer.specs.Tokens.{IsPiece, IsLongest}
use Rattle.bt_lexer.specs.Scan.{word_piece, word_of, word_len, attach_len, is_attach_word, is_colon, map_piece, var_piece}
use Rattle.bt_lexer.specs.declared.token.TokenKind.{TokenKind}
use Rattle.bt_lexer.specs.declared.token.TokenKind.TheVariants as kinds
use Rattle.bt_lexer.proofs.Classes.{Letter, At, Dollar, letter_class}
use Rattle.bt_lexer.proofs.Pieces.{IsFound, Answers, form_at, attach_word, some_byte}
use Rattle.bt_lexer.proofs.Choices.{decided, is_eq, and_both, or_cases}
use Rattle.bt_lexer.proofs.Runs.{IsRun, run, run_unique, no_more, every_front, every_back}

letter_word_byte : (b : ℕ) → is_letter b ≡ true → is_word_byte b ≡ true
letter_word_byte b h = rw h refl

pub word_every : (word : List ℕ) → IsWord word → Every is_word_byte word
word_every [] h = tt
word_every (b ∷ bs) h = (letter_word_byte b h.0, h.1)

-- a run behind a letter is a word
pub run_word : (bs front rest : List ℕ) → begins is_letter bs ≡ true → IsRun is_word_byte bs front rest → IsWord front
run_word [] front rest h r = absurd cc
run_word (b ∷ bs) [] rest h r = absurd (let q : begins is_word_byte rest ≡ is_word_byte b = ap (begins is_word_byte) (sym r.parts) in let w = letter_word_byte b h in let s = r.stop in cc)
run_word (b ∷ bs) (c ∷ front) rest h r = (let q : b ≡ c = cc r.parts in subst (λ (x : ℕ). is_letter x ≡ true) q h, r.every.1)

-- what begins with a letter
pub word_piece_of : (word xs : List ℕ) (kind : Option TokenKind) → IsWord word → IsPiece kind (word ++ xs) → Every is_word_byte (word ++ xs) ⊎ IsAttach (word ++ xs)
word_piece_of [] xs kind w h = absurd w
word_piece_of (c ∷ word) xs kind w h = elim (form_at kind c (word ++ xs) Letter (letter_class c w.0) h) [
  | inl p ↦ inl (word_every (c ∷ word ++ xs) p.1)
  | inr p ↦ inr p.1
]

-- an attach token, cut behind its word
attach_parts : (front more rest after : List ℕ) → Every is_word_byte front → begins is_word_byte rest ≡ false → rest ≡ more ++ after → IsAttach (front ++ more)
    → (at : List ℕ) × IsAttachWord front × (more ≡ 58 ∷ at) × Every is_attach_byte at
attach_parts front more rest after hf hr e (word, at, parts, is, every) =
    let whole : front ++ rest ≡ word ++ ((58 ∷ at) ++ after) = ap (λ (l : List ℕ). front ++ l) e ∙ sym (append_assoc front more after) ∙ ap (λ (l : List ℕ). l ++ after) parts ∙ append_assoc word (58 ∷ at) after in
    let both = run_unique is_word_byte front word rest ((58 ∷ at) ++ after) hf hr (word_every word (attach_word word is)) refl whole in
    (at, subst IsAttachWord (sym both.0) is, append_cancel_left word more (58 ∷ at) (ap (λ (l : List ℕ). l ++ more) (sym both.0) ∙ parts), every)

-- the test of the words that an attach token begins with
pub attach_test : (word : List ℕ) → IsAttachWord word → is_attach_word word ≡ true
attach_test word (inl e) = rw e refl
attach_test word (inr (inl e)) = rw e refl
attach_test word (inr (inr (inl e))) = rw e refl
attach_test word (inr (inr (inr e))) = rw e refl

same_bytes : (a b : List ℕ) → bytes_eq a b ≡ true → a ≡ b
same_bytes a b h = (bytes_eq-Decides a b).0 h

pub attach_tested : (word : List ℕ) → is_attach_word word ≡ true → IsAttachWord word
attach_tested word h = elim (or_cases (bytes_eq word (codes "tracepoint")) _ h) [
  | inl e ↦ inl (same_bytes _ _ e)
  | inr more ↦ inr (elim (or_cases (bytes_eq word (codes "t")) _ more) [
    | inl e ↦ inl (same_bytes _ _ e)
    | inr more ↦ inr (elim (or_cases (bytes_eq word (codes "interval")) _ more) [
      | inl e ↦ inl (same_bytes _ _ e)
      | inr e ↦ inr (same_bytes _ _ e)
    ])
  ])
]

-- ---- words and attach tokens

word_longest : (front rest : List ℕ) → IsWord front → begins is_word_byte rest ≡ false → (is_attach_word front && begins is_colon rest) ≡ false → IsLongest front rest
word_longest front rest w stop alone more after kind e h = elim (word_piece_of front more kind w h) [
  | inl every ↦ no_more is_word_byte more after rest e stop (every_back is_word_byte front more every)
  | inr at ↦ absurd (
      let a = attach_parts front more rest after (word_every front w) stop e at in
      let test = attach_test front a.1 in
      let colon : begins is_colon rest ≡ true = ap (begins is_colon) (e ∙ ap (λ (l : List ℕ). l ++ after) a.2) in
      let both : (is_attach_word front && begins is_colon rest) ≡ true = rw (test, colon) refl in
      cc)
]

-- no attach token is a word
colon_in_word : (front run : List ℕ) → Every is_word_byte (front ++ run) → begins is_colon run ≡ true → ⊥
colon_in_word front [] every h = cc
colon_in_word front (b ∷ run) every h =
    let word : is_word_byte b ≡ true = (every_back is_word_byte front (b ∷ run) every).0 in
    colon_apart b h word
  where
    colon_apart : (b : ℕ) → is_colon b ≡ true → is_word_byte b ≡ true → ⊥
    colon_apart b h w = grind (arith, nat_tests)

attach_longest : (front run rest : List ℕ) → IsWord front → begins is_word_byte (run ++ rest) ≡ false → begins is_colon run ≡ true → begins is_attach_byte rest ≡ false → IsLongest (front ++ run) rest
attach_longest front run rest w stop colon end more after kind e h =
    let h' : IsPiece kind (front ++ (run ++ more)) = subst (IsPiece kind) (append_assoc front run more) h in
    elim (word_piece_of front (run ++ more) kind w h') [
      | inl every ↦ absurd (colon_in_word front run (every_front is_word_byte (front ++ run) more (subst (Every is_word_byte) (sym (append_assoc front run more)) every)) colon)
      | inr at ↦
          let parts : run ++ rest ≡ (run ++ more) ++ after = ap (λ (l : List ℕ). run ++ l) e ∙ sym (append_assoc run more after) in
          let a = attach_parts front (run ++ more) (run ++ rest) after (word_every front w) stop parts at in
          let every : Every is_attach_byte (run ++ more) = subst (Every is_attach_byte) (sym a.2) (refl, a.3) in
          no_more is_attach_byte more after rest e end (every_back is_attach_byte run more every)
    ]

take_past : (front rest : List ℕ) (n : ℕ) → take (length front + n) (front ++ rest) ≡ front ++ take n rest
take_past [] rest n = rw zero-add refl
take_past (b ∷ front) rest n = rw suc-add (ap (λ (l : List ℕ). b ∷ l) (take_past front rest n))

attach_found : (front rest : List ℕ) → IsWord front → begins is_word_byte rest ≡ false → is_attach_word front ≡ true → begins is_colon rest ≡ true
    → IsFound (front ++ rest) (Some (kinds.Attach (take (length front + attach_len rest) (front ++ rest)))) (length front + attach_len rest)
attach_found front rest w stop test colon =
    let r = run is_attach_byte rest in
    let taken : take (length front + attach_len rest) (front ++ rest) ≡ front ++ r.0 = take_past front rest (attach_len rest) ∙ ap (λ (l : List ℕ). front ++ l) (ap (take (attach_len rest)) r.2.parts ∙ take_at r.0 r.1 (attach_len rest) (sym r.2.len)) in
    let colon' : begins is_colon r.0 ≡ true = colon_kept rest r.0 r.1 r.2 colon in
    rw taken record {
      piece = front ++ r.0;
      rest = r.1;
      parts = ap (λ (l : List ℕ). front ++ l) r.2.parts ∙ sym (append_assoc front r.0 r.1);
      size = ap (λ (n : ℕ). length front + n) r.2.len ∙ sym (length-append front r.0);
      is = (refl, attach_is front r.0 (attach_tested front test) colon' r.2.every);
      longest = attach_longest front r.0 r.1 w (subst (λ (l : List ℕ). begins is_word_byte l ≡ false) r.2.parts stop) colon' r.2.stop;
    }
  where
    colon_kept : (bs run rest : List ℕ) → IsRun is_attach_byte bs run rest → begins is_colon bs ≡ true → begins is_colon run ≡ true
    colon_kept [] run rest r h = absurd cc
    colon_kept (b ∷ bs) [] rest r h = absurd (let q : b ≡ 58 = is_eq b 58 h in let k : begins is_attach_byte rest ≡ true = ap (begins is_attach_byte) (sym r.parts) ∙ ap is_attach_byte q in let s = r.stop in cc)
    colon_kept (b ∷ bs) (c ∷ run) rest r h = let q : b ≡ c = cc r.parts in subst (λ (x : ℕ). is_colon x ≡ true) q h

    attach_is : (word run : List ℕ) → IsAttachWord word → begins is_colon run ≡ true → Every is_attach_byte run → IsAttach (word ++ run)
    attach_is word [] a h every = absurd cc
    attach_is word (b ∷ run) a h every = (word, run, ap (λ (x : ℕ). word ++ x ∷ run) (is_eq b 58 h), a, every.1)

word_of_found : (offset : ℕ) (front rest : List ℕ) → IsWord front → begins is_word_byte rest ≡ false → Answers offset (front ++ rest) (word_of (front ++ rest) (length front))
word_of_found offset front rest w stop =
    rw (take_at front rest (length front) refl, drop_at front rest (length front) refl)
    (decided (Answers offset (front ++ rest)) (is_attach_word front && begins is_colon rest) _ _
    (λ both. let b = and_both (is_attach_word front) (begins is_colon rest) both in attach_found front rest w stop b.0 b.1)
    (λ alone. record { piece = front; rest = rest; parts = refl; size = refl; is = (refl, w); longest = word_longest front rest w stop alone }))

pub word_sound : (offset : ℕ) (bs : List ℕ) → begins is_letter bs ≡ true → Answers offset bs (word_piece bs)
unfolding word_piece
word_sound offset bs h =
    let r = run is_word_byte bs in
    let found = word_of_found offset r.0 r.1 (run_word bs r.0 r.1 h r.2) r.2.stop in
    rw r.2.len (subst (λ (l : List ℕ). Answers offset l (word_of l (length r.0))) (sym r.2.parts) found)

-- ---- names

-- a word that a class of bytes ends
word_ends : (name more after rest : List ℕ) → begins is_word_byte rest ≡ false → rest ≡ more ++ after → IsWord (name ++ more) → more ≡ []
word_ends name more after rest stop e w = no_more is_word_byte more after rest e stop (every_back is_word_byte name more (word_every (name ++ more) w))

no_word : (more after rest : List ℕ) → begins is_letter rest ≡ false → rest ≡ more ++ after → IsWord more → ⊥
no_word [] after rest stop e w = w
no_word (b ∷ more) after rest stop e w = let q : begins is_letter rest ≡ is_letter b = ap (begins is_letter) e in let l = w.0 in cc

append_nil_back : (name more : List ℕ) → name ++ more ≡ [] → more ≡ []
append_nil_back [] more e = e
append_nil_back (b ∷ name) more e = absurd cc

map_word_longest : (name rest : List ℕ) → begins is_word_byte rest ≡ false → IsLongest (64 ∷ name) rest
map_word_longest name rest stop more after kind e h = elim (form_at kind 64 (name ++ more) At refl h).1.1 [
  | inl q ↦ append_nil_back name more q
  | inr w ↦ word_ends name more after rest stop e w
]

map_alone_longest : (rest : List ℕ) → begins is_letter rest ≡ false → IsLongest (64 ∷ []) rest
map_alone_longest rest stop more after kind e h = elim (form_at kind 64 more At refl h).1.1 [
  | inl q ↦ q
  | inr w ↦ absurd (no_word more after rest stop e w)
]

pub map_sound : (offset : ℕ) (bs : List ℕ) → Answers offset (64 ∷ bs) (map_piece (64 ∷ bs))
unfolding map_piece
map_sound offset bs =
    decided (λ (n : ℕ). IsFound (64 ∷ bs) (Some (kinds.Map (take (1 + n) (64 ∷ bs)))) (1 + n)) (begins is_letter bs) (word_len bs) 0
    (λ h. let r = run is_word_byte bs in
    let taken : take (1 + word_len bs) (64 ∷ bs) ≡ 64 ∷ r.0 = take_past (64 ∷ []) bs (word_len bs) ∙ ap (λ (l : List ℕ). 64 ∷ l) (ap (take (word_len bs)) r.2.parts ∙ take_at r.0 r.1 (word_len bs) (sym r.2.len)) in
    rw taken record {
      piece = 64 ∷ r.0;
      rest = r.1;
      parts = ap (λ (l : List ℕ). 64 ∷ l) r.2.parts;
      size = omega (arith, r.2.len);
      is = (refl, (refl, inr (run_word bs r.0 r.1 h r.2)));
      longest = map_word_longest r.0 r.1 r.2.stop;
    })
    (λ h. record { piece = 64 ∷ []; rest = bs; parts = refl; size = refl; is = (refl, (refl, inl refl)); longest = map_alone_longest bs h })

pub var_sound : (offset : ℕ) (bs : List ℕ) → Answers offset (36 ∷ bs) (var_piece offset (36 ∷ bs))
unfolding var_piece
var_sound offset bs =
    decided (Answers offset (36 ∷ bs)) (begins is_letter bs) _ _
    (λ h. let r = run is_word_byte bs in
    let taken : take (1 + word_len bs) (36 ∷ bs) ≡ 36 ∷ r.0 = take_past (36 ∷ []) bs (word_len bs) ∙ ap (λ (l : List ℕ). 36 ∷ l) (ap (take (word_len bs)) r.2.parts ∙ take_at r.0 r.1 (word_len bs) (sym r.2.len)) in
    rw taken record {
      piece = 36 ∷ r.0;
      rest = r.1;
      parts = ap (λ (l : List ℕ). 36 ∷ l) r.2.parts;
      size = omega (arith, r.2.len);
      is = (refl, (refl, run_word bs r.0 r.1 h r.2));
      longest = λ more after kind e p. word_ends r.0 more after r.1 r.2.stop e (form_at kind 36 (r.0 ++ more) Dollar refl p).1.1;
    })
    (λ h. inl ((λ q. cc, λ piece rest kind e p. nothing piece rest kind bs h e p), refl))
  where
    nothing : (piece rest : List ℕ) (kind : Option TokenKind) (bs : List ℕ) → begins is_letter bs ≡ false → 36 ∷ bs ≡ piece ++ rest → IsPiece kind piece → ⊥
    nothing [] rest kind bs h e p = some_byte kind p
    nothing (b ∷ xs) rest kind bs h e p =
        let q : b ≡ 36 = cc in
        let p' : IsPiece kind (36 ∷ xs) = subst (λ (x : ℕ). IsPiece kind (x ∷ xs)) q p in
        let tail : bs ≡ xs ++ rest = cc in
        no_word xs rest bs h tail (form_at kind 36 xs Dollar refl p').1.1
