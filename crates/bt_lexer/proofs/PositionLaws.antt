-- The position behind bytes, byte by byte.
use Rattle.std.proofs.Common.{◌≡◌, ℕ, ◌+◌, true, false, cond, List, [], ◌∷◌, ◌++◌, length, reverse, refl, ap, sym, ◌∙◌, arith, append_assoc}
use Rattle.std.specs.Prelude.{if◌then◌else◌, ◌==◌, count_by}
use Rattle.std.proofs.lemmas.List.{length-append, append-nil, reverse-append}
use Rattle.std.proofs.lemmas.List.Sums.{take_while-cons, sum_by_push}
use Rattle.bt_lexer.specs.Bytes.{not_newline}
use Rattle.bt_lexer.specs.Places.{line_behind, column_behind}
use Rattle.bt_lexer.specs.Scan.{after, after_byte, start}
use Rattle.bt_lexer.specs.declared.position.Position.{Position}
use Rattle.bt_lexer.proofs.Choices.{decided}

abbrev pub position_behind : List ℕ → Position
position_behind before = record { offset = length before; line = line_behind before; column = column_behind before }

count_push : (before : List ℕ) (b : ℕ) → count_by (λ x. x == 10) (before ++ b ∷ []) ≡ count_by (λ x. x == 10) before + (if b == 10 then 1 else 0)
count_push before b = sum_by_push (λ x. cond (x == 10) 1 0) before b

reverse_push : (before : List ℕ) (b : ℕ) → reverse (before ++ b ∷ []) ≡ b ∷ reverse before
reverse_push before b = reverse-append before (b ∷ [])

same_position : (p q : Position) → p.offset ≡ q.offset → p.line ≡ q.line → p.column ≡ q.column → p ≡ q
same_position p q e f g =
    ap (λ (n : ℕ). record { offset = n; line = p.line; column = p.column }) e
    ∙ ap (λ (n : ℕ). record { offset = q.offset; line = n; column = p.column }) f
    ∙ ap (λ (n : ℕ). record { offset = q.offset; line = q.line; column = n }) g

position_push : (before : List ℕ) (b : ℕ) → after_byte (position_behind before) b ≡ position_behind (before ++ b ∷ [])
position_push before b = decided (λ (p : Position). p ≡ position_behind (before ++ b ∷ [])) (b == 10) _ _
    (λ h. same_position _ _ (sym (length-append before (b ∷ []))) (sym (line_is h)) (sym (column_is h)))
    (λ h. same_position _ _ (sym (length-append before (b ∷ []))) (sym (line_kept h)) (sym (column_more h)))
  where
    line_is : (b == 10) ≡ true → line_behind (before ++ b ∷ []) ≡ line_behind before + 1
    line_is h = let c = count_push before b in let k : ◌≡◌ {A = ℕ} (if b == 10 then 1 else 0) 1 = rw h refl in omega arith

    line_kept : (b == 10) ≡ false → line_behind (before ++ b ∷ []) ≡ line_behind before
    line_kept h = let c = count_push before b in let k : ◌≡◌ {A = ℕ} (if b == 10 then 1 else 0) 0 = rw h refl in omega arith

    column_is : (b == 10) ≡ true → column_behind (before ++ b ∷ []) ≡ 1
    column_is h = rw (reverse_push before b, take_while-cons not_newline b (reverse before), h) refl

    column_more : (b == 10) ≡ false → column_behind (before ++ b ∷ []) ≡ column_behind before + 1
    column_more h = rw (reverse_push before b, take_while-cons not_newline b (reverse before), h) (omega arith)

pub position_after : (before bs : List ℕ) → after (position_behind before) bs ≡ position_behind (before ++ bs)
position_after before [] = ap position_behind (sym (append-nil before))
position_after before (b ∷ bs) = ap (λ (p : Position). after p bs) (position_push before b) ∙ position_after (before ++ b ∷ []) bs ∙ ap position_behind (append_assoc before (b ∷ []) bs)

-- from the first position on
pub position_of : (before : List ℕ) → after start before ≡ position_behind before
position_of before = position_after [] before
