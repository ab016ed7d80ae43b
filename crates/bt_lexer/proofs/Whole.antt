-- A whole text: what is found is its tokens or its first fault.
use Rattle.std.proofs.Common.{◌≡◌, ℕ, zero, suc, ◌+◌, ◌<◌, ◌≤◌, ◌&&◌, List, [], ◌∷◌, ◌++◌, length, take, drop, Option, Some, None, Result, Ok, Err, refl, ap, sym, subst, ◌∙◌, arith}
use Rattle.std.specs.Prelude.{◌==◌, take_while}
use Rattle.std.proofs.lemmas.List.{take_at, drop_at, length-append, append_cancel_left}
use Rattle.bt_lexer.specs.Bytes.{not_newline}
use Rattle.bt_lexer.specs.Tokens.{IsPiece, IsFault, Stands, Pieces, IsCut, tokens_behind, tokens_of, first_line, IsTokensOf, IsFirstFault}
use Rattle.bt_lexer.specs.Scan.{piece_at, tokens_at, prepend, lexed_from, lexed}
use Rattle.bt_lexer.specs.declared.position.Position.{Position}
use Rattle.bt_lexer.specs.declared.piece.Piece.{Piece}
use Rattle.bt_lexer.specs.declared.token.Token.{Token}
use Rattle.bt_lexer.specs.declared.token.TokenKind.{TokenKind}
use Rattle.bt_lexer.specs.declared.error.LexError.{LexError}
use Rattle.bt_lexer.proofs.Pieces.{some_byte}
use Rattle.bt_lexer.proofs.Choices.{decided}
use Rattle.bt_lexer.proofs.Runs.{run, run_front}
use Rattle.bt_lexer.proofs.PositionLaws.{position_behind, position_after}
use Rattle.bt_lexer.proofs.Turns.{turn, refused}
use Rattle.bt_lexer.proofs.Exact.{complete, fault_complete, IsFront, front_found, fault_found, some_fault_byte}

-- ---- pieces

tokens_same : (kind : Option TokenKind) (before word : List ℕ) (n : ℕ) → n ≡ length word → tokens_at kind (position_behind before) n ≡ tokens_behind before kind word
tokens_same None before word n e = refl
tokens_same (Some k) before word n e = rw e refl

-- one piece, and then the rest
step_on : (before bs word rest : List ℕ) (piece : Piece) → bs ≡ word ++ rest → piece.len ≡ length word → 0 < piece.len → piece_at (length before) bs ≡ Ok piece
    → lexed_from 0 (position_behind before) bs ≡ prepend (tokens_behind before piece.kind word) (lexed_from 0 (position_behind (before ++ word)) rest)
step_on before bs word rest piece parts size some found =
    let within : piece.len ≤ length bs = let k = ap length parts in let l = length-append word rest in omega arith in
    let front : take piece.len bs ≡ word = ap (take piece.len) parts ∙ take_at word rest piece.len (sym size) in
    let back : drop piece.len bs ≡ rest = ap (drop piece.len) parts ∙ drop_at word rest piece.len (sym size) in
    turn (position_behind before) bs piece found some within
    ∙ rw (tokens_same piece.kind before word piece.len size, front, back, position_after before word) refl

-- what is found in a whole text, behind other bytes
abbrev WholeAnswers : List ℕ → List ℕ → Result (List Token) LexError → Type 0
WholeAnswers before bs (Ok tokens) = (pieces : Pieces) × IsCut bs pieces [] × (tokens ≡ tokens_of before pieces)
WholeAnswers before bs (Err fault) = (pieces : Pieces) × (rest : List ℕ) × (offset : ℕ) × IsCut bs pieces rest × (offset + length rest ≡ length before + length bs) × IsFault offset rest fault

with_front : (before bs : List ℕ) (piece : Piece) (f : IsFront bs piece) (found : Result (List Token) LexError) → WholeAnswers (before ++ f.word) f.rest found → WholeAnswers before bs (prepend (tokens_behind before piece.kind f.word) found)
with_front before bs piece f (Ok tokens) w = ((piece.kind, f.word) ∷ w.0, (f.rest, f.parts, f.stands, w.1), ap (λ (l : List Token). tokens_behind before piece.kind f.word ++ l) w.2)
with_front before bs piece f (Err fault) w = (
  (piece.kind, f.word) ∷ w.0,
  w.1,
  w.2,
  (f.rest, f.parts, f.stands, w.3),
  (let k = ap length f.parts in let l = length-append f.word f.rest in let m = length-append before f.word in let n = w.4 in omega arith),
  w.5,
)

whole_found : (n : ℕ) (before bs : List ℕ) → length bs ≤ n → WholeAnswers before bs (lexed_from 0 (position_behind before) bs)
whole_found n before [] le = ([], refl, refl)
whole_found zero before (b ∷ bs) le = absurd (omega arith)
whole_found (suc n) before (b ∷ bs) le = by_piece (piece_at (length before) (b ∷ bs)) refl (λ word rest short. whole_found n (before ++ word) rest short)
  where
    by_piece : (found : Result Piece LexError) → piece_at (length before) (b ∷ bs) ≡ found → ((word rest : List ℕ) → length rest ≤ n → WholeAnswers (before ++ word) rest (lexed_from 0 (position_behind (before ++ word)) rest)) → WholeAnswers before (b ∷ bs) (lexed_from 0 (position_behind before) (b ∷ bs))
    by_piece (Err fault) e again = rw (refused (position_behind before) (b ∷ bs) fault e (omega arith)) ([], b ∷ bs, length before, refl, refl, fault_found (length before) b bs fault e)
    by_piece (Ok piece) e again =
        let f = front_found (length before) b bs piece e in
        let short : length f.rest ≤ n = let k = ap length f.parts in let l = length-append f.word f.rest in let p = f.some in let q = f.size in omega arith in
        rw (step_on before (b ∷ bs) f.word f.rest piece f.parts f.size f.some e) (with_front before (b ∷ bs) piece f _ (again f.word f.rest short))

-- ---- what stands in a text is found

cut_step : (before text : List ℕ) (kind : Option TokenKind) (word rest : List ℕ) → text ≡ word ++ rest → Stands kind word rest
    → lexed_from 0 (position_behind before) text ≡ prepend (tokens_behind before kind word) (lexed_from 0 (position_behind (before ++ word)) rest)
cut_step before text kind word rest parts s =
    step_on before text word rest (record { kind = kind; len = length word }) parts refl (some word s.piece) (ap (piece_at (length before)) parts ∙ complete (length before) kind word rest s)
  where
    some : (word : List ℕ) → IsPiece kind word → 0 < length word
    some [] p = absurd (some_byte kind p)
    some (b ∷ word) p = omega arith

cut_tokens : (pieces : Pieces) (before text : List ℕ) → IsCut text pieces [] → lexed_from 0 (position_behind before) text ≡ Ok (tokens_of before pieces)
cut_tokens [] before text h = rw h refl
cut_tokens (piece ∷ pieces) before text h =
    cut_step before text piece.0 piece.1 h.0 h.1 h.2 ∙ rw (cut_tokens pieces (before ++ piece.1) h.0 h.3) refl

cut_fault : (pieces : Pieces) (before text rest : List ℕ) (offset : ℕ) (fault : LexError) → IsCut text pieces rest → offset + length rest ≡ length before + length text → IsFault offset rest fault
    → lexed_from 0 (position_behind before) text ≡ Err fault
cut_fault [] before text rest offset fault h o f =
    let here : length before ≡ offset = let k = ap length h in omega arith in
    let found : piece_at (length before) text ≡ Err fault = rw (h, here) (fault_complete offset rest fault f) in
    by_text text h found
  where
    by_text : (text : List ℕ) → text ≡ rest → piece_at (length before) text ≡ Err fault → lexed_from 0 (position_behind before) text ≡ Err fault
    by_text [] e found = absurd (nothing found)
      where
        nothing : piece_at (length before) [] ≡ Err fault → ⊥
        nothing found = absurd (some_fault_byte offset fault (subst (λ (l : List ℕ). IsFault offset l fault) (sym e) f))
    by_text (b ∷ bs) e found = refused (position_behind before) (b ∷ bs) fault found (omega arith)
cut_fault (piece ∷ pieces) before text rest offset fault h o f =
    let k = ap length h.1 in
    let l = length-append piece.1 h.0 in
    let m = length-append before piece.1 in
    cut_step before text piece.0 piece.1 h.0 h.1 h.2 ∙ rw (cut_fault pieces (before ++ piece.1) h.0 rest offset fault h.3 (omega arith) f) refl

-- ---- the first line

first_line_parts : (text : List ℕ) → text ≡ first_line text ++ drop (length (first_line text)) text
first_line_parts [] = refl
first_line_parts (b ∷ []) = refl
first_line_parts (b ∷ c ∷ bs) = decided (λ (line : List ℕ). b ∷ c ∷ bs ≡ line ++ drop (length line) (b ∷ c ∷ bs)) (b == 35 && c == 33) _ _
    (λ h. front (b ∷ c ∷ bs))
    (λ h. refl)
  where
    front : (xs : List ℕ) → xs ≡ take_while not_newline xs ++ drop (length (take_while not_newline xs)) xs
    front xs =
        let r = run not_newline xs in
        let dropped : drop (length (take_while not_newline xs)) xs ≡ r.1 = ap (drop (length (take_while not_newline xs))) r.2.parts ∙ drop_at r.0 r.1 (length (take_while not_newline xs)) (sym r.2.len) in
        let taken : take_while not_newline xs ≡ r.0 = run_front not_newline xs r.0 r.1 r.2 in
        rw (dropped, taken) r.2.parts

body_is : (text body : List ℕ) → text ≡ first_line text ++ body → drop (length (first_line text)) text ≡ body
body_is text body e = append_cancel_left (first_line text) (drop (length (first_line text)) text) body (sym (first_line_parts text) ∙ e)

lexed_body : (text body : List ℕ) → text ≡ first_line text ++ body → lexed text ≡ lexed_from 0 (position_behind (first_line text)) body
lexed_body text body e = rw (body_is text body e) (ap (λ (p : Position). lexed_from 0 p body) (position_after [] (first_line text)))

-- ---- the laws of a whole text

text_answers : (text : List ℕ) → WholeAnswers (first_line text) (drop (length (first_line text)) text) (lexed text)
text_answers text =
    let body = drop (length (first_line text)) text in
    rw (lexed_body text body (first_line_parts text)) (whole_found (length body) (first_line text) body (omega arith))

pub tokens_found : (text : List ℕ) (tokens : List Token) → lexed text ≡ Ok tokens → IsTokensOf text tokens
tokens_found text tokens e =
    let w = subst (WholeAnswers (first_line text) (drop (length (first_line text)) text)) e (text_answers text) in
    (w.0, drop (length (first_line text)) text, first_line_parts text, w.1, w.2)

pub first_fault_found : (text : List ℕ) (fault : LexError) → lexed text ≡ Err fault → IsFirstFault text fault
first_fault_found text fault e =
    let body = drop (length (first_line text)) text in
    let w = subst (WholeAnswers (first_line text) body) e (text_answers text) in
    (w.0, body, w.1, first_line_parts text, w.3, (w.2, (let k = ap length (first_line_parts text) in let l = length-append (first_line text) body in let n = w.4 in omega arith), w.5))

pub tokens_only : (text : List ℕ) (tokens : List Token) → IsTokensOf text tokens → lexed text ≡ Ok tokens
tokens_only text tokens h = lexed_body text h.1 h.2 ∙ cut_tokens h.0 (first_line text) h.1 h.3 ∙ ap Ok (sym h.4)

pub first_fault_only : (text : List ℕ) (fault : LexError) → IsFirstFault text fault → lexed text ≡ Err fault
first_fault_only text fault h =
    lexed_body text h.1 h.3 ∙ cut_fault h.0 (first_line text) h.1 h.2 h.5.0 fault h.4 (let k = ap length h.3 in let l = length-append (first_line text) h.1 in let n = h.5.1 in omega arith) h.5.2
