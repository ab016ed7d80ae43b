-- Answers that are the same.
use Rattle.std.proofs.Common.{◌≡◌, ℕ, ◌-◌, List, length, take, drop, Option, Result, Ok, Err, sym, ap, ◌∙◌, arith}
use Rattle.std.proofs.lemmas.List.{length-drop, take_all}
use Rattle.bt_lexer.specs.declared.piece.Piece.{Piece}
use Rattle.bt_lexer.specs.declared.token.TokenKind.{TokenKind}
use Rattle.bt_lexer.specs.Tokens.{Gives}
use Rattle.bt_lexer.specs.declared.error.LexError.{LexError}

-- a result that is the answer gives it
pub same_answer : {A : Type 0} (r answer : Result A LexError) → answer ≡ r → Gives r answer
same_answer (Ok value) answer e = e
same_answer (Err fault) answer e = λ _. e

-- a piece of this kind and length
pub same_piece : (p : Piece) (kind : Option TokenKind) (n : ℕ) → p.kind ≡ kind → p.len ≡ n
    → ◌≡◌ {A = Result Piece LexError} (Ok (record { kind = kind; len = n })) (Ok p)
same_piece p kind n e f =
    ap (λ (k : Option TokenKind). Ok (record { kind = k; len = n })) (sym e) ∙ ap (λ (m : ℕ). Ok (record { kind = p.kind; len = m })) (sym f)

-- a slice up to the end
pub up_to_end : (n : ℕ) (bs : List ℕ) → take (length bs - n) (drop n bs) ≡ drop n bs
up_to_end n bs = take_all (length bs - n) (drop n bs) (omega (arith, length-drop n bs))
