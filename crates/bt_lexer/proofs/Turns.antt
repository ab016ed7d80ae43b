-- One turn of the lexer's loop.
use Rattle.std.proofs.Common.{◌≡◌, ◌<◌, ◌≤◌, ℕ, zero, suc, true, ◌==◌, List, [], ◌∷◌, ◌++◌, take, drop, length, Result, Ok, Err, refl, sym, ap, ◌∙◌, append_assoc, arith}
use Rattle.std.proofs.lemmas.Bool.{eqb-true}
use Rattle.std.proofs.lemmas.List.{append-nil}
use Rattle.std.proofs.Math.Numerals.{sub-one}
use Rattle.bt_lexer.specs.declared.token.Token.{Token}
use Rattle.bt_lexer.specs.declared.position.Position.{Position}
use Rattle.bt_lexer.specs.declared.piece.Piece.{Piece}
use Rattle.bt_lexer.specs.declared.error.LexError.{LexError}
use Rattle.bt_lexer.specs.Scan.{piece_at, after, after_byte, tokens_at, prepend, lexed_from}

pub skipped : (k : ℕ) (p : Position) (bs : List ℕ) → k ≤ length bs → lexed_from k p bs ≡ lexed_from 0 (after p (take k bs)) (drop k bs)
skipped zero p bs h = refl
skipped (suc k) p [] h = absurd (omega arith)
skipped (suc k) p (b ∷ bs) h = skipped k (after_byte p b) bs (omega arith)

pub turn : (p : Position) (bs : List ℕ) (piece : Piece) → piece_at p.offset bs ≡ Ok piece → 0 < piece.len → piece.len ≤ length bs
    → lexed_from 0 p bs ≡ prepend (tokens_at piece.kind p piece.len) (lexed_from 0 (after p (take piece.len bs)) (drop piece.len bs))
turn p bs piece e pos le = by_len piece.len refl bs e pos le
  where
    by_len : (n : ℕ) → piece.len ≡ n → (bs : List ℕ) → piece_at p.offset bs ≡ Ok piece → 0 < piece.len → piece.len ≤ length bs
        → lexed_from 0 p bs ≡ prepend (tokens_at piece.kind p piece.len) (lexed_from 0 (after p (take piece.len bs)) (drop piece.len bs))
    by_len zero q bs e pos le = absurd (omega arith)
    by_len (suc n) q [] e pos le = absurd (omega arith)
    by_len (suc n) q (b ∷ bs) e pos le = rw (e, q, sub-one (suc n)) (ap (prepend (tokens_at piece.kind p (suc n))) (skipped n (after_byte p b) bs (omega arith)))

pub prepend_more : (ts us : List Token) (r : Result (List Token) LexError) → prepend ts (prepend us r) ≡ prepend (ts ++ us) r
prepend_more ts us (Ok more) = ap Ok (sym (append_assoc ts us more))
prepend_more ts us (Err e) = refl

pub refused : (p : Position) (bs : List ℕ) (e : LexError) → piece_at p.offset bs ≡ Err e → 0 < length bs → lexed_from 0 p bs ≡ Err e
refused p [] e q pos = absurd (omega arith)
refused p (b ∷ bs) e q pos = rw q refl

-- where nothing is left, what was read is all
pub all_read : (ts us : List Token) (p : Position) (rest : List ℕ) → true ≡ (length rest == 0) → us ≡ ts → prepend ts (lexed_from 0 p rest) ≡ Ok us
all_read ts us p [] h e = ap Ok (append-nil ts ∙ sym e)
all_read ts us p (b ∷ bs) h e = let q = eqb-true (length (b ∷ bs)) 0 (sym h) in absurd (omega (arith, q))
