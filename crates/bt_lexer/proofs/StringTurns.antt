-- Strings, byte by byte.
use Rattle.std.proofs.Common.{◌≡◌, ◌+◌, ◌<◌, ◌≤◌, ℕ, Bool, true, false, List, drop, length, get_or, nat_lt, Result, IfOk, refl, sym, ap, ◌∙◌, add-one, arith}
use Rattle.std.proofs.Math.Seq.{drop-cons}
use Rattle.std.proofs.lemmas.List.{at_drop_all}
use Rattle.bt_core.specs.declared.limits.TheConstants.{STRING_TOKEN_BYTES}
use Rattle.bt_lexer.specs.Scan.{IsWithin, closed, unclosed, string_byte, string_step, string_from, string_piece}
use Rattle.bt_lexer.specs.declared.piece.Piece.{Piece}
use Rattle.bt_lexer.specs.declared.error.LexError.{LexError}
use Rattle.bt_lexer.specs.declared.strings.StringByte.{StringByte}
use Rattle.bt_lexer.proofs.Choices.{decided}

-- what is answered at a byte, by what it does
abbrev pub answer_at : ℕ → List ℕ → ℕ → List ℕ → StringByte → Result Piece LexError
answer_at offset text i bs p = string_step (λ (e : Bool) (t : List ℕ). string_from offset e t (i + 1) (drop (i + 1) bs)) offset text i p

one_byte : (offset : ℕ) (e : Bool) (text : List ℕ) (i : ℕ) (bs : List ℕ) → i < length bs
    → string_from offset e text i (drop i bs) ≡ answer_at offset text i bs (string_byte e (get_or bs i 0))
one_byte offset e text i bs h = rw (drop-cons bs i 0 h, add-one i) refl

-- what a string gives at the byte that is read
pub string_at : (offset : ℕ) (e : Bool) (text : List ℕ) (i : ℕ) (bs : List ℕ) (p : StringByte) → i < length bs
    → string_from offset e text i (drop i bs) ≡ string_piece offset bs → p ≡ string_byte e (get_or bs i 0)
    → string_piece offset bs ≡ answer_at offset text i bs p
string_at offset e text i bs p h inv is = sym inv ∙ one_byte offset e text i bs h ∙ ap (answer_at offset text i bs) (sym is)

-- the next turn, behind a byte that goes on with this text
pub goes_on : (offset i : ℕ) (bs : List ℕ) (e : Bool) (t : List ℕ) (f : Bool) (u : List ℕ)
    → string_piece offset bs ≡ string_from offset e t (i + 1) (drop (i + 1) bs)
    → f ≡ e → u ≡ t → string_from offset f u (i + 1) (drop (i + 1) bs) ≡ string_piece offset bs
goes_on offset i bs e t f u at p q =
    ap (λ (x : Bool). string_from offset x u (i + 1) (drop (i + 1) bs)) p
    ∙ ap (λ (x : List ℕ). string_from offset e x (i + 1) (drop (i + 1) bs)) q ∙ sym at

-- what it gives at the end of the text
pub string_end : (offset : ℕ) (e : Bool) (text : List ℕ) (i : ℕ) (bs : List ℕ) → i ≤ length bs → length bs ≤ i
    → string_from offset e text i (drop i bs) ≡ string_piece offset bs → string_piece offset bs ≡ unclosed offset (length bs) e
string_end offset e text i bs h k inv =
    let same : i ≡ length bs = omega arith in
    sym inv ∙ at_drop_all (string_from offset e text i) bs i k ∙ ap (λ (n : ℕ). unclosed offset n e) same

pub unclosed_within : (offset n : ℕ) (e : Bool) (len : ℕ) → IfOk (unclosed offset n e) (IsWithin len)
unclosed_within offset n true len = tt
unclosed_within offset n false len = tt

pub closed_within : (offset : ℕ) (text : List ℕ) (n len : ℕ) → n < len → IfOk (closed offset text n) (IsWithin (len + 1))
closed_within offset text n len h =
    decided (λ (r : Result Piece LexError). IfOk r (IsWithin (len + 1))) (nat_lt STRING_TOKEN_BYTES (length text)) _ _ (λ _. tt) (λ _. (omega arith, omega arith))
