-- Each token takes a byte, and a fault stands within its text.
use Rattle.std.proofs.Common.{ℕ, ◌+◌, ◌≤◌, List, [], ◌∷◌, ◌++◌, length, Option, Some, None, ap, arith, inl, inr}
use Rattle.std.proofs.lemmas.List.{length-append}
use Rattle.bt_lexer.specs.Places.{offset_of}
use Rattle.bt_lexer.specs.Tokens.{IsPiece, IsFault, Pieces, IsCut, tokens_behind, tokens_of, first_line, IsTokensOf, IsFirstFault}
use Rattle.bt_lexer.specs.declared.token.Token.{Token}
use Rattle.bt_lexer.specs.declared.token.TokenKind.{TokenKind}
use Rattle.bt_lexer.specs.declared.error.LexError.{LexError}
use Rattle.bt_lexer.specs.declared.error.LexError.TheVariants as faults
use Rattle.bt_lexer.proofs.Pieces.{some_byte}

one_at_most : (before : List ℕ) (kind : Option TokenKind) (word : List ℕ) → length (tokens_behind before kind word) ≤ 1
one_at_most before None word = omega arith
one_at_most before (Some kind) word = omega arith

takes_a_byte : (kind : Option TokenKind) (word : List ℕ) → IsPiece kind word → 1 ≤ length word
takes_a_byte kind [] p = absurd (some_byte kind p)
takes_a_byte kind (b ∷ word) p = omega arith

few : (pieces : Pieces) (before body : List ℕ) → IsCut body pieces [] → length (tokens_of before pieces) ≤ length body
few [] before body h = omega arith
few (piece ∷ pieces) before body h =
    let k = ap length h.1 in
    let l = length-append piece.1 h.0 in
    let m = length-append (tokens_behind before piece.0 piece.1) (tokens_of (before ++ piece.1) pieces) in
    let one = one_at_most before piece.0 piece.1 in
    let byte = takes_a_byte piece.0 piece.1 h.2.piece in
    let rest = few pieces (before ++ piece.1) h.0 h.3 in
    omega (arith, k, l, m, one, byte, rest)

pub few_tokens : (text : List ℕ) (tokens : List Token) → IsTokensOf text tokens → length tokens ≤ length text
few_tokens text tokens h =
    let k = ap length h.2 in
    let l = length-append (first_line text) h.1 in
    let m = few h.0 (first_line text) h.1 h.3 in
    let n = ap length h.4 in
    omega (arith, k, l, m, n)

-- a fault that begins here stands before the end of the rest, or there
here : (offset : ℕ) (bs : List ℕ) (fault : LexError) → IsFault offset bs fault → offset_of fault ≤ offset + length bs
here offset bs (faults.BadChar at) (inl h) = omega (arith, h.1)
here offset bs (faults.BadChar at) (inr (inl (number, rest, n, begins, low, word, is))) =
    let k = ap length begins.0 in
    let l = length-append number rest in
    omega (arith, k, l, is)
here offset bs (faults.BadChar at) (inr (inr (source, text, rest, begins, is))) =
    let k = ap length begins.0 in
    let l = length-append source (0 ∷ rest) in
    omega (arith, k, l, is)
here offset bs (faults.OpenString at) (source, text, rest, begins, ends, is) = omega (arith, is)
here offset bs (faults.OpenComment at) (rest, begins, never, is) = omega (arith, is)
here offset bs (faults.NumberTooLarge at) (number, rest, n, begins, large, is) = omega (arith, is)
here offset bs (faults.BadEscape at) (source, text, rest, begins, none, is) =
    let k = ap length begins.0 in
    let l = length-append source (92 ∷ rest) in
    omega (arith, k, l, is)
here offset bs (faults.StringTooLong at) (source, text, rest, begins, long, is) = omega (arith, is)
here offset bs faults.Memory h = absurd h

pub fault_within : (text : List ℕ) (fault : LexError) → IsFirstFault text fault → offset_of fault ≤ length text
fault_within text fault h =
    let k = here h.5.0 h.2 fault h.5.2 in
    let l = h.5.1 in
    omega (arith, k, l)
