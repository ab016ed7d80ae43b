-- The tokens of a text, and its first lexical fault.
use Rattle.std.specs.Prelude.{◌≡◌, ◌≢◌, ℕ, ◌+◌, ◌^◌, ◌<◌, ◌≤◌, ◌⊎◌, true, List, [], ◌∷◌, ◌++◌, length, take_while, ◌&&◌, ◌==◌, if◌then◌else◌, Option, Some, None, Result, Ok, Err}
use Rattle.bt_core.specs.declared.limits.TheConstants.{STRING_TOKEN_BYTES}
use Rattle.bt_lexer.specs.declared.token.Token.{Token}
use Rattle.bt_lexer.specs.declared.token.TokenKind.{TokenKind}
use Rattle.bt_lexer.specs.declared.token.TokenKind.TheVariants as kinds
use Rattle.bt_lexer.specs.declared.error.LexError.{LexError}
use Rattle.bt_lexer.specs.declared.error.LexError.TheVariants as faults
use Rattle.bt_core.specs.Bytes.{is_word_byte}
use Rattle.bt_lexer.specs.Bytes.{begins, not_newline}
use Rattle.bt_lexer.specs.Words.{IsWord, IsAttach, IsMapName, IsVarName}
use Rattle.bt_lexer.specs.Numbers.{IsNumber, signed}
use Rattle.bt_lexer.specs.Strings.{IsString, IsSpelled, NoEscape, EndsLine}
use Rattle.bt_lexer.specs.Separators.{IsSeparator, NeverCloses}
use Rattle.bt_lexer.specs.Marks.{IsMark}
use Rattle.bt_lexer.specs.Places.{line_behind, column_behind}

-- The bytes are a token of this kind, by its own shape. A Number holds its value and a Text its bytes
-- after escapes; every other kind holds the bytes of its token.
abbrev pub IsToken : TokenKind → List ℕ → Type 0
IsToken (kinds.Word word) bs = (word ≡ bs) × IsWord bs
IsToken (kinds.Attach point) bs = (point ≡ bs) × IsAttach bs
IsToken (kinds.Map name) bs = (name ≡ bs) × IsMapName bs
IsToken (kinds.Var name) bs = (name ≡ bs) × IsVarName bs
IsToken (kinds.Number value) bs = (n : ℕ) × (value ≡ signed n) × IsNumber bs n
IsToken (kinds.Text text) bs = IsString bs text
IsToken (kinds.Mark mark) bs = (mark ≡ bs) × IsMark bs

-- a piece of a text: a token of this kind, or a separator
abbrev pub IsPiece : Option TokenKind → List ℕ → Type 0
IsPiece None bs = IsSeparator bs
IsPiece (Some kind) bs = IsToken kind bs

-- no piece goes on from these bytes into the bytes after them
abbrev pub IsLongest : List ℕ → List ℕ → Type 0
IsLongest bs rest = (more after : List ℕ) (kind : Option TokenKind) → rest ≡ more ++ after → IsPiece kind (bs ++ more) → more ≡ []

-- the longest number that begins here
abbrev pub BeginsWithNumber : List ℕ → List ℕ → ℕ → List ℕ → Type 0
BeginsWithNumber bs number n rest = (bs ≡ number ++ rest) × IsNumber number n × IsLongest number rest

-- a quote, and the source of a string's bytes behind it
abbrev pub BeginsWithString : List ℕ → List ℕ → List ℕ → List ℕ → Type 0
BeginsWithString bs source text rest = (bs ≡ 34 ∷ source ++ rest) × IsSpelled source text

-- no piece begins here, and no string
abbrev pub NothingBegins : List ℕ → Type 0
NothingBegins [] = ⊥
NothingBegins (b ∷ bs) = (b ≢ 34) × ((piece rest : List ℕ) (kind : Option TokenKind) → b ∷ bs ≡ piece ++ rest → IsPiece kind piece → ⊥)

-- A fault begins here, where `offset` bytes stand before. Its own offset is that of the byte at fault.
abbrev pub IsFault : ℕ → List ℕ → LexError → Type 0
IsFault offset bs (faults.BadChar at) =
    (NothingBegins bs × (at ≡ offset))
    ⊎ (((number rest : List ℕ) × (n : ℕ) × BeginsWithNumber bs number n rest × (n < 2 ^ 64) × (begins is_word_byte rest ≡ true) × (at ≡ offset + length number))
    ⊎ ((source text rest : List ℕ) × BeginsWithString bs source text (0 ∷ rest) × (at ≡ offset + 1 + length source)))
IsFault offset bs (faults.OpenString at) =
    (source text rest : List ℕ) × BeginsWithString bs source text rest × EndsLine rest × (at ≡ offset)
IsFault offset bs (faults.OpenComment at) =
    (rest : List ℕ) × (bs ≡ 47 ∷ 42 ∷ rest) × NeverCloses rest × (at ≡ offset)
IsFault offset bs (faults.NumberTooLarge at) =
    (number rest : List ℕ) × (n : ℕ) × BeginsWithNumber bs number n rest × (2 ^ 64 ≤ n) × (at ≡ offset)
IsFault offset bs (faults.BadEscape at) =
    (source text rest : List ℕ) × BeginsWithString bs source text (92 ∷ rest) × NoEscape rest × (at ≡ offset + 1 + length source)
IsFault offset bs (faults.StringTooLong at) =
    (source text rest : List ℕ) × BeginsWithString bs source text (34 ∷ rest) × (STRING_TOKEN_BYTES < length text) × (at ≡ offset)
IsFault offset bs faults.Memory = ⊥

-- The piece stands at the front: it is the longest that begins there, and no fault begins there.
pub record Stands (kind : Option TokenKind) (bs rest : List ℕ) : Type 0 where
  pub piece : IsPiece kind bs
  pub longest : IsLongest bs rest
  pub sound : (offset : ℕ) (fault : LexError) → IsFault offset (bs ++ rest) fault → ⊥

-- The numbers and texts that no fault refuses.
abbrev pub IsWithinLimits : TokenKind → List ℕ → Type 0
IsWithinLimits (kinds.Number value) bs = (n : ℕ) → IsNumber bs n → n < 2 ^ 64
IsWithinLimits (kinds.Text text) bs = length text ≤ STRING_TOKEN_BYTES
IsWithinLimits _ bs = Unit {0}

-- A token, with its span and its place, where these bytes stand before it.
abbrev pub token_behind : List ℕ → TokenKind → List ℕ → Token
token_behind before kind bs = record {
  kind = kind;
  start = length before;
  end = length before + length bs;
  place = record { line = line_behind before; column = column_behind before };
}

-- the token of a piece, or none of a separator
abbrev pub tokens_behind : List ℕ → Option TokenKind → List ℕ → List Token
tokens_behind before None bs = []
tokens_behind before (Some kind) bs = token_behind before kind bs ∷ []

abbrev pub Pieces : Type 0
Pieces = List (Option TokenKind × List ℕ)

-- The pieces stand one after the other, up to the rest.
abbrev pub IsCut : List ℕ → Pieces → List ℕ → Type 0
IsCut text [] rest = text ≡ rest
IsCut text (piece ∷ pieces) rest = (after : List ℕ) × (text ≡ piece.1 ++ after) × Stands piece.0 piece.1 after × IsCut after pieces rest

-- the tokens among the pieces
abbrev pub tokens_of : List ℕ → Pieces → List Token
tokens_of before [] = []
tokens_of before (piece ∷ pieces) = tokens_behind before piece.0 piece.1 ++ tokens_of (before ++ piece.1) pieces

-- a first line that begins with `#!`, up to its newline
abbrev pub first_line : List ℕ → List ℕ
first_line [] = []
first_line (b ∷ []) = []
first_line (b ∷ c ∷ bs) = if b == 35 && c == 33 then take_while not_newline (b ∷ c ∷ bs) else []

-- The text consists of these tokens in order, each the longest that begins at its place, with only
-- separators between them, behind a first line that begins with `#!`.
abbrev pub IsTokensOf : List ℕ → List Token → Type 0
IsTokensOf text tokens =
    (pieces : Pieces) × (body : List ℕ) × (text ≡ first_line text ++ body) × IsCut body pieces [] × (tokens ≡ tokens_of (first_line text) pieces)

-- The fault is the text's first one: up to it the text consists of tokens and separators.
abbrev pub IsFirstFault : List ℕ → LexError → Type 0
IsFirstFault text fault =
    (pieces : Pieces) × (body rest : List ℕ) × (text ≡ first_line text ++ body) × IsCut body pieces rest × ((offset : ℕ) × (offset + length rest ≡ length text) × IsFault offset rest fault)

-- The result is this answer, unless memory ran out.
abbrev pub Gives : {A : Type 0} → Result A LexError → Result A LexError → Type 0
Gives (Ok value) answer = answer ≡ Ok value
Gives (Err fault) answer = fault ≢ faults.Memory → answer ≡ Err fault
