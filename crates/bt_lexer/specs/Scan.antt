-- What a scanner finds at the front of a text, one kind of piece after the other. These are the
-- steps of the functions in src/; what they find is a token by the rules of the other files.
use Rattle.std.specs.Prelude.{ℕ, zero, suc, ◌+◌, ◌-◌, ◌*◌, ◌^◌, ◌<◌, ◌≤◌, Bool, true, false, ◌||◌, ◌&&◌, nat_lt, ◌==◌, bytes_eq, codes, List, [], ◌∷◌, ◌++◌, length, take, drop, take_while, Option, Some, None, Result, Ok, Err, if◌then◌else◌}
use Rattle.std.specs.List.{list_any}
use Rattle.std.specs.Char.{digit_value}
use Rattle.bt_core.specs.declared.limits.TheConstants.{STRING_TOKEN_BYTES}
use Rattle.bt_lexer.specs.declared.token.Token.{Token}
use Rattle.bt_lexer.specs.declared.token.TokenKind.{TokenKind}
use Rattle.bt_lexer.specs.declared.token.TokenKind.TheVariants as kinds
use Rattle.bt_lexer.specs.declared.error.LexError.{LexError}
use Rattle.bt_lexer.specs.declared.error.LexError.TheVariants.{BadChar, OpenString, OpenComment, NumberTooLarge, BadEscape, StringTooLong}
use Rattle.bt_lexer.specs.declared.piece.Piece.{Piece}
use Rattle.bt_lexer.specs.declared.numbers.Digits.{Digits}
use Rattle.bt_lexer.specs.declared.strings.StringByte.{StringByte}
use Rattle.bt_lexer.specs.declared.strings.StringByte.TheVariants as part
use Rattle.bt_lexer.specs.declared.position.Position.{Position}
use Rattle.bt_core.specs.Bytes.{is_letter, is_digit, is_word_byte}
use Rattle.bt_lexer.specs.Bytes.{is_blank, is_attach_byte, not_newline, begins}
use Rattle.bt_lexer.specs.Numbers.{signed}
use Rattle.bt_lexer.specs.Tokens.{first_line}

-- a piece takes a byte at least, and no more than there are
abbrev pub IsWithin : ℕ → Piece → Type 0
IsWithin len piece = (0 < piece.len) × (piece.len ≤ len)

abbrev pub separator : ℕ → Result Piece LexError
separator n = Ok (record { kind = None; len = n })

abbrev pub token_piece : TokenKind → ℕ → Result Piece LexError
token_piece kind n = Ok (record { kind = Some kind; len = n })

-- ---- words

abbrev pub word_len : List ℕ → ℕ
word_len bs = length (take_while is_word_byte bs)

abbrev pub attach_len : List ℕ → ℕ
attach_len bs = length (take_while is_attach_byte bs)

abbrev pub is_attach_word : List ℕ → Bool
is_attach_word word = bytes_eq word (codes "tracepoint") || (bytes_eq word (codes "t") || (bytes_eq word (codes "interval") || bytes_eq word (codes "i")))

abbrev pub is_colon : ℕ → Bool
is_colon b = b == 58

-- a word of n bytes, or an attach token that begins with it
abbrev pub word_of : List ℕ → ℕ → Result Piece LexError
word_of bs n = if is_attach_word (take n bs) && begins is_colon (drop n bs)
    then token_piece (kinds.Attach (take (n + attach_len (drop n bs)) bs)) (n + attach_len (drop n bs))
    else token_piece (kinds.Word (take n bs)) n

unfoldable pub word_piece : List ℕ → Result Piece LexError
word_piece bs = word_of bs (word_len bs)

-- the bytes of a word, none where none begins
abbrev pub name_len : List ℕ → ℕ
name_len bs = if begins is_letter bs then word_len bs else 0

unfoldable pub map_piece : List ℕ → Result Piece LexError
map_piece bs = token_piece (kinds.Map (take (1 + name_len (drop 1 bs)) bs)) (1 + name_len (drop 1 bs))

unfoldable pub var_piece : ℕ → List ℕ → Result Piece LexError
var_piece offset bs = if begins is_letter (drop 1 bs)
    then token_piece (kinds.Var (take (1 + word_len (drop 1 bs)) bs)) (1 + word_len (drop 1 bs))
    else Err (BadChar offset)

-- ---- numbers

abbrev pub fits : ℕ → ℕ → Bool
fits base b = nat_lt (digit_value b) base

abbrev pub limited : ℕ → Option ℕ
limited v = if nat_lt v (2 ^ 64) then Some v else None

-- a value with one more digit, or none where it is too large
abbrev pub pushed : ℕ → ℕ → Option ℕ → Option ℕ
pushed base digit None = None
pushed base digit (Some v) = limited (v * base + digit)

-- the digits at the front, after n bytes with this value
abbrev pub digits : ℕ → Option ℕ → ℕ → List ℕ → Digits
digits base v n [] = record { value = v; len = n }
digits base v n (b ∷ bs) = if fits base b then digits base (pushed base (digit_value b) v) (n + 1) bs
    else (if b == 95 && begins (fits base) bs then digits base v (n + 1) bs
    else record { value = v; len = n })

abbrev pub behind_prefix : Digits → Digits
behind_prefix found = record { value = found.value; len = found.len + 2 }

-- the longest number at the front of bytes that begin with a digit
unfoldable pub number_at : List ℕ → Digits
number_at [] = record { value = Some 0; len = 0 }
number_at (b ∷ []) = if b == 48 then digits 8 (Some 0) 0 (b ∷ []) else digits 10 (Some 0) 0 (b ∷ [])
number_at (b ∷ c ∷ bs) = if b == 48
    then (if c == 120 && begins (fits 16) bs then behind_prefix (digits 16 (Some 0) 0 bs) else digits 8 (Some 0) 0 (b ∷ c ∷ bs))
    else digits 10 (Some 0) 0 (b ∷ c ∷ bs)

-- a number that was found, where these bytes follow it
abbrev pub number_before : ℕ → ℕ → List ℕ → Option ℕ → Result Piece LexError
number_before offset n rest None = Err (NumberTooLarge offset)
number_before offset n rest (Some v) = if begins is_word_byte rest then Err (BadChar (offset + n)) else token_piece (kinds.Number (signed v)) n

unfoldable pub number_piece : ℕ → List ℕ → Result Piece LexError
number_piece offset bs = number_before offset (number_at bs).len (drop (number_at bs).len bs) (number_at bs).value

-- ---- strings

abbrev pub escape_of : ℕ → Option ℕ
escape_of b = if b == 110 then Some 10 else (if b == 116 then Some 9 else (if b == 114 then Some 13 else (if b == 34 then Some 34 else (if b == 92 then Some 92 else None))))

abbrev pub escaped_byte : Option ℕ → StringByte
escaped_byte None = part.BadEscape
escaped_byte (Some c) = part.Add c

abbrev pub string_byte : Bool → ℕ → StringByte
string_byte true b = escaped_byte (escape_of b)
string_byte false b = if b == 34 then part.Close else (if b == 10 then part.EndOfLine else (if b == 0 then part.Zero else (if b == 92 then part.Escape else part.Add b)))

abbrev pub closed : ℕ → List ℕ → ℕ → Result Piece LexError
closed offset text n = if nat_lt STRING_TOKEN_BYTES (length text) then Err (StringTooLong offset) else token_piece (kinds.Text text) (n + 2)

abbrev pub string_step : (Bool → List ℕ → Result Piece LexError) → ℕ → List ℕ → ℕ → StringByte → Result Piece LexError
string_step more offset text n part.Close = closed offset text n
string_step more offset text n (part.Add c) = more false (text ++ c ∷ [])
string_step more offset text n part.Escape = more true text
string_step more offset text n part.EndOfLine = Err (OpenString offset)
string_step more offset text n part.Zero = Err (BadChar (offset + 1 + n))
string_step more offset text n part.BadEscape = Err (BadEscape (offset + n))

abbrev pub unclosed : ℕ → ℕ → Bool → Result Piece LexError
unclosed offset n true = Err (BadEscape (offset + n))
unclosed offset n false = Err (OpenString offset)

-- a string behind its opening quote, after n bytes that spell this text
abbrev pub string_from : ℕ → Bool → List ℕ → ℕ → List ℕ → Result Piece LexError
string_from offset escaped text n [] = unclosed offset n escaped
string_from offset escaped text n (b ∷ bs) = string_step (λ e t. string_from offset e t (n + 1) bs) offset text n (string_byte escaped b)

abbrev pub string_piece : ℕ → List ℕ → Result Piece LexError
string_piece offset bs = string_from offset false [] 0 bs

-- ---- separators

abbrev pub line_len : List ℕ → ℕ
line_len bs = length (take_while not_newline bs)

abbrev pub closes : List ℕ → Bool
closes [] = false
closes (b ∷ []) = false
closes (b ∷ c ∷ bs) = b == 42 && c == 47

-- how many bytes stand up to and with the first `*/`, after n bytes
abbrev pub comment_len : ℕ → List ℕ → Option ℕ
comment_len n [] = None
comment_len n (b ∷ bs) = if closes (b ∷ bs) then Some (n + 2) else comment_len (n + 1) bs

abbrev pub comment_piece : ℕ → Option ℕ → Result Piece LexError
comment_piece offset None = Err (OpenComment offset)
comment_piece offset (Some n) = separator (n + 2)

-- ---- marks

abbrev pub is_single : ℕ → Bool
is_single b = list_any (λ m. m == b) (codes "{}()[],;.=+-*/%&|^~!<>?:")

abbrev pub is_double : ℕ → ℕ → Bool
is_double b c = if c == 61 then list_any (λ m. m == b) (codes "+-*/%&|^<>=!")
    else (if c == 62 then b == 45 || b == 62
    else b == c && list_any (λ m. m == b) (codes "+-<&|"))

abbrev pub is_triple : ℕ → ℕ → ℕ → Bool
is_triple b c d = d == 61 && (b == c && (b == 60 || b == 62))

-- how many bytes the longest mark at the front has, or 0
unfoldable pub mark_len : List ℕ → ℕ
mark_len [] = 0
mark_len (b ∷ []) = if is_single b then 1 else 0
mark_len (b ∷ c ∷ []) = if is_double b c then 2 else (if is_single b then 1 else 0)
mark_len (b ∷ c ∷ d ∷ bs) = if is_triple b c d then 3 else (if is_double b c then 2 else (if is_single b then 1 else 0))

abbrev pub mark_of : ℕ → List ℕ → ℕ → Result Piece LexError
mark_of offset bs n = if n == 0 then Err (BadChar offset) else token_piece (kinds.Mark (take n bs)) n

abbrev pub mark_piece : ℕ → List ℕ → Result Piece LexError
mark_piece offset bs = mark_of offset bs (mark_len bs)

-- ---- pieces

-- what begins with `/`
unfoldable pub slash_piece : ℕ → List ℕ → Result Piece LexError
slash_piece offset [] = mark_piece offset (47 ∷ [])
slash_piece offset (c ∷ bs) = if c == 47 then separator (line_len bs + 2)
    else (if c == 42 then comment_piece offset (comment_len 0 bs)
    else mark_piece offset (47 ∷ c ∷ bs))

unfoldable pub piece_at : ℕ → List ℕ → Result Piece LexError
piece_at offset [] = Err (BadChar offset)
piece_at offset (b ∷ bs) = if is_blank b then separator 1
    else (if is_letter b then word_piece (b ∷ bs)
    else (if is_digit b then number_piece offset (b ∷ bs)
    else (if b == 64 then map_piece (b ∷ bs)
    else (if b == 36 then var_piece offset (b ∷ bs)
    else (if b == 34 then string_piece offset bs
    else (if b == 47 then slash_piece offset bs
    else mark_piece offset (b ∷ bs)))))))

-- ---- a whole text

abbrev pub after_byte : Position → ℕ → Position
after_byte p b = if b == 10 then record { offset = p.offset + 1; line = p.line + 1; column = 1 } else record { offset = p.offset + 1; line = p.line; column = p.column + 1 }

abbrev pub after : Position → List ℕ → Position
after p [] = p
after p (b ∷ bs) = after (after_byte p b) bs

-- a position that is no further on in lines and columns than in bytes
abbrev pub IsPosition : Position → Type 0
IsPosition p = (p.line ≤ p.offset + 1) × (p.column ≤ p.offset + 1)

abbrev pub token_at : TokenKind → Position → ℕ → Token
token_at kind p n = record { kind = kind; start = p.offset; end = p.offset + n; place = record { line = p.line; column = p.column } }

abbrev pub tokens_at : Option TokenKind → Position → ℕ → List Token
tokens_at None p n = []
tokens_at (Some kind) p n = token_at kind p n ∷ []

abbrev pub prepend : List Token → Result (List Token) LexError → Result (List Token) LexError
prepend ts (Ok more) = Ok (ts ++ more)
prepend ts (Err e) = Err e

abbrev pub lex_piece : (ℕ → Result (List Token) LexError) → Position → Result Piece LexError → Result (List Token) LexError
lex_piece more p (Ok piece) = prepend (tokens_at piece.kind p piece.len) (more (piece.len - 1))
lex_piece more p (Err e) = Err e

-- the tokens, after so many bytes that are still to pass
abbrev pub lexed_from : ℕ → Position → List ℕ → Result (List Token) LexError
lexed_from k p [] = Ok []
lexed_from (suc k) p (b ∷ bs) = lexed_from k (after_byte p b) bs
lexed_from zero p (b ∷ bs) = lex_piece (λ k. lexed_from k (after_byte p b) bs) p (piece_at p.offset (b ∷ bs))

abbrev pub start : Position
start = record { offset = 0; line = 1; column = 1 }

abbrev pub lexed : List ℕ → Result (List Token) LexError
lexed bs = lexed_from 0 (after start (first_line bs)) (drop (length (first_line bs)) bs)
