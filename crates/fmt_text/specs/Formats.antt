-- What a printf format is, and which pieces it has.
use Rattle.std.specs.Prelude.{◌≡◌, ◌≢◌, ◌≤◌, ◌++◌, ℕ, Bool, true, false, not, ◌&&◌, ◌==◌, List, [], ◌∷◌, codes, length}
use Rattle.std.specs.List.{list_all, list_any, flat_map}
use Rattle.std.specs.Str.Parse.{digits_value}
use Rattle.bt_core.specs.Bytes.{is_digit}
use Rattle.fmt_text.specs.declared.piece.Piece.{Piece}
use Rattle.fmt_text.specs.declared.piece.Piece.TheVariants.{Literal, Conversion}

-- the flags that a conversion may have, in the orders in which they may stand
pub data Flags : Type 0 where
  NoFlag : Flags
  Left : Flags
  Zero : Flags
  LeftZero : Flags
  ZeroLeft : Flags

abbrev pub flags_text : Flags → List ℕ
flags_text NoFlag = []
flags_text Left = codes "-"
flags_text Zero = codes "0"
flags_text LeftZero = codes "-0"
flags_text ZeroLeft = codes "0-"

abbrev pub has_left : Flags → Bool
has_left NoFlag = false
has_left Left = true
has_left Zero = false
has_left LeftZero = true
has_left ZeroLeft = true

abbrev pub has_zero : Flags → Bool
has_zero NoFlag = false
has_zero Left = false
has_zero Zero = true
has_zero LeftZero = true
has_zero ZeroLeft = true

-- the length words, which change nothing
pub data Size : Type 0 where
  NoSize : Size
  Char : Size
  Short : Size
  Long : Size
  LongLong : Size

abbrev pub size_text : Size → List ℕ
size_text NoSize = []
size_text Char = codes "hh"
size_text Short = codes "h"
size_text Long = codes "l"
size_text LongLong = codes "ll"

-- the letters of conversions; those of texts, which are not filled with zeros
abbrev pub is_letter : ℕ → Bool
is_letter letter = list_any (λ l. l == letter) (codes "diuxXsc")

abbrev pub is_text_letter : ℕ → Bool
is_text_letter letter = list_any (λ l. l == letter) (codes "sc")

-- a number without zeros in front begins with no `0`
abbrev pub is_plain_number : List ℕ → Bool
is_plain_number [] = true
is_plain_number (b ∷ bs) = list_all is_digit (b ∷ bs) && not (b == 48)

-- how a conversion is spelled: behind its `%` stand flags, the digits of a width or none, a length word or none, and a letter
pub record Spelling : Type 0 where
  pub flags : Flags
  pub width : List ℕ
  pub size : Size
  pub letter : ℕ

abbrev pub spelling_text : Spelling → List ℕ
spelling_text s = 37 ∷ (flags_text s.flags ++ (s.width ++ (size_text s.size ++ s.letter ∷ [])))

-- the rules of a conversion
pub record IsConversion (s : Spelling) : Type 0 where
  pub number : is_plain_number s.width ≡ true
  pub narrow : digits_value 10 s.width ≤ 255
  pub known : is_letter s.letter ≡ true
  pub filled : (has_zero s.flags && is_text_letter s.letter) ≡ false

-- a format is made of bytes that stand for themselves, of `%%`, and of conversions
pub data Part : Type 0 where
  Byte : (byte : ℕ) → Part
  Percent : Part
  Converted : (spelling : Spelling) → Part

abbrev pub part_text : Part → List ℕ
part_text (Byte byte) = byte ∷ []
part_text Percent = codes "%%"
part_text (Converted spelling) = spelling_text spelling

abbrev pub IsPart : Part → Type 0
IsPart (Byte byte) = byte ≢ 37
IsPart Percent = Unit {0}
IsPart (Converted spelling) = IsConversion spelling

abbrev pub AreParts : List Part → Type 0
AreParts [] = Unit {0}
AreParts (part ∷ parts) = IsPart part × AreParts parts

abbrev pub parts_text : List Part → List ℕ
parts_text parts = flat_map part_text parts

-- the piece that a part is by itself
abbrev pub part_piece : Part → Piece
part_piece (Byte byte) = Literal (byte ∷ [])
part_piece Percent = Literal (codes "%")
part_piece (Converted s) = Conversion (has_left s.flags) (has_zero s.flags) (digits_value 10 s.width) s.letter

-- a piece before others: bytes that stand side by side are one piece
abbrev pub joined : Piece → List Piece → List Piece
joined (Literal bytes) (Literal others ∷ pieces) = Literal (bytes ++ others) ∷ pieces
joined piece pieces = piece ∷ pieces

abbrev pub pieces_of : List Part → List Piece
pieces_of [] = []
pieces_of (part ∷ parts) = joined (part_piece part) (pieces_of parts)

-- a text is a format and has these pieces
pub record IsFormat (text : List ℕ) (pieces : List Piece) : Type 0 where
  pub parts : List Part
  pub allowed : AreParts parts
  pub spelled : text ≡ parts_text parts
  pub meant : pieces ≡ pieces_of parts

-- no part stands at the front of bytes
abbrev pub BeginsWithNone : List ℕ → Type 0
BeginsWithNone bytes = (part : Part) → IsPart part → (others : List ℕ) → bytes ≢ part_text part ++ others

-- behind whole parts stands, at this offset, something that begins no part
pub record IsBadAt (text : List ℕ) (offset : ℕ) : Type 0 where
  pub parts : List Part
  pub rest : List ℕ
  pub allowed : AreParts parts
  pub spelled : text ≡ parts_text parts ++ rest
  pub bad : BeginsWithNone rest
  pub there : rest ≢ []
  pub place : offset ≡ length (parts_text parts)
