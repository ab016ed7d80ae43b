-- The lines of a format text, and what its first lines spell.
use Rattle.std.specs.Prelude.{◌≡◌, ◌≢◌, ◌≤◌, ℕ, ◌==◌, codes, map, List, [], ◌++◌, IsTrue, Option, Some, None}
use Rattle.std.specs.List.{list_all, slice_split}
use Rattle.bt_core.specs.Bytes.{is_digit, is_word_byte}
use Rattle.event_layout.specs.Bytes.{is_blank, is_line_end, without_end, decimal_value}

-- the lines of a text, cut at its newlines, without the blanks and carriage returns at their ends
abbrev pub text_lines : List ℕ → List (List ℕ)
text_lines text = map (without_end is_line_end) (slice_split (λ b. b == 10) text)

-- the lines of what is left of a text, if anything is left
abbrev pub lines_left : Option (List ℕ) → List (List ℕ)
lines_left None = []
lines_left (Some text) = text_lines text

-- only blanks, perhaps none
abbrev pub AreBlanks : List ℕ → Type 0
AreBlanks bytes = IsTrue (list_all is_blank bytes)

-- one or more letters and digits
pub record IsWord (bytes : List ℕ) : Type 0 where
  pub some : bytes ≢ []
  pub word : IsTrue (list_all is_word_byte bytes)

-- one or more decimal digits that spell this number
pub record IsDecimal (digits : List ℕ) (n : ℕ) : Type 0 where
  pub some : digits ≢ []
  pub digits_only : IsTrue (list_all is_digit digits)
  pub value : n ≡ decimal_value digits

-- the line is `name:`, blanks, and this name
pub record IsNameLine (line name : List ℕ) : Type 0 where
  pub blanks : List ℕ
  pub are_blanks : AreBlanks blanks
  pub spelling : line ≡ codes "name:" ++ (blanks ++ name)
  pub is_word : IsWord name

-- the line is `ID:`, blanks, and this number, from 0 to 65,535
pub record IsIdLine (line : List ℕ) (id : ℕ) : Type 0 where
  pub blanks : List ℕ
  pub digits : List ℕ
  pub are_blanks : AreBlanks blanks
  pub spelling : line ≡ codes "ID:" ++ (blanks ++ digits)
  pub decimal : IsDecimal digits id
  pub within : id ≤ 65535
