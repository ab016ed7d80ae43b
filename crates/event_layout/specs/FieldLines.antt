-- Field lines: how one is spelled.
use Rattle.std.specs.Prelude.{◌≡◌, ◌≤◌, ℕ, Bool, true, false, ◌==◌, not, codes, List, [], ◌∷◌, ◌++◌, IsTrue}
use Rattle.std.specs.List.{list_all}
use Rattle.event_layout.specs.declared.field.Field.{Field}
use Rattle.event_layout.specs.declared.field.FieldKind.{FieldKind}
use Rattle.event_layout.specs.Bytes.{stripped}
use Rattle.event_layout.specs.Declarations.{declared_name, declared_kind}
use Rattle.event_layout.specs.Lines.{AreBlanks, IsDecimal}

-- what a field line says
pub record Description : Type 0 where
  pub name : List ℕ
  pub offset : ℕ
  pub size : ℕ
  pub signed : Bool
  pub kind : FieldKind

-- what the line of this field says
abbrev pub description : Field → Description
description f = record { name = f.name; offset = f.offset; size = f.size; signed = f.signed; kind = f.kind }

-- the part is this label and this value, with blanks before, between and after them
pub record IsLabelled (label value part : List ℕ) : Type 0 where
  pub before : List ℕ
  pub between : List ℕ
  pub behind : List ℕ
  pub blank_before : AreBlanks before
  pub blank_between : AreBlanks between
  pub blank_behind : AreBlanks behind
  pub spelling : part ≡ before ++ (label ++ (between ++ (value ++ behind)))
  pub bare : stripped value ≡ value

-- 0 or 1
abbrev pub flag_bytes : Bool → List ℕ
flag_bytes false = codes "0"
flag_bytes true = codes "1"

-- the part is this label and this number, at most 2 ^ 32 - 1
pub record IsNumber (label : List ℕ) (n : ℕ) (part : List ℕ) : Type 0 where
  pub digits : List ℕ
  pub labelled : IsLabelled label digits part
  pub decimal : IsDecimal digits n
  pub within : n ≤ 4294967295

-- The line is four parts, each with a semicolon after it: the declaration, the offset, the size, and whether
-- the field is signed. Blanks may stand before and after each label, value and semicolon.
pub record IsFieldLine (line : List ℕ) (field : Description) : Type 0 where
  pub first : List ℕ
  pub second : List ℕ
  pub third : List ℕ
  pub fourth : List ℕ
  pub parts : line ≡ first ++ (59 ∷ (second ++ (59 ∷ (third ++ (59 ∷ (fourth ++ 59 ∷ []))))))
  pub declaration : List ℕ
  pub declared : IsLabelled (codes "field:") declaration first
  pub no_semicolon : IsTrue (list_all (λ b. not (b == 59)) declaration)
  pub name : field.name ≡ declared_name declaration
  pub offset : IsNumber (codes "offset:") field.offset second
  pub size : IsNumber (codes "size:") field.size third
  pub signed : IsLabelled (codes "signed:") (flag_bytes field.signed) fourth
  pub kind : field.kind ≡ declared_kind declaration field.size
