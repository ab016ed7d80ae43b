-- Format texts: which layout one has, and the first rule that it breaks where it has none.
use Rattle.std.specs.Prelude.{◌≡◌, ◌+◌, ◌≤◌, ◌&&◌, ℕ, Bool, not, nat_lt, nat_eq, codes, ⊤, List}
use Rattle.std.specs.Prelude.{[], ◌∷◌, ◌++◌, length, filter, drop, slice_index_or, Option, Some, None, is_some, if◌then◌else◌}
use Rattle.std.specs.List.{list_any, starts_with, take_while, filter_map, AllByRecursion}
use Rattle.std.specs.Option.{option_or}
use Rattle.std.specs.Str.{bytes_eq}
use Rattle.bt_core.specs.declared.limits.TheConstants.{LAYOUT_END}
use Rattle.event_layout.specs.declared.error.FormatError.{FormatError}
use Rattle.event_layout.specs.declared.error.FormatError.TheVariants.{NoName, BadId, BadField, Overlong, SameName}
use Rattle.event_layout.specs.declared.field.Field.{Field}
use Rattle.event_layout.specs.declared.layout.Layout.{Layout}
use Rattle.event_layout.specs.Lines.{text_lines, IsNameLine, IsIdLine}
use Rattle.event_layout.specs.FieldLines.{Description, description, IsFieldLine}
use Rattle.event_layout.specs.Reading.{name_on, id_on, field_on}
use Rattle.event_layout.specs.Sizes.{end_of, greatest_end}

-- at such a line the reading ends
abbrev pub is_print_line : List ℕ → Bool
is_print_line line = starts_with nat_eq line (codes "print fmt:")

-- of the lines after the third, those before the printing begins
abbrev pub read_lines : List (List ℕ) → List (List ℕ)
read_lines lines = take_while (λ line. not (is_print_line line)) lines

-- those that aren't empty
abbrev pub filled : List (List ℕ) → List (List ℕ)
filled lines = filter (λ line. nat_lt 0 (length line)) lines

-- the lines are those of the fields, one for each, in order
abbrev pub AreFieldLines : List (List ℕ) → List Field → Type 0
AreFieldLines [] [] = ⊤
AreFieldLines (line ∷ lines) (f ∷ fs) = IsFieldLine line (description f) × AreFieldLines lines fs
AreFieldLines [] (f ∷ fs) = ⊥
AreFieldLines (line ∷ lines) [] = ⊥

-- fields of one name have the empty name
abbrev pub HaveNamesApart : List Field → Type 0
HaveNamesApart [] = ⊤
HaveNamesApart (f ∷ fs) = AllByRecursion (λ g. f.name ≡ g.name → g.name ≡ []) fs × HaveNamesApart fs

-- a format text has this layout
pub record IsLayoutOf (text : List ℕ) (layout : Layout) : Type 0 where
  pub first : List ℕ
  pub second : List ℕ
  pub others : List (List ℕ)
  pub lines : text_lines text ≡ first ∷ (second ∷ (codes "format:" ∷ others))
  pub name : IsNameLine first layout.name
  pub id : IsIdLine second layout.id
  pub fields : AreFieldLines (filled (read_lines others)) layout.fields
  pub ends : AllByRecursion (λ f. end_of f ≤ LAYOUT_END) layout.fields
  pub names : HaveNamesApart layout.fields
  pub size : layout.size ≡ greatest_end layout.fields

-- a line, counted from 0; one that is not there is as an empty one
abbrev pub line_at : ℕ → List (List ℕ) → List ℕ
line_at place lines = slice_index_or lines place []

-- the fields that lines describe, in order
abbrev pub described : List (List ℕ) → List Description
described lines = filter_map field_on lines

-- whether an earlier field has this name, which isn't empty
abbrev pub is_taken : List ℕ → List Description → Bool
is_taken name earlier = nat_lt 0 (length name) && list_any (λ d. bytes_eq d.name name) earlier

-- what is wrong with the field of a line, where these fields were described before
abbrev pub field_fault : ℕ → List Description → Option Description → Option FormatError
field_fault number earlier None = Some (BadField number)
field_fault number earlier (Some d) =
    if nat_lt LAYOUT_END (d.offset + d.size) then Some (Overlong number)
    else if is_taken d.name earlier then Some (SameName number)
    else None

-- what is wrong with a line
abbrev pub line_fault : ℕ → List Description → List ℕ → Option FormatError
line_fault number earlier line = if nat_lt 0 (length line) then field_fault number earlier (field_on line) else None

-- the first fault of these lines, of which the first has this number
abbrev pub lines_fault : ℕ → List Description → List (List ℕ) → Option FormatError
lines_fault number earlier [] = None
lines_fault number earlier (line ∷ lines) = option_or (line_fault number earlier line) (lines_fault (number + 1) (earlier ++ described (line ∷ [])) lines)

-- the fault, unless there is something
abbrev pub fault_unless : Bool → FormatError → Option FormatError
fault_unless there fault = if there then None else Some fault

-- the first rule that a format text breaks, in the order of its lines
unfoldable pub layout_fault : List ℕ → Option FormatError
layout_fault text =
    option_or (fault_unless (is_some (name_on (line_at 0 (text_lines text)))) NoName)
    (option_or (fault_unless (is_some (id_on (line_at 1 (text_lines text)))) BadId)
    (option_or (fault_unless (bytes_eq (line_at 2 (text_lines text)) (codes "format:")) (BadField 3))
    (lines_fault 4 [] (read_lines (drop 3 (text_lines text))))))
