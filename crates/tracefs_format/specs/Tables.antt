-- What the functions inside the reader answer, and what it keeps of the fields that it has read. No public contract cites these
-- definitions.
use Rattle.std.specs.Prelude.{◌≡◌, ◌≢◌, ℕ, Bool, ⊤, List, [], map, drop, length, nat_lt, ◌&&◌, Option, Some, None, Result, Ok, Err}
use Rattle.std.specs.List.{list_any}
use Rattle.std.specs.Str.{bytes_eq}
use Rattle.std.specs.Ordering.{nat_cmp}
use Rattle.std.specs.Cmp.Lexicographic.{slice_cmp}
use Rattle.std.specs.BTreeSet.{BTreeSet, contains}
use Rattle.event_layout.specs.declared.error.FormatError.{FormatError}
use Rattle.event_layout.specs.declared.error.FormatError.TheVariants.{NoName, BadId, BadField, Overlong, SameName, Memory}
use Rattle.event_layout.specs.declared.field.Field.{Field}
use Rattle.event_layout.specs.declared.layout.Layout.{Layout}
use Rattle.event_layout.specs.FieldLines.{Description, description}
use Rattle.event_layout.specs.Layouts.{line_at, read_lines, described}
use Rattle.event_layout.specs.Lines.{text_lines}
use Rattle.event_layout.specs.Reading.{name_on, id_on}
use Rattle.event_layout.specs.Sizes.{greatest_end}

abbrev pub Fails : FormatError → Option FormatError → Type 0
Fails (Memory _) fault = ⊤
Fails NoName fault = fault ≡ Some NoName
Fails BadId fault = fault ≡ Some BadId
Fails (BadField line) fault = fault ≡ Some (BadField line)
Fails (Overlong line) fault = fault ≡ Some (Overlong line)
Fails (SameName line) fault = fault ≡ Some (SameName line)

-- where there is no fault, a value of which this holds; else the fault; and at any time want of memory
abbrev pub Answers : {T : Type 0} → Result T FormatError → Option FormatError → (T → Type 0) → Type 0
Answers (Ok x) fault P = (fault ≡ None) × P x
Answers (Err e) fault P = Fails e fault

-- whether a set of names has this one
abbrev pub has_name : BTreeSet (List ℕ) → List ℕ → Bool
has_name names name = contains (slice_cmp nat_cmp) names name

-- whether a name isn't empty, and the set has it
abbrev pub is_known : BTreeSet (List ℕ) → List ℕ → Bool
is_known names name = nat_lt 0 (length name) && has_name names name

-- the set has the names of the fields, apart from the empty one, and the size is their greatest end
pub record IsTable (fields : List Field) (names : BTreeSet (List ℕ)) (size : ℕ) : Type 0 where
  pub known : (name : List ℕ) → name ≢ [] → has_name names name ≡ list_any (λ d. bytes_eq d.name name) (map description fields)
  pub covers : size ≡ greatest_end fields

-- a layout of this name and number, whose fields are these
pub record IsMadeOf (name : List ℕ) (id : ℕ) (fields : List Description) (layout : Layout) : Type 0 where
  pub name_is : layout.name ≡ name
  pub id_is : layout.id ≡ id
  pub fields_are : map description layout.fields ≡ fields

-- the layout says what the lines of a text say
abbrev pub IsReadOf : List ℕ → Layout → Type 0
IsReadOf text layout = (name_on (line_at 0 (text_lines text)) ≡ Some layout.name)
    × (id_on (line_at 1 (text_lines text)) ≡ Some layout.id)
    × (map description layout.fields ≡ described (read_lines (drop 3 (text_lines text))))
