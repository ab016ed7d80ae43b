-- The name and the kind of a field, by its declaration.
use Rattle.std.specs.Prelude.{ℕ, Bool, false, ◌==◌, ◌&&◌, not, nat_eq, codes}
use Rattle.std.specs.Prelude.{List, [], ◌∷◌, Option, None, is_some, unwrap_or, if◌then◌else◌}
use Rattle.std.specs.List.{list_any, starts_with, ends_with}
use Rattle.std.specs.Str.{bytes_eq}
use Rattle.bt_core.specs.Bytes.{is_word_byte}
use Rattle.event_layout.specs.declared.field.FieldKind.{FieldKind}
use Rattle.event_layout.specs.declared.field.FieldKind.TheVariants.{Number, Chars, DataLoc, Other}
use Rattle.event_layout.specs.Bytes.{without_end, longest_ending, before_last, words}
use Rattle.event_layout.specs.Kinds.{is_number_size}

-- a declaration without its last bracket group, where it ends in one: what stands before its last `[`
abbrev pub ungrouped : List ℕ → Option (List ℕ)
ungrouped declaration = if ends_with nat_eq declaration (codes "]") then before_last 91 declaration else None

-- what ends in the name
abbrev pub named_part : List ℕ → List ℕ
named_part declaration = unwrap_or (ungrouped declaration) declaration

-- the longest ending of letters and digits
abbrev pub declared_name : List ℕ → List ℕ
declared_name declaration = longest_ending is_word_byte (named_part declaration)

-- the declaration without its name
abbrev pub declared_type : List ℕ → List ℕ
declared_type declaration = without_end is_word_byte (named_part declaration)

abbrev pub is_char_alone : List (List ℕ) → Bool
is_char_alone (word ∷ []) = bytes_eq word (codes "char")
is_char_alone _ = false

-- the words are `char` or `const char`
abbrev pub is_char_words : List (List ℕ) → Bool
is_char_words [] = false
is_char_words (word ∷ others) = if bytes_eq word (codes "const") then is_char_alone others else is_char_alone (word ∷ others)

-- the kind of a field of this type and size; an array is what a bracket group was taken from
unfoldable pub kind_of : List ℕ → Bool → ℕ → FieldKind
kind_of type is_array size =
    if starts_with nat_eq type (codes "__data_loc") then (if list_any (bytes_eq (codes "char")) (words type) && size == 4 then DataLoc else Other)
    else if starts_with nat_eq type (codes "__rel_loc") then Other
    else if is_array then (if is_char_words (words type) && not (list_any (λ b. b == 42) type) then Chars else Other)
    else if is_number_size size then Number
    else Other

abbrev pub declared_kind : List ℕ → ℕ → FieldKind
declared_kind declaration size = kind_of (declared_type declaration) (is_some (ungrouped declaration)) size
