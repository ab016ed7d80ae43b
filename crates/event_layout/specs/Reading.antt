-- What lines say, where they say it: the functions that go with their spellings.
use Rattle.std.specs.Prelude.{◌==◌, ◌&&◌, ℕ, Bool, nat_lt, codes, List, length, Option, Some, None, if◌then◌else◌}
use Rattle.std.specs.List.{list_all}
use Rattle.bt_core.specs.Bytes.{is_word_byte}
use Rattle.event_layout.specs.Bytes.{is_blank, without_front, cut_at, after, labelled, number_in, flag_in}
use Rattle.event_layout.specs.Declarations.{declared_name, declared_kind}
use Rattle.event_layout.specs.FieldLines.{Description}

infixl 10 ◌>>=◌
abbrev pub ◌>>=◌ : {A B : Type 0} → Option A → (A → Option B) → Option B
None >>= f = None
(Some x) >>= f = f x

abbrev pub word_in : List ℕ → Option (List ℕ)
word_in bytes = if nat_lt 0 (length bytes) && list_all is_word_byte bytes then Some bytes else None

-- the name that line 1 spells
unfoldable pub name_on : List ℕ → Option (List ℕ)
name_on line = do
  rest ← after (codes "name:") line
  word_in (without_front is_blank rest)

-- the number that line 2 spells
unfoldable pub id_on : List ℕ → Option ℕ
id_on line = do
  rest ← after (codes "ID:") line
  number_in 65535 (without_front is_blank rest)

-- the number that stands after a label
unfoldable pub number_after : List ℕ → List ℕ → Option ℕ
number_after label part = do
  digits ← labelled label part
  number_in 4294967295 digits

-- the flag that stands after a label
unfoldable pub flag_after : List ℕ → List ℕ → Option Bool
flag_after label part = do
  flag ← labelled label part
  flag_in flag

-- the field that a line describes, if it is a field line
unfoldable pub field_on : List ℕ → Option Description
field_on line = do
  first ← cut_at 59 line
  declaration ← labelled (codes "field:") first.0
  second ← cut_at 59 first.1
  offset ← number_after (codes "offset:") second.0
  third ← cut_at 59 second.1
  size ← number_after (codes "size:") third.0
  fourth ← cut_at 59 third.1
  signed ← flag_after (codes "signed:") fourth.0
  if length fourth.1 == 0
      then Some (record { name = declared_name declaration; offset = offset; size = size; signed = signed; kind = declared_kind declaration size })
      else None
