-- Fields by their names, and tracepoints by their systems and names.
use Rattle.std.specs.Prelude.{◌≡◌, ◌≢◌, ℕ, Bool, ◌&&◌, nat_lt, List, [], length, slice_get, Option, Some, None, find, if◌then◌else◌}
use Rattle.std.specs.Str.{bytes_eq}
use Rattle.event_layout.specs.declared.field.Field.{Field}
use Rattle.event_layout.specs.declared.format.Format.{Format}
use Rattle.event_layout.specs.Names.{tracepoint_name}

-- the first field of this name
abbrev pub field_called : List ℕ → List Field → Option Field
field_called name fields = find (λ f. bytes_eq f.name name) fields

-- the first field of this name; the empty name finds none
abbrev pub field_named : List ℕ → List Field → Option Field
field_named name fields = if nat_lt 0 (length name) then field_called name fields else None

-- the field is one of these, and has this name, which isn't empty
pub record IsFieldNamed (name : List ℕ) (fields : List Field) (f : Field) : Type 0 where
  pub some : name ≢ []
  pub place : ℕ
  pub placed : slice_get fields place ≡ Some f
  pub named : f.name ≡ name

-- how the tracepoint is called: SYSTEM:NAME
abbrev pub full_name : Format → List ℕ
full_name f = tracepoint_name f.system f.layout.name

-- the tracepoint belongs to this system and has this name
pub record IsNamed (f : Format) (system name : List ℕ) : Type 0 where
  pub of_system : f.system ≡ system
  pub called : f.layout.name ≡ name

-- two tracepoints belong to one system and have one name
abbrev pub is_same_tracepoint : Format → Format → Bool
is_same_tracepoint f g = bytes_eq f.system g.system && bytes_eq f.layout.name g.layout.name
