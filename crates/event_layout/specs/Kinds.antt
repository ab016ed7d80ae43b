-- Kinds of fields and the sizes that they have.
use Rattle.std.specs.Prelude.{ℕ, Bool, true, ◌==◌, ◌||◌}
use Rattle.event_layout.specs.declared.field.FieldKind.{FieldKind}
use Rattle.event_layout.specs.declared.field.FieldKind.TheVariants.{Number, Chars, DataLoc, Other}

-- whether a number may have this many bytes
abbrev pub is_number_size : ℕ → Bool
is_number_size size = size == 1 || size == 2 || size == 4 || size == 8

-- whether a field of this kind may have this many bytes
abbrev pub fits_kind : FieldKind → ℕ → Bool
fits_kind Number size = is_number_size size
fits_kind DataLoc size = size == 4
fits_kind Chars size = true
fits_kind Other size = true
