-- The size of a layout.
use Rattle.std.specs.Prelude.{ℕ, ◌+◌, max, List, [], ◌∷◌}
use Rattle.event_layout.specs.declared.field.Field.{Field}

-- where a field ends
abbrev pub end_of : Field → ℕ
end_of f = f.offset + f.size

-- the greatest end of the fields, and 0 without fields
abbrev pub greatest_end : List Field → ℕ
greatest_end [] = 0
greatest_end (f ∷ fs) = max (end_of f) (greatest_end fs)
