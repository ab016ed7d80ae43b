-- What a read of a map makes.
use Rattle.std.specs.Prelude.{ℕ, List, ◌∷◌, Option, Some, None}
use Rattle.bt_core.specs.declared.map.MapDecl.{MapDecl}
use Rattle.bt_core.specs.declared.map.MapKind.{MapKind}
use Rattle.bt_core.specs.declared.map.MapKind.TheVariants.{Ints, Strs, Aggs}
use Rattle.bt_core.specs.declared.map.Shape.TheVariants.{Int, Str}
use Rattle.typed_tree.specs.Parts.{Made, AggOf, made, parts_in, key_shapes, keyed_parts}

-- what a map was decided to hold, and whole numbers where nothing was decided
abbrev pub kind_held : Option MapDecl → MapKind
kind_held None = Ints
kind_held (Some d) = d.kind

-- by what the map holds: the value under the key, or the number of an aggregation under it
abbrev pub read_made : MapKind → ℕ → List Made → Made
read_made Ints number keys = made Int (keyed_parts number keys Int)
read_made Strs number keys = made Str (keyed_parts number keys Str)
read_made (Aggs kind) number keys = made Int (AggOf number (key_shapes keys) ∷ parts_in keys)
