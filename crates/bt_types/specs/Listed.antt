-- Which maps and which calls of `printf` a typed body lists.
use Rattle.std.specs.Prelude.{◌≡◌, ℕ, List, Option, slice_get}
use Rattle.std.specs.List.{filter_map}
use Rattle.std.specs.Option.{option_map}
use Rattle.bt_core.specs.declared.map.MapDecl.{MapDecl}
use Rattle.bt_core.specs.declared.map.MapId.{MapId}
use Rattle.fmt_text.specs.declared.piece.Piece.{Piece}
use Rattle.typed_tree.specs.declared.body.TypedBody.{TypedBody}
use Rattle.expr_types.specs.declared.known.Known.{Known}

-- the maps of a script that have these numbers, each with its number
abbrev pub map_at : List MapDecl → ℕ → Option (MapId × MapDecl)
map_at maps n = option_map (λ (d : MapDecl). (record { 0 = n }, d)) (slice_get maps n)

abbrev pub maps_at : List MapDecl → List ℕ → List (MapId × MapDecl)
maps_at maps named = filter_map (map_at maps) named

-- the pieces of the formats of a script's calls that have these numbers, each with its number
abbrev pub format_at : List (List Piece) → ℕ → Option (ℕ × List Piece)
format_at formats n = option_map (λ (pieces : List Piece). (n, pieces)) (slice_get formats n)

abbrev pub formats_at : List (List Piece) → List ℕ → List (ℕ × List Piece)
formats_at formats calls = filter_map (format_at formats) calls

-- Of a script's maps and formats a body lists those that it has named where so much is known at its end: the maps in the order in which it first
-- named them, each declared as in the whole script, and the formats of its calls in their order.
pub record IsListed (maps : List MapDecl) (formats : List (List Piece)) (k : Known) (body : TypedBody) : Type 0 where
  pub maps_named : body.maps ≡ maps_at maps k.named
  pub formats_called : body.formats ≡ formats_at formats k.calls
