-- What a typed tree may name, and which parts fit it.
use Rattle.std.specs.Prelude.{ℕ, ℤ, pos, Bool, true, false, not, ◌&&◌, ◌||◌, ◌==◌, ◌^◌, nat_le, int_le, int_lt, nat_lt, List, [], ◌∷◌, length, Option, Some, None, slice_get, if◌then◌else◌}
use Rattle.std.specs.List.{list_all, list_any}
use Rattle.std.specs.Str.{bytes_eq}
use Rattle.bt_core.specs.declared.limits.TheConstants.{KEY_PARTS, LHIST_BUCKETS}
use Rattle.bt_core.specs.contracts.map.AggKindPartialEq.TheImpl as agg_eq
use Rattle.bt_core.specs.declared.map.AggKind.{AggKind}
use Rattle.bt_core.specs.declared.map.AggKind.TheVariants as agg
use Rattle.bt_core.specs.declared.map.MapDecl.{MapDecl}
use Rattle.bt_core.specs.declared.map.MapId.{MapId}
use Rattle.bt_core.specs.declared.map.MapKind.{MapKind}
use Rattle.bt_core.specs.declared.map.MapKind.TheVariants.{Ints, Strs, Aggs}
use Rattle.bt_core.specs.declared.map.Shape.{Shape}
use Rattle.bt_core.specs.declared.map.Shape.TheVariants.{Int, Str}
use Rattle.bt_core.specs.Kinds.{steps_between}
use Rattle.fmt_text.specs.Arguments.{argument_shapes}
use Rattle.fmt_text.specs.declared.piece.Piece.{Piece}
use Rattle.event_layout.specs.declared.field.Field.{Field}
use Rattle.event_layout.specs.declared.field.FieldKind.{FieldKind}
use Rattle.event_layout.specs.declared.field.FieldKind.TheVariants.{Number, Chars, DataLoc, Other}
use Rattle.event_layout.specs.declared.layout.Layout.{Layout}
use Rattle.typed_tree.specs.declared.stmt.Jump.{Jump}
use Rattle.typed_tree.specs.declared.stmt.Jump.TheVariants.{Break, Continue, Exit, Return}
use Rattle.typed_tree.specs.Parts.{TreePart, Constant, Literal, Numeric, Command, FieldOf, VarOf, MapOf, AggOf, Stepped, Prefixed, Joined, Both, Either, Chosen}
use Rattle.typed_tree.specs.Parts.{Assigned, Gathered, Deleted, Printed, Shown, Cleared, Zeroed, Jumped, Looped, Unrolled, Arm, Otherwise, NoOtherwise, Ending}

-- the maps and formats that may be named, by their numbers in the script, the layout of the event, and the types of the variables
pub record Scope : Type 0 where
  pub maps : List (MapId × MapDecl)
  pub formats : List (ℕ × List Piece)
  pub layout : Option Layout
  pub variables : List Shape

-- the first declaration and the first format of a number
abbrev pub decl_of : ℕ → List (MapId × MapDecl) → Option MapDecl
decl_of number [] = None
decl_of number (m ∷ ms) = if m.0.0 == number then Some m.1 else decl_of number ms

abbrev pub format_of : ℕ → List (ℕ × List Piece) → Option (List Piece)
format_of number [] = None
format_of number (f ∷ fs) = if f.0 == number then Some f.1 else format_of number fs

abbrev pub same_shape : Shape → Shape → Bool
same_shape Int Int = true
same_shape Int Str = false
same_shape Str Int = false
same_shape Str Str = true

abbrev pub same_shapes : List Shape → List Shape → Bool
same_shapes [] [] = true
same_shapes [] (t ∷ ts) = false
same_shapes (s ∷ ss) [] = false
same_shapes (s ∷ ss) (t ∷ ts) = same_shape s t && same_shapes ss ts

-- whether two aggregations are one, bounds of linear histograms included
abbrev pub same_agg : AggKind → AggKind → Bool
same_agg a b = agg_eq.ghosts.eq a b

abbrev pub same_kind : MapKind → MapKind → Bool
same_kind Ints Ints = true
same_kind Strs Strs = true
same_kind (Aggs a) (Aggs b) = same_agg a b
same_kind a b = false

-- the kind of a map that holds values of a type
abbrev pub kind_of_shape : Shape → MapKind
kind_of_shape Int = Ints
kind_of_shape Str = Strs

abbrev pub is_agg : MapKind → Bool
is_agg (Aggs kind) = true
is_agg Ints = false
is_agg Strs = false

abbrev pub is_count : AggKind → Bool
is_count agg.Count = true
is_count kind = false

-- an aggregation that is one number, and no histogram
abbrev pub is_number : AggKind → Bool
is_number agg.Hist = false
is_number (agg.Lhist min max step) = false
is_number kind = true

abbrev pub is_summed_kind : MapKind → Bool
is_summed_kind (Aggs kind) = is_number kind
is_summed_kind Ints = false
is_summed_kind Strs = false

-- an aggregation that is a histogram
abbrev pub is_hist : MapKind → Bool
is_hist (Aggs kind) = not (is_number kind)
is_hist Ints = false
is_hist Strs = false

-- the bounds of a linear histogram: the greatest is above the least, and there are at most 1,000 steps of at least 1
abbrev pub is_fine_agg : AggKind → Bool
is_fine_agg (agg.Lhist min max step) = int_lt min max && int_le (pos 1) step && nat_le (steps_between min max step) LHIST_BUCKETS
is_fine_agg kind = true

abbrev pub is_fine_kind : MapKind → Bool
is_fine_kind (Aggs kind) = is_fine_agg kind
is_fine_kind Ints = true
is_fine_kind Strs = true

-- a declaration that a script may have: its kind is fine, and a key has at most four parts
abbrev pub is_fine_decl : MapDecl → Bool
is_fine_decl decl = is_fine_kind decl.kind && nat_le (length decl.key_shape) KEY_PARTS

-- the type of a field that a script can read
abbrev pub shape_of_field : FieldKind → Option Shape
shape_of_field Number = Some Int
shape_of_field Chars = Some Str
shape_of_field DataLoc = Some Str
shape_of_field Other = None

abbrev pub is_shape : Option Shape → Shape → Bool
is_shape None shape = false
is_shape (Some found) shape = same_shape found shape

abbrev pub same_field_kind : FieldKind → FieldKind → Bool
same_field_kind Number Number = true
same_field_kind Chars Chars = true
same_field_kind DataLoc DataLoc = true
same_field_kind Other Other = true
same_field_kind a b = false

abbrev pub same_bool : Bool → Bool → Bool
same_bool true b = b
same_bool false true = false
same_bool false false = true

abbrev pub same_field : Field → Field → Bool
same_field f g = bytes_eq f.name g.name && f.offset == g.offset && f.size == g.size && same_bool f.signed g.signed && same_field_kind f.kind g.kind

abbrev pub has_field : Option Layout → Field → Bool
has_field None field = false
has_field (Some layout) field = list_any (same_field field) layout.fields

-- a map that was declared with this kind and these keys
abbrev pub is_declared : Option MapDecl → MapKind → List Shape → Bool
is_declared None kind keys = false
is_declared (Some decl) kind keys = same_kind decl.kind kind && same_shapes decl.key_shape keys

-- a map that holds values, with these keys
abbrev pub is_shared : Option MapDecl → List Shape → Bool
is_shared None keys = false
is_shared (Some decl) keys = (if is_agg decl.kind then false else true) && same_shapes decl.key_shape keys

-- an aggregation that is one number, with these keys
abbrev pub is_summed : Option MapDecl → List Shape → Bool
is_summed None keys = false
is_summed (Some decl) keys = is_summed_kind decl.kind && same_shapes decl.key_shape keys

abbrev pub is_there : {A : Type 0} → Option A → Bool
is_there None = false
is_there (Some a) = true

abbrev pub takes : Option (List Piece) → List Shape → Bool
takes None shapes = false
takes (Some pieces) shapes = same_shapes (argument_shapes pieces) shapes

-- a jump that may stand anywhere
abbrev pub leaves_body : Jump → Bool
leaves_body Break = false
leaves_body Continue = false
leaves_body Exit = true
leaves_body Return = true

-- the numbers of `print` are whole numbers of the language: how many rows it keeps, and what it divides by, which is at least 1
abbrev pub may_print : ℕ → ℤ → Bool
may_print top div = int_le (pos 1) div && nat_lt top (2 ^ 63)

-- a part names what is there, in its type, and breaks no rule
abbrev pub fits : Scope → TreePart → Bool
fits s (FieldOf field shape) = has_field s.layout field && is_shape (shape_of_field field.kind) shape
fits s (VarOf number shape) = is_shape (slice_get s.variables number) shape
fits s (MapOf number keys shape) = is_declared (decl_of number s.maps) (kind_of_shape shape) keys
fits s (AggOf number keys) = is_summed (decl_of number s.maps) keys
fits s (Gathered number keys kind counts) = is_declared (decl_of number s.maps) (Aggs kind) keys && same_bool counts (is_count kind)
fits s (Deleted number keys) = is_shared (decl_of number s.maps) keys
fits s (Printed format shapes) = takes (format_of format s.formats) shapes
fits s (Shown number top div) = is_there (decl_of number s.maps) && may_print top div
fits s (Cleared number) = is_there (decl_of number s.maps)
fits s (Zeroed number) = is_there (decl_of number s.maps)
fits s (Jumped jump inside) = inside || leaves_body jump
fits s (Unrolled turns line) = nat_le 1 turns && nat_le turns 100
fits s (Constant number) = true
fits s (Literal text) = true
fits s (Numeric builtin) = true
fits s Command = true
fits s (Stepped plus prefix) = true
fits s (Prefixed op) = true
fits s (Joined op) = true
fits s Both = true
fits s Either = true
fits s Chosen = true
fits s (Assigned op) = true
fits s (Looped line) = true
fits s Arm = true
fits s Otherwise = true
fits s NoOtherwise = true
fits s Ending = true

abbrev pub all_fit : Scope → List TreePart → Bool
all_fit scope parts = list_all (fits scope) parts
