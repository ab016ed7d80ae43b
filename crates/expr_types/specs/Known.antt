-- What is known after mentions: what the first of them that decides it has decided.
use Rattle.std.specs.Prelude.{ℕ, ◌==◌, ◌+◌, ◌&&◌, Bool, List, [], ◌∷◌, ◌++◌, map, Option, Some, None, unwrap_or, if◌then◌else◌}
use Rattle.std.specs.List.{list_any}
use Rattle.std.specs.Str.{bytes_eq}
use Rattle.bt_core.specs.declared.map.MapDecl.{MapDecl}
use Rattle.bt_core.specs.declared.map.MapKind.{MapKind}
use Rattle.bt_core.specs.declared.map.MapKind.TheVariants.{Ints, Strs, Aggs}
use Rattle.bt_core.specs.declared.map.Shape.{Shape}
use Rattle.bt_core.specs.declared.map.Shape.TheVariants.{Int, Str}
use Rattle.bt_core.specs.declared.place.Place.{Place}
use Rattle.fmt_text.specs.Deciding.{format_pieces}
use Rattle.event_layout.specs.ByName.{field_named}
use Rattle.event_layout.specs.declared.field.Field.{Field}
use Rattle.event_layout.specs.declared.layout.Layout.{Layout}
use Rattle.typed_tree.specs.Scope.{shape_of_field, kind_of_shape, is_number, is_fine_decl}
use Rattle.expr_types.specs.declared.known.Known.{Known}
use Rattle.expr_types.specs.declared.known.Printed.{Printed}
use Rattle.expr_types.specs.declared.known.Var.{Var}
use Rattle.expr_types.specs.Mentions.{Sort, Whole, Text, OfMap, OfVar, OfField}
use Rattle.expr_types.specs.Mentions.{Mention, Begins, Names, Uses, Reads, Steps, Sets, Gathers, NeedsShared, Deletes, ReadsVar, SetsVar, Args, ReadsField}
use Rattle.expr_types.specs.Mentions.{NeedsWhole, NeedsSame, NeedsShort, NeedsBounds, NeedsTurns, NeedsRows, Prints, Jumps}

-- whether a name is one of these, and the place of the first that is it
abbrev pub has_name : List ℕ → List (List ℕ) → Bool
has_name name names = list_any (λ n. bytes_eq n name) names

abbrev pub place_of : List ℕ → List (List ℕ) → ℕ
place_of name [] = 0
place_of name (n ∷ ns) = if bytes_eq n name then 0 else place_of name ns + 1

-- the first declaration of this name; the type of the first variable of this name
abbrev pub decl_in : List ℕ → List MapDecl → Option MapDecl
decl_in name [] = None
decl_in name (d ∷ ds) = if bytes_eq d.name name then Some d else decl_in name ds

abbrev pub var_in : List ℕ → List Var → Option Shape
var_in name [] = None
var_in name (v ∷ vs) = if bytes_eq v.name name then Some v.shape else var_in name vs

-- whether a call of `printf` is this one, by its format and the format's place; the place of the first that is
abbrev pub is_call : List ℕ → Place → Printed → Bool
is_call format place p = p.place.line == place.line && p.place.column == place.column && bytes_eq p.text format

abbrev pub has_call : List ℕ → Place → List Printed → Bool
has_call format place calls = list_any (is_call format place) calls

abbrev pub call_at : List ℕ → Place → List Printed → ℕ
call_at format place [] = 0
call_at format place (p ∷ ps) = if is_call format place p then 0 else call_at format place ps + 1

-- the type of what is read of a map of a kind; a histogram has none
abbrev pub shape_of_kind : MapKind → Option Shape
shape_of_kind Ints = Some Int
shape_of_kind Strs = Some Str
shape_of_kind (Aggs a) = if is_number a then Some Int else None

abbrev pub decl_shape : Option MapDecl → Option Shape
decl_shape None = None
decl_shape (Some d) = shape_of_kind d.kind

abbrev pub field_shape : Option Field → Option Shape
field_shape None = None
field_shape (Some f) = shape_of_field f.kind

abbrev pub event_field : Option Layout → List ℕ → Option Field
event_field None name = None
event_field (Some layout) name = field_named name layout.fields

-- the type of an expression, where there is one
abbrev pub shape_in : Known → Sort → Option Shape
shape_in k Whole = Some Int
shape_in k Text = Some Str
shape_in k (OfMap name) = decl_shape (decl_in name k.decided)
shape_in k (OfVar name) = var_in name k.vars
shape_in k (OfField name) = field_shape (event_field k.event name)

-- the types of the parts of a key
abbrev pub shapes_in : Known → List Sort → List Shape
shapes_in k keys = map (λ s. unwrap_or (shape_in k s) Int) keys

-- a map's token: a new name gets the next number, and a map that the body has not named yet is added to those that it names
abbrev pub add_name : Known → List ℕ → Known
add_name k name = if has_name name k.names then k else record k { names = k.names ++ name ∷ [] }

abbrev pub add_number : Known → ℕ → Known
add_number k number = if list_any (λ n. n == number) k.named then k else record k { named = k.named ++ number ∷ [] }

abbrev pub with_name : Known → List ℕ → Known
with_name k name = add_number (add_name k name) (place_of name (add_name k name).names)

abbrev pub with_mention : Known → List ℕ → Known
with_mention k name = if has_name name k.mentioned then k else record k { mentioned = k.mentioned ++ name ∷ [] }

-- the first one that is well formed decides
abbrev pub decide_after : Known → MapDecl → Option MapDecl → Known
decide_after k decl None = if is_fine_decl decl then record k { decided = k.decided ++ decl ∷ [] } else k
decide_after k decl (Some first) = k

abbrev pub with_decl : Known → MapDecl → Known
with_decl k decl = decide_after k decl (decl_in decl.name k.decided)

abbrev pub set_after : Known → Var → Option Shape → Known
set_after k var None = record k { vars = k.vars ++ var ∷ [] }
set_after k var (Some first) = k

abbrev pub with_var : Known → Var → Known
with_var k var = set_after k var (var_in var.name k.vars)

-- a call of `printf`: a new one gets the next number
abbrev pub printed : List ℕ → Place → Printed
printed format place = record { place = place; text = format; pieces = unwrap_or (format_pieces format) [] }

abbrev pub add_call : Known → List ℕ → Place → Known
add_call k format place = if has_call format place k.printed then k else record k { printed = k.printed ++ printed format place ∷ [] }

abbrev pub called : Known → ℕ → Known
called k number = record k { calls = k.calls ++ number ∷ [] }

abbrev pub with_call : Known → List ℕ → Place → Known
with_call k format place = called (add_call k format place) (call_at format place (add_call k format place).printed)

-- the kind of a map that a value of this type is assigned to
abbrev pub kind_for : Known → Sort → MapKind
kind_for k value = kind_of_shape (unwrap_or (shape_in k value) Int)

-- a mention of a map that decides its kind and the shape of its keys
abbrev pub decides : Known → List ℕ → MapKind → List Shape → Known
decides k name kind shapes = with_decl (with_mention k name) (record { name = name; kind = kind; key_shape = shapes })

-- a body begins: it has set no variables, and has named no maps and formats
abbrev pub begun : Known → Option Layout → Known
begun k event = record k { event = event; vars = []; named = []; calls = [] }

-- what is known after a mention
abbrev pub learn : Known → Mention → Known
learn k (Begins event) = begun k event
learn k (Names name) = with_name k name
learn k (Uses name) = with_mention k name
learn k (Reads name keys) = decides k name Ints (shapes_in k keys)
learn k (Steps name keys) = decides k name Ints (shapes_in k keys)
learn k (Sets name keys value) = decides k name (kind_for k value) (shapes_in k keys)
learn k (Gathers name keys kind) = decides k name (Aggs kind) (shapes_in k keys)
learn k (NeedsShared name) = k
learn k (Deletes name keys) = decides k name Ints (shapes_in k keys)
learn k (SetsVar name value) = with_var k (record { name = name; shape = unwrap_or (shape_in k value) Int })
learn k (ReadsVar name) = k
learn k Args = k
learn k (ReadsField name) = k
learn k (NeedsWhole value) = k
learn k (NeedsSame left right) = k
learn k (NeedsShort text) = k
learn k (NeedsBounds kind) = k
learn k (NeedsTurns turns) = k
learn k (NeedsRows top div) = k
learn k (Prints format place values) = with_call k format place
learn k (Jumps inside) = k
