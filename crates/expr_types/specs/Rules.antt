-- The rules: what is broken at a mention, by what was known before it.
use Rattle.std.specs.Prelude.{ℕ, ℤ, pos, nat_lt, nat_le, int_le, Bool, false, not, ◌&&◌, ◌||◌, List, [], ◌∷◌, length, Option, Some, None, is_none, if◌then◌else◌}
use Rattle.bt_core.specs.declared.limits.TheConstants.{KEY_PARTS, MAPS, STRING_BYTES}
use Rattle.bt_core.specs.declared.map.MapDecl.{MapDecl}
use Rattle.bt_core.specs.declared.map.MapKind.{MapKind}
use Rattle.bt_core.specs.declared.map.MapKind.TheVariants.{Ints, Aggs}
use Rattle.bt_core.specs.declared.map.Shape.{Shape}
use Rattle.bt_core.specs.declared.map.Shape.TheVariants.{Str}
use Rattle.fmt_text.specs.Deciding.{format_pieces}
use Rattle.event_layout.specs.declared.field.Field.{Field}
use Rattle.typed_tree.specs.Scope.{same_shape, same_shapes, same_kind, is_agg, is_hist, is_fine_agg, takes, shape_of_field}
use Rattle.expr_types.specs.declared.fault.Rule.{Rule}
use Rattle.expr_types.specs.declared.fault.Rule.TheVariants as rule
use Rattle.expr_types.specs.declared.known.Known.{Known}
use Rattle.expr_types.specs.Known.{has_name, decl_in, var_in, event_field, shape_in, shapes_in, kind_for}
use Rattle.expr_types.specs.Mentions.{Mention, Begins, Names, Uses, Reads, Steps, Sets, Gathers, NeedsShared, Deletes, ReadsVar, SetsVar, Args, ReadsField}
use Rattle.expr_types.specs.Mentions.{NeedsWhole, NeedsSame, NeedsShort, NeedsBounds, NeedsTurns, NeedsRows, Prints, Jumps}

-- the first rule whose test holds
abbrev pub first_of_rules : List (Bool × Rule) → Option Rule
first_of_rules [] = None
first_of_rules (r ∷ rs) = if r.0 then Some r.1 else first_of_rules rs

-- one rule, where its test holds
abbrev pub breaks : Bool → Rule → Option Rule
breaks test rule = first_of_rules ((test, rule) ∷ [])

abbrev pub is_agg_in : Option MapDecl → Bool
is_agg_in None = false
is_agg_in (Some d) = is_agg d.kind

-- a map was decided to count numbers in buckets
abbrev pub is_hist_in : Option MapDecl → Bool
is_hist_in None = false
is_hist_in (Some d) = is_hist d.kind

-- a map was decided to hold another kind than this, or to have other keys
abbrev pub is_other_kind : Option MapDecl → MapKind → Bool
is_other_kind None kind = false
is_other_kind (Some d) kind = not (same_kind d.kind kind)

abbrev pub is_other_key : Option MapDecl → List Shape → Bool
is_other_key None shapes = false
is_other_key (Some d) shapes = not (same_shapes d.key_shape shapes)

abbrev pub is_text : Option Shape → Bool
is_text None = false
is_text (Some s) = same_shape s Str

-- two types, of which one is not the other
abbrev pub are_two : Option Shape → Option Shape → Bool
are_two (Some s) (Some t) = not (same_shape s t)
are_two None t = false
are_two (Some s) None = false

-- a field that is there, and that no script reads
abbrev pub is_unreadable : Option Field → Bool
is_unreadable None = false
is_unreadable (Some f) = is_none (shape_of_field f.kind)

abbrev pub is_one_too_many : Known → List ℕ → Bool
is_one_too_many k name = not (has_name name k.mentioned) && nat_le MAPS (length k.mentioned)

abbrev pub has_other_keys : Known → List ℕ → List Shape → Bool
has_other_keys k name shapes = nat_lt KEY_PARTS (length shapes) || is_other_key (decl_in name k.decided) shapes

-- of a read; and of a mention that decides a kind
abbrev pub read_breaks : Known → List ℕ → List Shape → Option Rule
read_breaks k name shapes = first_of_rules
    ((is_one_too_many k name, rule.TooManyMaps)
    ∷ (is_hist_in (decl_in name k.decided), rule.AggregationRead)
    ∷ (has_other_keys k name shapes, rule.OtherKeys) ∷ [])

abbrev pub write_breaks : Known → List ℕ → MapKind → List Shape → Option Rule
write_breaks k name kind shapes = first_of_rules
    ((is_one_too_many k name, rule.TooManyMaps)
    ∷ (is_other_kind (decl_in name k.decided) kind, rule.OtherKind)
    ∷ (has_other_keys k name shapes, rule.OtherKeys) ∷ [])

-- the numbers of `print`, as signed numbers
abbrev pub are_rows : ℤ → ℤ → Bool
are_rows top div = int_le (pos 0) top && int_le (pos 1) div

-- the number of turns of `unroll`
abbrev pub are_turns : ℤ → Bool
are_turns turns = int_le (pos 1) turns && int_le turns (pos 100)

-- the rule that is broken at a mention
abbrev pub broken_at : Known → Mention → Option Rule
broken_at k (Begins event) = None
broken_at k (Names name) = None
broken_at k (Uses name) = breaks (is_one_too_many k name) rule.TooManyMaps
broken_at k (Reads name keys) = read_breaks k name (shapes_in k keys)
broken_at k (Steps name keys) = write_breaks k name Ints (shapes_in k keys)
broken_at k (Sets name keys value) = write_breaks k name (kind_for k value) (shapes_in k keys)
broken_at k (Gathers name keys kind) = write_breaks k name (Aggs kind) (shapes_in k keys)
broken_at k (NeedsShared name) = breaks (is_agg_in (decl_in name k.decided)) rule.WrongType
broken_at k (Deletes name keys) = breaks (has_other_keys k name (shapes_in k keys)) rule.OtherKeys
broken_at k (ReadsVar name) = breaks (is_none (var_in name k.vars)) rule.NotSet
broken_at k (SetsVar name value) = breaks (are_two (var_in name k.vars) (shape_in k value)) rule.WrongType
broken_at k Args = breaks (is_none k.event) rule.NoEvent
broken_at k (ReadsField name) = first_of_rules
    ((is_none (event_field k.event name), rule.UnknownField)
    ∷ (is_unreadable (event_field k.event name), rule.FieldNotReadable) ∷ [])
broken_at k (NeedsWhole value) = breaks (is_text (shape_in k value)) rule.WrongType
broken_at k (NeedsSame left right) = breaks (are_two (shape_in k left) (shape_in k right)) rule.WrongType
broken_at k (NeedsShort text) = breaks (nat_lt STRING_BYTES (length text)) rule.WrongType
broken_at k (NeedsBounds kind) = breaks (not (is_fine_agg kind)) rule.BadBounds
broken_at k (NeedsTurns turns) = breaks (not (are_turns turns)) rule.WrongType
broken_at k (NeedsRows top div) = breaks (not (are_rows top div)) rule.WrongType
broken_at k (Prints format place values) = breaks (not (takes (format_pieces format) (shapes_in k values))) rule.BadFormat
broken_at k (Jumps inside) = breaks (not inside) rule.NoLoop
