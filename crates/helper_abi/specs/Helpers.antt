-- The helpers: which arguments are in range, which bytes have to lie inside a region, and the steps of each.
use Rattle.std.specs.Prelude.{ℕ, pos, ◌^◌, ◌&&◌, Bool, not, cond, nat_lt, int_le, List, Option, None, Some, slice_get, slice_index}
use Rattle.std.specs.Option.{option_and_then}
use Rattle.std.specs.Int.{w64, cast_signed}
use Rattle.bt_core.specs.declared.item.Item.TheVariants as items
use Rattle.bt_core.specs.declared.map.MapDecl.{MapDecl}
use Rattle.bt_core.specs.declared.map.MapId.{MapId}
use Rattle.bt_core.specs.declared.step.ObjectId.TheVariants.{Cpu, Clock, Out}
use Rattle.bt_core.specs.declared.step.Op.TheVariants as ops
use Rattle.bt_core.specs.declared.value.Value.TheVariants.{Str}
use Rattle.bt_core.specs.Interaction.{Interaction, Ended}
use Rattle.bpf_insn.specs.Regions.{Spaces, is_in_frame}
use Rattle.bpf_insn.specs.Machine.{Answer, BadBytes, BadArgument, Helpers}
use Rattle.fmt_text.specs.Arguments.{argument_shapes}
use Rattle.fmt_text.specs.declared.piece.Piece.{Piece}
use Rattle.typed_tree.specs.Scope.{is_agg, is_summed_kind}
use Rattle.helper_abi.specs.declared.helper.Helper.{Helper}
use Rattle.helper_abi.specs.declared.helper.Helper.TheVariants.{Get, Set, Delete, Aggregate, Print, Clear, Zero, Printf, Exit, Cut, ReadStr, ReadAgg}
use Rattle.map_ops.specs.declared.sweep.Sweep.{Sweep}
use Rattle.map_ops.specs.declared.sweep.Sweep.TheVariants as sweeps
use Rattle.helper_abi.specs.Numbers.{helper_at}
use Rattle.helper_abi.specs.Reading.{shape_bytes, shape_of_kind, value_at, values_at, payload_text}
use Rattle.helper_abi.specs.Steps.{wrote, frame_kept, got_into, summed_into}
use Rattle.map_ops.specs.Asking.{tells, swept, printed}
use Rattle.map_ops.specs.Holders.{part}

-- what the helpers of an actor work on: the script's maps and formats by their numbers, the actor, and how many actors there are
pub record Desk : Type 0 where
  pub maps : List MapDecl
  pub formats : List (List Piece)
  pub actor : ℕ
  pub actors : ℕ

-- ---- ranges

-- what has a number of 32 bits in a list
abbrev pub numbered : {A : Type 0} → List A → ℕ → Option A
numbered xs n = cond (nat_lt n (2 ^ 32)) (slice_get xs n) None

abbrev pub map_id : ℕ → MapId
map_id n = record { 0 = n }

-- a map by its number where it gathers numbers, where it does not, or where it gathers them into one number
abbrev pub of_sort : Bool → MapDecl → Option MapDecl
of_sort holds decl = cond holds (Some decl) None

abbrev pub table_map : List MapDecl → ℕ → Option MapDecl
table_map maps n = option_and_then (λ (decl : MapDecl). of_sort (is_agg decl.kind) decl) (numbered maps n)

abbrev pub value_map : List MapDecl → ℕ → Option MapDecl
value_map maps n = option_and_then (λ (decl : MapDecl). of_sort (not (is_agg decl.kind)) decl) (numbered maps n)

abbrev pub summed_map : List MapDecl → ℕ → Option MapDecl
summed_map maps n = option_and_then (λ (decl : MapDecl). of_sort (is_summed_kind decl.kind) decl) (numbered maps n)

-- how many rows are kept, at least 0, and what the values are divided by, at least 1
abbrev pub are_shown : ℕ → ℕ → Bool
are_shown top div = int_le (pos 0) (cast_signed w64 top) && int_le (pos 1) (cast_signed w64 div)

-- an argument in range
abbrev pub in_range : {A : Type 0} → Option A → (A → Interaction Answer) → Interaction Answer
in_range None go = Ended BadArgument
in_range (Some a) go = go a

abbrev pub if_range : Bool → Interaction Answer → Interaction Answer
if_range holds go = cond holds go (Ended BadArgument)

-- what was read at an address whose bytes lie inside a region
abbrev pub with_read : {A : Type 0} → Option A → (A → Interaction Answer) → Interaction Answer
with_read None go = Ended BadBytes
with_read (Some a) go = go a

-- so many bytes at an address lie in the frame
abbrev pub with_room : ℕ → ℕ → Interaction Answer → Interaction Answer
with_room address n go = cond (is_in_frame address n) go (Ended BadBytes)

-- ---- helpers

abbrev pub get : List MapDecl → ℕ → ℕ → ℕ → Spaces → Interaction Answer
get maps m key to s =
    in_range (value_map maps m) (λ decl.
    with_read (values_at s decl.key_shape key) (λ key.
    with_room to (shape_bytes (shape_of_kind decl.kind)) (got_into s (map_id m) key to)))

abbrev pub set : List MapDecl → ℕ → ℕ → ℕ → Spaces → Interaction Answer
set maps m key value s =
    in_range (value_map maps m) (λ decl.
    with_read (values_at s decl.key_shape key) (λ key.
    with_read (value_at s (shape_of_kind decl.kind) value) (λ value.
    frame_kept s (tells (part (map_id m) key) (ops.Set key value)))))

abbrev pub delete : List MapDecl → ℕ → ℕ → Spaces → Interaction Answer
delete maps m key s =
    in_range (value_map maps m) (λ decl.
    with_read (values_at s decl.key_shape key) (λ key. frame_kept s (tells (part (map_id m) key) (ops.Delete key))))

-- a number goes to the actor's own table
abbrev pub aggregate : List MapDecl → ℕ → ℕ → ℕ → ℕ → Spaces → Interaction Answer
aggregate maps actor m key number s =
    in_range (table_map maps m) (λ decl.
    with_read (values_at s decl.key_shape key) (λ key.
    frame_kept s (tells (Cpu actor) (ops.Add (map_id m) key (cast_signed w64 number)))))

-- the number of an aggregation under a key is written at an address
abbrev pub read_agg : List MapDecl → ℕ → ℕ → ℕ → ℕ → Spaces → Interaction Answer
read_agg maps actors m key to s =
    in_range (summed_map maps m) (λ decl.
    with_read (values_at s decl.key_shape key) (λ key.
    with_room to 8 (summed_into s (map_id m) key to actors)))

abbrev pub print : List MapDecl → ℕ → ℕ → ℕ → ℕ → Spaces → Interaction Answer
print maps actors m top div s =
    in_range (numbered maps m) (λ decl.
    if_range (are_shown top div) (frame_kept s (printed decl.kind (map_id m) top (cast_signed w64 div) actors)))

-- every object that holds the map is cleared, or its values are made 0 or empty
abbrev pub sweep_map : List MapDecl → ℕ → Sweep → ℕ → Spaces → Interaction Answer
sweep_map maps actors sweep m s =
    in_range (numbered maps m) (λ decl. frame_kept s (swept sweep decl.kind (map_id m) actors))

abbrev pub printf : List (List Piece) → ℕ → ℕ → Spaces → Interaction Answer
printf formats format address s =
    in_range (numbered formats format) (λ pieces.
    with_read (values_at s (argument_shapes pieces) address) (λ values.
    frame_kept s (tells Out (ops.Emit (items.Printf format values)))))

abbrev pub exit : Spaces → Interaction Answer
exit s = frame_kept s (tells Clock ops.Stop)

abbrev pub cut : ℕ → Spaces → Interaction Answer
cut line s = if_range (nat_lt line (2 ^ 32)) (frame_kept s (tells Out (ops.Emit (items.Cut line))))

-- a string of the payload is written at an address, with no step
abbrev pub read_str : ℕ → ℕ → ℕ → Spaces → Interaction Answer
read_str to place count s = with_room to 64 (Ended (wrote s to (Str (payload_text place count s.payload))))

-- each helper, by R1, R2 and R3
abbrev pub helper_steps : Desk → Helper → ℕ → ℕ → ℕ → Spaces → Interaction Answer
helper_steps d Get a b c s = get d.maps a b c s
helper_steps d Set a b c s = set d.maps a b c s
helper_steps d Delete a b c s = delete d.maps a b s
helper_steps d Aggregate a b c s = aggregate d.maps d.actor a b c s
helper_steps d Print a b c s = print d.maps d.actors a b c s
helper_steps d Clear a b c s = sweep_map d.maps d.actors sweeps.Clear a s
helper_steps d Zero a b c s = sweep_map d.maps d.actors sweeps.Zero a s
helper_steps d Printf a b c s = printf d.formats a b s
helper_steps d Exit a b c s = exit s
helper_steps d Cut a b c s = cut a s
helper_steps d ReadStr a b c s = read_str a b c s
helper_steps d ReadAgg a b c s = read_agg d.maps d.actors a b c s

-- the helper of a number; no other number is in range
abbrev pub helpers : Desk → Helpers
helpers d number args s =
    in_range (helper_at number) (λ helper.
    helper_steps d helper (slice_index args 0) (slice_index args 1) (slice_index args 2) s)
