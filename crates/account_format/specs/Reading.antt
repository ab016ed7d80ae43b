-- How the reader takes an entry from the front of bytes: a value and the bytes after it, or nothing. These definitions mirror the code for
-- its proofs. Of public contracts the view of `Entries` alone cites them.
use Rattle.std.specs.Prelude.{ℕ, zero, suc, Bool, true, false, nat_le, nat_lt, nat_eq, codes, List, [], ◌∷◌, length, slice_get, Option, Some, None, if◌then◌else◌}
use Rattle.std.specs.Cmp.Lexicographic.{pointwise}
use Rattle.std.specs.Int.{w32, w64, cast_signed}
use Rattle.bt_core.specs.declared.item.Item.TheVariants.{Cut}
use Rattle.bt_core.specs.declared.limits.TheConstants.{KEY_PARTS}
use Rattle.bt_core.specs.declared.map.MapDecl.{MapDecl}
use Rattle.bt_core.specs.declared.map.MapId.{MapId}
use Rattle.bt_core.specs.declared.map.MapKind.{MapKind}
use Rattle.bt_core.specs.declared.map.MapKind.TheVariants.{Ints, Strs, Aggs}
use Rattle.bt_core.specs.declared.map.Shape.{Shape}
use Rattle.bt_core.specs.declared.map.Shape.TheVariants as shapes
use Rattle.bt_core.specs.declared.step.ObjectId.{ObjectId}
use Rattle.bt_core.specs.declared.step.ObjectId.TheVariants.{Shared, Cpu, Clock, Out}
use Rattle.bt_core.specs.declared.step.Op.{Op}
use Rattle.bt_core.specs.declared.step.Op.TheVariants as ops
use Rattle.bt_core.specs.declared.step.Reply.TheVariants.{Done}
use Rattle.bt_core.specs.declared.step.Step.{Step}
use Rattle.bt_core.specs.declared.value.Value.{Value}
use Rattle.bt_core.specs.declared.value.Value.TheVariants.{Int, Str}
use Rattle.bt_core.specs.KeyBytes.{value_bytes, part_of}
use Rattle.bt_core.specs.Ports.{Setting}
use Rattle.bt_core.specs.Text.{short_text}
use Rattle.recordings.specs.Fronts.{◌>>=◌, where_true, bytes_at, number_at}
use Rattle.map_ops.specs.Parts.{is_part_number}
use Rattle.account_format.specs.declared.kind.Kind.{Kind}
use Rattle.account_format.specs.declared.kind.Kind.TheVariants as kinds

-- the magic
unfoldable pub magic_at : List ℕ → Option (List ℕ)
magic_at bytes = bytes_at 8 bytes >>= λ front. where_true (pointwise nat_eq front.0 (codes "BACCT001")) front.1

-- ---- values and keys

-- a string in 64 bytes that spell it
abbrev pub text_at : List ℕ → Option (List ℕ × List ℕ)
text_at bytes = bytes_at 64 bytes >>= λ front. where_true (pointwise nat_eq (value_bytes (Str (short_text front.0))) front.0) (short_text front.0, front.1)

abbrev pub value_at : Shape → List ℕ → Option (Value × List ℕ)
value_at shapes.Int bytes = number_at w64 bytes >>= λ number. Some (Int (cast_signed w64 number.0), number.1)
value_at shapes.Str bytes = text_at bytes >>= λ text. Some (Str text.0, text.1)

-- values of these shapes, one behind the other
abbrev pub values_at : List Shape → List ℕ → Option (List Value × List ℕ)
values_at [] bytes = Some ([], bytes)
values_at (h ∷ hs) bytes = value_at h bytes >>= λ value. values_at hs value.1 >>= λ more. Some (value.0 ∷ more.0, more.1)

unfoldable pub key_at : List Shape → List ℕ → Option (List Value × List ℕ)
key_at hs bytes = if nat_le (length hs) KEY_PARTS then values_at hs bytes else None

-- ---- maps

-- what a map holds under a key, where it is no aggregation
abbrev pub held_shape : MapKind → Option Shape
held_shape Ints = Some shapes.Int
held_shape Strs = Some shapes.Str
held_shape (Aggs kind) = None

abbrev pub is_aggregation : MapKind → Bool
is_aggregation Ints = false
is_aggregation Strs = false
is_aggregation (Aggs kind) = true

abbrev pub map_id : ℕ → MapId
map_id m = record { 0 = m }

-- a map that is there, with its declaration
unfoldable pub map_at : List MapDecl → List ℕ → Option ((MapId × MapDecl) × List ℕ)
map_at maps bytes = number_at w32 bytes >>= λ number. slice_get maps number.0 >>= λ decl. Some ((map_id number.0, decl), number.1)

-- a map that all actors share, with what it holds
unfoldable pub shared_map_at : List MapDecl → List ℕ → Option ((MapId × (MapDecl × Shape)) × List ℕ)
shared_map_at maps bytes = map_at maps bytes >>= λ map. held_shape map.0.1.kind >>= λ shape. Some ((map.0.0, (map.0.1, shape)), map.1)

-- a map that gathers numbers
unfoldable pub table_map_at : List MapDecl → List ℕ → Option ((MapId × MapDecl) × List ℕ)
table_map_at maps bytes = map_at maps bytes >>= λ map. where_true (is_aggregation map.0.1.kind) map

-- ---- operations

-- an operation on an object, and the bytes after it
abbrev pub Asked : Type 0
Asked = Option ((ObjectId × Op) × List ℕ)

-- a shared map, a key of it and what it holds
unfoldable pub keyed_at : List MapDecl → List ℕ → Option ((MapId × (Shape × List Value)) × List ℕ)
keyed_at maps bytes = shared_map_at maps bytes >>= λ map. key_at map.0.1.0.key_shape map.1 >>= λ key. Some ((map.0.0, (map.0.1.1, key.0)), key.1)

unfoldable pub get_at : List MapDecl → List ℕ → Asked
get_at maps bytes = keyed_at maps bytes >>= λ found. Some ((Shared found.0.0 (part_of found.0.1.1), ops.Get found.0.1.1), found.1)

unfoldable pub delete_at : List MapDecl → List ℕ → Asked
delete_at maps bytes = keyed_at maps bytes >>= λ found. Some ((Shared found.0.0 (part_of found.0.1.1), ops.Delete found.0.1.1), found.1)

unfoldable pub set_at : List MapDecl → List ℕ → Asked
set_at maps bytes =
    keyed_at maps bytes
    >>= λ found. value_at found.0.1.0 found.1
    >>= λ value. Some ((Shared found.0.0 (part_of found.0.1.1), ops.Set found.0.1.1 value.0), value.1)

-- a part of a shared map
unfoldable pub part_at : List MapDecl → List ℕ → Option ((MapId × ℕ) × List ℕ)
part_at maps bytes = shared_map_at maps bytes >>= λ map. number_at w32 map.1 >>= λ part. where_true (is_part_number part.0) ((map.0.0, part.0), part.1)

unfoldable pub sweep_at : List MapDecl → Op → List ℕ → Asked
sweep_at maps op bytes = part_at maps bytes >>= λ found. Some ((Shared found.0.0 found.0.1, op), found.1)

unfoldable pub add_at : List MapDecl → ℕ → List ℕ → Asked
add_at maps actor bytes =
    table_map_at maps bytes
    >>= λ map. key_at map.0.1.key_shape map.1
    >>= λ key. number_at w64 key.1
    >>= λ number. Some ((Cpu actor, ops.Add map.0.0 key.0 (cast_signed w64 number.0)), number.1)

-- a map that gathers numbers, and the table of one of so many actors
unfoldable pub table_at : List MapDecl → ℕ → List ℕ → Option ((MapId × ℕ) × List ℕ)
table_at maps actors bytes =
    table_map_at maps bytes >>= λ map. number_at w32 map.1 >>= λ table. where_true (nat_lt table.0 actors) ((map.0.0, table.0), table.1)

unfoldable pub read_at : List MapDecl → ℕ → List ℕ → Asked
read_at maps actors bytes = table_at maps actors bytes >>= λ found. Some ((Cpu found.0.1, ops.Read found.0.0), found.1)

unfoldable pub clear_of_at : List MapDecl → ℕ → List ℕ → Asked
clear_of_at maps actors bytes = table_at maps actors bytes >>= λ found. Some ((Cpu found.0.1, ops.ClearOf found.0.0), found.1)

unfoldable pub zero_of_at : List MapDecl → ℕ → List ℕ → Asked
zero_of_at maps actors bytes = table_at maps actors bytes >>= λ found. Some ((Cpu found.0.1, ops.ZeroOf found.0.0), found.1)

unfoldable pub cross_at : ℕ → List ℕ → Asked
cross_at ticks bytes = number_at w32 bytes >>= λ tick. where_true (nat_lt tick.0 ticks) ((Clock, ops.Cross tick.0), tick.1)

-- ---- entries

abbrev pub kind_of : ℕ → Option Kind
kind_of byte =
    if nat_eq byte 1 then Some kinds.Get
    else (if nat_eq byte 2 then Some kinds.Set
    else (if nat_eq byte 3 then Some kinds.Delete
    else (if nat_eq byte 4 then Some kinds.ReadAll
    else (if nat_eq byte 5 then Some kinds.Clear
    else (if nat_eq byte 6 then Some kinds.Zero
    else (if nat_eq byte 7 then Some kinds.Add
    else (if nat_eq byte 8 then Some kinds.Read
    else (if nat_eq byte 9 then Some kinds.ClearOf
    else (if nat_eq byte 10 then Some kinds.ZeroOf
    else (if nat_eq byte 11 then Some kinds.Cross
    else (if nat_eq byte 12 then Some kinds.Check
    else (if nat_eq byte 13 then Some kinds.Stop
    else (if nat_eq byte 14 then Some kinds.Emit
    else None)))))))))))))

-- what belongs to an operation of this kind of an actor
abbrev pub call_of_kind : Setting → ℕ → Kind → List ℕ → Asked
call_of_kind setting actor kinds.Get bytes = get_at setting.maps bytes
call_of_kind setting actor kinds.Set bytes = set_at setting.maps bytes
call_of_kind setting actor kinds.Delete bytes = delete_at setting.maps bytes
call_of_kind setting actor kinds.ReadAll bytes = sweep_at setting.maps ops.ReadAll bytes
call_of_kind setting actor kinds.Clear bytes = sweep_at setting.maps ops.Clear bytes
call_of_kind setting actor kinds.Zero bytes = sweep_at setting.maps ops.Zero bytes
call_of_kind setting actor kinds.Add bytes = add_at setting.maps actor bytes
call_of_kind setting actor kinds.Read bytes = read_at setting.maps setting.actors bytes
call_of_kind setting actor kinds.ClearOf bytes = clear_of_at setting.maps setting.actors bytes
call_of_kind setting actor kinds.ZeroOf bytes = zero_of_at setting.maps setting.actors bytes
call_of_kind setting actor kinds.Cross bytes = cross_at setting.ticks bytes
call_of_kind setting actor kinds.Check bytes = Some ((Clock, ops.Check), bytes)
call_of_kind setting actor kinds.Stop bytes = Some ((Clock, ops.Stop), bytes)
call_of_kind setting actor kinds.Emit bytes = Some ((Out, ops.Emit (Cut 0)), bytes)

abbrev pub kind_at : List ℕ → Option (Kind × List ℕ)
kind_at [] = None
kind_at (byte ∷ bytes) = kind_of byte >>= λ kind. Some (kind, bytes)

-- a step without its reply
abbrev pub unanswered : ℕ → ℕ → ObjectId → Op → Step
unanswered actor stamp object op = record { actor = actor; object = object; stamp = stamp; op = op; reply = Done }

-- the actor, the stamp and the kind of an entry
unfoldable pub head_at : ℕ → List ℕ → Option ((ℕ × (ℕ × Kind)) × List ℕ)
head_at actors bytes =
    number_at w32 bytes
    >>= λ actor. number_at w64 actor.1
    >>= λ stamp. kind_at stamp.1
    >>= λ kind. where_true (nat_lt actor.0 actors) ((actor.0, (stamp.0, kind.0)), kind.1)

unfoldable pub entry_at : Setting → List ℕ → Option (Step × List ℕ)
entry_at setting bytes =
    head_at setting.actors bytes
    >>= λ head. call_of_kind setting head.0.0 head.0.1.1 head.1
    >>= λ call. Some (unanswered head.0.0 head.0.1.0 call.0.0 call.0.1, call.1)

abbrev pub with_first : Option (Step × List ℕ) → (List ℕ → List Step) → List Step
with_first None more = []
with_first (Some found) more = found.0 ∷ more found.1

abbrev pub behind_first : List ℕ → Option (Step × List ℕ) → (List ℕ → List ℕ) → List ℕ
behind_first bytes None more = bytes
behind_first bytes (Some found) more = more found.1

-- of so many entries those before the first that is wrong
unfoldable pub steps_at : Setting → ℕ → List ℕ → List Step
steps_at setting zero bytes = []
steps_at setting (suc n) bytes = with_first (entry_at setting bytes) (steps_at setting n)

-- the bytes behind them
unfoldable pub behind : Setting → ℕ → List ℕ → List ℕ
behind setting zero bytes = bytes
behind setting (suc n) bytes = behind_first bytes (entry_at setting bytes) (behind setting n)
