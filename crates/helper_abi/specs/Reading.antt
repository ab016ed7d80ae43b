-- The values that helpers read, and the bytes that they write.
use Rattle.std.specs.Prelude.{ℕ, ◌+◌, nat_eq, nat_le, cond, List, [], ◌∷◌, take, drop, length, Option, Some, if◌then◌else◌}
use Rattle.std.specs.Option.{option_map}
use Rattle.std.specs.Int.{w64, cast_signed, from_le_bytes}
use Rattle.bt_core.specs.declared.map.MapKind.{MapKind}
use Rattle.bt_core.specs.declared.map.MapKind.TheVariants.{Ints, Strs, Aggs}
use Rattle.bt_core.specs.declared.map.Shape.{Shape}
use Rattle.bt_core.specs.declared.map.Shape.TheVariants as shapes
use Rattle.bt_core.specs.declared.value.Value.{Value}
use Rattle.bt_core.specs.declared.value.Value.TheVariants.{Int, Str}
use Rattle.bt_core.specs.Text.{short_text}
use Rattle.bpf_insn.specs.Regions.{Spaces, bytes_in}

-- a number has eight bytes, and a string 64
abbrev pub shape_bytes : Shape → ℕ
shape_bytes shapes.Int = 8
shape_bytes shapes.Str = 64

abbrev pub bytes_of_shapes : List Shape → ℕ
bytes_of_shapes [] = 0
bytes_of_shapes (h ∷ hs) = shape_bytes h + bytes_of_shapes hs

-- the value in its bytes: of a number the lowest first, and of a string those before the first zero, at most 63
abbrev pub value_in : Shape → List ℕ → Value
value_in shapes.Int bytes = Int (cast_signed w64 (from_le_bytes w64 bytes))
value_in shapes.Str bytes = Str (short_text bytes)

-- values one behind the other
abbrev pub values_in : List Shape → List ℕ → List Value
values_in [] bytes = []
values_in (h ∷ hs) bytes = value_in h (take (shape_bytes h) bytes) ∷ values_in hs (drop (shape_bytes h) bytes)

-- so many bytes at an address, where they lie wholly inside one region; none are anywhere
abbrev pub bytes_at : Spaces → ℕ → ℕ → Option (List ℕ)
bytes_at s address n = cond (nat_eq n 0) (Some []) (bytes_in s address n)

-- the values at an address, where their bytes lie wholly inside one region
abbrev pub values_at : Spaces → List Shape → ℕ → Option (List Value)
values_at s hs address = option_map (values_in hs) (bytes_at s address (bytes_of_shapes hs))

abbrev pub value_at : Spaces → Shape → ℕ → Option Value
value_at s h address = option_map (value_in h) (bytes_in s address (shape_bytes h))

-- what a map holds under a key that is no aggregation
abbrev pub shape_of_kind : MapKind → Shape
shape_of_kind Strs = shapes.Str
shape_of_kind Ints = shapes.Int
shape_of_kind (Aggs kind) = shapes.Int

-- the string in so many bytes of a payload; the empty one where they do not all lie in it
abbrev pub payload_text : ℕ → ℕ → List ℕ → List ℕ
payload_text place count payload = short_text (if nat_le (place + count) (length payload) then take count (drop place payload) else [])
