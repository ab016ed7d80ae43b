-- Values in bytes.
use Rattle.std.proofs.Common.{◌≡◌, ℕ, suc, ◌+◌, ◌-◌, ◌*◌, ◌<◌, ◌≤◌, max, List, [], ◌∷◌, ◌++◌, append_assoc, length, get_or, take, drop, Bool, true, Option, Some, None, refl, sym, ap, ◌∙◌, arith}
use Rattle.std.specs.Prelude.{IsTrue, IsSomeAnd, nat_le, if◌then◌else◌}
use Rattle.std.proofs.lemmas.Bool.Decides.{nat_tests}
use Rattle.std.proofs.lemmas.Bool.{le-leb}
use Rattle.std.proofs.lemmas.List.{take_all, at_drop_more, at_drop_all, append-nil}
use Rattle.std.specs.Option.{option_map}
use Rattle.bt_core.specs.declared.map.MapDecl.{MapDecl}
use Rattle.bt_core.specs.declared.map.MapKind.{MapKind}
use Rattle.bt_core.specs.declared.map.MapKind.TheVariants.{Ints, Strs, Aggs}
use Rattle.bt_core.specs.declared.map.Shape.{Shape}
use Rattle.bt_core.specs.declared.map.Shape.TheVariants as shapes
use Rattle.bt_core.specs.declared.value.Value.{Value}
use Rattle.bt_core.specs.declared.value.Value.TheVariants.{Int, Str}
use Rattle.bt_core.specs.Kinds.{HasShape, IsOfShape, IsOfKind}
use Rattle.bt_core.specs.Text.{short_text}
use Rattle.fmt_text.specs.Arguments.{argument_shapes, piece_shapes}
use Rattle.fmt_text.specs.declared.piece.Piece.{Piece}
use Rattle.bt_core.specs.declared.limits.TheConstants.{FRAME_BYTES}
use Rattle.bpf_insn.specs.declared.address.TheConstants.{CONTEXT, PAYLOAD, FRAME, CONTEXT_BYTES}
use Rattle.bpf_insn.specs.Regions.{Spaces, place_in, bytes_in, is_in_frame}
use Rattle.helper_abi.specs.Reading.{shape_bytes, bytes_of_shapes, value_in, values_in, bytes_at, values_at, shape_of_kind, payload_text}
use Rattle.helper_abi.specs.Writing.{room_of}

value_in-shaped : (h : Shape) (bytes : List ℕ) → IsOfShape h (value_in h bytes)
value_in-shaped shapes.Int bytes = tt
value_in-shaped shapes.Str bytes = tt

-- what is read has its shapes
pub values_in-shaped : (hs : List Shape) (bytes : List ℕ) → HasShape hs (values_in hs bytes)
values_in-shaped [] bytes = tt
values_in-shaped (h ∷ hs) bytes = (value_in-shaped h (take (shape_bytes h) bytes), values_in-shaped hs (drop (shape_bytes h) bytes))

-- each value has at least 8 bytes
some_bytes : (h : Shape) → 8 ≤ shape_bytes h
some_bytes shapes.Int = omega arith
some_bytes shapes.Str = omega arith

pub many_bytes : (hs : List Shape) → 8 * length hs ≤ bytes_of_shapes hs
many_bytes [] = omega arith
many_bytes (h ∷ hs) = omega (arith, some_bytes h, many_bytes hs)

-- more bytes than a region has lie in none
place_none : (base size address n : ℕ) → size < n → place_in base size address n ≡ None
place_none base size address n h = grind (arith, nat_tests)

bytes_none : (s : Spaces) (address n : ℕ) → CONTEXT_BYTES < n → length s.payload < n → FRAME_BYTES < n → bytes_in s address n ≡ None
bytes_none s address n c p f =
    rw (place_none CONTEXT CONTEXT_BYTES address n c, place_none PAYLOAD (length s.payload) address n p, place_none FRAME FRAME_BYTES address n f) refl

some_at : (s : Spaces) (address n : ℕ) → 1 ≤ n → bytes_at s address n ≡ bytes_in s address n
some_at s address n h = grind (arith, nat_tests)

pub too_many : (s : Spaces) (address : ℕ) (hs : List Shape) → max (length s.payload) FRAME_BYTES < length hs → bytes_at s address (bytes_of_shapes hs) ≡ None
too_many s address hs h =
    let many = many_bytes hs in
    some_at s address (bytes_of_shapes hs) (omega arith) ∙ bytes_none s address (bytes_of_shapes hs) (omega arith) (omega arith) (omega arith)

pub HasShape-length : (hs : List Shape) (vs : List Value) → HasShape hs vs → length vs ≡ length hs
HasShape-length [] [] h = refl
HasShape-length [] (v ∷ vs) h = absurd h
HasShape-length (s ∷ hs) [] h = absurd h
HasShape-length (s ∷ hs) (v ∷ vs) h = ap suc (HasShape-length hs vs h.1)

-- a value that a part of a map gives has the bytes that the map's values have
kind_room : (kind : MapKind) (value : Value) (to : ℕ) → IsOfKind kind value → IsTrue (is_in_frame to (shape_bytes (shape_of_kind kind))) → IsTrue (is_in_frame to (room_of value))
kind_room Ints (Int n) to h room = room
kind_room Ints (Str s) to h room = absurd h
kind_room Strs (Int n) to h room = absurd h
kind_room Strs (Str s) to h room = room
kind_room (Aggs kind) (Int n) to h room = absurd h
kind_room (Aggs kind) (Str s) to h room = absurd h

pub served_room : (o : Option MapDecl) (value : Value) (to : ℕ) → IsSomeAnd o (λ decl. IsOfKind decl.kind value) → IsSomeAnd o (λ decl. IsTrue (is_in_frame to (shape_bytes (shape_of_kind decl.kind)))) → IsTrue (is_in_frame to (room_of value))
served_room None value to h room = absurd h
served_room (Some decl) value to h room = kind_room decl.kind value to h room

-- the value of one shape
pub one_read : (s : Spaces) (h : Shape) (address : ℕ) (bytes : List ℕ) → bytes_in s address (shape_bytes h) ≡ Some bytes → length bytes ≡ shape_bytes h
    → values_at s (h ∷ []) address ≡ Some (value_in h bytes ∷ [])
one_read s shapes.Int address bytes read long = ap (option_map (values_in (shapes.Int ∷ []))) read
    ∙ ap (λ all. Some (value_in shapes.Int all ∷ [])) (take_all 8 bytes (omega (arith, long)))
one_read s shapes.Str address bytes read long = ap (option_map (values_in (shapes.Str ∷ []))) read
    ∙ ap (λ all. Some (value_in shapes.Str all ∷ [])) (take_all 64 bytes (omega (arith, long)))

pub none_read : (s : Spaces) (h : Shape) (address : ℕ) → bytes_in s address (shape_bytes h) ≡ None → values_at s (h ∷ []) address ≡ None
none_read s shapes.Int address read = ap (option_map (values_in (shapes.Int ∷ []))) read
none_read s shapes.Str address read = ap (option_map (values_in (shapes.Str ∷ []))) read

-- one piece further: it wants an argument of a shape, or none
pub wants_one : (pieces : List Piece) (i : ℕ) (p : Piece) (h : Shape) → i < length pieces → p ≡ get_or pieces i p → piece_shapes p ≡ h ∷ [] → argument_shapes (drop i pieces) ≡ h ∷ argument_shapes (drop (i + 1) pieces)
wants_one pieces i p h below is wants =
    at_drop_more argument_shapes pieces i p below ∙ ap (λ (q : Piece). argument_shapes (q ∷ drop (i + 1) pieces)) (sym is) ∙ ap (λ (hs : List Shape). hs ++ argument_shapes (drop (i + 1) pieces)) wants

pub wants_none : (pieces : List Piece) (i : ℕ) (p : Piece) → i < length pieces → p ≡ get_or pieces i p → piece_shapes p ≡ [] → argument_shapes (drop i pieces) ≡ argument_shapes (drop (i + 1) pieces)
wants_none pieces i p below is wants =
    at_drop_more argument_shapes pieces i p below ∙ ap (λ (q : Piece). argument_shapes (q ∷ drop (i + 1) pieces)) (sym is) ∙ ap (λ (hs : List Shape). hs ++ argument_shapes (drop (i + 1) pieces)) wants

pub wants_no_more : (pieces : List Piece) (i : ℕ) → length pieces ≤ i → argument_shapes (drop i pieces) ≡ []
wants_no_more pieces i past = at_drop_all argument_shapes pieces i past

-- one value further
pub one_more : (vs all : List Value) (hs ts : List Shape) (h : Shape) (n : ℕ) (front rest back : List ℕ) (v : Value) → hs ≡ h ∷ ts → n ≡ shape_bytes h → front ≡ take n rest → back ≡ drop n rest → v ≡ value_in h front → vs ++ values_in hs rest ≡ all → (vs ++ v ∷ []) ++ values_in ts back ≡ all
one_more vs all hs ts h n front rest back v is bytes first others value same =
    let one : v ≡ value_in h (take (shape_bytes h) rest) = value ∙ ap (value_in h) (first ∙ ap (λ (m : ℕ). take m rest) bytes) in
    let more : values_in ts back ≡ values_in ts (drop (shape_bytes h) rest) = ap (values_in ts) (others ∙ ap (λ (m : ℕ). drop m rest) bytes) in
    append_assoc vs (v ∷ []) (values_in ts back)
    ∙ ap (λ (l : List Value). vs ++ v ∷ l) more
    ∙ ap (λ (w : Value). vs ++ w ∷ values_in ts (drop (shape_bytes h) rest)) one
    ∙ ap (λ (gs : List Shape). vs ++ values_in gs rest) (sym is)
    ∙ same

pub bytes_further : (hs ts : List Shape) (h : Shape) (n m k : ℕ) → hs ≡ h ∷ ts → n ≡ shape_bytes h → m ≡ bytes_of_shapes hs → k + n ≡ m → k ≡ bytes_of_shapes ts
bytes_further hs ts h n m k is bytes long further =
    let all : m ≡ shape_bytes h + bytes_of_shapes ts = long ∙ ap bytes_of_shapes is in
    omega (arith, all, bytes, further)

pub enough_bytes : (hs ts : List Shape) (h : Shape) (n m : ℕ) → hs ≡ h ∷ ts → n ≡ shape_bytes h → m ≡ bytes_of_shapes hs → n ≤ m
enough_bytes hs ts h n m is bytes long =
    let all : m ≡ shape_bytes h + bytes_of_shapes ts = long ∙ ap bytes_of_shapes is in
    omega (arith, all, bytes)

pub no_more : (vs all : List Value) (hs : List Shape) (rest : List ℕ) → hs ≡ [] → vs ++ values_in hs rest ≡ all → vs ≡ all
no_more vs all hs rest is same = sym (append-nil vs) ∙ ap (λ (gs : List Shape). vs ++ values_in gs rest) (sym is) ∙ same

-- the string of bytes that lie in the payload
pub inside_text : (place count : ℕ) (payload : List ℕ) → place ≤ length payload → count ≤ length payload - place → short_text (take (place + count - place) (drop place payload)) ≡ payload_text place count payload
inside_text place count payload from to =
    let long : place + count - place ≡ count = omega arith in
    let holds : nat_le (place + count) (length payload) ≡ true = le-leb (place + count) (length payload) (omega arith) in
    ap (λ (n : ℕ). short_text (take n (drop place payload))) long
    ∙ ap (λ (b : Bool). short_text (if b then take count (drop place payload) else [])) (sym holds)

-- a list of one
pub one_of : {A : Type 0} (xs : List A) (d : A) → 1 ≤ length xs → length xs < 2 → xs ≡ get_or xs 0 d ∷ []
one_of [] d least most = absurd (omega arith)
one_of (x ∷ []) d least most = refl
one_of (x ∷ y ∷ zs) d least most = absurd (omega arith)

pub some_not_none : {A B : Type 0} (o : Option A) (a : A) → o ≡ Some a → o ≡ None → B
some_not_none o a some none = cc
