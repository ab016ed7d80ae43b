-- The helpers serve what is checked: a call that finds what it wants is answered, and keeps the count of turns.
use Rattle.std.proofs.Common.{◌≡◌, ℕ, suc, ◌+◌, ◌-◌, ◌≤◌, List, [], ◌∷◌, ◌++◌, length, take, drop, refl, sym, ap, ◌∙◌, subst, arith, Option, Some, None, Bool, true, false}
use Rattle.std.specs.Prelude.{◌&&◌, ◌^◌, not, slice_get, cond, nat_eq, nat_lt, nat_le, is_some, if◌then◌else◌, IsSomeAnd, unwrap_or, replicate, option_and_then, option_map}
use Rattle.std.specs.Int.{w64, cast_signed, to_le_bytes}
use Rattle.std.specs.List.{take_while}
use Rattle.std.proofs.lemmas.Bool.{leb-true, and_parts}
use Rattle.std.proofs.lemmas.List.{length-append, length-replicate, length-take}
use Rattle.std.proofs.lemmas.List.Sums.{take_while-cons}
use Rattle.bt_core.specs.declared.limits.TheConstants.{FRAME_BYTES}
use Rattle.bt_core.specs.declared.map.MapDecl.{MapDecl}
use Rattle.bt_core.specs.declared.map.MapKind.{MapKind}
use Rattle.bt_core.specs.declared.map.MapKind.TheVariants.{Ints, Strs, Aggs}
use Rattle.bt_core.specs.declared.map.Shape.{Shape}
use Rattle.bt_core.specs.declared.step.ObjectId.{ObjectId}
use Rattle.bt_core.specs.declared.step.Op.{Op}
use Rattle.bt_core.specs.declared.step.Op.TheVariants as ops
use Rattle.bt_core.specs.declared.step.ObjectId.TheVariants.{Cpu, Clock, Out}
use Rattle.bt_core.specs.declared.item.Item.TheVariants as items
use Rattle.bt_core.specs.declared.step.Reply.{Reply}
use Rattle.bt_core.specs.declared.step.Reply.TheVariants as replies
use Rattle.bt_core.specs.declared.value.Value.{Value}
use Rattle.bt_core.specs.declared.value.Value.TheVariants.{Int, Str}
use Rattle.bt_core.specs.Interaction.{Call as Asked, Interaction, Ended, Asks}
use Rattle.bt_core.specs.KeyBytes.{value_bytes}
use Rattle.bt_core.specs.Kinds.{IsOfKind}
use Rattle.bt_core.specs.Ports.{IsSharedReply}
use Rattle.bt_core.specs.Text.{short_text, is_text_byte}
use Rattle.step_list.specs.HeldReplies.{IsHeldValue, IsHeldReply}
use Rattle.bpf_insn.specs.declared.address.TheConstants.{FRAME}
use Rattle.bpf_insn.specs.Regions.{Spaces, bytes_in, is_in_frame, written}
use Rattle.bpf_insn.specs.Machine.{Answer, BadBytes, BadArgument, reg_of}
use Rattle.fmt_text.specs.Arguments.{argument_shapes}
use Rattle.fmt_text.specs.declared.piece.Piece.{Piece}
use Rattle.typed_tree.specs.declared.script.Typed.{Typed}
use Rattle.typed_tree.specs.Scope.{is_agg}
use Rattle.map_ops.specs.Values.{value_of}
use Rattle.map_ops.specs.Holders.{part}
use Rattle.map_ops.specs.declared.sweep.Sweep.{Sweep}
use Rattle.map_ops.specs.declared.sweep.Sweep.TheVariants as sweeping
use Rattle.helper_abi.specs.declared.helper.Helper.{Helper}
use Rattle.helper_abi.specs.declared.helper.Helper.TheVariants.{Get, Set, Delete, Aggregate, Print, Clear, Zero, Printf, Exit, Cut, ReadStr, ReadAgg}
use Rattle.helper_abi.specs.Numbers.{helper_at}
use Rattle.helper_abi.specs.Reading.{shape_bytes, bytes_of_shapes, value_in, values_in, values_at, value_at, shape_of_kind, payload_text}
use Rattle.helper_abi.specs.Steps.{wrote, frame_kept, got_into, summed_into}
use Rattle.helper_abi.specs.Helpers.{Desk, numbered, map_id, of_sort, table_map, value_map, summed_map, are_shown, in_range, if_range, with_read, with_room, helper_steps, helpers}
use Rattle.helper_abi.specs.Helpers as does
use Rattle.map_ops.specs.Asking as asking
use Rattle.helper_abi.specs.Served.{desk_of}
use Rattle.bpf_check.specs.declared.known.Known.{Known}
use Rattle.bpf_check.specs.declared.known.Known.TheVariants.{Unset, Num, Const}
use Rattle.bpf_check.specs.declared.known.Seen.{Seen}
use Rattle.bpf_check.specs.Sheet.{Sheet, sheet_of}
use Rattle.bpf_check.specs.States.{known_of}
use Rattle.bpf_check.specs.Reading.{number_in, lies_in, may_store}
use Rattle.bpf_check.specs.Calls.{in_frame, in_results, known_at, known_value_map, known_table_map, known_summed_map, is_key, held_bytes, get_fits, set_fits, delete_fits, add_fits, sum_fits, limits_fit, printf_fits, is_line, helper_fits, known_helper_fits}
use Rattle.bpf_check.proofs.Going.{bind_some}
use Rattle.bt_core.specs.Same.{Yields}
use Rattle.check_laws.specs.Safe.{CanReply}
use Rattle.check_laws.proofs.Holding.{HoldsKnown, Holds, Counts, GivesWell, HelpersServe}
use Rattle.check_laws.proofs.Sound.{Yields-then}
use Rattle.check_laws.proofs.Insns.{place_some, IsThere, or_second, part_there, written_long, store_keeps}

-- ---- what registers hold

-- the argument that is passed for a register
abbrev passed : Option ℕ → ℕ
passed o = unwrap_or o 0

finds : {A : Type 0} (f : ℕ → Option A) (k : Known) (x : A) (o : Option ℕ) → option_and_then f (number_in k) ≡ Some x → HoldsKnown k o → f (passed o) ≡ Some x
finds f Unset x o e h = absurd (cc)
finds f Num x o e h = absurd (cc)
finds f (Const m) x o e h = ap (λ (p : Option ℕ). f (passed p)) h ∙ e

frame_is : (n : ℕ) (k : Known) (o : Option ℕ) → in_frame n (number_in k) ≡ true → HoldsKnown k o → lies_in FRAME FRAME_BYTES (passed o) n ≡ true
frame_is n Unset o e h = absurd (cc)
frame_is n Num o e h = absurd (cc)
frame_is n (Const m) o e h = ap (λ (p : Option ℕ). lies_in FRAME FRAME_BYTES (passed p) n) h ∙ e

results_is : (n : ℕ) (k : Known) (o : Option ℕ) → in_results n (number_in k) ≡ true → HoldsKnown k o → may_store (passed o) n ≡ true
results_is n Unset o e h = absurd (cc)
results_is n Num o e h = absurd (cc)
results_is n (Const m) o e h = ap (λ (p : Option ℕ). may_store (passed p) n) h ∙ e

line_is : (k : Known) (o : Option ℕ) → is_line (number_in k) ≡ true → HoldsKnown k o → nat_lt (passed o) (2 ^ 32) ≡ true
line_is Unset o e h = absurd (cc)
line_is Num o e h = absurd (cc)
line_is (Const m) o e h = ap (λ (p : Option ℕ). nat_lt (passed p) (2 ^ 32)) h ∙ e

limits_are : (k k' : Known) (o o' : Option ℕ) → limits_fit (number_in k) (number_in k') ≡ true → HoldsKnown k o → HoldsKnown k' o' → are_shown (passed o) (passed o') ≡ true
limits_are Unset k' o o' e h g = absurd (cc)
limits_are Num k' o o' e h g = absurd (cc)
limits_are (Const m) Unset o o' e h g = absurd (cc)
limits_are (Const m) Num o o' e h g = absurd (cc)
limits_are (Const m) (Const n) o o' e h g = ap (λ (p : Option ℕ). are_shown (passed p) (passed o')) h ∙ ap (λ (p : Option ℕ). are_shown m (passed p)) g ∙ e

there_is : {A : Type 0} (o : Option A) → is_some o ≡ true → (x : A) × (o ≡ Some x)
there_is None e = absurd (cc)
there_is (Some x) e = (x, refl)

-- ---- maps

cond_some : {A : Type 0} (b : Bool) (o : Option A) (x : A) → cond b o None ≡ Some x → o ≡ Some x
cond_some true o x e = e
cond_some false o x e = absurd (cc)

-- a map of whole numbers or strings stands at its number
declared_at : (maps : List MapDecl) (n : ℕ) (decl : MapDecl) → value_map maps n ≡ Some decl → slice_get maps n ≡ Some decl
declared_at maps n decl e =
    let p = bind_some (numbered maps n) (λ (d : MapDecl). of_sort (not (is_agg d.kind)) d) decl e in
    cond_some (nat_lt n (2 ^ 32)) (slice_get maps n) p.0 p.1 ∙ cond_some (not (is_agg p.0.kind)) (Some p.0) decl p.2

padded_long : (s : List ℕ) → length s ≤ 63 → length (s ++ replicate (64 - length s) 0) ≡ 64
padded_long s short = omega (arith, short, length-append s (replicate (64 - length s) 0), length-replicate {A = ℕ} (64 - length s) 0)

-- a value that a map holds has the bytes of its kind
value_long : (kind : MapKind) (v : Value) → IsOfKind kind v → IsHeldValue v → length (value_bytes v) ≡ shape_bytes (shape_of_kind kind)
value_long Ints (Int n) k held = refl
value_long Ints (Str s) k held = absurd k
value_long Strs (Int n) k held = absurd k
value_long Strs (Str s) k held = padded_long s held.0.short
value_long (Aggs kind) (Int n) k held = absurd k
value_long (Aggs kind) (Str s) k held = absurd k

while_length : (p : ℕ → Bool) (xs : List ℕ) → length (take_while p xs) ≤ length xs
while_length p [] = omega arith
while_length p (x ∷ xs) = subst (λ (l : List ℕ). length l ≤ suc (length xs)) (sym (take_while-cons p x xs)) (by (p x) (while_length p xs))
  where
    by : (b : Bool) → length (take_while p xs) ≤ length xs → length (cond b (x ∷ take_while p xs) []) ≤ suc (length xs)
    by true h = omega (arith, h)
    by false h = omega arith

text_long : (bytes : List ℕ) → length (value_bytes (Str (short_text bytes))) ≡ 64
text_long bytes =
    let a = while_length is_text_byte (take 63 bytes) in
    let b = length-take 63 bytes in
    let short : length (short_text bytes) ≤ 63 = omega (arith, a, b) in
    padded_long (short_text bytes) short

-- ---- what is read

bytes_there : (s : Spaces) (a n : ℕ) → lies_in FRAME FRAME_BYTES a n ≡ true → IsThere (bytes_in s a n)
bytes_there s a n e = or_second _ _ (or_second _ _ (part_there s.frame n _ _ (place_some FRAME FRAME_BYTES FRAME_BYTES a n (omega arith) e)))

values_there : (s : Spaces) (hs : List Shape) (a : ℕ) → lies_in FRAME FRAME_BYTES a (bytes_of_shapes hs) ≡ true → (vs : List Value) × (values_at s hs a ≡ Some vs)
unfolding IsThere
values_there s hs a e = by (nat_eq (bytes_of_shapes hs) 0) (bytes_there s a (bytes_of_shapes hs) e)
  where
    by : (b : Bool) → IsThere (bytes_in s a (bytes_of_shapes hs)) → (vs : List Value) × (option_map (values_in hs) (cond b (Some []) (bytes_in s a (bytes_of_shapes hs))) ≡ Some vs)
    by true there = (values_in hs [], refl)
    by false there = (values_in hs there.0, ap (option_map (values_in hs)) there.1)

value_there : (s : Spaces) (sh : Shape) (a : ℕ) → lies_in FRAME FRAME_BYTES a (shape_bytes sh) ≡ true → (v : Value) × (value_at s sh a ≡ Some v)
unfolding IsThere
value_there s sh a e = let there = bytes_there s a (shape_bytes sh) e in (value_in sh there.0, ap (option_map (value_in sh)) there.1)

room_there : (a n : ℕ) → may_store a n ≡ true → is_in_frame a n ≡ true
room_there a n e = ap is_some (place_some FRAME 504 FRAME_BYTES a n (omega arith) e)

-- what computes nothing else answers under all replies
any_yields : {A : Type 0} (K : Asked → Reply → Type 0) (t : Interaction A) → Yields K (λ a. Unit {0}) t
any_yields K (Ended a) = tt
any_yields K (Asks c f) = λ r k. any_yields K (f r)

module _ (typed : Typed) (least actor actors : ℕ) (s : Spaces) (turns : ℕ) (c : Counts (sheet_of typed least) s turns) where
  abbrev sheet : Sheet
  sheet = sheet_of typed least

  abbrev K : Asked → Reply → Type 0
  K = CanReply typed.maps

  abbrev Well : Interaction Answer → Type 0
  Well t = Yields K (GivesWell sheet turns s) t

  -- the frame as it was, and after a value was written before the count
  same_counts : Counts sheet (record s { frame = s.frame }) turns
  same_counts = record { payload = c.payload; short = c.short; front = c.front; long = c.long; frame = c.frame; few = c.few }

  writes_count : (to : ℕ) (bytes : List ℕ) → may_store to (length bytes) ≡ true → Counts sheet (record s { frame = written s.frame (to - FRAME) bytes }) turns
  writes_count to bytes e =
      let bounds = and_parts (nat_le FRAME to) _ e in
      let more = and_parts (nat_le (length bytes) 504) _ bounds.1 in
      let l2 = leb-true (length bytes) 504 more.0 in
      let l3 = leb-true (to - FRAME) (504 - length bytes) more.1 in
      let room : to - FRAME + length bytes ≤ length c.front = omega (arith, l2, l3, c.long) in
      record {
        payload = c.payload;
        short = c.short;
        front = written c.front (to - FRAME) bytes;
        long = written_long c.front bytes (to - FRAME) room ∙ c.long;
        frame = ap (λ (l : List ℕ). written l (to - FRAME) bytes) c.frame ∙ store_keeps c.front (to_le_bytes w64 turns) bytes (to - FRAME) room;
        few = c.few;
      }

  answered_well : {A : Type 0} (t : Interaction A) → Well (frame_kept s t)
  answered_well t = Yields-then K (λ a. Unit {0}) (GivesWell sheet turns s) t _ (any_yields K t) (λ a h. (refl, same_counts))

  told_well : (object : ObjectId) (op : Op) → Well (frame_kept s (asking.tells object op))
  told_well object op = answered_well (asking.tells object op)

  wrote_well : (to n : ℕ) (v : Value) → length (value_bytes v) ≡ n → may_store to n ≡ true → GivesWell sheet turns s (wrote s to v)
  wrote_well to n v long e = (refl, writes_count to (value_bytes v) (subst (λ (m : ℕ). may_store to m ≡ true) (sym long) e))

  got_well : (m : ℕ) (decl : MapDecl) (key : List Value) (to : ℕ) → slice_get typed.maps m ≡ Some decl → may_store to (shape_bytes (shape_of_kind decl.kind)) ≡ true → Well (got_into s (map_id m) key to)
  got_well m decl key to at e = λ r k. by r (subst (λ (o : Option MapDecl). IsSomeAnd o (λ d. IsSharedReply d (ops.Get key) r)) at k.0) k.1
    where
      by : (r : Reply) → IsSharedReply decl (ops.Get key) r → IsHeldReply r → GivesWell sheet turns s (wrote s to (value_of r))
      by (replies.Value v) k held = wrote_well to (shape_bytes (shape_of_kind decl.kind)) v (value_long decl.kind v k held) e
      by r k held = absurd k

  summed_well : (m : ℕ) (key : List Value) (to : ℕ) → may_store to 8 ≡ true → Well (summed_into s (map_id m) key to actors)
  summed_well m key to e =
      let read = asking.summed (map_id m) key actors in
      Yields-then K (λ n. Unit {0}) (GivesWell sheet turns s) read _ (any_yields K read) (λ n h. wrote_well to 8 (Int n) refl e)

  -- ---- each helper

  get_well : (m key to : ℕ) (decl : MapDecl) → value_map typed.maps m ≡ Some decl → lies_in FRAME FRAME_BYTES key (bytes_of_shapes decl.key_shape) ≡ true → may_store to (held_bytes decl) ≡ true
      → Well (does.get typed.maps m key to s)
  get_well m key to decl found at e =
      let vs = values_there s decl.key_shape key at in
      let n = shape_bytes (shape_of_kind decl.kind) in
      subst (λ (x : Interaction Answer). Well x) (sym (ap (λ (o : Option MapDecl). in_range o (λ d. with_read (values_at s d.key_shape key) (λ k. with_room to (shape_bytes (shape_of_kind d.kind)) (got_into s (map_id m) k to)))) found
      ∙ ap (λ (o : Option (List Value)). with_read o (λ k. with_room to n (got_into s (map_id m) k to))) vs.1
      ∙ ap (λ (b : Bool). cond b (got_into s (map_id m) vs.0 to) (Ended BadBytes)) (room_there to n e)))
      (got_well m decl vs.0 to (declared_at typed.maps m decl found) e)

  set_well : (m key value : ℕ) (decl : MapDecl) → value_map typed.maps m ≡ Some decl → lies_in FRAME FRAME_BYTES key (bytes_of_shapes decl.key_shape) ≡ true
      → lies_in FRAME FRAME_BYTES value (held_bytes decl) ≡ true → Well (does.set typed.maps m key value s)
  set_well m key value decl found at e =
      let vs = values_there s decl.key_shape key at in
      let v = value_there s (shape_of_kind decl.kind) value e in
      subst (λ (x : Interaction Answer). Well x) (sym (ap (λ (o : Option MapDecl). in_range o (λ d. with_read (values_at s d.key_shape key) (λ k. with_read (value_at s (shape_of_kind d.kind) value) (λ x. frame_kept s (asking.tells (part (map_id m) k) (ops.Set k x)))))) found
      ∙ ap (λ (o : Option (List Value)). with_read o (λ k. with_read (value_at s (shape_of_kind decl.kind) value) (λ x. frame_kept s (asking.tells (part (map_id m) k) (ops.Set k x))))) vs.1
      ∙ ap (λ (o : Option Value). with_read o (λ x. frame_kept s (asking.tells (part (map_id m) vs.0) (ops.Set vs.0 x)))) v.1))
      (told_well (part (map_id m) vs.0) (ops.Set vs.0 v.0))

  delete_well : (m key : ℕ) (decl : MapDecl) → value_map typed.maps m ≡ Some decl → lies_in FRAME FRAME_BYTES key (bytes_of_shapes decl.key_shape) ≡ true → Well (does.delete typed.maps m key s)
  delete_well m key decl found at =
      let vs = values_there s decl.key_shape key at in
      subst (λ (x : Interaction Answer). Well x) (sym (ap (λ (o : Option MapDecl). in_range o (λ d. with_read (values_at s d.key_shape key) (λ k. frame_kept s (asking.tells (part (map_id m) k) (ops.Delete k))))) found
      ∙ ap (λ (o : Option (List Value)). with_read o (λ k. frame_kept s (asking.tells (part (map_id m) k) (ops.Delete k)))) vs.1))
      (told_well (part (map_id m) vs.0) (ops.Delete vs.0))

  aggregate_well : (m key number : ℕ) (decl : MapDecl) → table_map typed.maps m ≡ Some decl → lies_in FRAME FRAME_BYTES key (bytes_of_shapes decl.key_shape) ≡ true
      → Well (does.aggregate typed.maps actor m key number s)
  aggregate_well m key number decl found at =
      let vs = values_there s decl.key_shape key at in
      subst (λ (x : Interaction Answer). Well x) (sym (ap (λ (o : Option MapDecl). in_range o (λ d. with_read (values_at s d.key_shape key) (λ k. frame_kept s (asking.tells (Cpu actor) (ops.Add (map_id m) k (cast_signed w64 number)))))) found
      ∙ ap (λ (o : Option (List Value)). with_read o (λ k. frame_kept s (asking.tells (Cpu actor) (ops.Add (map_id m) k (cast_signed w64 number))))) vs.1))
      (told_well (Cpu actor) (ops.Add (map_id m) vs.0 (cast_signed w64 number)))

  read_agg_well : (m key to : ℕ) (decl : MapDecl) → summed_map typed.maps m ≡ Some decl → lies_in FRAME FRAME_BYTES key (bytes_of_shapes decl.key_shape) ≡ true → may_store to 8 ≡ true
      → Well (does.read_agg typed.maps actors m key to s)
  read_agg_well m key to decl found at e =
      let vs = values_there s decl.key_shape key at in
      subst (λ (x : Interaction Answer). Well x) (sym (ap (λ (o : Option MapDecl). in_range o (λ d. with_read (values_at s d.key_shape key) (λ k. with_room to 8 (summed_into s (map_id m) k to actors)))) found
      ∙ ap (λ (o : Option (List Value)). with_read o (λ k. with_room to 8 (summed_into s (map_id m) k to actors))) vs.1
      ∙ ap (λ (b : Bool). cond b (summed_into s (map_id m) vs.0 to actors) (Ended BadBytes)) (room_there to 8 e)))
      (summed_well m vs.0 to e)

  print_well : (m top div : ℕ) (decl : MapDecl) → numbered typed.maps m ≡ Some decl → are_shown top div ≡ true → Well (does.print typed.maps actors m top div s)
  print_well m top div decl found e =
      subst (λ (x : Interaction Answer). Well x) (sym (ap (λ (o : Option MapDecl). in_range o (λ d. if_range (are_shown top div) (frame_kept s (asking.printed d.kind (map_id m) top (cast_signed w64 div) actors)))) found
      ∙ ap (λ (b : Bool). cond b (frame_kept s (asking.printed decl.kind (map_id m) top (cast_signed w64 div) actors)) (Ended BadArgument)) e))
      (answered_well (asking.printed decl.kind (map_id m) top (cast_signed w64 div) actors))

  sweep_well : (sweep : Sweep) (m : ℕ) (decl : MapDecl) → numbered typed.maps m ≡ Some decl → Well (does.sweep_map typed.maps actors sweep m s)
  sweep_well sweep m decl found = subst (λ (x : Interaction Answer). Well x) (sym (ap (λ (o : Option MapDecl). in_range o (λ d. frame_kept s (asking.swept sweep d.kind (map_id m) actors))) found)) (answered_well (asking.swept sweep decl.kind (map_id m) actors))

  printf_well : (format address : ℕ) (pieces : List Piece) → numbered typed.formats format ≡ Some pieces → lies_in FRAME FRAME_BYTES address (bytes_of_shapes (argument_shapes pieces)) ≡ true
      → Well (does.printf typed.formats format address s)
  printf_well format address pieces found at =
      let vs = values_there s (argument_shapes pieces) address at in
      subst (λ (x : Interaction Answer). Well x) (sym (ap (λ (o : Option (List Piece)). in_range o (λ p. with_read (values_at s (argument_shapes p) address) (λ values. frame_kept s (asking.tells Out (ops.Emit (items.Printf format values)))))) found
      ∙ ap (λ (o : Option (List Value)). with_read o (λ values. frame_kept s (asking.tells Out (ops.Emit (items.Printf format values))))) vs.1))
      (told_well Out (ops.Emit (items.Printf format vs.0)))

  cut_well : (line : ℕ) → nat_lt line (2 ^ 32) ≡ true → Well (does.cut line s)
  cut_well line e = subst (λ (x : Interaction Answer). Well x) (sym (ap (λ (b : Bool). cond b (frame_kept s (asking.tells Out (ops.Emit (items.Cut line)))) (Ended BadArgument)) e)) (told_well Out (ops.Emit (items.Cut line)))

  read_well : (to place count : ℕ) → may_store to 64 ≡ true → Well (does.read_str to place count s)
  read_well to place count e = subst (λ (x : Interaction Answer). Well x) (sym (ap (λ (b : Bool). cond b (Ended (wrote s to (Str (payload_text place count s.payload)))) (Ended BadBytes)) (room_there to 64 e)))
      (wrote_well to 64 (Str (payload_text place count s.payload)) (text_long (if nat_le (place + count) (length s.payload) then take count (drop place s.payload) else [])) e)

  -- ---- all of them

  module _ (regs : List (Option ℕ)) (a : Seen) (holds : Holds regs a) where
    abbrev arg : ℕ → ℕ
    arg r = passed (reg_of regs r)

    gets : (o : Option MapDecl) → known_value_map typed.maps (known_of a 1) ≡ o → get_fits o (known_of a 2) (known_of a 3) ≡ true → Well (does.get typed.maps (arg 1) (arg 2) (arg 3) s)
    gets None e f = absurd (cc)
    gets (Some decl) e f =
        let p = and_parts (is_key decl (known_of a 2)) _ f in
        get_well (arg 1) (arg 2) (arg 3) decl (finds (value_map typed.maps) (known_of a 1) decl (reg_of regs 1) e (holds.each 1)) (frame_is _ (known_of a 2) _ p.0 (holds.each 2))
        (results_is _ (known_of a 3) _ p.1 (holds.each 3))

    sets : (o : Option MapDecl) → known_value_map typed.maps (known_of a 1) ≡ o → set_fits o (known_of a 2) (known_of a 3) ≡ true → Well (does.set typed.maps (arg 1) (arg 2) (arg 3) s)
    sets None e f = absurd (cc)
    sets (Some decl) e f =
        let p = and_parts (is_key decl (known_of a 2)) _ f in
        set_well (arg 1) (arg 2) (arg 3) decl (finds (value_map typed.maps) (known_of a 1) decl (reg_of regs 1) e (holds.each 1)) (frame_is _ (known_of a 2) _ p.0 (holds.each 2))
        (frame_is _ (known_of a 3) _ p.1 (holds.each 3))

    deletes : (o : Option MapDecl) → known_value_map typed.maps (known_of a 1) ≡ o → delete_fits o (known_of a 2) ≡ true → Well (does.delete typed.maps (arg 1) (arg 2) s)
    deletes None e f = absurd (cc)
    deletes (Some decl) e f = delete_well (arg 1) (arg 2) decl (finds (value_map typed.maps) (known_of a 1) decl (reg_of regs 1) e (holds.each 1)) (frame_is _ (known_of a 2) _ f (holds.each 2))

    adds : (o : Option MapDecl) → known_table_map typed.maps (known_of a 1) ≡ o → add_fits o (known_of a 2) (known_of a 3) ≡ true → Well (does.aggregate typed.maps actor (arg 1) (arg 2) (arg 3) s)
    adds None e f = absurd (cc)
    adds (Some decl) e f =
        let p = and_parts (is_key decl (known_of a 2)) _ f in
        aggregate_well (arg 1) (arg 2) (arg 3) decl (finds (table_map typed.maps) (known_of a 1) decl (reg_of regs 1) e (holds.each 1)) (frame_is _ (known_of a 2) _ p.0 (holds.each 2))

    sums : (o : Option MapDecl) → known_summed_map typed.maps (known_of a 1) ≡ o → sum_fits o (known_of a 2) (known_of a 3) ≡ true → Well (does.read_agg typed.maps actors (arg 1) (arg 2) (arg 3) s)
    sums None e f = absurd (cc)
    sums (Some decl) e f =
        let p = and_parts (is_key decl (known_of a 2)) (in_results 8 (number_in (known_of a 3))) f in
        read_agg_well (arg 1) (arg 2) (arg 3) decl (finds (summed_map typed.maps) (known_of a 1) decl (reg_of regs 1) e (holds.each 1)) (frame_is _ (known_of a 2) _ p.0 (holds.each 2))
        (results_is 8 (known_of a 3) _ p.1 (holds.each 3))

    printfs : (o : Option (List Piece)) → known_at typed.formats (known_of a 1) ≡ o → printf_fits o (known_of a 2) ≡ true → Well (does.printf typed.formats (arg 1) (arg 2) s)
    printfs None e f = absurd (cc)
    printfs (Some pieces) e f = printf_well (arg 1) (arg 2) pieces (finds (numbered typed.formats) (known_of a 1) pieces (reg_of regs 1) e (holds.each 1)) (frame_is _ (known_of a 2) _ f (holds.each 2))

    sweeps : (sweep : Sweep) → is_some (known_at typed.maps (known_of a 1)) ≡ true → Well (does.sweep_map typed.maps actors sweep (arg 1) s)
    sweeps sweep f = let d = there_is _ f in sweep_well sweep (arg 1) d.0 (finds (numbered typed.maps) (known_of a 1) d.0 (reg_of regs 1) d.1 (holds.each 1))

    prints : (is_some (known_at typed.maps (known_of a 1)) && limits_fit (number_in (known_of a 2)) (number_in (known_of a 3))) ≡ true → Well (does.print typed.maps actors (arg 1) (arg 2) (arg 3) s)
    prints f =
        let p = and_parts (is_some (known_at typed.maps (known_of a 1))) _ f in
        let d = there_is _ p.0 in
        print_well (arg 1) (arg 2) (arg 3) d.0 (finds (numbered typed.maps) (known_of a 1) d.0 (reg_of regs 1) d.1 (holds.each 1))
        (limits_are (known_of a 2) (known_of a 3) _ _ p.1 (holds.each 2) (holds.each 3))

    steps_well : (helper : Helper) → helper_fits typed.maps typed.formats (known_of a 1) (known_of a 2) (known_of a 3) helper ≡ true
        → Well (helper_steps (desk_of typed actor actors) helper (arg 1) (arg 2) (arg 3) s)
    steps_well Get f = gets _ refl f
    steps_well Set f = sets _ refl f
    steps_well Delete f = deletes _ refl f
    steps_well Aggregate f = adds _ refl f
    steps_well Print f = prints f
    steps_well Clear f = sweeps sweeping.Clear f
    steps_well Zero f = sweeps sweeping.Zero f
    steps_well Printf f = printfs _ refl f
    steps_well Exit f = told_well Clock ops.Stop
    steps_well Cut f = cut_well (arg 1) (line_is (known_of a 1) _ f (holds.each 1))
    steps_well ReadStr f = read_well (arg 1) (arg 2) (arg 3) (results_is 64 (known_of a 1) _ (and_parts _ _ f).0 (holds.each 1))
    steps_well ReadAgg f = sums _ refl f

    calls_well : (o : Option Helper) → known_helper_fits typed.maps typed.formats (known_of a 1) (known_of a 2) (known_of a 3) o ≡ true
        → Well (in_range o (λ helper. helper_steps (desk_of typed actor actors) helper (arg 1) (arg 2) (arg 3) s))
    calls_well None f = absurd (cc)
    calls_well (Some helper) f = steps_well helper f

-- the helpers of a typed script serve what is checked against it
pub script_serves : (typed : Typed) (least actor actors : ℕ) → HelpersServe (CanReply typed.maps) (sheet_of typed least) (helpers (desk_of typed actor actors))
script_serves typed least actor actors n turns regs s a fits holds c = calls_well typed least actor actors s turns c regs a holds (helper_at n) fits
