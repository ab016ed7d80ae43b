-- An operation that is read is the one that was written, and what was written is read again.
use Rattle.std.proofs.Common.{◌≡◌, ℕ, ◌<◌, ◌^◌, Bool, List, [], ◌∷◌, ◌++◌, w64, w32, ℤ, Option, Some, refl, sym, ap, subst, ◌∙◌, append_assoc, arith}
use Rattle.std.specs.Prelude.{nat_lt, slice_get}
use Rattle.std.specs.Int.{to_le_bytes, cast_signed, cast_unsigned}
use Rattle.std.proofs.lemmas.Bool.{ltb-true, lt-ltb}
use Rattle.std.proofs.lemmas.Int.{to_z-of_z, of_z-to_z}
use Rattle.std.proofs.lemmas.Option.{same_Some}
use Rattle.bt_core.specs.declared.item.Item.TheVariants.{Cut}
use Rattle.bt_core.specs.declared.map.MapDecl.{MapDecl}
use Rattle.bt_core.specs.declared.map.MapId.{MapId}
use Rattle.bt_core.specs.declared.map.Shape.{Shape}
use Rattle.bt_core.specs.declared.step.ObjectId.{ObjectId}
use Rattle.bt_core.specs.declared.step.ObjectId.TheVariants.{Shared, Cpu, Clock, Out}
use Rattle.bt_core.specs.declared.step.Op.{Op}
use Rattle.bt_core.specs.declared.step.Op.TheVariants as ops
use Rattle.bt_core.specs.declared.value.Value.{Value}
use Rattle.bt_core.specs.Kinds.{IsShared, IsAggregation, HasShape}
use Rattle.bt_core.specs.KeyBytes.{value_bytes, key_bytes, part_of}
use Rattle.bt_core.specs.Ports.{Setting, CanStep, Serves, IsSharedOp, IsTableOp}
use Rattle.map_ops.specs.Parts.{IsPartNumber}
use Rattle.map_ops.proofs.PartLaws.{part_below}
use Rattle.recordings.specs.Fronts.{◌>>=◌, where_true, number_at}
use Rattle.recordings.proofs.Fields.{IsBytes, bind_some, where_true_some, Takes, Takes-then, wide32, wide64, number_takes, number_again}
use Rattle.recordings.proofs.PartLaws.{bind_to}
use Rattle.step_entries.specs.Blank.{blank_op}
use Rattle.account_format.specs.Entries.{of_map, call_bytes, IsAtHome, FitsKey, FitsOp, FitsObject}
use Rattle.account_format.specs.Reading.{table_map_at, keyed_at, key_at, value_at, part_at, table_at, get_at, set_at, delete_at, sweep_at, add_at, read_at, clear_of_at, zero_of_at, cross_at, kind_at, call_of_kind}
use Rattle.account_format.specs.declared.kind.Kind.{Kind}
use Rattle.account_format.specs.declared.kind.Kind.TheVariants as kinds
use Rattle.account_format.proofs.ValueLaws.{bits-small, signed_fits, value_takes, value_again, key_takes, key_again}
use Rattle.account_format.proofs.KindLaws.{kind_byte}
use Rattle.account_format.proofs.SpotLaws.{some_and, and_some, held_shared, shared_held, shaped_kind, kind_shaped, Named, keyed_takes, keyed_again, part_takes, part_again, table_takes, table_again, table_map_takes, table_map_again}

-- a map that is there serves what holds of its declaration
serves : (maps : List MapDecl) (m : MapId) (decl : MapDecl) (P : MapDecl → Type 0) → Named maps m decl → P decl → Serves maps m P
serves maps m decl P named h = and_some (slice_get maps m.0) P decl named.there h

module _ (setting : Setting) (actor : ℕ) where
  -- an operation that was taken from behind the byte of its kind
  pub record CallTook (kind : Kind) (bytes : List ℕ) (object : ObjectId) (op : Op) (rest : List ℕ) : Type 0 where
    pub parts : kind_byte kind ∷ bytes ≡ call_bytes object op ++ rest
    pub rest_fits : IsBytes rest
    pub own : CanStep setting object op
    pub home : IsAtHome actor object op
    pub object_fits : FitsObject object
    pub op_fits : FitsOp op
    pub is_blank : blank_op op ≡ op

  moved : (kind : Kind) (bytes : List ℕ) (object object2 : ObjectId) (op op2 : Op) (rest rest2 : List ℕ) → ◌≡◌ {A = Option ((ObjectId × Op) × List ℕ)} (Some ((object, op), rest)) (Some ((object2, op2), rest2))
      → CallTook kind bytes object op rest → CallTook kind bytes object2 op2 rest2
  moved kind bytes object object2 op op2 rest rest2 e h = subst (λ (p : (ObjectId × Op) × List ℕ). CallTook kind bytes p.0.0 p.0.1 p.1) (same_Some ((object, op), rest) ((object2, op2), rest2) e) h

  -- a map's number and what follows it, as a kind has them
  behind_map : (kind : ℕ) (m : MapId) (bytes more rest : List ℕ) → bytes ≡ (to_le_bytes w32 m.0 ++ more) ++ rest → kind ∷ bytes ≡ (of_map kind m ++ more) ++ rest
  behind_map kind m bytes more rest e = ap (λ (l : List ℕ). kind ∷ l) e

  get_takes : (bytes : List ℕ) (object : ObjectId) (op : Op) (rest : List ℕ) → IsBytes bytes → get_at setting.maps bytes ≡ Some ((object, op), rest) → CallTook kinds.Get bytes object op rest
  unfolding get_at
  get_takes bytes object op rest fits e =
      let a = bind_some (keyed_at setting.maps bytes) _ ((object, op), rest) e in
      let m : MapId = a.0.0.0 in let key : List Value = a.0.0.1.1 in
      let k = keyed_takes setting.maps bytes m a.0.0.1.0 key a.0.1 fits a.1 in
      moved kinds.Get bytes (Shared m (part_of key)) object (ops.Get key) op a.0.1 rest a.2 (record {
        parts = behind_map 1 m bytes (key_bytes key) a.0.1 k.took.parts;
        rest_fits = k.took.rest_fits;
        own = (part_below key, serves setting.maps m k.decl (λ decl. IsShared decl.kind × IsSharedOp decl (ops.Get key)) k.named (held_shared k.decl.kind a.0.0.1.0 k.held, k.shaped));
        home = refl;
        object_fits = (k.named.few, omega (arith, part_below key));
        op_fits = k.fits;
        is_blank = refl;
      })

  delete_takes : (bytes : List ℕ) (object : ObjectId) (op : Op) (rest : List ℕ) → IsBytes bytes → delete_at setting.maps bytes ≡ Some ((object, op), rest) → CallTook kinds.Delete bytes object op rest
  unfolding delete_at
  delete_takes bytes object op rest fits e =
      let a = bind_some (keyed_at setting.maps bytes) _ ((object, op), rest) e in
      let m : MapId = a.0.0.0 in let key : List Value = a.0.0.1.1 in
      let k = keyed_takes setting.maps bytes m a.0.0.1.0 key a.0.1 fits a.1 in
      moved kinds.Delete bytes (Shared m (part_of key)) object (ops.Delete key) op a.0.1 rest a.2 (record {
        parts = behind_map 3 m bytes (key_bytes key) a.0.1 k.took.parts;
        rest_fits = k.took.rest_fits;
        own = (part_below key, serves setting.maps m k.decl (λ decl. IsShared decl.kind × IsSharedOp decl (ops.Delete key)) k.named (held_shared k.decl.kind a.0.0.1.0 k.held, k.shaped));
        home = refl;
        object_fits = (k.named.few, omega (arith, part_below key));
        op_fits = k.fits;
        is_blank = refl;
      })

  set_takes : (bytes : List ℕ) (object : ObjectId) (op : Op) (rest : List ℕ) → IsBytes bytes → set_at setting.maps bytes ≡ Some ((object, op), rest) → CallTook kinds.Set bytes object op rest
  unfolding set_at
  set_takes bytes object op rest fits e =
      let a = bind_some (keyed_at setting.maps bytes) _ ((object, op), rest) e in
      let m : MapId = a.0.0.0 in let shape : Shape = a.0.0.1.0 in let key : List Value = a.0.0.1.1 in
      let b = bind_some (value_at shape a.0.1) _ ((object, op), rest) a.2 in
      let k = keyed_takes setting.maps bytes m shape key a.0.1 fits a.1 in
      let v = value_takes shape a.0.1 b.0.0 b.0.1 k.took.rest_fits b.1 in
      let whole = Takes-then bytes (to_le_bytes w32 m.0 ++ key_bytes key) a.0.1 (value_bytes b.0.0) b.0.1 k.took v.0 in
      moved kinds.Set bytes (Shared m (part_of key)) object (ops.Set key b.0.0) op b.0.1 rest b.2 (record {
        parts = behind_map 2 m bytes (key_bytes key ++ value_bytes b.0.0) b.0.1 (whole.parts ∙ ap (λ (l : List ℕ). l ++ b.0.1) (append_assoc (to_le_bytes w32 m.0) (key_bytes key) (value_bytes b.0.0)));
        rest_fits = whole.rest_fits;
        own = (
          part_below key,
          serves setting.maps m k.decl (λ decl. IsShared decl.kind × IsSharedOp decl (ops.Set key b.0.0)) k.named
              (held_shared k.decl.kind shape k.held, (k.shaped, shaped_kind k.decl.kind shape b.0.0 k.held v.1)),
        );
        home = refl;
        object_fits = (k.named.few, omega (arith, part_below key));
        op_fits = (k.fits, v.2);
        is_blank = refl;
      })

  -- an operation on a whole part
  sweep_takes : (kind : Kind) (swept : Op) (bytes : List ℕ) (object : ObjectId) (op : Op) (rest : List ℕ)
      → ((m : MapId) (part : ℕ) → call_bytes (Shared m part) swept ≡ of_map (kind_byte kind) m ++ to_le_bytes w32 part)
      → ((decl : MapDecl) → IsSharedOp decl swept) → ((m : MapId) (part : ℕ) → IsAtHome actor (Shared m part) swept) → FitsOp swept → blank_op swept ≡ swept
      → IsBytes bytes → sweep_at setting.maps swept bytes ≡ Some ((object, op), rest) → CallTook kind bytes object op rest
  unfolding sweep_at
  sweep_takes kind swept bytes object op rest spelled own home op_fits is_blank fits e =
      let a = bind_some (part_at setting.maps bytes) _ ((object, op), rest) e in
      let m : MapId = a.0.0.0 in let part : ℕ = a.0.0.1 in
      let k = part_takes setting.maps bytes m part a.0.1 fits a.1 in
      moved kind bytes (Shared m part) object swept op a.0.1 rest a.2 (record {
        parts = behind_map (kind_byte kind) m bytes (to_le_bytes w32 part) a.0.1 k.took.parts ∙ ap (λ (l : List ℕ). l ++ a.0.1) (sym (spelled m part));
        rest_fits = k.took.rest_fits;
        own = (k.below, serves setting.maps m k.decl (λ decl. IsShared decl.kind × IsSharedOp decl swept) k.named (k.shared, own k.decl));
        home = home m part;
        object_fits = (k.named.few, omega (arith, k.below));
        op_fits = op_fits;
        is_blank = is_blank;
      })

  add_takes : (bytes : List ℕ) (object : ObjectId) (op : Op) (rest : List ℕ) → actor < setting.actors → actor < 2 ^ 32 → IsBytes bytes → add_at setting.maps actor bytes ≡ Some ((object, op), rest) → CallTook kinds.Add bytes object op rest
  unfolding add_at
  add_takes bytes object op rest below few fits e =
      let a = bind_some (table_map_at setting.maps bytes) _ ((object, op), rest) e in
      let m : MapId = a.0.0.0 in let decl : MapDecl = a.0.0.1 in
      let b = bind_some (key_at decl.key_shape a.0.1) _ ((object, op), rest) a.2 in
      let d = bind_some (number_at w64 b.0.1) _ ((object, op), rest) b.2 in
      let key : List Value = b.0.0 in let number : ℤ = cast_signed w64 d.0.0 in
      let t = table_map_takes setting.maps bytes m decl a.0.1 fits a.1 in
      let k = key_takes decl.key_shape a.0.1 key b.0.1 t.map.took.rest_fits b.1 in
      let n = number_takes w64 wide64 b.0.1 d.0.0 d.0.1 k.0.rest_fits d.1 in
      let last : Takes b.0.1 (to_le_bytes w64 (cast_unsigned w64 number)) d.0.1 = subst (λ (x : ℕ). Takes b.0.1 (to_le_bytes w64 x) d.0.1) (sym (of_z-to_z w64 d.0.0 n.1)) n.0 in
      let two = Takes-then a.0.1 (key_bytes key) b.0.1 (to_le_bytes w64 (cast_unsigned w64 number)) d.0.1 k.0 last in
      let whole = Takes-then bytes (to_le_bytes w32 m.0) a.0.1 (key_bytes key ++ to_le_bytes w64 (cast_unsigned w64 number)) d.0.1 t.map.took two in
      moved kinds.Add bytes (Cpu actor) object (ops.Add m key number) op d.0.1 rest d.2 (record {
        parts = behind_map 7 m bytes (key_bytes key ++ to_le_bytes w64 (cast_unsigned w64 number)) d.0.1 whole.parts;
        rest_fits = whole.rest_fits;
        own = (below, serves setting.maps m decl (λ decl. IsAggregation decl.kind × HasShape decl.key_shape key) t.map.named (t.gathers, k.1));
        home = refl;
        object_fits = few;
        op_fits = (t.map.named.few, k.2, signed_fits d.0.0 n.1);
        is_blank = refl;
      })

  -- an operation on the tables of an actor
  table_op_takes : (kind : Kind) (make : MapId → Op) (bytes : List ℕ) (object : ObjectId) (op : Op) (rest : List ℕ)
      → ((m : MapId) (table : ℕ) → call_bytes (Cpu table) (make m) ≡ of_map (kind_byte kind) m ++ to_le_bytes w32 table)
      → ((m : MapId) → Serves setting.maps m (λ decl. IsAggregation decl.kind) → IsTableOp setting.maps (make m)) → ((m : MapId) (table : ℕ) → IsAtHome actor (Cpu table) (make m))
      → ((m : MapId) → m.0 < 2 ^ 32 → FitsOp (make m)) → ((m : MapId) → blank_op (make m) ≡ make m)
      → IsBytes bytes → ◌>>=◌ {B = (ObjectId × Op) × List ℕ} (table_at setting.maps setting.actors bytes) (λ found. Some ((Cpu found.0.1, make found.0.0), found.1)) ≡ Some ((object, op), rest) → CallTook kind bytes object op rest
  table_op_takes kind make bytes object op rest spelled own home op_fits is_blank fits e =
      let a = bind_some (table_at setting.maps setting.actors bytes) _ ((object, op), rest) e in
      let m : MapId = a.0.0.0 in let table : ℕ = a.0.0.1 in
      let k = table_takes setting.maps setting.actors bytes m table a.0.1 fits a.1 in
      moved kind bytes (Cpu table) object (make m) op a.0.1 rest a.2 (record {
        parts = behind_map (kind_byte kind) m bytes (to_le_bytes w32 table) a.0.1 k.took.parts ∙ ap (λ (l : List ℕ). l ++ a.0.1) (sym (spelled m table));
        rest_fits = k.took.rest_fits;
        own = (k.below, own m (serves setting.maps m k.decl (λ decl. IsAggregation decl.kind) k.named k.gathers));
        home = home m table;
        object_fits = k.few;
        op_fits = op_fits m k.named.few;
        is_blank = is_blank m;
      })

  cross_takes : (bytes : List ℕ) (object : ObjectId) (op : Op) (rest : List ℕ) → IsBytes bytes → cross_at setting.ticks bytes ≡ Some ((object, op), rest) → CallTook kinds.Cross bytes object op rest
  unfolding cross_at
  cross_takes bytes object op rest fits e =
      let a = bind_some (number_at w32 bytes) _ ((object, op), rest) e in
      let d = where_true_some (nat_lt a.0.0 setting.ticks) ((Clock, ops.Cross a.0.0), a.0.1) ((object, op), rest) a.2 in
      let n = number_takes w32 wide32 bytes a.0.0 a.0.1 fits a.1 in
      moved kinds.Cross bytes Clock object (ops.Cross a.0.0) op a.0.1 rest (ap (λ (p : (ObjectId × Op) × List ℕ). Some p) d.1) (record {
        parts = ap (λ (l : List ℕ). 11 ∷ l) n.0.parts;
        rest_fits = n.0.rest_fits;
        own = ltb-true a.0.0 setting.ticks d.0;
        home = tt;
        object_fits = tt;
        op_fits = n.1;
        is_blank = refl;
      })

  plain_takes : (kind : Kind) (object object2 : ObjectId) (op op2 : Op) (bytes rest : List ℕ) → call_bytes object op ≡ kind_byte kind ∷ [] → CanStep setting object op → IsAtHome actor object op → FitsObject object → FitsOp op → blank_op op ≡ op
      → IsBytes bytes → ◌≡◌ {A = Option ((ObjectId × Op) × List ℕ)} (Some ((object, op), bytes)) (Some ((object2, op2), rest)) → CallTook kind bytes object2 op2 rest
  plain_takes kind object object2 op op2 bytes rest spelled own home object_fits op_fits is_blank fits e =
      moved kind bytes object object2 op op2 bytes rest e
      (record { parts = ap (λ (l : List ℕ). l ++ bytes) (sym spelled); rest_fits = fits; own = own; home = home; object_fits = object_fits; op_fits = op_fits; is_blank = is_blank })

  pub call_takes : (kind : Kind) (bytes : List ℕ) (object : ObjectId) (op : Op) (rest : List ℕ) → actor < setting.actors → actor < 2 ^ 32 → IsBytes bytes → call_of_kind setting actor kind bytes ≡ Some ((object, op), rest)
      → CallTook kind bytes object op rest
  unfolding read_at clear_of_at zero_of_at
  call_takes kinds.Get bytes object op rest below few fits e = get_takes bytes object op rest fits e
  call_takes kinds.Set bytes object op rest below few fits e = set_takes bytes object op rest fits e
  call_takes kinds.Delete bytes object op rest below few fits e = delete_takes bytes object op rest fits e
  call_takes kinds.ReadAll bytes object op rest below few fits e = sweep_takes kinds.ReadAll ops.ReadAll bytes object op rest (λ m part. refl) (λ decl. tt) (λ m part. tt) tt refl fits e
  call_takes kinds.Clear bytes object op rest below few fits e = sweep_takes kinds.Clear ops.Clear bytes object op rest (λ m part. refl) (λ decl. tt) (λ m part. tt) tt refl fits e
  call_takes kinds.Zero bytes object op rest below few fits e = sweep_takes kinds.Zero ops.Zero bytes object op rest (λ m part. refl) (λ decl. tt) (λ m part. tt) tt refl fits e
  call_takes kinds.Add bytes object op rest below few fits e = add_takes bytes object op rest below few fits e
  call_takes kinds.Read bytes object op rest below few fits e = table_op_takes kinds.Read (λ m. ops.Read m) bytes object op rest (λ m table. refl) (λ m h. h) (λ m table. tt) (λ m h. h) (λ m. refl) fits e
  call_takes kinds.ClearOf bytes object op rest below few fits e = table_op_takes kinds.ClearOf (λ m. ops.ClearOf m) bytes object op rest (λ m table. refl) (λ m h. h) (λ m table. tt) (λ m h. h) (λ m. refl) fits e
  call_takes kinds.ZeroOf bytes object op rest below few fits e = table_op_takes kinds.ZeroOf (λ m. ops.ZeroOf m) bytes object op rest (λ m table. refl) (λ m h. h) (λ m table. tt) (λ m h. h) (λ m. refl) fits e
  call_takes kinds.Cross bytes object op rest below few fits e = cross_takes bytes object op rest fits e
  call_takes kinds.Check bytes object op rest below few fits e = plain_takes kinds.Check Clock object ops.Check op bytes rest refl tt tt tt tt refl fits e
  call_takes kinds.Stop bytes object op rest below few fits e = plain_takes kinds.Stop Clock object ops.Stop op bytes rest refl tt tt tt tt refl fits e
  call_takes kinds.Emit bytes object op rest below few fits e = plain_takes kinds.Emit Out object (ops.Emit (Cut 0)) op bytes rest refl tt tt tt tt refl fits e

  -- ---- read again

  -- an operation that was written is read again, by its kind
  pub record ReadAgain (object : ObjectId) (op : Op) (rest : List ℕ) : Type 0 where
    pub kind : Kind
    pub bytes : List ℕ
    pub kind_is : kind_at (call_bytes object op ++ rest) ≡ Some (kind, bytes)
    pub call_is : call_of_kind setting actor kind bytes ≡ Some ((object, op), rest)

  -- what a shared map that serves an operation is
  shared_of : (m : MapId) (op : Op) → Serves setting.maps m (λ decl. IsShared decl.kind × IsSharedOp decl op) → (decl : MapDecl) × (slice_get setting.maps m.0 ≡ Some decl) × (IsShared decl.kind × IsSharedOp decl op)
  shared_of m op h = some_and (slice_get setting.maps m.0) (λ decl. IsShared decl.kind × IsSharedOp decl op) h

  apart : (m part rest : List ℕ) → (m ++ part) ++ rest ≡ m ++ (part ++ rest)
  apart m part rest = append_assoc m part rest

  get_again : (m : MapId) (part : ℕ) (key : List Value) (rest : List ℕ) → m.0 < 2 ^ 32 → FitsKey key → part ≡ part_of key → Serves setting.maps m (λ decl. IsShared decl.kind × IsSharedOp decl (ops.Get key))
      → get_at setting.maps ((to_le_bytes w32 m.0 ++ key_bytes key) ++ rest) ≡ Some ((Shared m part, ops.Get key), rest)
  unfolding get_at
  get_again m part key rest few fits home own =
      let s = shared_of m (ops.Get key) own in let h = shared_held s.0.kind s.2.0 in
      let named : Named setting.maps m s.0 = record { few = few; there = s.1 } in
      let read = ap (keyed_at setting.maps) (apart (to_le_bytes w32 m.0) (key_bytes key) rest) ∙ keyed_again setting.maps m s.0 h.0 key rest named h.1 s.2.1 fits in
      bind_to (keyed_at setting.maps ((to_le_bytes w32 m.0 ++ key_bytes key) ++ rest)) _ ((m, (h.0, key)), rest) _ read (ap (λ (p : ℕ). Some ((Shared m p, ops.Get key), rest)) (sym home))

  delete_again : (m : MapId) (part : ℕ) (key : List Value) (rest : List ℕ) → m.0 < 2 ^ 32 → FitsKey key → part ≡ part_of key → Serves setting.maps m (λ decl. IsShared decl.kind × IsSharedOp decl (ops.Delete key))
      → delete_at setting.maps ((to_le_bytes w32 m.0 ++ key_bytes key) ++ rest) ≡ Some ((Shared m part, ops.Delete key), rest)
  unfolding delete_at
  delete_again m part key rest few fits home own =
      let s = shared_of m (ops.Delete key) own in let h = shared_held s.0.kind s.2.0 in
      let named : Named setting.maps m s.0 = record { few = few; there = s.1 } in
      let read = ap (keyed_at setting.maps) (apart (to_le_bytes w32 m.0) (key_bytes key) rest) ∙ keyed_again setting.maps m s.0 h.0 key rest named h.1 s.2.1 fits in
      bind_to (keyed_at setting.maps ((to_le_bytes w32 m.0 ++ key_bytes key) ++ rest)) _ ((m, (h.0, key)), rest) _ read (ap (λ (p : ℕ). Some ((Shared m p, ops.Delete key), rest)) (sym home))

  set_again : (m : MapId) (part : ℕ) (key : List Value) (value : Value) (rest : List ℕ) → m.0 < 2 ^ 32 → FitsOp (ops.Set key value) → part ≡ part_of key → Serves setting.maps m (λ decl. IsShared decl.kind × IsSharedOp decl (ops.Set key value))
      → set_at setting.maps ((to_le_bytes w32 m.0 ++ (key_bytes key ++ value_bytes value)) ++ rest) ≡ Some ((Shared m part, ops.Set key value), rest)
  unfolding set_at
  set_again m part key value rest few fits home own =
      let s = shared_of m (ops.Set key value) own in let h = shared_held s.0.kind s.2.0 in
      let named : Named setting.maps m s.0 = record { few = few; there = s.1 } in
      let bytes : List ℕ = (to_le_bytes w32 m.0 ++ (key_bytes key ++ value_bytes value)) ++ rest in
      let laid : bytes ≡ to_le_bytes w32 m.0 ++ (key_bytes key ++ (value_bytes value ++ rest)) = simp append_assoc in
      let read = ap (keyed_at setting.maps) laid ∙ keyed_again setting.maps m s.0 h.0 key (value_bytes value ++ rest) named h.1 s.2.1.0 fits.0 in
      bind_to (keyed_at setting.maps bytes) _ ((m, (h.0, key)), value_bytes value ++ rest) _ read
      (bind_to (value_at h.0 (value_bytes value ++ rest)) _ (value, rest) _ (value_again h.0 value rest (kind_shaped s.0.kind h.0 value h.1 s.2.1.1) fits.1)
      (ap (λ (p : ℕ). Some ((Shared m p, ops.Set key value), rest)) (sym home)))

  sweep_again : (m : MapId) (part : ℕ) (op : Op) (rest : List ℕ) → m.0 < 2 ^ 32 → IsPartNumber part → Serves setting.maps m (λ decl. IsShared decl.kind × IsSharedOp decl op)
      → sweep_at setting.maps op ((to_le_bytes w32 m.0 ++ to_le_bytes w32 part) ++ rest) ≡ Some ((Shared m part, op), rest)
  unfolding sweep_at
  sweep_again m part op rest few below own =
      let s = shared_of m op own in
      let named : Named setting.maps m s.0 = record { few = few; there = s.1 } in
      let read = ap (part_at setting.maps) (apart (to_le_bytes w32 m.0) (to_le_bytes w32 part) rest) ∙ part_again setting.maps m s.0 part rest named s.2.0 below in
      bind_to (part_at setting.maps ((to_le_bytes w32 m.0 ++ to_le_bytes w32 part) ++ rest)) _ ((m, part), rest) _ read refl

  add_again : (m : MapId) (table : ℕ) (key : List Value) (number : ℤ) (rest : List ℕ) → FitsOp (ops.Add m key number) → table ≡ actor → Serves setting.maps m (λ decl. IsAggregation decl.kind × HasShape decl.key_shape key)
      → add_at setting.maps actor ((to_le_bytes w32 m.0 ++ (key_bytes key ++ to_le_bytes w64 (cast_unsigned w64 number))) ++ rest) ≡ Some ((Cpu table, ops.Add m key number), rest)
  unfolding add_at
  add_again m table key number rest fits home own =
      let s = some_and (slice_get setting.maps m.0) (λ decl. IsAggregation decl.kind × HasShape decl.key_shape key) own in
      let named : Named setting.maps m s.0 = record { few = fits.0; there = s.1 } in
      let bits : ℕ = cast_unsigned w64 number in
      let bytes : List ℕ = (to_le_bytes w32 m.0 ++ (key_bytes key ++ to_le_bytes w64 bits)) ++ rest in
      let laid : bytes ≡ to_le_bytes w32 m.0 ++ (key_bytes key ++ (to_le_bytes w64 bits ++ rest)) = simp append_assoc in
      let read = ap (table_map_at setting.maps) laid ∙ table_map_again setting.maps m s.0 (key_bytes key ++ (to_le_bytes w64 bits ++ rest)) named s.2.0 in
      bind_to (table_map_at setting.maps bytes) _ ((m, s.0), key_bytes key ++ (to_le_bytes w64 bits ++ rest)) _ read
      (bind_to (key_at s.0.key_shape (key_bytes key ++ (to_le_bytes w64 bits ++ rest))) _ (key, to_le_bytes w64 bits ++ rest) _ (key_again s.0.key_shape key (to_le_bytes w64 bits ++ rest) s.2.1 fits.1)
      (bind_to (number_at w64 (to_le_bytes w64 bits ++ rest)) _ (bits, rest) _ (number_again w64 wide64 bits rest (bits-small number fits.2))
      (ap (λ (z : ℤ). Some ((Cpu actor, ops.Add m key z), rest)) (to_z-of_z w64 number fits.2) ∙ ap (λ (t : ℕ). Some ((Cpu t, ops.Add m key number), rest)) (sym home))))

  tables_again : (m : MapId) (table : ℕ) (make : MapId → Op) (rest : List ℕ) → m.0 < 2 ^ 32 → table < 2 ^ 32 → table < setting.actors → Serves setting.maps m (λ decl. IsAggregation decl.kind)
      → ◌>>=◌ {B = (ObjectId × Op) × List ℕ} (table_at setting.maps setting.actors ((to_le_bytes w32 m.0 ++ to_le_bytes w32 table) ++ rest)) (λ found. Some ((Cpu found.0.1, make found.0.0), found.1)) ≡ Some ((Cpu table, make m), rest)
  tables_again m table make rest few small below own =
      let s = some_and (slice_get setting.maps m.0) (λ decl. IsAggregation decl.kind) own in
      let named : Named setting.maps m s.0 = record { few = few; there = s.1 } in
      let read = ap (table_at setting.maps setting.actors) (apart (to_le_bytes w32 m.0) (to_le_bytes w32 table) rest) ∙ table_again setting.maps setting.actors m s.0 table rest named s.2 below small in
      bind_to (table_at setting.maps setting.actors ((to_le_bytes w32 m.0 ++ to_le_bytes w32 table) ++ rest)) _ ((m, table), rest) _ read refl

  cross_again : (tick : ℕ) (rest : List ℕ) → tick < 2 ^ 32 → tick < setting.ticks → cross_at setting.ticks (to_le_bytes w32 tick ++ rest) ≡ Some ((Clock, ops.Cross tick), rest)
  unfolding cross_at
  cross_again tick rest few below =
      bind_to (number_at w32 (to_le_bytes w32 tick ++ rest)) _ (tick, rest) _ (number_again w32 wide32 tick rest few)
      (ap (λ (b : Bool). where_true b ((Clock, ops.Cross tick), rest)) (lt-ltb tick setting.ticks below))

  pub call_again : (object : ObjectId) (op : Op) (rest : List ℕ) → CanStep setting object op → IsAtHome actor object op → FitsObject object → FitsOp op → blank_op op ≡ op → ReadAgain object op rest
  unfolding read_at clear_of_at zero_of_at
  call_again (Shared m part) (ops.Get key) rest own home small fits is_blank = record { kind = kinds.Get; bytes = (to_le_bytes w32 m.0 ++ key_bytes key) ++ rest; kind_is = refl; call_is = get_again m part key rest small.0 fits home own.1 }
  call_again (Shared m part) (ops.Set key value) rest own home small fits is_blank = record { kind = kinds.Set; bytes = (to_le_bytes w32 m.0 ++ (key_bytes key ++ value_bytes value)) ++ rest; kind_is = refl; call_is = set_again m part key value rest small.0 fits home own.1 }
  call_again (Shared m part) (ops.Delete key) rest own home small fits is_blank = record { kind = kinds.Delete; bytes = (to_le_bytes w32 m.0 ++ key_bytes key) ++ rest; kind_is = refl; call_is = delete_again m part key rest small.0 fits home own.1 }
  call_again (Shared m part) ops.ReadAll rest own home small fits is_blank = record { kind = kinds.ReadAll; bytes = (to_le_bytes w32 m.0 ++ to_le_bytes w32 part) ++ rest; kind_is = refl; call_is = sweep_again m part ops.ReadAll rest small.0 own.0 own.1 }
  call_again (Shared m part) ops.Clear rest own home small fits is_blank = record { kind = kinds.Clear; bytes = (to_le_bytes w32 m.0 ++ to_le_bytes w32 part) ++ rest; kind_is = refl; call_is = sweep_again m part ops.Clear rest small.0 own.0 own.1 }
  call_again (Shared m part) ops.Zero rest own home small fits is_blank = record { kind = kinds.Zero; bytes = (to_le_bytes w32 m.0 ++ to_le_bytes w32 part) ++ rest; kind_is = refl; call_is = sweep_again m part ops.Zero rest small.0 own.0 own.1 }
  call_again (Shared m part) op rest own home small fits is_blank = absurd (shared_of m op own.1).2.1
  call_again (Cpu table) (ops.Add m key number) rest own home small fits is_blank = record { kind = kinds.Add; bytes = (to_le_bytes w32 m.0 ++ (key_bytes key ++ to_le_bytes w64 (cast_unsigned w64 number))) ++ rest; kind_is = refl; call_is = add_again m table key number rest fits home own.1 }
  call_again (Cpu table) (ops.Read m) rest own home small fits is_blank = record { kind = kinds.Read; bytes = (to_le_bytes w32 m.0 ++ to_le_bytes w32 table) ++ rest; kind_is = refl; call_is = tables_again m table (λ n. ops.Read n) rest fits small own.0 own.1 }
  call_again (Cpu table) (ops.ClearOf m) rest own home small fits is_blank = record { kind = kinds.ClearOf; bytes = (to_le_bytes w32 m.0 ++ to_le_bytes w32 table) ++ rest; kind_is = refl; call_is = tables_again m table (λ n. ops.ClearOf n) rest fits small own.0 own.1 }
  call_again (Cpu table) (ops.ZeroOf m) rest own home small fits is_blank = record { kind = kinds.ZeroOf; bytes = (to_le_bytes w32 m.0 ++ to_le_bytes w32 table) ++ rest; kind_is = refl; call_is = tables_again m table (λ n. ops.ZeroOf n) rest fits small own.0 own.1 }
  call_again (Cpu table) op rest own home small fits is_blank = absurd own.1
  call_again Clock (ops.Cross tick) rest own home small fits is_blank = record { kind = kinds.Cross; bytes = to_le_bytes w32 tick ++ rest; kind_is = refl; call_is = cross_again tick rest fits own }
  call_again Clock ops.Check rest own home small fits is_blank = record { kind = kinds.Check; bytes = rest; kind_is = refl; call_is = refl }
  call_again Clock ops.Stop rest own home small fits is_blank = record { kind = kinds.Stop; bytes = rest; kind_is = refl; call_is = refl }
  call_again Clock op rest own home small fits is_blank = absurd own
  call_again Out (ops.Emit item) rest own home small fits is_blank = record { kind = kinds.Emit; bytes = rest; kind_is = refl; call_is = ap (λ (o : Op). Some ((Out, o), rest)) is_blank }
  call_again Out op rest own home small fits is_blank = absurd own
