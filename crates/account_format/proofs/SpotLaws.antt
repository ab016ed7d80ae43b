-- The maps, keys, parts and tables that are read are those that were written, and what was written is read again.
use Rattle.std.proofs.Common.{◌≡◌, ℕ, ◌<◌, ◌^◌, Bool, true, List, ◌++◌, w32, Option, Some, None, refl, sym, ap, subst, arith}
use Rattle.std.specs.Prelude.{nat_lt, slice_get, IsSomeAnd}
use Rattle.std.specs.Int.{to_le_bytes}
use Rattle.std.proofs.lemmas.Bool.{ltb-true, lt-ltb}
use Rattle.std.proofs.lemmas.Option.{same_Some}
use Rattle.bt_core.specs.declared.map.MapDecl.{MapDecl}
use Rattle.bt_core.specs.declared.map.MapId.{MapId}
use Rattle.bt_core.specs.declared.map.MapKind.{MapKind}
use Rattle.bt_core.specs.declared.map.MapKind.TheVariants.{Ints, Strs, Aggs}
use Rattle.bt_core.specs.declared.map.Shape.{Shape}
use Rattle.bt_core.specs.declared.map.Shape.TheVariants as shapes
use Rattle.bt_core.specs.declared.value.Value.{Value}
use Rattle.bt_core.specs.declared.value.Value.TheVariants.{Int, Str}
use Rattle.bt_core.specs.Kinds.{IsOfShape, IsOfKind, IsShared, IsAggregation, HasShape}
use Rattle.bt_core.specs.KeyBytes.{key_bytes}
use Rattle.map_ops.specs.Parts.{IsPartNumber, is_part_number}
use Rattle.map_ops.proofs.PartLaws.{part_number_told, part_number_tells}
use Rattle.recordings.specs.Fronts.{where_true, number_at}
use Rattle.recordings.proofs.Fields.{IsBytes, bind_some, where_true_some, Takes, Takes-then, wide32, number_takes, number_again}
use Rattle.recordings.proofs.PartLaws.{bind_to}
use Rattle.account_format.specs.Entries.{FitsKey}
use Rattle.account_format.specs.Reading.{held_shape, is_aggregation, map_at, shared_map_at, table_map_at, keyed_at, key_at, part_at, table_at}
use Rattle.account_format.proofs.ValueLaws.{key_takes, key_again}

-- ---- maps

pub some_and : {T : Type 0} (o : Option T) (P : T → Type 0) → IsSomeAnd o P → (x : T) × (o ≡ Some x) × P x
some_and None P h = absurd h
some_and (Some x) P h = (x, refl, h)

pub and_some : {T : Type 0} (o : Option T) (P : T → Type 0) (x : T) → o ≡ Some x → P x → IsSomeAnd o P
and_some o P x e h = subst (λ r. IsSomeAnd r P) (sym e) h

pub held_shared : (k : MapKind) (h : Shape) → held_shape k ≡ Some h → IsShared k
held_shared Ints h e = tt
held_shared Strs h e = tt
held_shared (Aggs a) h e = absurd cc

pub shared_held : (k : MapKind) → IsShared k → (h : Shape) × (held_shape k ≡ Some h)
shared_held Ints s = (shapes.Int, refl)
shared_held Strs s = (shapes.Str, refl)
shared_held (Aggs a) s = absurd s

int_kind : (v : Value) → IsOfShape shapes.Int v → IsOfKind Ints v
int_kind (Int n) s = tt
int_kind (Str t) s = absurd s

str_kind : (v : Value) → IsOfShape shapes.Str v → IsOfKind Strs v
str_kind (Int n) s = absurd s
str_kind (Str t) s = tt

kind_int : (v : Value) → IsOfKind Ints v → IsOfShape shapes.Int v
kind_int (Int n) s = tt
kind_int (Str t) s = absurd s

kind_str : (v : Value) → IsOfKind Strs v → IsOfShape shapes.Str v
kind_str (Int n) s = absurd s
kind_str (Str t) s = tt

pub shaped_kind : (k : MapKind) (h : Shape) (v : Value) → held_shape k ≡ Some h → IsOfShape h v → IsOfKind k v
shaped_kind Ints h v e s = int_kind v (subst (λ (x : Shape). IsOfShape x v) (sym (same_Some shapes.Int h e)) s)
shaped_kind Strs h v e s = str_kind v (subst (λ (x : Shape). IsOfShape x v) (sym (same_Some shapes.Str h e)) s)
shaped_kind (Aggs a) h v e s = absurd cc

pub kind_shaped : (k : MapKind) (h : Shape) (v : Value) → held_shape k ≡ Some h → IsOfKind k v → IsOfShape h v
kind_shaped Ints h v e s = subst (λ (x : Shape). IsOfShape x v) (same_Some shapes.Int h e) (kind_int v s)
kind_shaped Strs h v e s = subst (λ (x : Shape). IsOfShape x v) (same_Some shapes.Str h e) (kind_str v s)
kind_shaped (Aggs a) h v e s = absurd s

gathers : (k : MapKind) → is_aggregation k ≡ true → IsAggregation k
gathers Ints e = absurd cc
gathers Strs e = absurd cc
gathers (Aggs a) e = tt

gathers_so : (k : MapKind) → IsAggregation k → is_aggregation k ≡ true
gathers_so Ints s = absurd s
gathers_so Strs s = absurd s
gathers_so (Aggs a) s = refl

-- a map that is there, as its number names it
pub record Named (maps : List MapDecl) (m : MapId) (decl : MapDecl) : Type 0 where
  pub few : m.0 < 2 ^ 32
  pub there : slice_get maps m.0 ≡ Some decl

pub record MapTook (maps : List MapDecl) (bytes : List ℕ) (m : MapId) (decl : MapDecl) (rest : List ℕ) : Type 0 where
  pub took : Takes bytes (to_le_bytes w32 m.0) rest
  pub named : Named maps m decl

map_takes : (maps : List MapDecl) (bytes : List ℕ) (m : MapId) (decl : MapDecl) (rest : List ℕ) → IsBytes bytes → map_at maps bytes ≡ Some ((m, decl), rest) → MapTook maps bytes m decl rest
unfolding map_at
map_takes maps bytes m decl rest fits e =
    let a = bind_some (number_at w32 bytes) _ ((m, decl), rest) e in
    let b = bind_some (slice_get maps a.0.0) _ ((m, decl), rest) a.2 in
    let n = number_takes w32 wide32 bytes a.0.0 a.0.1 fits a.1 in
    let id : MapId = record { 0 = a.0.0 } in
    let made : MapTook maps bytes id b.0 a.0.1 = record { took = n.0; named = record { few = n.1; there = b.1 } } in
    subst (λ (p : (MapId × MapDecl) × List ℕ). MapTook maps bytes p.0.0 p.0.1 p.1) (same_Some ((id, b.0), a.0.1) ((m, decl), rest) b.2) made

map_again : (maps : List MapDecl) (m : MapId) (decl : MapDecl) (rest : List ℕ) → Named maps m decl → map_at maps (to_le_bytes w32 m.0 ++ rest) ≡ Some ((m, decl), rest)
unfolding map_at
map_again maps m decl rest named =
    bind_to (number_at w32 (to_le_bytes w32 m.0 ++ rest)) _ (m.0, rest) _ (number_again w32 wide32 m.0 rest named.few)
    (bind_to (slice_get maps m.0) _ decl _ named.there refl)

pub record SharedTook (maps : List MapDecl) (bytes : List ℕ) (m : MapId) (decl : MapDecl) (shape : Shape) (rest : List ℕ) : Type 0 where
  pub map : MapTook maps bytes m decl rest
  pub held : held_shape decl.kind ≡ Some shape

shared_takes : (maps : List MapDecl) (bytes : List ℕ) (m : MapId) (decl : MapDecl) (shape : Shape) (rest : List ℕ) → IsBytes bytes → shared_map_at maps bytes ≡ Some ((m, (decl, shape)), rest) → SharedTook maps bytes m decl shape rest
unfolding shared_map_at
shared_takes maps bytes m decl shape rest fits e =
    let a = bind_some (map_at maps bytes) _ ((m, (decl, shape)), rest) e in
    let b = bind_some (held_shape a.0.0.1.kind) _ ((m, (decl, shape)), rest) a.2 in
    let made : SharedTook maps bytes a.0.0.0 a.0.0.1 b.0 a.0.1 = record { map = map_takes maps bytes a.0.0.0 a.0.0.1 a.0.1 fits a.1; held = b.1 } in
    subst (λ (p : (MapId × (MapDecl × Shape)) × List ℕ). SharedTook maps bytes p.0.0 p.0.1.0 p.0.1.1 p.1) (same_Some ((a.0.0.0, (a.0.0.1, b.0)), a.0.1) ((m, (decl, shape)), rest) b.2) made

shared_again : (maps : List MapDecl) (m : MapId) (decl : MapDecl) (shape : Shape) (rest : List ℕ) → Named maps m decl → held_shape decl.kind ≡ Some shape → shared_map_at maps (to_le_bytes w32 m.0 ++ rest) ≡ Some ((m, (decl, shape)), rest)
unfolding shared_map_at
shared_again maps m decl shape rest named held =
    bind_to (map_at maps (to_le_bytes w32 m.0 ++ rest)) _ ((m, decl), rest) _ (map_again maps m decl rest named)
    (bind_to (held_shape decl.kind) _ shape _ held refl)

pub record TableTook (maps : List MapDecl) (bytes : List ℕ) (m : MapId) (decl : MapDecl) (rest : List ℕ) : Type 0 where
  pub map : MapTook maps bytes m decl rest
  pub gathers : IsAggregation decl.kind

pub table_map_takes : (maps : List MapDecl) (bytes : List ℕ) (m : MapId) (decl : MapDecl) (rest : List ℕ) → IsBytes bytes → table_map_at maps bytes ≡ Some ((m, decl), rest) → TableTook maps bytes m decl rest
unfolding table_map_at
table_map_takes maps bytes m decl rest fits e =
    let a = bind_some (map_at maps bytes) _ ((m, decl), rest) e in
    let b = where_true_some (is_aggregation a.0.0.1.kind) a.0 ((m, decl), rest) a.2 in
    let made : TableTook maps bytes a.0.0.0 a.0.0.1 a.0.1 = record { map = map_takes maps bytes a.0.0.0 a.0.0.1 a.0.1 fits a.1; gathers = gathers a.0.0.1.kind b.0 } in
    subst (λ (p : (MapId × MapDecl) × List ℕ). TableTook maps bytes p.0.0 p.0.1 p.1) b.1 made

pub table_map_again : (maps : List MapDecl) (m : MapId) (decl : MapDecl) (rest : List ℕ) → Named maps m decl → IsAggregation decl.kind → table_map_at maps (to_le_bytes w32 m.0 ++ rest) ≡ Some ((m, decl), rest)
unfolding table_map_at
table_map_again maps m decl rest named agg =
    bind_to (map_at maps (to_le_bytes w32 m.0 ++ rest)) _ ((m, decl), rest) _ (map_again maps m decl rest named)
    (ap (λ (b : Bool). where_true b ((m, decl), rest)) (gathers_so decl.kind agg))

-- ---- keys, parts and tables

pub record KeyedTook (maps : List MapDecl) (bytes : List ℕ) (m : MapId) (shape : Shape) (key : List Value) (rest : List ℕ) : Type 0 where
  pub decl : MapDecl
  pub named : Named maps m decl
  pub held : held_shape decl.kind ≡ Some shape
  pub took : Takes bytes (to_le_bytes w32 m.0 ++ key_bytes key) rest
  pub shaped : HasShape decl.key_shape key
  pub fits : FitsKey key

pub keyed_takes : (maps : List MapDecl) (bytes : List ℕ) (m : MapId) (shape : Shape) (key : List Value) (rest : List ℕ) → IsBytes bytes → keyed_at maps bytes ≡ Some ((m, (shape, key)), rest) → KeyedTook maps bytes m shape key rest
unfolding keyed_at
keyed_takes maps bytes m shape key rest fits e =
    let a = bind_some (shared_map_at maps bytes) _ ((m, (shape, key)), rest) e in
    let b = bind_some (key_at a.0.0.1.0.key_shape a.0.1) _ ((m, (shape, key)), rest) a.2 in
    let s = shared_takes maps bytes a.0.0.0 a.0.0.1.0 a.0.0.1.1 a.0.1 fits a.1 in
    let k = key_takes a.0.0.1.0.key_shape a.0.1 b.0.0 b.0.1 s.map.took.rest_fits b.1 in
    let made : KeyedTook maps bytes a.0.0.0 a.0.0.1.1 b.0.0 b.0.1 = record {
      decl = a.0.0.1.0;
      named = s.map.named;
      held = s.held;
      took = Takes-then bytes (to_le_bytes w32 a.0.0.0.0) a.0.1 (key_bytes b.0.0) b.0.1 s.map.took k.0;
      shaped = k.1;
      fits = k.2;
    } in
    subst (λ (p : (MapId × (Shape × List Value)) × List ℕ). KeyedTook maps bytes p.0.0 p.0.1.0 p.0.1.1 p.1) (same_Some ((a.0.0.0, (a.0.0.1.1, b.0.0)), b.0.1) ((m, (shape, key)), rest) b.2) made

pub keyed_again : (maps : List MapDecl) (m : MapId) (decl : MapDecl) (shape : Shape) (key : List Value) (rest : List ℕ) → Named maps m decl → held_shape decl.kind ≡ Some shape → HasShape decl.key_shape key → FitsKey key
    → keyed_at maps (to_le_bytes w32 m.0 ++ (key_bytes key ++ rest)) ≡ Some ((m, (shape, key)), rest)
unfolding keyed_at
keyed_again maps m decl shape key rest named held shaped fits =
    bind_to (shared_map_at maps (to_le_bytes w32 m.0 ++ (key_bytes key ++ rest))) _ ((m, (decl, shape)), key_bytes key ++ rest) _ (shared_again maps m decl shape (key_bytes key ++ rest) named held)
    (bind_to (key_at decl.key_shape (key_bytes key ++ rest)) _ (key, rest) _ (key_again decl.key_shape key rest shaped fits) refl)

pub record PartTook (maps : List MapDecl) (bytes : List ℕ) (m : MapId) (part : ℕ) (rest : List ℕ) : Type 0 where
  pub decl : MapDecl
  pub named : Named maps m decl
  pub shared : IsShared decl.kind
  pub took : Takes bytes (to_le_bytes w32 m.0 ++ to_le_bytes w32 part) rest
  pub below : IsPartNumber part

pub part_takes : (maps : List MapDecl) (bytes : List ℕ) (m : MapId) (part : ℕ) (rest : List ℕ) → IsBytes bytes → part_at maps bytes ≡ Some ((m, part), rest) → PartTook maps bytes m part rest
unfolding part_at
part_takes maps bytes m part rest fits e =
    let a = bind_some (shared_map_at maps bytes) _ ((m, part), rest) e in
    let b = bind_some (number_at w32 a.0.1) _ ((m, part), rest) a.2 in
    let d = where_true_some (is_part_number b.0.0) ((a.0.0.0, b.0.0), b.0.1) ((m, part), rest) b.2 in
    let s = shared_takes maps bytes a.0.0.0 a.0.0.1.0 a.0.0.1.1 a.0.1 fits a.1 in
    let n = number_takes w32 wide32 a.0.1 b.0.0 b.0.1 s.map.took.rest_fits b.1 in
    let made : PartTook maps bytes a.0.0.0 b.0.0 b.0.1 = record {
      decl = a.0.0.1.0;
      named = s.map.named;
      shared = held_shared a.0.0.1.0.kind a.0.0.1.1 s.held;
      took = Takes-then bytes (to_le_bytes w32 a.0.0.0.0) a.0.1 (to_le_bytes w32 b.0.0) b.0.1 s.map.took n.0;
      below = part_number_told b.0.0 d.0;
    } in
    subst (λ (p : (MapId × ℕ) × List ℕ). PartTook maps bytes p.0.0 p.0.1 p.1) d.1 made

pub part_again : (maps : List MapDecl) (m : MapId) (decl : MapDecl) (part : ℕ) (rest : List ℕ) → Named maps m decl → IsShared decl.kind → IsPartNumber part
    → part_at maps (to_le_bytes w32 m.0 ++ (to_le_bytes w32 part ++ rest)) ≡ Some ((m, part), rest)
unfolding part_at
part_again maps m decl part rest named shared below =
    let h = shared_held decl.kind shared in
    let few : part < 2 ^ 32 = omega (arith, below) in
    bind_to (shared_map_at maps (to_le_bytes w32 m.0 ++ (to_le_bytes w32 part ++ rest))) _ ((m, (decl, h.0)), to_le_bytes w32 part ++ rest) _ (shared_again maps m decl h.0 (to_le_bytes w32 part ++ rest) named h.1)
    (bind_to (number_at w32 (to_le_bytes w32 part ++ rest)) _ (part, rest) _ (number_again w32 wide32 part rest few)
    (ap (λ (b : Bool). where_true b ((m, part), rest)) (part_number_tells part below)))

pub record TablesTook (maps : List MapDecl) (actors : ℕ) (bytes : List ℕ) (m : MapId) (table : ℕ) (rest : List ℕ) : Type 0 where
  pub decl : MapDecl
  pub named : Named maps m decl
  pub gathers : IsAggregation decl.kind
  pub took : Takes bytes (to_le_bytes w32 m.0 ++ to_le_bytes w32 table) rest
  pub below : table < actors
  pub few : table < 2 ^ 32

pub table_takes : (maps : List MapDecl) (actors : ℕ) (bytes : List ℕ) (m : MapId) (table : ℕ) (rest : List ℕ) → IsBytes bytes → table_at maps actors bytes ≡ Some ((m, table), rest) → TablesTook maps actors bytes m table rest
unfolding table_at
table_takes maps actors bytes m table rest fits e =
    let a = bind_some (table_map_at maps bytes) _ ((m, table), rest) e in
    let b = bind_some (number_at w32 a.0.1) _ ((m, table), rest) a.2 in
    let d = where_true_some (nat_lt b.0.0 actors) ((a.0.0.0, b.0.0), b.0.1) ((m, table), rest) b.2 in
    let s = table_map_takes maps bytes a.0.0.0 a.0.0.1 a.0.1 fits a.1 in
    let n = number_takes w32 wide32 a.0.1 b.0.0 b.0.1 s.map.took.rest_fits b.1 in
    let made : TablesTook maps actors bytes a.0.0.0 b.0.0 b.0.1 = record {
      decl = a.0.0.1;
      named = s.map.named;
      gathers = s.gathers;
      took = Takes-then bytes (to_le_bytes w32 a.0.0.0.0) a.0.1 (to_le_bytes w32 b.0.0) b.0.1 s.map.took n.0;
      below = ltb-true b.0.0 actors d.0;
      few = n.1;
    } in
    subst (λ (p : (MapId × ℕ) × List ℕ). TablesTook maps actors bytes p.0.0 p.0.1 p.1) d.1 made

pub table_again : (maps : List MapDecl) (actors : ℕ) (m : MapId) (decl : MapDecl) (table : ℕ) (rest : List ℕ) → Named maps m decl → IsAggregation decl.kind → table < actors → table < 2 ^ 32
    → table_at maps actors (to_le_bytes w32 m.0 ++ (to_le_bytes w32 table ++ rest)) ≡ Some ((m, table), rest)
unfolding table_at
table_again maps actors m decl table rest named agg below few =
    bind_to (table_map_at maps (to_le_bytes w32 m.0 ++ (to_le_bytes w32 table ++ rest))) _ ((m, decl), to_le_bytes w32 table ++ rest) _ (table_map_again maps m decl (to_le_bytes w32 table ++ rest) named agg)
    (bind_to (number_at w32 (to_le_bytes w32 table ++ rest)) _ (table, rest) _ (number_again w32 wide32 table rest few)
    (ap (λ (b : Bool). where_true b ((m, table), rest)) (lt-ltb table actors below)))
