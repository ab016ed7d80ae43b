-- What the port can do for a helper whose arguments are in range.
use Rattle.std.proofs.Common.{◌≡◌, ℕ, zero, suc, ◌<◌, ◌≤◌, ◌^◌, List, [], ◌∷◌, length, Option, Some, None, Bool, true, false, cond, refl, sym, ap, ◌∙◌, subst}
use Rattle.std.specs.Prelude.{ℤ, not, IsTrue, IsSomeAnd, slice_get, nat_le, nat_lt}
use Rattle.std.specs.List.{list_all}
use Rattle.std.specs.Option.{option_and_then}
use Rattle.std.proofs.lemmas.Bool.{and_parts, ltb-true, leb-true}
use Rattle.bt_core.specs.declared.limits.TheConstants.{KEY_PARTS}
use Rattle.bt_core.specs.declared.map.MapDecl.{MapDecl}
use Rattle.bt_core.specs.declared.map.MapKind.{MapKind}
use Rattle.bt_core.specs.declared.map.Shape.{Shape}
use Rattle.bt_core.specs.declared.map.MapKind.TheVariants.{Ints, Strs, Aggs}
use Rattle.bt_core.specs.declared.step.ObjectId.TheVariants.{Cpu}
use Rattle.bt_core.specs.declared.step.Op.{Op}
use Rattle.bt_core.specs.declared.step.Op.TheVariants.{Get, Set, Delete, Add}
use Rattle.bt_core.specs.declared.value.Value.{Value}
use Rattle.bt_core.specs.declared.value.Value.TheVariants.{Int, Str}
use Rattle.bt_core.specs.Kinds.{HasShape, IsOfShape, IsOfKind, IsShared, IsAggregation}
use Rattle.bt_core.specs.Ports.{Setting, CanStep, IsSharedOp}
use Rattle.bpf_insn.specs.Regions.{is_in_frame}
use Rattle.typed_tree.specs.Scope.{is_agg, is_summed_kind, is_fine_decl, is_fine_kind}
use Rattle.typed_tree.proofs.Summed.{summed_kind}
use Rattle.helper_abi.specs.Helpers.{numbered, map_id, of_sort, table_map, value_map, summed_map}
use Rattle.helper_abi.specs.Reading.{shape_bytes, shape_of_kind}
use Rattle.helper_abi.specs.Served.{ServesMaps, HasRoom}
use Rattle.map_ops.specs.Holders.{part, CanSweep}
use Rattle.map_ops.proofs.PartLaws.{part_below}

cond_some : {A : Type 0} (b : Bool) (o : Option A) (a : A) → cond b o None ≡ Some a → (b ≡ true) × (o ≡ Some a)
cond_some true o a e = (refl, e)
cond_some false o a e = cc

-- ---- declarations

fine_at : (maps : List MapDecl) (n : ℕ) (decl : MapDecl) → list_all is_fine_decl maps ≡ true → slice_get maps n ≡ Some decl → is_fine_decl decl ≡ true
fine_at [] n decl h e = cc
fine_at (d ∷ ds) zero decl h e =
    let same : d ≡ decl = cc in
    subst (λ (x : MapDecl). is_fine_decl x ≡ true) same (and_parts (is_fine_decl d) (list_all is_fine_decl ds) h).0
fine_at (d ∷ ds) (suc n) decl h e = fine_at ds n decl (and_parts (is_fine_decl d) (list_all is_fine_decl ds) h).1 e

-- what has a number
pub small : {A : Type 0} (xs : List A) (n : ℕ) (a : A) → numbered xs n ≡ Some a → n < 2 ^ 32
small xs n a e = ltb-true n (2 ^ 32) (cond_some (nat_lt n (2 ^ 32)) (slice_get xs n) a e).0

pub there : {A : Type 0} (xs : List A) (n : ℕ) (a : A) → numbered xs n ≡ Some a → slice_get xs n ≡ Some a
there xs n a e = (cond_some (nat_lt n (2 ^ 32)) (slice_get xs n) a e).1

pub few : (maps : List MapDecl) (setting : Setting) (n : ℕ) (decl : MapDecl) → ServesMaps maps setting → numbered maps n ≡ Some decl → length decl.key_shape ≤ KEY_PARTS
few maps setting n decl serves e =
    let fine = fine_at maps n decl serves.fine (there maps n decl e) in
    leb-true (length decl.key_shape) KEY_PARTS (and_parts (is_fine_kind decl.kind) (nat_le (length decl.key_shape) KEY_PARTS) fine).1

shared_kind : (kind : MapKind) → not (is_agg kind) ≡ true → IsShared kind
shared_kind Ints h = tt
shared_kind Strs h = tt
shared_kind (Aggs kind) h = cc

agg_kind : (kind : MapKind) → is_agg kind ≡ true → IsAggregation kind
agg_kind Ints h = cc
agg_kind Strs h = cc
agg_kind (Aggs kind) h = tt

of_sort-is : (b : Bool) (d decl : MapDecl) → of_sort b d ≡ Some decl → (b ≡ true) × (d ≡ decl)
of_sort-is true d decl e = (refl, cc)
of_sort-is false d decl e = cc

value_sort : (o : Option MapDecl) (decl : MapDecl) → option_and_then (λ (d : MapDecl). of_sort (not (is_agg d.kind)) d) o ≡ Some decl → (o ≡ Some decl) × IsShared decl.kind
value_sort None decl e = cc
value_sort (Some d) decl e =
    let p = of_sort-is (not (is_agg d.kind)) d decl e in
    (ap (λ (x : MapDecl). Some x) p.1, subst (λ (x : MapDecl). IsShared x.kind) p.1 (shared_kind d.kind p.0))

table_sort : (o : Option MapDecl) (decl : MapDecl) → option_and_then (λ (d : MapDecl). of_sort (is_agg d.kind) d) o ≡ Some decl → (o ≡ Some decl) × IsAggregation decl.kind
table_sort None decl e = cc
table_sort (Some d) decl e =
    let p = of_sort-is (is_agg d.kind) d decl e in
    (ap (λ (x : MapDecl). Some x) p.1, subst (λ (x : MapDecl). IsAggregation x.kind) p.1 (agg_kind d.kind p.0))

pub value_map-is : (maps : List MapDecl) (n : ℕ) (decl : MapDecl) → value_map maps n ≡ Some decl → (numbered maps n ≡ Some decl) × IsShared decl.kind
value_map-is maps n decl e = value_sort (numbered maps n) decl e

pub table_map-is : (maps : List MapDecl) (n : ℕ) (decl : MapDecl) → table_map maps n ≡ Some decl → (numbered maps n ≡ Some decl) × IsAggregation decl.kind
table_map-is maps n decl e = table_sort (numbered maps n) decl e

summed_sort : (o : Option MapDecl) (decl : MapDecl) → option_and_then (λ (d : MapDecl). of_sort (is_summed_kind d.kind) d) o ≡ Some decl → (o ≡ Some decl) × IsAggregation decl.kind
summed_sort None decl e = cc
summed_sort (Some d) decl e =
    let p = of_sort-is (is_summed_kind d.kind) d decl e in
    (ap (λ (x : MapDecl). Some x) p.1, subst (λ (x : MapDecl). IsAggregation x.kind) p.1 (summed_kind d.kind p.0))

pub summed_map-is : (maps : List MapDecl) (n : ℕ) (decl : MapDecl) → summed_map maps n ≡ Some decl → (numbered maps n ≡ Some decl) × IsAggregation decl.kind
summed_map-is maps n decl e = summed_sort (numbered maps n) decl e

-- ---- steps

served_at : (maps : List MapDecl) (setting : Setting) (n : ℕ) (decl : MapDecl) (P : MapDecl → Type 0) → ServesMaps maps setting → slice_get maps n ≡ Some decl → P decl → IsSomeAnd (slice_get setting.maps n) P
served_at maps setting n decl P serves e h =
    let is : slice_get setting.maps n ≡ Some decl = ap (λ (l : List MapDecl). slice_get l n) serves.same ∙ e in
    subst (λ (o : Option MapDecl). IsSomeAnd o P) (sym is) h

module _ (maps : List MapDecl) (setting : Setting) (n : ℕ) (decl : MapDecl) (serves : ServesMaps maps setting) (key : List Value) (shaped : HasShape decl.key_shape key) where
  can_share : value_map maps n ≡ Some decl → (op : Op) → IsSharedOp decl op → CanStep setting (part (map_id n) key) op
  can_share e op own =
      let p = value_map-is maps n decl e in
      (part_below key, served_at maps setting n decl (λ d. IsShared d.kind × IsSharedOp d op) serves (there maps n decl p.0) (p.1, own))

  pub can_get : value_map maps n ≡ Some decl → CanStep setting (part (map_id n) key) (Get key)
  can_get e = can_share e (Get key) shaped

  pub can_delete : value_map maps n ≡ Some decl → CanStep setting (part (map_id n) key) (Delete key)
  can_delete e = can_share e (Delete key) shaped

  pub can_set : value_map maps n ≡ Some decl → (value : Value) → IsOfKind decl.kind value → CanStep setting (part (map_id n) key) (Set key value)
  can_set e value kind = can_share e (Set key value) (shaped, kind)

  pub can_add : table_map maps n ≡ Some decl → (actor : ℕ) (number : ℤ) → actor < setting.actors → CanStep setting (Cpu actor) (Add (map_id n) key number)
  can_add e actor number below =
      let p = table_map-is maps n decl e in
      (below, served_at maps setting n decl (λ d. IsAggregation d.kind × HasShape d.key_shape key) serves (there maps n decl p.0) (p.1, shaped))

-- a value of a shared map's shape is of its kind
pub of_kind : (kind : MapKind) (value : Value) → IsShared kind → IsOfShape (shape_of_kind kind) value → IsOfKind kind value
of_kind Ints (Int n) shared h = tt
of_kind Ints (Str s) shared h = absurd h
of_kind Strs (Int n) shared h = absurd h
of_kind Strs (Str s) shared h = tt
of_kind (Aggs kind) value shared h = absurd shared

pub room_at : (maps : List MapDecl) (setting : Setting) (n to : ℕ) (decl : MapDecl) → ServesMaps maps setting → value_map maps n ≡ Some decl → is_in_frame to (shape_bytes (shape_of_kind decl.kind)) ≡ true → HasRoom setting (map_id n) to
room_at maps setting n to decl serves e room =
    let p = value_map-is maps n decl e in
    served_at maps setting n decl (λ d. IsTrue (is_in_frame to (shape_bytes (shape_of_kind d.kind)))) serves (there maps n decl p.0) room

pub can_sweep : (maps : List MapDecl) (setting : Setting) (n : ℕ) (decl : MapDecl) (actors : ℕ) → ServesMaps maps setting → numbered maps n ≡ Some decl → setting.actors ≡ actors → CanSweep setting (map_id n) decl.kind actors
can_sweep maps setting n decl actors serves e tables = record {
  declared = served_at maps setting n decl (λ d. d.kind ≡ decl.kind) serves (there maps n decl e) refl;
  tables = tables;
}

-- whether the frame has room for a value of a map
pub room_is : (kind : MapKind) (h : Shape) (n to : ℕ) (b : Bool) → h ≡ shape_of_kind kind → n ≡ shape_bytes h → b ≡ is_in_frame to n → is_in_frame to (shape_bytes (shape_of_kind kind)) ≡ b
room_is kind h n to b shape bytes room = ap (λ (m : ℕ). is_in_frame to m) (ap shape_bytes (sym shape) ∙ sym bytes) ∙ sym room
