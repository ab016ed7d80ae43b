-- The answers of objects are of the kinds of their operations.
use Rattle.std.proofs.Common.{◌≡◌, ℕ, ◌==◌, ◌&&◌, Bool, true, false, cond, List, [], ◌∷◌, ◌++◌, map, fold, Option, Some, None, refl, sym, ap, ◌∙◌, subst, ℤ, zero, suc}
use Rattle.std.specs.Prelude.{IsSomeAnd, slice_get}
use Rattle.std.specs.List.{All, AllByRecursion}
use Rattle.std.specs.Ordering.{match_ordering}
use Rattle.std.specs.declared.cmp.Ordering.TheVariants.{Less, Equal, Greater}
use Rattle.std.proofs.lemmas.Bool.{eqb-true}
use Rattle.std.proofs.lemmas.List.{reverse-append}
use Rattle.std.proofs.lemmas.List.Elements.{All-from_recursion, recursion_from_All, All-map, All-filter, All-weaker}
use Rattle.bt_core.specs.declared.map.MapDecl.{MapDecl}
use Rattle.bt_core.specs.declared.map.MapId.{MapId}
use Rattle.bt_core.specs.declared.map.MapKind.{MapKind}
use Rattle.bt_core.specs.declared.map.MapKind.TheVariants.{Ints, Strs, Aggs}
use Rattle.bt_core.specs.declared.step.ObjectId.{ObjectId}
use Rattle.bt_core.specs.declared.step.ObjectId.TheVariants.{Shared, Cpu, Clock, Out}
use Rattle.bt_core.specs.declared.step.Op.{Op}
use Rattle.bt_core.specs.declared.step.Op.TheVariants.{Get, Set, Delete, Clear, Zero, ReadAll, Add, ClearOf, ZeroOf, Read, Cross, Check, Stop, Emit}
use Rattle.bt_core.specs.declared.value.Value.{Value}
use Rattle.bt_core.specs.Kinds.{HasShape, IsOfKind, IsShared, IsAggregation, IsAggOf, IsFineMapKind, IsFineDecl}
use Rattle.bt_core.specs.Order.{key_order}
use Rattle.bt_core.specs.Ports.{Setting, CanStep, IsReplyOf, IsSharedOp, IsTableOp, IsSharedReply, IsTableReply, IsClockReply}
use Rattle.agg_core.specs.Aggregates.{aggregate}
use Rattle.agg_core.specs.Answers.{shared_change, table_change, where_same, back, zero_value, last_given, shared_answer, table_answer, clock_answer, answer, kind_of_decl, agg_kind_of}
use Rattle.agg_core.specs.Changes.{Change, Puts, Removes, Clears, Zeroes, Leaves, is_key, with_key, put_keys, lives, live_keys, is_taken, given_to, rows_of}
use Rattle.agg_core.proofs.CountLaws.{buckets-fit}

abbrev Each : {A : Type 0} → (A → Type 0) → List A → Type 0
Each P xs = AllByRecursion P xs

each-append : {A : Type 0} (P : A → Type 0) (xs ys : List A) → Each P xs → Each P ys → Each P (xs ++ ys)
each-append P [] ys a b = b
each-append P (x ∷ xs) ys a b = (a.0, each-append P xs ys a.1 b)

-- where a put gives a key of which P holds a value of which Q holds
abbrev Fits : {V : Type 0} → (List Value → Type 0) → (V → Type 0) → Change V → Type 0
Fits P Q (Puts k v) = P k × Q v
Fits P Q (Removes k) = Unit {0}
Fits P Q Clears = Unit {0}
Fits P Q Zeroes = Unit {0}
Fits P Q Leaves = Unit {0}

module _ {V : Type 0} (P : List Value → Type 0) (Q : V → Type 0) where
  with_key-fits : (k : List Value) (ks : List (List Value)) → P k → Each P ks → Each P (with_key k ks)
  with_key-fits k [] p all = (p, tt)
  with_key-fits k (j ∷ js) p all = elim (key_order k j) as (λ o. Each P (match_ordering o (k ∷ j ∷ js) (j ∷ js) (j ∷ with_key k js)))
      [ Less ↦ (p, all) | Equal ↦ all | Greater ↦ (all.0, with_key-fits k js p all.1) ]

  put_keys-fit : (changes : List (Change V)) → Each (Fits P Q) changes → Each P (put_keys changes)
  put_keys-fit [] all = tt
  put_keys-fit (Puts k v ∷ before) all = with_key-fits k (put_keys before) all.0.0 (put_keys-fit before all.1)
  put_keys-fit (Removes k ∷ before) all = put_keys-fit before all.1
  put_keys-fit (Clears ∷ before) all = put_keys-fit before all.1
  put_keys-fit (Zeroes ∷ before) all = put_keys-fit before all.1
  put_keys-fit (Leaves ∷ before) all = put_keys-fit before all.1

  given-fits : (changes : List (Change V)) (k : List Value) → Each (Fits P Q) changes → Each Q (given_to changes k)
  given-fits [] k all = tt
  given-fits (Puts j v ∷ before) k all = elim (is_key j k && is_taken before k) as (λ t. Each Q (cond t (given_to before k ++ v ∷ []) (given_to before k)))
      [ true ↦ each-append Q (given_to before k) (v ∷ []) (given-fits before k all.1) (all.0.1, tt) | false ↦ given-fits before k all.1 ]
  given-fits (Removes j ∷ before) k all = elim (is_key j k) as (λ t. Each Q (cond t [] (given_to before k))) [ true ↦ tt | false ↦ given-fits before k all.1 ]
  given-fits (Clears ∷ before) k all = tt
  given-fits (Zeroes ∷ before) k all = tt
  given-fits (Leaves ∷ before) k all = given-fits before k all.1

  -- each row's key fits, and its cell, where what is made of values that fit does
  rows-fit : {C : Type 0} (R : C → Type 0) (made : List V → C) → ((values : List V) → Each Q values → R (made values))
      → (changes : List (Change V)) → Each (Fits P Q) changes → All (λ row. P row.0 × R row.1) (rows_of made changes)
  rows-fit R made good changes all =
      All-map (λ row. P row.0 × R row.1) (λ k. (k, made (given_to changes k))) (live_keys changes)
      (All-filter (lives changes) (λ k. P k × R (made (given_to changes k))) (put_keys changes)
      (λ i d low. (All-from_recursion P (put_keys changes) (put_keys-fit changes all) i d low, good _ (given-fits changes _ all))))

  -- the changes of operations that fit, looking back
  back-fits : (change : Op → Change V) (Own : Op → Type 0) → ((op : Op) → Own op → Fits P Q (change op))
      → (before : List Op) → Each Own before → Each (Fits P Q) (back change before)
  back-fits change Own good [] all = tt
  back-fits change Own good (op ∷ ops) all = subst (Each (Fits P Q)) (sym (reverse-append (change op ∷ []) (map change ops)))
      (each-append (Fits P Q) (back change ops) (change op ∷ []) (back-fits change Own good ops all.1) (good op all.0, tt))

last-fits : (kind : MapKind) (first : Value) (values : List Value) → IsOfKind kind first → Each (IsOfKind kind) values → IsOfKind kind (fold (λ _ v. v) first values)
last-fits kind first [] p all = p
last-fits kind first (v ∷ vs) p all = last-fits kind v vs all.0 all.1

zero-fits : (kind : MapKind) → IsShared kind → IsOfKind kind (zero_value kind)
zero-fits Ints s = tt
zero-fits Strs s = tt
zero-fits (Aggs kind) s = absurd s

shared-fits : (decl : MapDecl) (op : Op) → IsSharedOp decl op → Fits (HasShape decl.key_shape) (IsOfKind decl.kind) (shared_change op)
shared-fits decl (Get k) own = tt
shared-fits decl (Set k v) own = own
shared-fits decl (Delete k) own = tt
shared-fits decl Clear own = tt
shared-fits decl Zero own = tt
shared-fits decl ReadAll own = tt
shared-fits decl (Add m k n) own = tt
shared-fits decl (ClearOf m) own = tt
shared-fits decl (ZeroOf m) own = tt
shared-fits decl (Read m) own = tt
shared-fits decl (Cross t) own = tt
shared-fits decl Check own = tt
shared-fits decl Stop own = tt
shared-fits decl (Emit i) own = tt

pub shared_answer-kind : (decl : MapDecl) (before : List Op) (op : Op) → IsShared decl.kind → All (IsSharedOp decl) before → IsSharedReply decl op (shared_answer decl.kind before op)
shared_answer-kind decl before op shared all = by_op op
  where
    fits : Each (Fits (HasShape decl.key_shape) (IsOfKind decl.kind)) (back shared_change before)
    fits = back-fits (HasShape decl.key_shape) (IsOfKind decl.kind) shared_change (IsSharedOp decl) (shared-fits decl) before (recursion_from_All (IsSharedOp decl) before all)

    last : (values : List Value) → Each (IsOfKind decl.kind) values → IsOfKind decl.kind (last_given decl.kind values)
    last values each = last-fits decl.kind (zero_value decl.kind) values (zero-fits decl.kind shared) each

    by_op : (op : Op) → IsSharedReply decl op (shared_answer decl.kind before op)
    by_op (Get k) = last (given_to (back shared_change before) k) (given-fits (HasShape decl.key_shape) (IsOfKind decl.kind) (back shared_change before) k fits)
    by_op (Set k v) = refl
    by_op (Delete k) = refl
    by_op Clear = refl
    by_op Zero = refl
    by_op ReadAll = rows-fit (HasShape decl.key_shape) (IsOfKind decl.kind) (IsOfKind decl.kind) (last_given decl.kind) last (back shared_change before) fits
    by_op (Add m k n) = refl
    by_op (ClearOf m) = refl
    by_op (ZeroOf m) = refl
    by_op (Read m) = refl
    by_op (Cross t) = refl
    by_op Check = refl
    by_op Stop = refl
    by_op (Emit i) = refl

-- any number fits
abbrev Any : ℤ → Type 0
Any n = Unit {0}

same-fits : (P : List Value → Type 0) (m n : MapId) (c : Change ℤ) → ((m.0 == n.0) ≡ true → Fits P Any c) → Fits P Any (where_same m n c)
same-fits P m n c good = by_test (m.0 == n.0) refl
  where
    by_test : (t : Bool) → (m.0 == n.0) ≡ t → Fits P Any (cond t c Leaves)
    by_test true e = good e
    by_test false e = tt

table-fits : (maps : List MapDecl) (m : MapId) (decl : MapDecl) → slice_get maps m.0 ≡ Some decl → (op : Op) → IsTableOp maps op → Fits (HasShape decl.key_shape) Any (table_change m op)
table-fits maps m decl is (Add n k number) own = same-fits (HasShape decl.key_shape) m n (Puts k number) (λ e.
    let there : slice_get maps n.0 ≡ Some decl = ap (slice_get maps) (sym (eqb-true m.0 n.0 e)) ∙ is in
    let both : IsAggregation decl.kind × HasShape decl.key_shape k = subst (λ o. IsSomeAnd o (λ d. IsAggregation d.kind × HasShape d.key_shape k)) there own in (both.1, tt))
table-fits maps m decl is (ClearOf n) own = same-fits (HasShape decl.key_shape) m n Clears (λ e. tt)
table-fits maps m decl is (ZeroOf n) own = same-fits (HasShape decl.key_shape) m n Zeroes (λ e. tt)
table-fits maps m decl is (Get k) own = tt
table-fits maps m decl is (Set k v) own = tt
table-fits maps m decl is (Delete k) own = tt
table-fits maps m decl is Clear own = tt
table-fits maps m decl is Zero own = tt
table-fits maps m decl is ReadAll own = tt
table-fits maps m decl is (Read n) own = tt
table-fits maps m decl is (Cross t) own = tt
table-fits maps m decl is Check own = tt
table-fits maps m decl is Stop own = tt
table-fits maps m decl is (Emit i) own = tt

-- a declaration that is found is well formed
found-fine : (maps : List MapDecl) (n : ℕ) (decl : MapDecl) → AllByRecursion IsFineDecl maps → slice_get maps n ≡ Some decl → IsFineDecl decl
found-fine [] n decl all e = absurd (let f : ⊥ = cc in f)
found-fine (d ∷ ds) zero decl all e = let same : d ≡ decl = cc in subst IsFineDecl same all.0
found-fine (d ∷ ds) (suc n) decl all e = found-fine ds n decl all.1 e

made-fits : (kind : MapKind) (ns : List ℤ) → IsAggregation kind → IsFineMapKind kind → IsAggOf kind (aggregate (agg_kind_of kind) ns)
made-fits (Aggs kind) ns some fine = (refl, record { kind = fine; counts = buckets-fit kind ns })
made-fits Ints ns some fine = absurd some
made-fits Strs ns some fine = absurd some

read-kind : (maps : List MapDecl) (before : List Op) (m : MapId) → All IsFineDecl maps → All (IsTableOp maps) before → (o : Option MapDecl) → slice_get maps m.0 ≡ o → IsSomeAnd o (λ decl. IsAggregation decl.kind)
    → IsSomeAnd o (λ decl. All (λ row. HasShape decl.key_shape row.0 × IsAggOf decl.kind row.1) (rows_of (aggregate (agg_kind_of (kind_of_decl o))) (back (table_change m) before)))
read-kind maps before m fine all None is own = absurd own
read-kind maps before m fine all (Some decl) is own =
    let good = found-fine maps m.0 decl (recursion_from_All IsFineDecl maps fine) is in
    rows-fit (HasShape decl.key_shape) Any (IsAggOf decl.kind) (aggregate (agg_kind_of decl.kind)) (λ ns each. made-fits decl.kind ns own good) (back (table_change m) before)
    (back-fits (HasShape decl.key_shape) Any (table_change m) (IsTableOp maps) (table-fits maps m decl is) before (recursion_from_All (IsTableOp maps) before all))

pub table_answer-kind : (maps : List MapDecl) (before : List Op) (op : Op) → All IsFineDecl maps → All (IsTableOp maps) before → IsTableOp maps op → IsTableReply maps op (table_answer maps before op)
table_answer-kind maps before (Read m) fine all own = read-kind maps before m fine all (slice_get maps m.0) refl own
table_answer-kind maps before (Get k) fine all own = refl
table_answer-kind maps before (Set k v) fine all own = refl
table_answer-kind maps before (Delete k) fine all own = refl
table_answer-kind maps before Clear fine all own = refl
table_answer-kind maps before Zero fine all own = refl
table_answer-kind maps before ReadAll fine all own = refl
table_answer-kind maps before (Add m k n) fine all own = refl
table_answer-kind maps before (ClearOf m) fine all own = refl
table_answer-kind maps before (ZeroOf m) fine all own = refl
table_answer-kind maps before (Cross t) fine all own = refl
table_answer-kind maps before Check fine all own = refl
table_answer-kind maps before Stop fine all own = refl
table_answer-kind maps before (Emit i) fine all own = refl

clock-kind : (ticks cpus : ℕ) (before : List Op) (op : Op) → IsClockReply op (clock_answer cpus before op)
clock-kind ticks cpus before (Cross t) = tt
clock-kind ticks cpus before Check = tt
clock-kind ticks cpus before (Get k) = refl
clock-kind ticks cpus before (Set k v) = refl
clock-kind ticks cpus before (Delete k) = refl
clock-kind ticks cpus before Clear = refl
clock-kind ticks cpus before Zero = refl
clock-kind ticks cpus before ReadAll = refl
clock-kind ticks cpus before (Add m k n) = refl
clock-kind ticks cpus before (ClearOf m) = refl
clock-kind ticks cpus before (ZeroOf m) = refl
clock-kind ticks cpus before (Read m) = refl
clock-kind ticks cpus before Stop = refl
clock-kind ticks cpus before (Emit i) = refl

-- a part of the map that is declared, if it is
part-kind : (P : Type 0) (o : Option MapDecl) (before : List Op) (op : Op)
    → All (λ p. P × IsSomeAnd o (λ decl. IsShared decl.kind × IsSharedOp decl p)) before → P × IsSomeAnd o (λ decl. IsShared decl.kind × IsSharedOp decl op)
    → IsSomeAnd o (λ decl. IsSharedReply decl op (shared_answer (kind_of_decl o) before op))
part-kind P None before op all own = absurd own.1
part-kind P (Some decl) before op all own = shared_answer-kind decl before op own.1.0
    (All-weaker (λ p. P × (IsShared decl.kind × IsSharedOp decl p)) (IsSharedOp decl) (λ p both. both.1.1) before all)

pub answer-kind : (s : Setting) (cpus : ℕ) (object : ObjectId) (before : List Op) (op : Op) → All IsFineDecl s.maps → All (CanStep s object) before → CanStep s object op
    → IsReplyOf s.maps object op (answer s.maps cpus object before op)
answer-kind s cpus (Shared map part) before op fine all own = part-kind _ (slice_get s.maps map.0) before op all own
answer-kind s cpus (Cpu actor) before op fine all own =
    table_answer-kind s.maps before op fine (All-weaker (CanStep s (Cpu actor)) (IsTableOp s.maps) (λ p both. both.1) before all) own.1
answer-kind s cpus Clock before op fine all own = clock-kind s.ticks cpus before op
answer-kind s cpus Out before op fine all own = refl
