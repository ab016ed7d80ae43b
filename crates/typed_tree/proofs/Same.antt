-- What the tests of types tell, for the crates above.
use Rattle.std.proofs.Common.{int_eq, ◌≡◌, ◌≤◌, ◌&&◌, ℤ, pos, Bool, true, false, nat_le, List, [], ◌∷◌, length, refl, ap}
use Rattle.std.specs.Prelude.{int_le, int_lt}
use Rattle.std.specs.Int.Signed.{le_z_yes, lt_z_yes}
use Rattle.std.proofs.lemmas.Bool.{leb-true}
use Rattle.std.proofs.lemmas.Bool.Decides.{Decides-int_eq}
use Rattle.std.proofs.lemmas.Float.{T_from_true}
use Rattle.bt_core.specs.declared.limits.TheConstants.{KEY_PARTS, LHIST_BUCKETS}
use Rattle.bt_core.specs.declared.map.AggKind.{AggKind}
use Rattle.bt_core.specs.declared.map.AggKind.TheVariants.{Count, Sum, Min, Max, Avg, Hist, Lhist}
use Rattle.bt_core.specs.declared.map.MapDecl.{MapDecl}
use Rattle.bt_core.specs.declared.map.MapKind.{MapKind}
use Rattle.bt_core.specs.declared.map.MapKind.TheVariants.{Ints, Strs, Aggs}
use Rattle.bt_core.specs.declared.map.Shape.{Shape}
use Rattle.bt_core.specs.declared.map.Shape.TheVariants.{Int, Str}
use Rattle.bt_core.specs.Kinds.{steps_between, IsFineKind, IsFineMapKind, IsFineDecl}
use Rattle.typed_tree.specs.Scope.{same_shape, same_shapes, same_agg, same_kind, is_fine_agg, is_fine_kind, is_fine_decl}

-- both of two tests
pub both_hold : (a b : Bool) → (a && b) ≡ true → (a ≡ true) × (b ≡ true)
both_hold true b h = (refl, h)
both_hold false b h = cc

pub shape_is : (a b : Shape) → same_shape a b ≡ true → a ≡ b
shape_is Int Int h = refl
shape_is Int Str h = cc
shape_is Str Int h = cc
shape_is Str Str h = refl

pub shapes_are : (a b : List Shape) → same_shapes a b ≡ true → a ≡ b
shapes_are [] [] h = refl
shapes_are [] (t ∷ ts) h = cc
shapes_are (s ∷ ss) [] h = cc
shapes_are (s ∷ ss) (t ∷ ts) h =
    let p = both_hold (same_shape s t) (same_shapes ss ts) h in
    let q = shape_is s t p.0 in
    let r = shapes_are ss ts p.1 in
    cc

steps_are : (min max step low high wide : ℤ) → same_agg (Lhist min max step) (Lhist low high wide) ≡ true → Lhist min max step ≡ Lhist low high wide
steps_are min max step low high wide h =
    let p = both_hold (int_eq min low) (int_eq max high && int_eq step wide) h in
    let q = both_hold (int_eq max high) (int_eq step wide) p.1 in
    let x = (Decides-int_eq min low).0 p.0 in
    let y = (Decides-int_eq max high).0 q.0 in
    let z = (Decides-int_eq step wide).0 q.1 in
    cc

-- a test that says no says nothing that is so
no : {P : Type 0} → false ≡ true → P
no h = cc

count_is : (b : AggKind) → same_agg Count b ≡ true → Count ≡ b
count_is Count h = refl
count_is b h = no h

sum_is : (b : AggKind) → same_agg Sum b ≡ true → Sum ≡ b
sum_is Sum h = refl
sum_is b h = no h

min_is : (b : AggKind) → same_agg Min b ≡ true → Min ≡ b
min_is Min h = refl
min_is b h = no h

max_is : (b : AggKind) → same_agg Max b ≡ true → Max ≡ b
max_is Max h = refl
max_is b h = no h

avg_is : (b : AggKind) → same_agg Avg b ≡ true → Avg ≡ b
avg_is Avg h = refl
avg_is b h = no h

hist_is : (b : AggKind) → same_agg Hist b ≡ true → Hist ≡ b
hist_is Hist h = refl
hist_is b h = no h

lhist_is : (min max step : ℤ) (b : AggKind) → same_agg (Lhist min max step) b ≡ true → Lhist min max step ≡ b
lhist_is min max step (Lhist low high wide) h = steps_are min max step low high wide h
lhist_is min max step b h = no h

agg_is : (a b : AggKind) → same_agg a b ≡ true → a ≡ b
agg_is Count b h = count_is b h
agg_is Sum b h = sum_is b h
agg_is Min b h = min_is b h
agg_is Max b h = max_is b h
agg_is Avg b h = avg_is b h
agg_is Hist b h = hist_is b h
agg_is (Lhist min max step) b h = lhist_is min max step b h

pub kind_is : (a b : MapKind) → same_kind a b ≡ true → a ≡ b
kind_is Ints Ints h = refl
kind_is Strs Strs h = refl
kind_is (Aggs a) (Aggs b) h = ap Aggs (agg_is a b h)
kind_is a b h = cc

pub agg_fine : (kind : AggKind) → is_fine_agg kind ≡ true → IsFineKind kind
agg_fine (Lhist min max step) h =
    let p = both_hold (int_lt min max && int_le (pos 1) step) (nat_le (steps_between min max step) LHIST_BUCKETS) h in
    let q = both_hold (int_lt min max) (int_le (pos 1) step) p.0 in
    record { above = lt_z_yes (T_from_true (int_lt min max) q.0); wide = le_z_yes (T_from_true (int_le (pos 1) step) q.1); few = leb-true (steps_between min max step) LHIST_BUCKETS p.1 }
agg_fine kind h = tt

kind_fine : (kind : MapKind) → is_fine_kind kind ≡ true → IsFineMapKind kind
kind_fine Ints h = tt
kind_fine Strs h = tt
kind_fine (Aggs kind) h = agg_fine kind h

-- a declaration that passes the test is well formed, and its key has at most four parts
pub decl_fine : (decl : MapDecl) → is_fine_decl decl ≡ true → IsFineDecl decl × (length decl.key_shape ≤ KEY_PARTS)
decl_fine decl h =
    let p = both_hold (is_fine_kind decl.kind) (nat_le (length decl.key_shape) KEY_PARTS) h in
    (kind_fine decl.kind p.0, leb-true (length decl.key_shape) KEY_PARTS p.1)
