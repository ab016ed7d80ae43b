-- What the parts of a tree that fit say of the maps that a port serves, and of the payload.
use Rattle.std.proofs.Common.{◌≡◌, ℕ, suc, ◌≤◌, ◌<◌, ◌++◌, List, [], ◌∷◌, length, Option, Some, None, Bool, true, false, refl, sym, ap, ◌∙◌, subst, arith, inl, inr}
use Rattle.std.specs.Prelude.{ℤ, ◌==◌, ◌&&◌, if◌then◌else◌, IsTrue, All, IsSomeAnd, slice_get, nat_le}
use Rattle.std.specs.List.{list_all, list_any}
use Rattle.std.proofs.lemmas.Bool.{and_parts, or_cases, eqb-true, leb-true}
use Rattle.bt_core.specs.declared.limits.TheConstants.{KEY_PARTS}
use Rattle.bt_core.specs.declared.map.MapDecl.{MapDecl}
use Rattle.bt_core.specs.declared.map.MapId.{MapId}
use Rattle.bt_core.specs.declared.map.MapKind.{MapKind}
use Rattle.bt_core.specs.declared.map.MapKind.TheVariants.{Ints, Strs, Aggs}
use Rattle.bt_core.specs.declared.map.AggKind.{AggKind}
use Rattle.bt_core.specs.declared.map.Shape.{Shape}
use Rattle.bt_core.specs.declared.map.Shape.TheVariants as shapes
use Rattle.bt_core.specs.declared.value.Value.{Value}
use Rattle.bt_core.specs.declared.value.Value.TheVariants.{Int, Str}
use Rattle.bt_core.specs.Kinds.{HasShape, IsOfShape, IsOfKind, IsShared, IsAggregation}
use Rattle.bt_core.specs.declared.step.ObjectId.TheVariants.{Cpu}
use Rattle.bt_core.specs.declared.step.Op.TheVariants.{Get, Set, Delete, Add, Read}
use Rattle.bt_core.specs.Ports.{Setting, CanStep}
use Rattle.event_layout.specs.declared.field.Field.{Field}
use Rattle.event_layout.specs.declared.layout.Layout.{Layout}
use Rattle.event_layout.specs.Sizes.{end_of, greatest_end}
use Rattle.typed_tree.specs.Parts.{FieldOf}
use Rattle.typed_tree.specs.Scope.{decl_of, same_shape, same_shapes, same_kind, same_field, same_field_kind, same_bool, has_field, is_shape, shape_of_field, is_agg, is_shared, is_summed, is_summed_kind, is_there, is_declared, is_fine_decl, is_fine_kind, kind_of_shape, fits}
use Rattle.typed_tree.proofs.Summed.{summed_kind}
use Rattle.std.specs.Str.{bytes_eq}
use Rattle.walk_meaning.specs.declared.view.View.{View}
use Rattle.map_ops.specs.Holders.{part, kind_in, CanSweep}
use Rattle.map_ops.proofs.PartLaws.{part_below}
use Rattle.walk_meaning.specs.Maps.{kind_in_body}
use Rattle.walk_meaning.specs.Served.{IsServed, NamesShared, HoldsUnder, scope_in, least_length}

-- ---- equal shapes

same_shape-equal : (a b : Shape) → same_shape a b ≡ true → a ≡ b
same_shape-equal shapes.Int shapes.Int h = refl
same_shape-equal shapes.Int shapes.Str h = cc
same_shape-equal shapes.Str shapes.Int h = cc
same_shape-equal shapes.Str shapes.Str h = refl

pub same_shapes-equal : (a b : List Shape) → same_shapes a b ≡ true → a ≡ b
same_shapes-equal [] [] h = refl
same_shapes-equal [] (t ∷ ts) h = cc
same_shapes-equal (s ∷ ss) [] h = cc
same_shapes-equal (s ∷ ss) (t ∷ ts) h =
    let p = and_parts (same_shape s t) (same_shapes ss ts) h in
    ap (λ x. x ∷ ss) (same_shape-equal s t p.0) ∙ ap (λ l. t ∷ l) (same_shapes-equal ss ts p.1)

pub HasShape-length : (hs : List Shape) (vs : List Value) → HasShape hs vs → length vs ≡ length hs
HasShape-length [] [] h = refl
HasShape-length [] (v ∷ vs) h = absurd h
HasShape-length (s ∷ hs) [] h = absurd h
HasShape-length (s ∷ hs) (v ∷ vs) h = ap suc (HasShape-length hs vs h.1)

pub HasShape-more : (hs : List Shape) (vs : List Value) (h : Shape) (v : Value) → HasShape hs vs → IsOfShape h v → HasShape (hs ++ h ∷ []) (vs ++ v ∷ [])
HasShape-more [] [] h v p q = (q, tt)
HasShape-more [] (w ∷ vs) h v p q = absurd p
HasShape-more (s ∷ hs) [] h v p q = absurd p
HasShape-more (s ∷ hs) (w ∷ vs) h v p q = (p.0, HasShape-more hs vs h v p.1 q)

-- ---- declarations

-- what is found under a number is the one that is there, or one of the rest
pub served_pick : {X : Type 0} (xs : List X) (n k : ℕ) (own found : X) (rest : Option X) → slice_get xs k ≡ Some own → (rest ≡ Some found → slice_get xs n ≡ Some found) →
    (b : Bool) → (k == n) ≡ b → (if b then Some own else rest) ≡ Some found → slice_get xs n ≡ Some found
served_pick xs n k own found rest a r true e g = subst (λ i. slice_get xs i ≡ Some found) (eqb-true k n e) (a ∙ g)
served_pick xs n k own found rest a r false e g = r g

pub served : (maps : List MapDecl) (n : ℕ) (ms : List (MapId × MapDecl)) (decl : MapDecl) → All (λ (m : MapId × MapDecl). slice_get maps m.0.0 ≡ Some m.1) ms →
    decl_of n ms ≡ Some decl → slice_get maps n ≡ Some decl
served maps n [] decl a h = cc
served maps n (m ∷ ms) decl a h =
    served_pick maps n m.0.0 m.1 decl (decl_of n ms) (a 0 m (omega arith)) (served maps n ms decl (λ k d l. a (suc k) d (omega (arith, l)))) (m.0.0 == n) refl h

Some_is : (a b : MapDecl) → Some a ≡ Some b → a ≡ b
Some_is a b e = cc

fine_pick : (own decl : MapDecl) (rest : Option MapDecl) → is_fine_decl own ≡ true → (rest ≡ Some decl → is_fine_decl decl ≡ true) → (b : Bool) → (if b then Some own else rest) ≡ Some decl → is_fine_decl decl ≡ true
fine_pick own decl rest a r true g = subst (λ (o : MapDecl). is_fine_decl o ≡ true) (Some_is own decl g) a
fine_pick own decl rest a r false g = r g

pub fine : (n : ℕ) (ms : List (MapId × MapDecl)) (decl : MapDecl) → list_all (λ (m : MapId × MapDecl). is_fine_decl m.1) ms ≡ true → decl_of n ms ≡ Some decl → is_fine_decl decl ≡ true
fine n [] decl a h = cc
fine n (m ∷ ms) decl a h =
    let p = and_parts (is_fine_decl m.1) (list_all (λ (m : MapId × MapDecl). is_fine_decl m.1) ms) a in
    fine_pick m.1 decl (decl_of n ms) p.0 (fine n ms decl p.1) (m.0.0 == n) h

-- a declaration that is served, with these keys, of which there are few
pub record Found (setting : Setting) (m : MapId) (keys : List Shape) (holds : MapKind → Type 0) : Type 0 where
  pub decl : MapDecl
  pub here : slice_get setting.maps m.0 ≡ Some decl
  pub kind : holds decl.kind
  pub shaped : decl.key_shape ≡ keys
  pub few : length keys ≤ KEY_PARTS

found : (v : View) (setting : Setting) (m : MapId) (keys : List Shape) (holds : MapKind → Type 0) (decl : MapDecl) → IsServed v setting → decl_of m.0 v.body.now.maps ≡ Some decl →
    same_shapes decl.key_shape keys ≡ true → holds decl.kind → Found setting m keys holds
found v setting m keys holds decl s h e k =
    let same = same_shapes-equal decl.key_shape keys e in
    let small = and_parts (is_fine_kind decl.kind) (nat_le (length decl.key_shape) KEY_PARTS) (fine m.0 v.body.now.maps decl s.fine h) in
    record {
      decl = decl;
      here = served setting.maps m.0 v.body.now.maps decl s.can.maps_are_served h;
      kind = k;
      shaped = same;
      few = subst (λ (l : List Shape). length l ≤ KEY_PARTS) same (leb-true (length decl.key_shape) KEY_PARTS small.1);
    }

not_agg : (k : MapKind) → (if is_agg k then false else true) ≡ true → IsShared k
not_agg Ints h = tt
not_agg Strs h = tt
not_agg (Aggs a) h = cc

shared_case : (v : View) (setting : Setting) (m : MapId) (keys : List Shape) (o : Option MapDecl) → IsServed v setting → decl_of m.0 v.body.now.maps ≡ o → is_shared o keys ≡ true → Found setting m keys IsShared
shared_case v setting m keys None s h e = cc
shared_case v setting m keys (Some decl) s h e =
    let p = and_parts (if is_agg decl.kind then false else true) (same_shapes decl.key_shape keys) e in
    found v setting m keys IsShared decl s h p.1 (not_agg decl.kind p.0)

pub shared : (v : View) (setting : Setting) (m : MapId) (keys : List Shape) → IsServed v setting → NamesShared v m keys → Found setting m keys IsShared
shared v setting m keys s h = shared_case v setting m keys (decl_of m.0 v.body.now.maps) s refl h

of_shape : (k : MapKind) (h : Shape) → same_kind k (kind_of_shape h) ≡ true → k ≡ kind_of_shape h
of_shape Ints shapes.Int e = refl
of_shape Ints shapes.Str e = cc
of_shape Strs shapes.Int e = cc
of_shape Strs shapes.Str e = refl
of_shape (Aggs a) shapes.Int e = cc
of_shape (Aggs a) shapes.Str e = cc

of_agg : (k : MapKind) (a : AggKind) → same_kind k (Aggs a) ≡ true → IsAggregation k
of_agg Ints a e = cc
of_agg Strs a e = cc
of_agg (Aggs b) a e = tt

summed_case : (v : View) (setting : Setting) (m : MapId) (keys : List Shape) (o : Option MapDecl) → IsServed v setting → decl_of m.0 v.body.now.maps ≡ o → is_summed o keys ≡ true → Found setting m keys IsAggregation
summed_case v setting m keys None s h e = cc
summed_case v setting m keys (Some decl) s h e =
    let p = and_parts (is_summed_kind decl.kind) (same_shapes decl.key_shape keys) e in
    found v setting m keys IsAggregation decl s h p.1 (summed_kind decl.kind p.0)

pub summing : (v : View) (setting : Setting) (m : MapId) (keys : List Shape) → IsServed v setting → IsTrue (is_summed (decl_of m.0 v.body.now.maps) keys) → Found setting m keys IsAggregation
summing v setting m keys s h = summed_case v setting m keys (decl_of m.0 v.body.now.maps) s refl h

-- what such an aggregation holds
pub summed_here : (o : Option MapDecl) (keys : List Shape) → is_summed o keys ≡ true → IsAggregation (kind_in o)
summed_here None keys e = cc
summed_here (Some decl) keys e = summed_kind decl.kind (and_parts (is_summed_kind decl.kind) (same_shapes decl.key_shape keys) e).0

-- the tables of all actors can be read
pub table_can : (v : View) (setting : Setting) (m : MapId) (keys : List Shape) (n : ℕ) → IsServed v setting → Found setting m keys IsAggregation → n < v.actors → CanStep setting (Cpu n) (Read m)
table_can v setting m keys n s f h = (omega (arith, h, s.can.actors_are_the_ports), rw f.here f.kind)

declared_case : (v : View) (setting : Setting) (m : MapId) (keys : List Shape) (kind : MapKind) (holds : MapKind → Type 0) → ((k : MapKind) → same_kind k kind ≡ true → holds k) → (o : Option MapDecl) → IsServed v setting →
    decl_of m.0 v.body.now.maps ≡ o → is_declared o kind keys ≡ true → Found setting m keys holds
declared_case v setting m keys kind holds f None s h e = cc
declared_case v setting m keys kind holds f (Some decl) s h e =
    let p = and_parts (same_kind decl.kind kind) (same_shapes decl.key_shape keys) e in
    found v setting m keys holds decl s h p.1 (f decl.kind p.0)

pub valued : (v : View) (setting : Setting) (m : MapId) (keys : List Shape) (h : Shape) → IsServed v setting → IsTrue (is_declared (decl_of m.0 v.body.now.maps) (kind_of_shape h) keys) → Found setting m keys (λ k. k ≡ kind_of_shape h)
valued v setting m keys h s e = declared_case v setting m keys (kind_of_shape h) (λ k. k ≡ kind_of_shape h) (λ k p. of_shape k h p) (decl_of m.0 v.body.now.maps) s refl e

pub gathering : (v : View) (setting : Setting) (m : MapId) (keys : List Shape) (a : AggKind) → IsServed v setting → IsTrue (is_declared (decl_of m.0 v.body.now.maps) (Aggs a) keys) → Found setting m keys IsAggregation
gathering v setting m keys a s e = declared_case v setting m keys (Aggs a) IsAggregation (λ k p. of_agg k a p) (decl_of m.0 v.body.now.maps) s refl e

-- a key of this shape
pub few_values : (setting : Setting) (m : MapId) (keys : List Shape) (holds : MapKind → Type 0) (values : List Value) → Found setting m keys holds → HasShape keys values → length values ≤ KEY_PARTS
few_values setting m keys holds values f h = omega (arith, f.few, HasShape-length keys values h)

pub keyed : (setting : Setting) (m : MapId) (keys : List Shape) (holds : MapKind → Type 0) (values : List Value) → Found setting m keys holds → HasShape keys values →
    IsSomeAnd (slice_get setting.maps m.0) (λ decl. holds decl.kind × HasShape decl.key_shape values)
keyed setting m keys holds values f h = rw f.here (f.kind, subst (λ (l : List Shape). HasShape l values) (sym f.shaped) h)

shape_shared : (k : MapKind) (h : Shape) → k ≡ kind_of_shape h → IsShared (kind_of_shape h)
shape_shared k shapes.Int e = tt
shape_shared k shapes.Str e = tt

pub held : (setting : Setting) (m : MapId) (keys : List Shape) (h : Shape) (values : List Value) → Found setting m keys (λ k. k ≡ kind_of_shape h) → HasShape keys values → HoldsUnder setting m (kind_of_shape h) values
held setting m keys h values f s = rw f.here (f.kind, shape_shared f.decl.kind h f.kind, subst (λ (l : List Shape). HasShape l values) (sym f.shaped) s)

-- ---- fields

pub same_field-end : (f g : Field) → same_field f g ≡ true → end_of f ≡ end_of g
same_field-end f g h =
    let a = and_parts (bytes_eq f.name g.name && f.offset == g.offset && f.size == g.size && same_bool f.signed g.signed) (same_field_kind f.kind g.kind) h in
    let b = and_parts (bytes_eq f.name g.name && f.offset == g.offset && f.size == g.size) (same_bool f.signed g.signed) a.0 in
    let c = and_parts (bytes_eq f.name g.name && f.offset == g.offset) (f.size == g.size) b.0 in
    let d = and_parts (bytes_eq f.name g.name) (f.offset == g.offset) c.0 in
    let offset : f.offset ≡ g.offset = eqb-true f.offset g.offset d.1 in
    let size : f.size ≡ g.size = eqb-true f.size g.size c.1 in
    omega (arith, offset, size)

any_inside : (f : Field) (fs : List Field) → list_any (same_field f) fs ≡ true → end_of f ≤ greatest_end fs
any_inside f [] h = cc
any_inside f (g ∷ gs) h =
    elim (or_cases (same_field f g) (list_any (same_field f) gs) h) [
      | inl e ↦ (let same : end_of f ≡ end_of g = same_field-end f g e in omega (arith, same))
      | inr e ↦ (let below : end_of f ≤ greatest_end gs = any_inside f gs e in omega (arith, below))
    ]

layout_inside : (f : Field) (o : Option Layout) → has_field o f ≡ true → end_of f ≤ least_length o
layout_inside f None h = cc
layout_inside f (Some layout) h = let inside : end_of f ≤ greatest_end layout.fields = any_inside f layout.fields h in omega (arith, inside, layout.covers)

pub field_inside : (v : View) (setting : Setting) (f : Field) (h : Shape) → IsServed v setting → fits (scope_in v) (FieldOf f h) ≡ true → end_of f ≤ length v.payload.now
field_inside v setting f h s e =
    let p = and_parts (has_field v.body.now.layout f) (is_shape (shape_of_field f.kind) h) e in
    let inside : end_of f ≤ least_length v.body.now.layout = layout_inside f v.body.now.layout p.0 in
    omega (arith, inside, s.can.payload_is_long)

-- ---- operations that can be made

kind_holds : (k : MapKind) (h : Shape) (value : Value) → k ≡ kind_of_shape h → IsOfShape h value → IsOfKind k value
kind_holds k shapes.Int (Int n) e p = subst (λ (x : MapKind). IsOfKind x (Int n)) (sym e) tt
kind_holds k shapes.Int (Str s) e p = absurd p
kind_holds k shapes.Str (Int n) e p = absurd p
kind_holds k shapes.Str (Str s) e p = subst (λ (x : MapKind). IsOfKind x (Str s)) (sym e) tt

kind_shared : (k : MapKind) (h : Shape) → k ≡ kind_of_shape h → IsShared k
kind_shared k shapes.Int e = subst (λ (x : MapKind). IsShared x) (sym e) tt
kind_shared k shapes.Str e = subst (λ (x : MapKind). IsShared x) (sym e) tt

pub set_can : (setting : Setting) (m : MapId) (keys : List Shape) (h : Shape) (key : List Value) (value : Value) → Found setting m keys (λ k. k ≡ kind_of_shape h) → HasShape keys key → IsOfShape h value → CanStep setting (part m key) (Set key value)
set_can setting m keys h key value f s p =
    (part_below key, rw f.here (kind_shared f.decl.kind h f.kind, (subst (λ (l : List Shape). HasShape l key) (sym f.shaped) s, kind_holds f.decl.kind h value f.kind p)))

pub delete_can : (setting : Setting) (m : MapId) (keys : List Shape) (key : List Value) → Found setting m keys IsShared → HasShape keys key → CanStep setting (part m key) (Delete key)
delete_can setting m keys key f s = (part_below key, rw f.here (f.kind, subst (λ (l : List Shape). HasShape l key) (sym f.shaped) s))

pub add_can : (v : View) (setting : Setting) (m : MapId) (keys : List Shape) (key : List Value) (n : ℤ) → IsServed v setting → Found setting m keys IsAggregation → HasShape keys key → CanStep setting (Cpu v.actor) (Add m key n)
add_can v setting m keys key n s f h =
    (omega (arith, s.can.actor_is_below, s.can.actors_are_the_ports), rw f.here (f.kind, subst (λ (l : List Shape). HasShape l key) (sym f.shaped) h))

sweep_case : (v : View) (setting : Setting) (m : MapId) (o : Option MapDecl) → IsServed v setting → decl_of m.0 v.body.now.maps ≡ o → is_there o ≡ true → CanSweep setting m (kind_in o) v.actors
sweep_case v setting m None s e h = cc
sweep_case v setting m (Some decl) s e h =
    record { declared = rw (served setting.maps m.0 v.body.now.maps decl s.can.maps_are_served e) refl; tables = s.can.actors_are_the_ports }

pub sweep_can : (v : View) (setting : Setting) (m : MapId) → IsServed v setting → IsTrue (is_there (decl_of m.0 v.body.now.maps)) → CanSweep setting m (kind_in_body m v.body.now.maps) v.actors
sweep_can v setting m s h = sweep_case v setting m (decl_of m.0 v.body.now.maps) s refl h

pub get_can : (setting : Setting) (m : MapId) (keys : List Shape) (h : Shape) (key : List Value) → Found setting m keys (λ k. k ≡ kind_of_shape h) → HasShape keys key → CanStep setting (part m key) (Get key)
get_can setting m keys h key f s = (part_below key, rw f.here (kind_shared f.decl.kind h f.kind, subst (λ (l : List Shape). HasShape l key) (sym f.shaped) s))
