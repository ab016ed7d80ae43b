-- Where the parts of a map stand among the parts of all maps.
use Rattle.std.proofs.Common.{◌≡◌, ◌≢◌, ℕ, zero, suc, ◌+◌, ◌<◌, List, [], ◌∷◌, ◌++◌, map, length, get_or, drop, refl, sym, ap, ◌∙◌, subst, arith, Some, append_assoc, length-append}
use Rattle.std.specs.Prelude.{slice_get}
use Rattle.std.proofs.lemmas.List.{map-append, length-map}
use Rattle.bt_core.specs.declared.map.MapDecl.{MapDecl}
use Rattle.bt_core.specs.declared.map.MapId.{MapId}
use Rattle.bt_core.specs.declared.step.ObjectId.{ObjectId}
use Rattle.bt_core.specs.declared.step.ObjectId.TheVariants.{Shared}
use Rattle.turn_lock.specs.History.{Each}
use Rattle.stamped.specs.Numbered.{numbered}
use Rattle.stamped.specs.SetSteps.{AreDistinct}
use Rattle.stamped.proofs.NumberedLemmas.{numbered_length, numbered_get, numbered_each, numbered_map, numbered_distinct, each_both, distinct_both}
use Rattle.step_objects.specs.declared.shared.SharedPart.{SharedPart}
use Rattle.step_objects.specs.CpuTables.{map_at}
use Rattle.step_objects.specs.Objects.{shared_kind}
use Rattle.map_ops.specs.Parts.{part_count}
use Rattle.shared_maps.specs.Parts.{Part, part_at, parts_from, firsts_from, made_for}

get_right : {A : Type 0} (xs ys : List A) (k : ℕ) → slice_get (xs ++ ys) (length xs + k) ≡ slice_get ys k
get_right [] ys k = ap (slice_get ys) (let e : 0 + k ≡ k = omega arith in e)
get_right (x ∷ xs) ys k = ap (slice_get (x ∷ (xs ++ ys))) (let e : suc (length xs) + k ≡ suc (length xs + k) = omega arith in e) ∙ get_right xs ys k

get_left : {A : Type 0} (xs ys : List A) (k : ℕ) (x : A) → slice_get xs k ≡ Some x → slice_get (xs ++ ys) k ≡ Some x
get_left [] ys k x e = let no : ⊥ = cc in absurd no
get_left (y ∷ xs) ys zero x e = e
get_left (y ∷ xs) ys (suc k) x e = get_left xs ys k x e

pub firsts_length : (k : ℕ) (decls : List MapDecl) → length (firsts_from k decls) ≡ length decls
firsts_length k [] = refl
firsts_length k (d ∷ ds) = ap suc (firsts_length (k + part_count d.kind) ds)

-- the part of a map, where all maps' parts stand behind these
pub part_place : (m k : ℕ) (done : List Part) (decls : List MapDecl) (j p first : ℕ) (decl : MapDecl) → length done ≡ k → slice_get decls j ≡ Some decl → p < part_count decl.kind
    → first ≡ get_or (firsts_from k decls) j first → slice_get (done ++ parts_from m decls) (first + p) ≡ Some (part_at (m + j) decl p)
part_place m k done [] j p first decl long e lt at = let no : ⊥ = cc in absurd no
part_place m k done (d ∷ ds) zero p first decl long e lt at =
    let same : decl ≡ d = cc in let own = numbered (part_at m d) 0 (part_count d.kind) in
    ap (slice_get (done ++ (own ++ parts_from (m + 1) ds))) (let q : first + p ≡ length done + p = omega arith in q)
    ∙ get_right done (own ++ parts_from (m + 1) ds) p
    ∙ get_left own (parts_from (m + 1) ds) p (part_at m d (0 + p)) (numbered_get (part_at m d) 0 (part_count d.kind) p (subst (λ (e : MapDecl). p < part_count e.kind) same lt))
    ∙ ap Some (λ i. part_at ((let z : m ≡ m + 0 = omega arith in z) i) (sym same i) ((let z : 0 + p ≡ p = omega arith in z) i))
part_place m k done (d ∷ ds) (suc j) p first decl long e lt at =
    let own = numbered (part_at m d) 0 (part_count d.kind) in let n = numbered_length (part_at m d) 0 (part_count d.kind) in let l = length-append done own in
    ap (λ (parts : List Part). slice_get parts (first + p)) (sym (append_assoc done own (parts_from (m + 1) ds)))
    ∙ part_place (m + 1) (k + part_count d.kind) (done ++ own) ds j p first decl (omega arith) e lt at
    ∙ ap (λ q. Some (part_at q decl p)) (let z : m + 1 + j ≡ m + suc j = omega arith in z)

-- no two parts are the same object
abbrev id_of : Part → ObjectId
id_of part = part.0

later : (m p k : ℕ) (decls : List MapDecl) → m < k → Each (λ o. Shared (map_at m) p ≢ o) (map id_of (parts_from k decls))
later m p k [] lt = tt
later m p k (d ∷ ds) lt =
    let own = numbered (part_at k d) 0 (part_count d.kind) in
    subst (Each (λ o. Shared (map_at m) p ≢ o)) (sym (map-append id_of own (parts_from (k + 1) ds)))
    (each_both (λ o. Shared (map_at m) p ≢ o) (map id_of own) (map id_of (parts_from (k + 1) ds))
    (subst (Each (λ o. Shared (map_at m) p ≢ o)) (sym (numbered_map (part_at k d) id_of 0 (part_count d.kind)))
    (numbered_each (λ q. Shared (map_at k) q) (λ o. Shared (map_at m) p ≢ o) (λ q e. let same : map_at m ≡ map_at k = cc in let number : m ≡ k = ap (λ (id : MapId). id.0) same in omega arith) 0 (part_count d.kind)))
    (later m p (k + 1) ds (omega arith)))

pub parts_are_distinct : (m : ℕ) (decls : List MapDecl) → AreDistinct (map id_of (parts_from m decls))
parts_are_distinct m [] = tt
parts_are_distinct m (d ∷ ds) =
    let own = numbered (part_at m d) 0 (part_count d.kind) in let ids = numbered (λ q. Shared (map_at m) q) 0 (part_count d.kind) in let rest = map id_of (parts_from (m + 1) ds) in
    subst AreDistinct (sym (map-append id_of own (parts_from (m + 1) ds) ∙ ap (λ (l : List ObjectId). l ++ rest) (numbered_map (part_at m d) id_of 0 (part_count d.kind))))
    (distinct_both ids rest (numbered_distinct (λ q. Shared (map_at m) q) (λ a b lt e. let same : a ≡ b = cc in omega arith) 0 (part_count d.kind)) (parts_are_distinct (m + 1) ds)
    (numbered_each (λ q. Shared (map_at m) q) (λ x. Each (λ y. x ≢ y) rest) (λ q. later m q (m + 1) ds (omega arith)) 0 (part_count d.kind)))

-- one map more, of all maps
pub parts_step : (done new all : List Part) (maps : List MapDecl) (n : ℕ) (decl : MapDecl) → drop n maps ≡ decl ∷ drop (n + 1) maps → new ≡ done ++ numbered (part_at n decl) 0 (part_count decl.kind)
    → done ++ parts_from n (drop n maps) ≡ all → new ++ parts_from (n + 1) (drop (n + 1) maps) ≡ all
parts_step done new all maps n decl e grew h = ap (λ (l : List Part). l ++ parts_from (n + 1) (drop (n + 1) maps)) grew
    ∙ append_assoc done (numbered (part_at n decl) 0 (part_count decl.kind)) (parts_from (n + 1) (drop (n + 1) maps))
    ∙ ap (λ (ds : List MapDecl). done ++ parts_from n ds) (sym e) ∙ h

pub firsts_step : (done new all : List ℕ) (maps : List MapDecl) (n k j : ℕ) (decl : MapDecl) → drop n maps ≡ decl ∷ drop (n + 1) maps → j ≡ k + part_count decl.kind → new ≡ done ++ k ∷ []
    → done ++ firsts_from k (drop n maps) ≡ all → new ++ firsts_from j (drop (n + 1) maps) ≡ all
firsts_step done new all maps n k j decl e more grew h = (λ i. grew i ++ firsts_from (more i) (drop (n + 1) maps))
    ∙ append_assoc done (k ∷ []) (firsts_from (k + part_count decl.kind) (drop (n + 1) maps))
    ∙ ap (λ (ds : List MapDecl). done ++ firsts_from k ds) (sym e) ∙ h

pub made_length : (objects : List (ObjectId × SharedPart)) → length (made_for objects) ≡ length objects
made_length objects = length-map objects (λ (o : ObjectId × SharedPart). let part : Part = (o.0, shared_kind o.1) in part)

pub count_more : (old new : List (ObjectId × SharedPart)) (n : ℕ) (decl : MapDecl) → made_for new ≡ made_for old ++ numbered (part_at n decl) 0 (part_count decl.kind)
    → length new ≡ length old + part_count decl.kind
count_more old new n decl e = sym (made_length new) ∙ ap length e ∙ length-append (made_for old) (numbered (part_at n decl) 0 (part_count decl.kind))
    ∙ (λ i. made_length old i + numbered_length (part_at n decl) 0 (part_count decl.kind) i)

-- what is told of each object by what it is made for
pub told_of : {A : Type 0} (f : Part → A) (objects : List (ObjectId × SharedPart)) → map (λ (o : ObjectId × SharedPart). f (o.0, shared_kind o.1)) objects ≡ map f (made_for objects)
told_of f [] = refl
told_of f (o ∷ os) = ap (λ l. f (o.0, shared_kind o.1) ∷ l) (told_of f os)
