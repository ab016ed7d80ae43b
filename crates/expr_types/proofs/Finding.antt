-- What a search of a list by name finds.
use Rattle.std.proofs.Common.{◌≡◌, ◌≢◌, ◌++◌, ◌+◌, ℕ, ◌<◌, suc, true, false, cond, ◌&&◌, ◌||◌, List, [], ◌∷◌, length, drop, get_or, Some, slice_get, refl, sym, ap, subst, ◌∙◌, arith, drop-cons}
use Rattle.std.specs.Str.{bytes_eq}
use Rattle.std.proofs.lemmas.Slice.Eq.{bytes_eq-Decides}
use Rattle.std.proofs.lemmas.Option.{slice_get_read}
use Rattle.bt_core.specs.declared.map.Shape.{Shape}
use Rattle.typed_tree.specs.Scope.{same_shape, same_shapes}
use Rattle.expr_types.specs.declared.known.Var.{Var}
use Rattle.expr_types.specs.Known.{has_name, place_of, var_in}

pub same_is : (a b : List ℕ) → bytes_eq a b ≡ true → a ≡ b
same_is a b = (bytes_eq-Decides a b).0

pub same_self : (a : List ℕ) → bytes_eq a a ≡ true
same_self a = (bytes_eq-Decides a a).1 refl

pub name_found : (names : List (List ℕ)) (i : ℕ) (other name : List ℕ) → i < length names → other ≡ get_or names i other → bytes_eq other name ≡ true → has_name name (drop i names) ≡ has_name name names
    → place_of name (drop i names) + i ≡ place_of name names → (has_name name names ≡ true) × (i ≡ place_of name names) × (slice_get names i ≡ Some name)
name_found names i other name within is same left placed =
    let e : drop i names ≡ get_or names i other ∷ drop (suc i) names = drop-cons names i other within in
    let g : bytes_eq (get_or names i other) name ≡ true = ap (λ o. bytes_eq o name) (sym is) ∙ same in
    let h : has_name name (drop i names) ≡ true = ap (has_name name) e ∙ ap (λ b. b || has_name name (drop (suc i) names)) g in
    let p : place_of name (drop i names) ≡ 0 = ap (place_of name) e ∙ ap (λ b. cond b 0 (place_of name (drop (suc i) names) + 1)) g in (
      sym left ∙ h,
      omega arith,
      slice_get_read names (length names) i other refl within is ∙ ap (λ o. Some o) (same_is other name same),
    )

-- one place on
pub name_passed : (names : List (List ℕ)) (i : ℕ) (other name : List ℕ) → i < length names → other ≡ get_or names i other → bytes_eq other name ≡ false
    → (has_name name (drop (i + 1) names) ≡ has_name name (drop i names)) × (place_of name (drop (i + 1) names) + (i + 1) ≡ place_of name (drop i names) + i)
name_passed names i other name within is other_one =
    let e : drop i names ≡ get_or names i other ∷ drop (suc i) names = drop-cons names i other within in
    let g : bytes_eq (get_or names i other) name ≡ false = ap (λ o. bytes_eq o name) (sym is) ∙ other_one in
    let h : has_name name (drop i names) ≡ has_name name (drop (suc i) names) = ap (has_name name) e ∙ ap (λ b. b || has_name name (drop (suc i) names)) g in
    let p : place_of name (drop i names) ≡ place_of name (drop (suc i) names) + 1 = ap (place_of name) e ∙ ap (λ b. cond b 0 (place_of name (drop (suc i) names) + 1)) g in
    let s : suc i ≡ i + 1 = omega arith in
    subst (λ j. (has_name name (drop j names) ≡ has_name name (drop i names)) × (place_of name (drop j names) + j ≡ place_of name (drop i names) + i)) s (sym h, omega arith)

-- a name that is added at the end, where it was not
pub last_placed : (name : List ℕ) (names : List (List ℕ)) → has_name name names ≡ false → place_of name (names ++ name ∷ []) ≡ length names
last_placed name [] h = ap (λ b. cond b 0 1) (same_self name)
last_placed name (n ∷ ns) h =
    elim (bytes_eq n name) as (λ b. (b || has_name name ns) ≡ false → cond b 0 (place_of name (ns ++ name ∷ []) + 1) ≡ suc (length ns))
    [ true ↦ λ e. cc | false ↦ λ e. (let r = last_placed name ns e in omega arith) ] h

-- the last of a list stands at its length
pub last_there : {A : Type 0} (xs : List A) (x : A) → slice_get (xs ++ x ∷ []) (length xs) ≡ Some x
last_there [] x = refl
last_there (y ∷ ys) x = last_there ys x

pub var_found : (vars : List Var) (i : ℕ) (v : Var) (name : List ℕ) → i < length vars → v ≡ get_or vars i v → bytes_eq v.name name ≡ true → var_in name (drop i vars) ≡ var_in name vars → (var_in name vars ≡ Some v.shape) × (slice_get vars i ≡ Some (record { name = name; shape = v.shape }))
var_found vars i v name within is same left =
    let e : var_in name (drop i vars) ≡ cond (bytes_eq (get_or vars i v).name name) (Some (get_or vars i v).shape) (var_in name (drop (suc i) vars)) = ap (var_in name) (drop-cons vars i v within) in
    let g : bytes_eq (get_or vars i v).name name ≡ true = ap (λ (o : Var). bytes_eq o.name name) (sym is) ∙ same in (
      sym left ∙ (e ∙ (ap (λ b. cond b (Some (get_or vars i v).shape) (var_in name (drop (suc i) vars))) g ∙ ap (λ (o : Var). Some o.shape) (sym is))),
      slice_get_read vars (length vars) i v refl within is ∙ ap (λ (n : List ℕ). Some (let r : Var = record { name = n; shape = v.shape } in r)) (same_is v.name name same),
    )

-- lists of different lengths are not the same
pub other_length : (a b : List Shape) → length a ≢ length b → false ≡ same_shapes a b
other_length [] [] h = absurd (h refl)
other_length [] (t ∷ ts) h = refl
other_length (s ∷ ss) [] h = refl
other_length (s ∷ ss) (t ∷ ts) h =
    elim (same_shape s t) as (λ b. false ≡ (b && same_shapes ss ts)) [ true ↦ other_length ss ts (λ e. h (ap suc e)) | false ↦ refl ]

-- a name that was added, and its number
pub name_added : (names new : List (List ℕ)) (name copied : List ℕ) (n : ℕ) → has_name name names ≡ false → copied ≡ name → n ≡ length names → new ≡ names ++ copied ∷ [] → (n ≡ place_of name new) × (slice_get new n ≡ Some name)
name_added names new name copied n h e is made =
    let whole : new ≡ names ++ name ∷ [] = cc in
    rw (whole, is) (sym (last_placed name names h), last_there names name)
