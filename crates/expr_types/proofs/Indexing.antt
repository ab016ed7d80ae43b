-- What is found in a list by a key.
use Rattle.std.proofs.Common.{◌≡◌, ◌++◌, ℕ, Bool, true, false, cond, List, [], ◌∷◌, map, Some, None, slice_get, refl, sym, ap, subst, ◌∙◌}
use Rattle.std.specs.Bool.{one_answer}
use Rattle.std.specs.Map.{lookup, lookup_key, values_of}
use Rattle.std.specs.Str.{bytes_eq}
use Rattle.std.proofs.lemmas.List.{map-append}
use Rattle.std.proofs.lemmas.Slice.Eq.{bytes_eq-Decides}
use Rattle.indexmap.specs.IndexMap.{insert_entry}
use Rattle.bt_core.specs.declared.map.Shape.{Shape}
use Rattle.expr_types.specs.declared.known.Var.{Var}
use Rattle.expr_types.specs.Indexed.{vars_by}
use Rattle.expr_types.specs.Known.{var_in}
use Rattle.expr_types.proofs.Finding.{same_is}
use Rattle.expr_types.proofs.Later.{get_mapped}

pub bytes_eq-sym : (a b : List ℕ) → bytes_eq a b ≡ bytes_eq b a
bytes_eq-sym a b = one_answer (bytes_eq a b) (bytes_eq b a) (bytes_eq-Decides a b) (λ h. sym (same_is b a h), λ h. (bytes_eq-Decides b a).1 (sym h))

pub lookup_var : {K : Type 0} (name_of : K → List ℕ) (test : K → Bool) (name : List ℕ) → ((k : K) → test k ≡ bytes_eq (name_of k) name) → (es : List (K × Shape)) → lookup test es ≡ var_in name (vars_by name_of es)
lookup_var name_of test name h [] = refl
lookup_var name_of test name h (e ∷ es) = let i = lookup_var name_of test name h es in rw (h e.0, i) refl

pub key_passes : {K X : Type 0} (test : K → Bool) (k : K) (es : List (K × X)) → lookup_key test es ≡ Some k → test k ≡ true
key_passes test k [] h = cc
key_passes test k (e ∷ es) h =
    let P : Bool → Type 0 = λ b. test e.0 ≡ b → cond b (Some e.0) (lookup_key test es) ≡ Some k → test k ≡ true in
    let yes : P true = λ s g. (let q : e.0 ≡ k = cc in subst (λ x. test x ≡ true) q s) in
    let no : P false = λ s g. key_passes test k es g in
    elim (test e.0) as P [ true ↦ yes | false ↦ no ] refl h

pub inserted_last : {K X : Type 0} (eq : K → K → Bool) (k : K) (v : X) (es : List (K × X)) → lookup (eq k) es ≡ None → insert_entry eq es k v ≡ es ++ (k, v) ∷ []
inserted_last eq k v [] h = refl
inserted_last eq k v (e ∷ es) h =
    elim (eq k e.0) as (λ b. cond b (Some e.1) (lookup (eq k) es) ≡ None → cond b ((e.0, v) ∷ es) (e ∷ insert_entry eq es k v) ≡ e ∷ (es ++ (k, v) ∷ []))
    [ true ↦ λ g. cc | false ↦ λ g. ap (λ l. e ∷ l) (inserted_last eq k v es g) ] h

-- a variable that is added
pub var_pushed : {K : Type 0} (name_of : K → List ℕ) (eq : K → K → Bool) (k : K) (name : List ℕ) (v : Shape) (es new : List (K × Shape)) (old : List Var) → ((j : K) → eq k j ≡ bytes_eq (name_of j) (name_of k)) → vars_by name_of es ≡ old → var_in name old ≡ None
    → name_of k ≡ name → new ≡ insert_entry eq es k v → vars_by name_of new ≡ old ++ (let x : Var = record { name = name; shape = v } in x) ∷ []
var_pushed {K} name_of eq k name v es new old h seen asked named made =
    let of : K × Shape → Var = λ e. record { name = name_of e.0; shape = e.1 } in
    let none : lookup (eq k) es ≡ None = lookup_var name_of (eq k) (name_of k) h es ∙ (ap (λ n. var_in n (vars_by name_of es)) named ∙ (ap (var_in name) seen ∙ asked)) in
    let longer : new ≡ es ++ (k, v) ∷ [] = made ∙ inserted_last eq k v es none in
    ap (vars_by name_of) longer
    ∙ (map-append of es ((k, v) ∷ []) ∙ (ap (λ (l : List Var). l ++ of (k, v) ∷ []) seen ∙ ap (λ (n : List ℕ). old ++ (let x : Var = record { name = n; shape = v } in x) ∷ []) named))

-- a variable that is found, and one that is not
pub var_there : {K : Type 0} (name_of : K → List ℕ) (test : K → Bool) (name : List ℕ) (es : List (K × Shape)) (vars : List Var) (i : ℕ) (k : K) (v : Shape) → ((j : K) → test j ≡ bytes_eq (name_of j) name) → vars_by name_of es ≡ vars
    → Some v ≡ lookup test es → Some k ≡ lookup_key test es → slice_get es i ≡ Some (k, v) → (var_in name vars ≡ Some v) × (slice_get vars i ≡ Some (let x : Var = record { name = name; shape = v } in x))
var_there {K} name_of test name es vars i k v h seen value key entry =
    let of : K × Shape → Var = λ e. record { name = name_of e.0; shape = e.1 } in
    let named : name_of k ≡ name = same_is (name_of k) name (sym (h k) ∙ key_passes test k es (sym key)) in (
      ap (var_in name) (sym seen) ∙ (sym (lookup_var name_of test name h es) ∙ sym value),
      ap (λ (l : List Var). slice_get l i) (sym seen) ∙ (get_mapped of es i (k, v) entry ∙ ap (λ (n : List ℕ). Some (let x : Var = record { name = n; shape = v } in x)) named),
    )

pub var_not_there : {K : Type 0} (name_of : K → List ℕ) (test : K → Bool) (name : List ℕ) (es : List (K × Shape)) (vars : List Var) → ((j : K) → test j ≡ bytes_eq (name_of j) name) → vars_by name_of es ≡ vars → None ≡ lookup test es → var_in name vars ≡ None
var_not_there name_of test name es vars h seen value = ap (var_in name) (sym seen) ∙ (sym (lookup_var name_of test name h es) ∙ sym value)

pub shapes_held : {K : Type 0} (name_of : K → List ℕ) (es : List (K × Shape)) → map (λ (v : Var). v.shape) (vars_by name_of es) ≡ values_of es
shapes_held name_of [] = refl
shapes_held name_of (e ∷ es) = ap (λ (l : List Shape). e.1 ∷ l) (shapes_held name_of es)
