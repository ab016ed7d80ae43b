-- Ends of lists, and their sizes.
use Rattle.std.proofs.Common.{◌≡◌, ℕ, ◌+◌, ◌-◌, ◌≤◌, List, [], ◌∷◌, ◌++◌, length, refl, sym, ap, ◌∙◌, arith, append-nil, length-append, take, drop, true}
use Rattle.std.proofs.lemmas.Bool.{and_parts}
use Rattle.std.proofs.lemmas.List.Folds.{list_all-append}
use Rattle.std.proofs.Math.Seq.{take-append_seam, drop-append_seam}
use Rattle.bt_core.specs.declared.map.Shape.{Shape}
use Rattle.bt_core.specs.declared.value.Value.{Value}
use Rattle.typed_tree.specs.Parts.{TreePart}
use Rattle.typed_tree.specs.Scope.{Scope, fits, all_fit}
use Rattle.ir_code.specs.Figures.{sizes_of}
use Rattle.ir_code.specs.Typing.{last_of, front_of}
use Rattle.ir_code.specs.Stacks.{top, below}

pub top-append : (vs : List Value) (v : Value) → top (vs ++ v ∷ []) ≡ v
top-append [] v = refl
top-append (x ∷ []) v = refl
top-append (x ∷ y ∷ vs) v = top-append (y ∷ vs) v

pub below-append : (vs : List Value) (v : Value) → below (vs ++ v ∷ []) ≡ vs
below-append [] v = refl
below-append (x ∷ []) v = refl
below-append (x ∷ y ∷ vs) v = ap (λ l. x ∷ l) (below-append (y ∷ vs) v)

pub last-append : {A : Type 0} (n : ℕ) (xs ys : List A) → length ys ≡ n → last_of n (xs ++ ys) ≡ ys
last-append n xs ys e =
    let at : length (xs ++ ys) - n ≡ length xs = omega (arith, length-append xs ys, e) in
    ap (λ (m : ℕ). drop m (xs ++ ys)) at ∙ drop-append_seam xs ys

pub front-append : {A : Type 0} (n : ℕ) (xs ys : List A) → length ys ≡ n → front_of n (xs ++ ys) ≡ xs
front-append n xs ys e =
    let at : length (xs ++ ys) - n ≡ length xs = omega (arith, length-append xs ys, e) in
    ap (λ (m : ℕ). take m (xs ++ ys)) at ∙ take-append_seam xs ys

pub front-none : {A : Type 0} (xs : List A) → front_of 0 xs ≡ xs
front-none xs = ap (λ l. front_of 0 l) (sym (append-nil xs)) ∙ front-append 0 xs [] refl

pub sizes-append : (a b : List Shape) → sizes_of (a ++ b) ≡ sizes_of a + sizes_of b
sizes-append [] b = omega arith
sizes-append (s ∷ a) b = omega (arith, sizes-append a b)

pub fit-parts : (s : Scope) (a b : List TreePart) → all_fit s (a ++ b) ≡ true → (all_fit s a ≡ true) × (all_fit s b ≡ true)
fit-parts s a b h = let p = and_parts (all_fit s a) (all_fit s b) (sym (list_all-append (fits s) a b) ∙ h) in (p.0, p.1)

pub fit-head : (s : Scope) (x : TreePart) (b : List TreePart) → all_fit s (x ∷ b) ≡ true → (fits s x ≡ true) × (all_fit s b ≡ true)
fit-head s x b h = let p = and_parts (fits s x) (all_fit s b) h in (p.0, p.1)

pub nothing_in : {A : Type 0} (xs : List A) → length xs ≡ 0 → xs ≡ []
nothing_in [] h = refl
nothing_in (x ∷ xs) h = absurd (omega (arith, h))

pub front-short : {A : Type 0} (xs : List A) → length xs ≤ 0 → front_of 1 xs ≡ xs
front-short [] h = refl
front-short (x ∷ xs) h = absurd (omega (arith, h))
