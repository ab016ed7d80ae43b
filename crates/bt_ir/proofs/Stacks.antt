-- The end of a stack.
use Rattle.std.proofs.Common.{◌≡◌, ℕ, suc, ◌-◌, List, [], ◌∷◌, length, Some, refl, ap, ◌∙◌, subst, arith}
use Rattle.std.specs.Prelude.{slice_get, remove}
use Rattle.bt_core.specs.declared.value.Value.{Value}
use Rattle.ir_code.specs.Stacks.{top, below}

pub top-last : (xs : List Value) (v : Value) → slice_get xs (length xs - 1) ≡ Some v → v ≡ top xs
top-last [] v h = cc
top-last (x ∷ []) v h = cc
top-last (x ∷ y ∷ xs) v h =
    let e : length (x ∷ y ∷ xs) - 1 ≡ suc (length (y ∷ xs) - 1) = omega arith in
    top-last (y ∷ xs) v (subst (λ (n : ℕ). slice_get (x ∷ y ∷ xs) n ≡ Some v) e h)

pub below-remove : (xs : List Value) → remove xs (length xs - 1) ≡ below xs
below-remove [] = refl
below-remove (x ∷ []) = refl
below-remove (x ∷ y ∷ xs) =
    let e : length (x ∷ y ∷ xs) - 1 ≡ suc (length (y ∷ xs) - 1) = omega arith in
    ap (λ (n : ℕ). remove (x ∷ y ∷ xs) n) e ∙ ap (λ (l : List Value). x ∷ l) (below-remove (y ∷ xs))
