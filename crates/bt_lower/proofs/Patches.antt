-- The block that ends a loop's turns gets its place before its exit is known.
use Rattle.std.proofs.Common.{◌≡◌, ◌≢◌, ℕ, zero, suc, ◌-◌, ◌<◌, ◌≤◌, List, [], ◌∷◌, ◌++◌, length, refl, sym, ap, ◌∙◌, arith, Some, length-set}
use Rattle.std.specs.Prelude.{slice_get, slice_set}
use Rattle.ir_code.specs.declared.blocks.Block.{Block}
use Rattle.bt_lower.specs.Lowers.{Stand, Grew}
use Rattle.bt_lower.proofs.Blocks.{Stand-before}

get-set-same : {A : Type 0} (xs : List A) (a : ℕ) (v : A) → a < length xs → slice_get (slice_set xs a v) a ≡ Some v
get-set-same [] a v h = absurd (omega arith)
get-set-same (x ∷ xs) zero v h = refl
get-set-same (x ∷ xs) (suc a) v h = get-set-same xs a v (omega arith)

get-set-other : {A : Type 0} (xs : List A) (a b : ℕ) (v : A) → b ≢ a → slice_get (slice_set xs a v) b ≡ slice_get xs b
get-set-other [] a b v h = refl
get-set-other (x ∷ xs) zero zero v h = absurd (h refl)
get-set-other (x ∷ xs) zero (suc b) v h = refl
get-set-other (x ∷ xs) (suc a) zero v h = refl
get-set-other (x ∷ xs) (suc a) (suc b) v h = get-set-other xs a b v (λ e. h (ap suc e))

set-append : {A : Type 0} (xs ys : List A) (a : ℕ) (v : A) → length xs ≤ a → slice_set (xs ++ ys) a v ≡ xs ++ slice_set ys (a - length xs) v
set-append [] ys a v h = ap (λ (n : ℕ). slice_set ys n v) (omega arith)
set-append (x ∷ xs) ys zero v h = absurd (omega arith)
set-append (x ∷ xs) ys (suc a) v h =
    let same : suc a - length (x ∷ xs) ≡ a - length xs = omega arith in
    ap (λ l. x ∷ l) (set-append xs ys a v (omega arith)) ∙ ap (λ (n : ℕ). x ∷ xs ++ slice_set ys n v) (sym same)

pub Grew-set : (xs ys : List Block) (a : ℕ) (v : Block) → length xs ≤ a → Grew xs ys → Grew xs (slice_set ys a v)
Grew-set xs ys a v le g = record { more = slice_set g.more (a - length xs) v; is = ap (λ l. slice_set l a v) g.is ∙ set-append xs g.more a v le }

pub Stand-set : (from to a : ℕ) (xs bs : List Block) (v : Block) → from ≤ to → a < to → Stand from (slice_set xs a v) bs → Stand to xs bs
Stand-set from to a xs bs v le lt s = record { at = λ b h l. s.at b (omega arith) (omega (arith, length-set xs a v)) ∙ get-set-other xs a b v (λ e. omega (arith, e)) }

pub Stand-under : (from a : ℕ) (xs ys bs : List Block) (v : Block) → Grew xs ys → length xs ≤ a → Stand from (slice_set ys a v) bs → Stand from xs bs
Stand-under from a xs ys bs v g le s = Stand-before from xs (slice_set ys a v) bs (Grew-set xs ys a v le g) s

pub here-set : (from a : ℕ) (xs bs : List Block) (v : Block) → from ≤ a → a < length xs → Stand from (slice_set xs a v) bs → slice_get bs a ≡ Some v
here-set from a xs bs v le lt s = s.at a le (omega (arith, length-set xs a v)) ∙ get-set-same xs a v lt
