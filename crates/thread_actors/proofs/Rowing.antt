-- Lists that are made of others, item by item.
use Rattle.std.proofs.Common.{◌≡◌, ℕ, ◌+◌, List, [], ◌∷◌, ◌++◌, map, length, append-nil, append_assoc, sym, ap, ◌∙◌, arith}
use Rattle.std.specs.Prelude.{sum}
use Rattle.std.proofs.lemmas.List.{map-append}
use Rattle.std.proofs.lemmas.List.Sums.{sum_by-append}

module _ {X Y : Type 0} (f : X → Y) (made : List X) where
  -- nothing is left, and so all is made
  pub all_made : (left whole : List Y) → 0 ≡ length left → map f made ++ left ≡ whole → map f made ≡ whole
  all_made [] whole e h = sym (append-nil (map f made)) ∙ h
  all_made (y ∷ left) whole e h = absurd (omega (arith, e))

  -- one more is made
  pub one_made : (news : List X) (x : X) (y : Y) (left rest whole : List Y) → news ≡ made ++ x ∷ [] → left ≡ y ∷ rest → f x ≡ y
      → map f made ++ left ≡ whole → map f news ++ rest ≡ whole
  one_made news x y left rest whole e l s h =
      ap (λ (xs : List X). map f xs ++ rest) e ∙ (ap (λ (ys : List Y). ys ++ rest) (map-append f made (x ∷ []))
      ∙ (append_assoc (map f made) (f x ∷ []) rest ∙ (ap (λ (z : Y). map f made ++ z ∷ rest) s
      ∙ (ap (λ (ys : List Y). map f made ++ ys) (sym l) ∙ h))))

-- one more behind those that there are
pub one_behind : {X Y : Type 0} (f : X → Y) (xs : List X) (x : X) (old new : List Y) → old ≡ map f xs → new ≡ old ++ f x ∷ [] → new ≡ map f (xs ++ x ∷ [])
one_behind f xs x old new h n = n ∙ (ap (λ (ys : List _). ys ++ f x ∷ []) h ∙ sym (map-append f xs (x ∷ [])))

pub sum_behind : {X : Type 0} (f : X → ℕ) (xs : List X) (x : X) (old new : ℕ) → old ≡ sum (map f xs) → new ≡ old + f x → new ≡ sum (map f (xs ++ x ∷ []))
sum_behind f xs x old new h n =
    n ∙ (ap (λ (k : ℕ). k + f x) h ∙ (sym (sum_by-append (λ y. y) (map f xs) (f x ∷ []) ∙ omega arith) ∙ ap sum (sym (map-append f xs (x ∷ [])))))

-- items that were gone over, with those that are left
pub one_gone : {X : Type 0} (gone : List X) (x : X) (left rest whole : List X) → left ≡ x ∷ rest → gone ++ left ≡ whole → (gone ++ x ∷ []) ++ rest ≡ whole
one_gone gone x left rest whole l h = append_assoc gone (x ∷ []) rest ∙ (ap (λ (ys : List _). gone ++ ys) (sym l) ∙ h)

pub all_gone_over : {X : Type 0} (gone left whole : List X) → 0 ≡ length left → gone ++ left ≡ whole → gone ≡ whole
all_gone_over gone [] whole e h = sym (append-nil gone) ∙ h
all_gone_over gone (y ∷ left) whole e h = absurd (omega (arith, e))
