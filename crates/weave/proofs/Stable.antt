-- The stable sort of a list is the one.
use Rattle.std.proofs.Common.{◌≡◌, ℕ, suc, Bool, true, false, cond, not, ◌&&◌, inl, inr, List, [], ◌∷◌, get_or, sym, refl, ap, ◌∙◌, subst, arith, add-one}
use Rattle.std.specs.List.{filter}
use Rattle.std.specs.Cmp.{IsStrictWeakOrder}
use Rattle.std.specs.List.Sorted.{ties, IsSortedBy, IsStableBy}
use Rattle.weave.specs.Ranked.{put_in, ranked}
use Rattle.weave.proofs.Among.{Has, filter_has}
use Rattle.weave.proofs.Ranking.{Steps, ranked_steps}

false_true : {P : Type 0} → false ≡ true → P
false_true e = absurd (let t : ⊥ = cc in t)

both_not : (a b : Bool) → (not a && not b) ≡ true → (a ≡ false) × (b ≡ false)
both_not true b e = false_true e
both_not false true e = false_true e
both_not false false e = (refl, refl)

module _ {A : Type 0} (lt : A → A → Bool) (o : IsStrictWeakOrder lt) where
  -- who ties with one that z comes before does not tie with z
  no_tie : (b : Bool) (w y z : A) → ties lt w y ≡ true → lt z y ≡ true → ties lt w z ≡ b → b ≡ false
  no_tie false w y z e f g = refl
  no_tie true w y z e f g = let h = both_not (lt w y) (lt y w) e in let k = both_not (lt w z) (lt z w) g in
      false_true (sym (o.chain z w y k.1 h.0) ∙ f)

  module _ (w : A) where
    kept : List A → List A
    kept xs = filter (ties lt w) xs

    past : (b : Bool) (y z : A) (zs : List A) → ties lt w y ≡ true → lt z y ≡ b → filter (ties lt w) (put_in lt y zs) ≡ y ∷ filter (ties lt w) zs
        → filter (ties lt w) (cond b (z ∷ put_in lt y zs) (y ∷ z ∷ zs)) ≡ y ∷ filter (ties lt w) (z ∷ zs)
    past true y z zs e f h = let n = no_tie (ties lt w z) w y z e f refl in
        ap (λ b. cond b (z ∷ filter (ties lt w) (put_in lt y zs)) (filter (ties lt w) (put_in lt y zs))) n
        ∙ (h ∙ sym (ap (λ b. y ∷ cond b (z ∷ filter (ties lt w) zs) (filter (ties lt w) zs)) n))
    past false y z zs e f h = ap (λ b. cond b (y ∷ filter (ties lt w) (z ∷ zs)) (filter (ties lt w) (z ∷ zs))) e

    put_tied : (y : A) → ties lt w y ≡ true → (zs : List A) → filter (ties lt w) (put_in lt y zs) ≡ y ∷ filter (ties lt w) zs
    put_tied y e [] = ap (λ b. cond b (y ∷ []) []) e
    put_tied y e (z ∷ zs) = past (lt z y) y z zs e refl (put_tied y e zs)

    dropped : (b : Bool) (y z : A) (zs : List A) → ties lt w y ≡ false → filter (ties lt w) (put_in lt y zs) ≡ filter (ties lt w) zs
        → filter (ties lt w) (cond b (z ∷ put_in lt y zs) (y ∷ z ∷ zs)) ≡ filter (ties lt w) (z ∷ zs)
    dropped true y z zs e h = ap (λ l. cond (ties lt w z) (z ∷ l) l) h
    dropped false y z zs e h = ap (λ b. cond b (y ∷ filter (ties lt w) (z ∷ zs)) (filter (ties lt w) (z ∷ zs))) e

    put_other : (y : A) → ties lt w y ≡ false → (zs : List A) → filter (ties lt w) (put_in lt y zs) ≡ filter (ties lt w) zs
    put_other y e [] = ap (λ b. cond b (y ∷ []) []) e
    put_other y e (z ∷ zs) = dropped (lt z y) y z zs e (put_other y e zs)

    put_either : (b : Bool) (y : A) (zs : List A) → ties lt w y ≡ b → filter (ties lt w) (put_in lt y zs) ≡ cond b (y ∷ filter (ties lt w) zs) (filter (ties lt w) zs)
    put_either true y zs e = put_tied y e zs
    put_either false y zs e = put_other y e zs

    pub ranked_stable : (xs : List A) → filter (ties lt w) (ranked lt xs) ≡ filter (ties lt w) xs
    ranked_stable [] = refl
    ranked_stable (x ∷ xs) = put_either (ties lt w x) x (ranked lt xs) refl ∙ ap (λ l. cond (ties lt w x) (x ∷ l) l) (ranked_stable xs)

  itself : (x : A) (b : Bool) → lt x x ≡ b → b ≡ false
  itself x false e = refl
  itself x true e = sym e ∙ o.one_way x x e

  tied_itself : (x : A) → ties lt x x ≡ true
  tied_itself x = ap (λ b. not b && not b) (itself x (lt x x) refl)

  -- no member of a list in order comes before the first
  after_first : (y : A) (ys : List A) (z : A) → Steps lt (y ∷ ys) → Has (y ∷ ys) z → lt z y ≡ false
  after_first y ys z h (inl e) = subst (λ x. lt x y ≡ false) e (itself y (lt y y) refl)
  after_first y [] z h (inr m) = absurd m
  after_first y (x ∷ xs) z h (inr m) = o.chain z x y (after_first x xs z h.1 m) h.0

  some_left : (x : A) (xs : List A) → filter (ties lt x) (x ∷ xs) ≡ x ∷ filter (ties lt x) xs
  some_left x xs = ap (λ b. cond b (x ∷ filter (ties lt x) xs) (filter (ties lt x) xs)) (tied_itself x)

  same_rest : (b : Bool) (x : A) (xs ys : List A) → cond b (x ∷ xs) xs ≡ cond b (x ∷ ys) ys → xs ≡ ys
  same_rest true x xs ys e = let q : xs ≡ ys = cc in q
  same_rest false x xs ys e = e

  pub one_order : (ys zs : List A) → Steps lt ys → Steps lt zs → ((w : A) → filter (ties lt w) ys ≡ filter (ties lt w) zs) → ys ≡ zs
  one_order [] [] g h e = refl
  one_order [] (z ∷ zs) g h e = absurd (let q : [] ≡ z ∷ filter (ties lt z) zs = e z ∙ some_left z zs in let t : ⊥ = cc in t)
  one_order (y ∷ ys) [] g h e = absurd (let q : y ∷ filter (ties lt y) ys ≡ [] = sym (some_left y ys) ∙ e y in let t : ⊥ = cc in t)
  one_order (y ∷ ys) (z ∷ zs) g h e =
      let my : Has (z ∷ zs) y = (filter_has (ties lt y) (z ∷ zs) y (subst (λ l. Has l y) (sym (some_left y ys) ∙ e y) (inl refl))).0 in
      let mz : Has (y ∷ ys) z = (filter_has (ties lt z) (y ∷ ys) z (subst (λ l. Has l z) (sym (some_left z zs) ∙ sym (e z)) (inl refl))).0 in
      let t : ties lt y z ≡ true = (λ i. not (after_first z zs y h my i) && not (after_first y ys z g mz i)) in
      let f : y ∷ filter (ties lt y) ys ≡ z ∷ filter (ties lt y) zs = sym (some_left y ys) ∙ (e y ∙ ap (λ b. cond b (z ∷ filter (ties lt y) zs) (filter (ties lt y) zs)) t) in
      let p : y ≡ z = cc in
      λ i. p i ∷ one_order ys zs (tail y ys g) (tail z zs h) (λ w. same_rest (ties lt w y) y (filter (ties lt w) ys) (filter (ties lt w) zs)
      (e w ∙ ap (λ x. cond (ties lt w x) (x ∷ filter (ties lt w) zs) (filter (ties lt w) zs)) (sym p))) i
    where
      tail : (x : A) (xs : List A) → Steps lt (x ∷ xs) → Steps lt xs
      tail x [] s = tt
      tail x (w ∷ ws) s = s.1

  -- so a stable sort's answer is the list in order
  pub sorted_is_ranked : (xs ys : List A) → Steps lt ys → IsStableBy lt xs ys → ys ≡ ranked lt xs
  sorted_is_ranked xs ys h s = one_order ys (ranked lt xs) h (ranked_steps lt o xs) (λ w. s w ∙ sym (ranked_stable w xs))

-- a list in order, step by step
module _ {A : Type 0} (lt : A → A → Bool) where
  pub steps_from : (xs : List A) → IsSortedBy lt xs → Steps lt xs
  steps_from [] h = tt
  steps_from (x ∷ []) h = tt
  steps_from (x ∷ y ∷ ys) h = (
    h 0 x (omega arith) (omega arith),
    steps_from (y ∷ ys) (λ k d low high.
        subst (λ (n : ℕ). lt (get_or (y ∷ ys) n d) (get_or (y ∷ ys) k d) ≡ false) (sym (add-one k))
        (subst (λ (n : ℕ). lt (get_or (x ∷ y ∷ ys) n d) (get_or (y ∷ ys) k d) ≡ false) (add-one (suc k)) (h (suc k) d (omega arith) (omega (arith, high))))),
  )
