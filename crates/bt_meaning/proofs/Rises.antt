-- Lists that are put in order: they rise, and what a test keeps of them is what it keeps, put in order.
use Rattle.std.proofs.Common.{◌≡◌, Bool, true, false, cond, List, [], ◌∷◌, ◌++◌, refl, sym, ap, ◌∙◌}
use Rattle.std.specs.List.{AllByRecursion, filter}
use Rattle.std.specs.Cmp.{IsStrictWeakOrder}
use Rattle.bt_core.specs.Sorted.{put_in, ordered}
use Rattle.bt_meaning.proofs.Eachs.{each_back, each_kept, each_so}

module _ {X : Type 0} (lt : X → X → Bool) (o : IsStrictWeakOrder lt) where
  -- the other does not come before it
  abbrev pub Late : X → X → Type 0
  Late x y = lt y x ≡ false

  abbrev pub Rises : List X → Type 0
  Rises [] = Unit {0}
  Rises (x ∷ xs) = AllByRecursion (Late x) xs × Rises xs

  late_put : (z x : X) (ys : List X) → Late z x → AllByRecursion (Late z) ys → AllByRecursion (Late z) (put_in lt x ys)
  late_put z x [] e l = (e, tt)
  late_put z x (y ∷ ys) e l = elim (lt y x) as (λ t. AllByRecursion (Late z) (cond t (y ∷ put_in lt x ys) (x ∷ y ∷ ys)))
      [ true ↦ (l.0, late_put z x ys e l.1) | false ↦ (e, l) ]

  pub late_past : (x y : X) (ys : List X) → Late x y → AllByRecursion (Late y) ys → AllByRecursion (Late x) ys
  late_past x y ys e l = each_so (Late y) (Late x) (λ w h. o.chain w y x h e) ys l

  rises_put : (x : X) (ys : List X) → Rises ys → Rises (put_in lt x ys)
  rises_put x [] r = (tt, tt)
  rises_put x (y ∷ ys) r = elim (lt y x) as (λ t. lt y x ≡ t → Rises (cond t (y ∷ put_in lt x ys) (x ∷ y ∷ ys))) [
    | true ↦ (λ e. (late_put y x ys (o.one_way y x e) r.0, rises_put x ys r.1))
    | false ↦ (λ e. ((e, late_past x y ys e r.0), r))
  ] refl

  pub rises_ordered : (xs : List X) → Rises (ordered lt xs)
  rises_ordered [] = tt
  rises_ordered (x ∷ xs) = rises_put x (ordered lt xs) (rises_ordered xs)

  -- what is late already stays where it is
  pub put_first : (x : X) (ys : List X) → AllByRecursion (Late x) ys → put_in lt x ys ≡ x ∷ ys
  put_first x [] l = refl
  put_first x (y ∷ ys) l = ap (λ t. cond t (y ∷ put_in lt x ys) (x ∷ y ∷ ys)) l.0

  pub ordered_same : (xs : List X) → Rises xs → ordered lt xs ≡ xs
  ordered_same [] r = refl
  ordered_same (x ∷ xs) r = ap (put_in lt x) (ordered_same xs r.1) ∙ put_first x xs r.0

  each_put : (P : X → Type 0) (x : X) (ys : List X) → P x → AllByRecursion P ys → AllByRecursion P (put_in lt x ys)
  each_put P x [] h g = (h, tt)
  each_put P x (y ∷ ys) h g = elim (lt y x) as (λ t. AllByRecursion P (cond t (y ∷ put_in lt x ys) (x ∷ y ∷ ys)))
      [ true ↦ (g.0, each_put P x ys h g.1) | false ↦ (h, g) ]

  pub each_ordered : (P : X → Type 0) (xs : List X) → AllByRecursion P xs → AllByRecursion P (ordered lt xs)
  each_ordered P [] h = tt
  each_ordered P (x ∷ xs) h = each_put P x (ordered lt xs) h.0 (each_ordered P xs h.1)

  module _ (p : X → Bool) where
    kept_put : (x : X) (ys : List X) → p x ≡ true → Rises ys → filter p (put_in lt x ys) ≡ put_in lt x (filter p ys)
    kept_put x [] e r = ap (λ b. cond b (x ∷ []) []) e
    kept_put x (y ∷ ys) e r = elim (lt y x) as (λ t. lt y x ≡ t → filter p (cond t (y ∷ put_in lt x ys) (x ∷ y ∷ ys)) ≡ put_in lt x (filter p (y ∷ ys))) [
      | true ↦ (λ less. ap (λ l. cond (p y) (y ∷ l) l) (kept_put x ys e r.1) ∙ by_test (p y) less)
      | false ↦ (λ late. ap (λ b. cond b (x ∷ filter p (y ∷ ys)) (filter p (y ∷ ys))) e
          ∙ sym (put_first x (filter p (y ∷ ys)) (each_kept (Late x) p (y ∷ ys) (late, late_past x y ys late r.0))))
    ] refl
      where
        by_test : (b : Bool) → lt y x ≡ true → cond b (y ∷ put_in lt x (filter p ys)) (put_in lt x (filter p ys)) ≡ put_in lt x (cond b (y ∷ filter p ys) (filter p ys))
        by_test true less = sym (ap (λ t. cond t (y ∷ put_in lt x (filter p ys)) (x ∷ y ∷ filter p ys)) less)
        by_test false less = refl

    left_put : (x : X) (ys : List X) → p x ≡ false → filter p (put_in lt x ys) ≡ filter p ys
    left_put x [] e = ap (λ b. cond b (x ∷ []) []) e
    left_put x (y ∷ ys) e = elim (lt y x) as (λ t. filter p (cond t (y ∷ put_in lt x ys) (x ∷ y ∷ ys)) ≡ filter p (y ∷ ys)) [
      | true ↦ ap (λ l. cond (p y) (y ∷ l) l) (left_put x ys e)
      | false ↦ ap (λ b. cond b (x ∷ filter p (y ∷ ys)) (filter p (y ∷ ys))) e
    ]

    pub kept_ordered : (xs : List X) → filter p (ordered lt xs) ≡ ordered lt (filter p xs)
    kept_ordered [] = refl
    kept_ordered (x ∷ xs) = elim (p x) as (λ b. p x ≡ b → filter p (put_in lt x (ordered lt xs)) ≡ ordered lt (cond b (x ∷ filter p xs) (filter p xs))) [
      | true ↦ (λ e. kept_put x (ordered lt xs) e (rises_ordered xs) ∙ ap (put_in lt x) (kept_ordered xs))
      | false ↦ (λ e. left_put x (ordered lt xs) e ∙ kept_ordered xs)
    ] refl

  -- at a cut, what stands before and behind
  pub record AtCut (before : List X) (x : X) (after : List X) : Type 0 where
    pub earlier : AllByRecursion (λ b. Late b x) before
    pub later : AllByRecursion (Late x) after

  pub at_cut : (before : List X) (x : X) (after : List X) → Rises (before ++ x ∷ after) → AtCut before x after
  at_cut [] x after r = record { earlier = tt; later = r.0 }
  at_cut (b ∷ bs) x after r =
      let rest = at_cut bs x after r.1 in
      let behind = each_back (Late b) bs (x ∷ after) r.0 in
      record { earlier = (behind.0, rest.earlier); later = rest.later }
