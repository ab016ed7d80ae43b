-- What is attached are bodies that may be run where they are attached.
use Rattle.std.proofs.Common.{◌≡◌, ◌+◌, ◌<◌, ◌≤◌, ◌++◌, ℕ, zero, suc, Bool, true, false, ◌⊎◌, inl, inr, nat_lt, List, [], ◌∷◌, length, map, Option, Some, slice_get, slice_index, get_or, refl, sym, ap, ◌∙◌, subst, arith, rules, eqb-true}
use Rattle.std.specs.List.{AllByRecursion}
use Rattle.std.proofs.lemmas.List.{length-append, get_or_append_left}
use Rattle.std.proofs.Math.Seq.{get_or-append_seam}
use Rattle.std.proofs.lemmas.Bool.{ltb-true, ltb-false}
use Rattle.bt_ast.specs.declared.attached.BodyId.{BodyId}
use Rattle.bt_ast.specs.declared.attached.BodyPoint.{BodyPoint}
use Rattle.bt_ast.specs.declared.attached.BodyPoint.TheVariants.{Begin, End, Interval, Event}
use Rattle.bt_ast.specs.declared.probe.Script.{Script}
use Rattle.event_layout.specs.declared.format.Format.{Format}
use Rattle.event_layout.specs.declared.layout.Layout.{Layout}
use Rattle.typed_tree.specs.declared.body.TypedBody.{TypedBody}
use Rattle.expr_types.specs.declared.known.Known.{Known}
use Rattle.bt_types.specs.Bodies.{layout_at}
use Rattle.bt_types.specs.Script.{AreTypedBodies}
use Rattle.bt_attach.specs.Attaching.{is_at, bodies_at, at_each}
use Rattle.walk_meaning.specs.Served.{least_length}
use Rattle.job_laws.proofs.Lists.{places_are, places_few}

-- the layout size of each typed body
abbrev pub sizes_of : List TypedBody → List ℕ
sizes_of bodies = map (λ (b : TypedBody). least_length b.layout) bodies

-- a body of this number, with a size of at most so much
abbrev pub IsFor : List ℕ → ℕ → ℕ → Type 0
IsFor sizes size body = (body < length sizes) × (slice_index sizes body ≤ size)

pub sized : (script : Script) (formats : List Format) (k : Known) (ids : List BodyId) (bodies : List TypedBody) → AreTypedBodies script formats k ids bodies
    → (i : ℕ) (id : BodyId) (size : ℕ) → slice_get ids i ≡ Some id → least_length (layout_at formats id.point) ≤ size → IsFor (sizes_of bodies) size i
sized script formats k [] [] h i id size e le = cc
sized script formats k [] (b ∷ bs) h i id size e le = absurd h
sized script formats k (d ∷ ds) [] h i id size e le = absurd h
sized script formats k (d ∷ ds) (b ∷ bs) h zero id size e le =
    let same : d ≡ id = some-same e in
    let is : b.layout ≡ layout_at formats id.point = subst (λ (x : BodyId). b.layout ≡ layout_at formats x.point) same h.0.layout in
    (omega arith, subst (λ (l : Option Layout). least_length l ≤ size) (sym is) le)
  where
    some-same : (Some d ≡ Some id) → d ≡ id
    some-same p = search rules
sized script formats k (d ∷ ds) (b ∷ bs) h (suc i) id size e le =
    let rest = sized script formats k ds bs h.1 i id size e le in
    let low = rest.0 in (omega (arith, low), rest.1)

-- a test of a point that holds
same_point : (p q : BodyPoint) → is_at p q ≡ true → q ≡ p
same_point Begin Begin e = refl
same_point Begin End e = search rules
same_point Begin Interval e = search rules
same_point Begin (Event n) e = search rules
same_point End Begin e = search rules
same_point End End e = refl
same_point End Interval e = search rules
same_point End (Event n) e = search rules
same_point Interval Begin e = search rules
same_point Interval End e = search rules
same_point Interval Interval e = refl
same_point Interval (Event n) e = search rules
same_point (Event m) Begin e = search rules
same_point (Event m) End e = search rules
same_point (Event m) Interval e = search rules
same_point (Event m) (Event n) e = ap Event (sym (eqb-true m n e))

module _ (script : Script) (formats : List Format) (k : Known) (ids : List BodyId) (bodies : List TypedBody) (typed : AreTypedBodies script formats k ids bodies) where
  -- the bodies at a point may be run over what has the size of the point's layout
  pub bodies_are : (point : BodyPoint) (size : ℕ) → least_length (layout_at formats point) ≤ size → AllByRecursion (IsFor (sizes_of bodies) size) (bodies_at ids point)
  bodies_are point size le =
      places_are (λ (b : BodyId). is_at point b.point) (IsFor (sizes_of bodies) size) 0 ids
      (λ i id e t. let same : i ≡ 0 + i = omega arith in subst (IsFor (sizes_of bodies) size) same (sized script formats k ids bodies typed i id size e (subst (λ (q : BodyPoint). least_length (layout_at formats q) ≤ size) (sym (same_point point id.point t)) le)))

pub at_each_length : (ids : List BodyId) (n : ℕ) → length (at_each ids n) ≡ n
at_each_length ids zero = refl
at_each_length ids (suc n) =
    let e = length-append (at_each ids n) (bodies_at ids (Event n) ∷ []) in
    let f = at_each_length ids n in omega (arith, e, f)

at_end : (ids : List BodyId) (n place : ℕ) → place ≡ n → get_or (at_each ids n ++ bodies_at ids (Event n) ∷ []) place [] ≡ bodies_at ids (Event place)
at_end ids n place same =
    subst (λ p. get_or (at_each ids n ++ bodies_at ids (Event n) ∷ []) p [] ≡ bodies_at ids (Event p)) (sym same)
    (subst (λ p. get_or (at_each ids n ++ bodies_at ids (Event n) ∷ []) p [] ≡ bodies_at ids (Event n)) (at_each_length ids n) (get_or-append_seam (at_each ids n) (bodies_at ids (Event n)) [] []))

cases_lt : (k n : ℕ) → k < suc n → (k < n) ⊎ (k ≡ n)
cases_lt k n h = by (nat_lt k n) refl
  where
    by : (b : Bool) → nat_lt k n ≡ b → (k < n) ⊎ (k ≡ n)
    by true e = inl (ltb-true k n e)
    by false e = let g = ltb-false k n e in inr (omega (arith, g, h))

pub at_each_at : (ids : List BodyId) (n place : ℕ) → place < n → get_or (at_each ids n) place [] ≡ bodies_at ids (Event place)
at_each_at ids zero place h = absurd (omega (arith, h))
at_each_at ids (suc n) place h = elim (cases_lt place n (omega (arith, h))) [
  | inl low ↦ let len = at_each_length ids n in
      get_or_append_left (at_each ids n) (bodies_at ids (Event n) ∷ []) [] place (omega (arith, low, len)) ∙ at_each_at ids n place low
  | inr same ↦ at_end ids n place same
]

pub at_each_few : (ids : List BodyId) (most n : ℕ) → length ids ≤ most → AllByRecursion (λ (which : List ℕ). length which ≤ most) (at_each ids n)
at_each_few ids most zero h = tt
at_each_few ids most (suc n) h = pushed (at_each ids n) (at_each_few ids most n h)
  where
    pushed : (xs : List (List ℕ)) → AllByRecursion (λ (which : List ℕ). length which ≤ most) xs
        → AllByRecursion (λ (which : List ℕ). length which ≤ most) (xs ++ bodies_at ids (Event n) ∷ [])
    pushed [] g = let few = places_few (λ (b : BodyId). is_at (Event n) b.point) 0 ids in (omega (arith, few, h), tt)
    pushed (x ∷ xs) g = (g.0, pushed xs g.1)
