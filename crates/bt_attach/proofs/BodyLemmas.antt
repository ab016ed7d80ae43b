-- The probe and the event of each body are there.
use Rattle.std.proofs.Common.{◌+◌, ◌<◌, ◌≤◌, ◌++◌, ℕ, Bool, true, false, cond, List, [], ◌∷◌, length, map, All, sym, subst, arith}
use Rattle.std.specs.List.{AllByRecursion, list_any}
use Rattle.std.proofs.lemmas.List.Elements.{All-from_recursion}
use Rattle.bt_ast.specs.declared.attached.Attached.{Attached}
use Rattle.bt_ast.specs.declared.attached.BodyId.{BodyId}
use Rattle.bt_ast.specs.declared.attached.BodyPoint.{BodyPoint}
use Rattle.bt_ast.specs.declared.attached.BodyPoint.TheVariants.{Begin, End, Interval, Event}
use Rattle.bt_ast.specs.declared.probe.Point.{Point}
use Rattle.bt_ast.specs.declared.probe.Probe.{Probe}
use Rattle.bt_ast.specs.declared.probe.Script.{Script}
use Rattle.event_layout.specs.declared.format.Format.{Format}
use Rattle.bt_attach.specs.Attaching.{places_from, places, is_begin, is_end, is_interval, is_matched, once, begin_and_end, body_points, bodies_from, IsAttachedTo}
use Rattle.bt_attach.specs.There.{IsEventThere, IsThere}

both : {A : Type 0} (P : A → Type 0) (xs ys : List A) → AllByRecursion P xs → AllByRecursion P ys → AllByRecursion P (xs ++ ys)
both P [] ys f g = g
both P (x ∷ xs) ys f g = (f.0, both P xs ys f.1 g)

mapped : {A B : Type 0} (P : A → Type 0) (Q : B → Type 0) (f : A → B) → ((x : A) → P x → Q (f x)) → (xs : List A) → AllByRecursion P xs → AllByRecursion Q (map f xs)
mapped P Q f h [] g = tt
mapped P Q f h (x ∷ xs) g = (h x g.0, mapped P Q f h xs g.1)

-- places stand in their list
places_within : {A : Type 0} (test : A → Bool) (k n : ℕ) (xs : List A) → k + length xs ≤ n → AllByRecursion (λ place. place < n) (places_from test k xs)
places_within test k n [] h = tt
places_within test k n (x ∷ xs) h =
    let rest = places_within test (k + 1) n xs (omega (arith, h)) in
    let here : k < n = omega (arith, h) in
    elim (test x) as (λ b. AllByRecursion (λ place. place < n) (cond b (k ∷ places_from test (k + 1) xs) (places_from test (k + 1) xs))) [ true ↦ (here, rest) | false ↦ rest ]

once_there : (formats : List Format) (some : Bool) (point : BodyPoint) → IsEventThere formats point → AllByRecursion (IsEventThere formats) (once some point)
once_there formats true point h = (h, tt)
once_there formats false point h = tt

points_there : (formats : List Format) (points : List Point) → AllByRecursion (IsEventThere formats) (body_points formats points)
points_there formats points =
    both (IsEventThere formats) (begin_and_end points) _
    (both (IsEventThere formats) (once (list_any is_begin points) Begin) (once (list_any is_end points) End) (once_there formats (list_any is_begin points) Begin tt) (once_there formats (list_any is_end points) End tt))
    (both (IsEventThere formats) (once (list_any is_interval points) Interval) (map Event (places (is_matched points) formats)) (once_there formats (list_any is_interval points) Interval tt)
    (mapped (λ place. place < length formats) (IsEventThere formats) Event (λ place h. h) (places (is_matched points) formats) (places_within (is_matched points) 0 (length formats) formats (omega arith))))

-- a body whose probe is one of the first so many
record Within (formats : List Format) (n : ℕ) (id : BodyId) : Type 0 where
  probe : id.probe < n
  event : IsEventThere formats id.point

bodies_within : (formats : List Format) (k n : ℕ) (probes : List Probe) → k + length probes ≤ n → AllByRecursion (Within formats n) (bodies_from formats k probes)
bodies_within formats k n [] h = tt
bodies_within formats k n (p ∷ ps) h =
    let here : k < n = omega (arith, h) in
    both (Within formats n) (map (λ point. record { probe = k; point = point }) (body_points formats p.points)) (bodies_from formats (k + 1) ps)
    (mapped (IsEventThere formats) (Within formats n) (λ point. record { probe = k; point = point }) (λ point e. record { probe = here; event = e }) (body_points formats p.points) (points_there formats p.points))
    (bodies_within formats (k + 1) n ps (omega (arith, h)))

are_there : (script : Script) (formats : List Format) (ids : List BodyId) → AllByRecursion (Within formats (length script.probes)) ids → AllByRecursion (IsThere script formats) ids
are_there script formats [] h = tt
are_there script formats (i ∷ is) h = (record { probe = h.0.probe; event = h.0.event }, are_there script formats is h.1)

pub bodies_there : (script : Script) (formats : List Format) (start end : ℕ) (attached : Attached) → IsAttachedTo script formats start end attached → All (IsThere script formats) attached.bodies
bodies_there script formats start end attached h =
    All-from_recursion (IsThere script formats) attached.bodies
    (subst (λ (l : List BodyId). AllByRecursion (IsThere script formats) l) (sym h.bodies)
    (are_there script formats (bodies_from formats 0 script.probes) (bodies_within formats 0 (length script.probes) script.probes (omega arith))))
