-- What is found of probes, one after the other.
use Rattle.std.proofs.Common.{◌≡◌, ◌+◌, ◌-◌, ◌<◌, ◌≤◌, ◌++◌, ℕ, ◌*◌, ◌/◌, suc, zero, Bool, true, false, cond, List, [], ◌∷◌, length, drop, get_or, sum_by, Option, Some, None, refl, sym, ap, ◌∙◌, arith, drop-cons, subst, append_assoc}
use Rattle.std.specs.Int.{from_bool}
use Rattle.std.specs.List.{list_any, flat_map}
use Rattle.std.proofs.lemmas.List.{length-append, length-map, drop_all}
use Rattle.std.proofs.lemmas.List.Sums.{sum_by-cons}
use Rattle.bt_core.specs.declared.limits.TheConstants.{TICKS, BODIES}
use Rattle.bt_ast.specs.declared.probe.Point.{Point}
use Rattle.bt_ast.specs.declared.probe.Point.TheVariants.{Begin, End, Tracepoint, Interval}
use Rattle.bt_ast.specs.declared.probe.Probe.{Probe}
use Rattle.bt_ast.specs.declared.attached.BodyPoint.{BodyPoint}
use Rattle.bt_ast.specs.declared.attached.BodyPoint.TheVariants.{Begin as AtBegin, End as AtEnd}
use Rattle.bt_ast.specs.declared.attached.BodyId.{BodyId}
use Rattle.bt_ast.specs.declared.attached.Tick.{Tick}
use Rattle.event_layout.specs.declared.format.Format.{Format}
use Rattle.bt_attach.specs.declared.error.AttachError.{AttachError}
use Rattle.bt_attach.specs.declared.seen.Seen.{Seen}
use Rattle.bt_attach.specs.declared.attach.Found.{Found}
use Rattle.bt_attach.specs.declared.bodies.Runs.{Runs}
use Rattle.bt_ast.specs.declared.probe.Script.{Script}
use Rattle.bt_ast.specs.declared.attached.Attached.{Attached}
use Rattle.bt_attach.specs.Ticks.{AreInOrder, first_ticks, ticks_by, tick_count, period_in}
use Rattle.bt_attach.specs.Attaching.{is_begin, is_end, once, begin_and_end, body_points, bodies_from, point_ticks, ticks_from, point_tick_count, or_else, points_fault, probes_fault, attach_fault, at_each, bodies_at, IsAttachedTo}
use Rattle.bt_attach.specs.Steps.{IsSeen, seen_points, with_probe, AddsProbe, IsFound, NoneFailed, AreRuns}
use Rattle.bt_attach.proofs.SeenLemmas.{seen_bodies, once_length}

first_length : (start period body k : ℕ) → length (first_ticks start period body k) ≡ k
first_length start period body zero = refl
first_length start period body (suc k) =
    let e = length-append (first_ticks start period body k) (record { time = start + (k + 1) * period; body = body } ∷ []) in
    let f = first_length start period body k in omega (arith, e, f)

by_length : (start span body : ℕ) (period : Option ℕ) → length (ticks_by start span body period) ≡ tick_count span period
by_length start span body None = refl
by_length start span body (Some period) = first_length start period body (span / period)

point_length : (start span body : ℕ) (p : Point) → length (point_ticks start span body p) ≡ point_tick_count span p
point_length start span body (Begin place) = refl
point_length start span body (End place) = refl
point_length start span body (Tracepoint system name place) = refl
point_length start span body (Interval unit number place) = by_length start span body (period_in unit number)

points_length : (start span body : ℕ) (points : List Point) → length (flat_map (point_ticks start span body) points) ≡ sum_by (point_tick_count span) points
points_length start span body [] = refl
points_length start span body (p ∷ ps) =
    let e = length-append (point_ticks start span body p) (flat_map (point_ticks start span body) ps) in
    let f = point_length start span body p in
    let g = points_length start span body ps in
    let h = sum_by-cons (point_tick_count span) p ps in
    omega (arith, e, f, g, h)

front_length : (points : List Point) → length (begin_and_end points) ≡ cond (list_any is_begin points) 1 0 + cond (list_any is_end points) 1 0
front_length points =
    let e = length-append (once (list_any is_begin points) AtBegin) (once (list_any is_end points) AtEnd) in
    let f = once_length (list_any is_begin points) AtBegin in
    let g = once_length (list_any is_end points) AtEnd in
    omega (arith, e, f, g)

abbrev one : Bool → ℕ
one v = cond v 1 0

pub adds_probe : (formats : List Format) (start span probe body : ℕ) (points : List Point) (old new : Found) (s : Seen) → IsSeen formats span (length old.ticks.items) points s
    → s.ticks ≤ TICKS → length old.bodies + length (seen_points s) ≤ BODIES → body ≡ length old.bodies + cond s.begin 1 0 + cond s.end 1 0
    → new.bodies ≡ old.bodies ++ with_probe probe (seen_points s) → new.ticks.items ≡ old.ticks.items ++ flat_map (point_ticks start span body) points
    → AddsProbe formats start span probe points old new
adds_probe formats start span probe body points old new s seen few_ticks few_bodies body_is bodies ticks =
    let b = ap one seen.begin in
    let e = ap one seen.finish in
    let f = front_length points in
    let body_at : body ≡ length old.bodies + length (begin_and_end points) = omega (arith, body_is, b, e, f) in
    let all = ap length ticks ∙ length-append old.ticks.items (flat_map (point_ticks start span body) points) in
    let count = points_length start span body points in
    let now = seen.ticks in
    let all_bodies = ap length bodies ∙ length-append old.bodies (with_probe probe (seen_points s)) in
    let own = length-map (seen_points s) (λ (point : BodyPoint). let id : BodyId = record { probe = probe; point = point } in id) in
    record {
      bodies = bodies ∙ ap (λ (l : List BodyPoint). old.bodies ++ with_probe probe l) (seen_bodies formats span (length old.ticks.items) points s seen);
      ticks = ticks ∙ ap (λ (n : ℕ). old.ticks.items ++ flat_map (point_ticks start span n) points) body_at;
      tick_count = omega (arith, all, count);
      bodies_fit = omega (arith, all_bodies, own, few_bodies);
      ticks_fit = omega (arith, all, count, now, few_ticks);
    }

-- the same, of what was passed to calls
pub adds_from : (formats : List Format) (start span probe body t b : ℕ) (points own : List Point) (old new : Found) (s : Seen) → t ≡ length old.ticks.items → b ≡ length old.bodies → points ≡ own
    → (points_fault formats span t b [] points ≡ None) × IsSeen formats span t points s → s.ticks ≤ TICKS → b + length (seen_points s) ≤ BODIES → body ≡ b + cond s.begin 1 0 + cond s.end 1 0
    → new.bodies ≡ old.bodies ++ with_probe probe (seen_points s) → new.ticks.items ≡ old.ticks.items ++ flat_map (point_ticks start span body) points
    → (points_fault formats span (length old.ticks.items) (length old.bodies) [] own ≡ None) × AddsProbe formats start span probe own old new
adds_from formats start span probe body t b points own old new s te be pe answer few_ticks few_bodies body_is bodies ticks =
    subst (λ (ps : List Point). (points_fault formats span (length old.ticks.items) (length old.bodies) [] ps ≡ None) × AddsProbe formats start span probe ps old new) pe (
      ap (λ (n : ℕ). points_fault formats span n (length old.bodies) [] points) (sym te) ∙ (ap (λ (n : ℕ). points_fault formats span t n [] points) (sym be) ∙ answer.0),
      adds_probe formats start span probe body points old new s (subst (λ (n : ℕ). IsSeen formats span n points s) te answer.1) few_ticks
          (omega (arith, be, few_bodies)) (omega (arith, be, body_is)) bodies ticks,
    )

pub fault_from : (formats : List Format) (span t b : ℕ) (points own : List Point) (old : Found) (o : Option AttachError) → t ≡ length old.ticks.items → b ≡ length old.bodies → points ≡ own
    → points_fault formats span t b [] points ≡ o → points_fault formats span (length old.ticks.items) (length old.bodies) [] own ≡ o
fault_from formats span t b points own old o te be pe h =
    ap (points_fault formats span (length old.ticks.items) (length old.bodies) []) (sym pe)
    ∙ (ap (λ (n : ℕ). points_fault formats span n (length old.bodies) [] points) (sym te) ∙ (ap (λ (n : ℕ). points_fault formats span t n [] points) (sym be) ∙ h))

pub from_bool_is : (b : Bool) → from_bool b ≡ cond b 1 0
from_bool_is true = refl
from_bool_is false = refl

pub one_most : (b : Bool) → from_bool b ≤ 1
one_most true = omega arith
one_most false = omega arith

next_drop : (probes : List Probe) (i : ℕ) (p : Probe) → i < length probes → p ≡ get_or probes i p → drop i probes ≡ p ∷ drop (i + 1) probes
next_drop probes i p within is =
    drop-cons probes i p within
    ∙ (ap (λ (q : Probe). q ∷ drop (suc i) probes) (sym is) ∙ ap (λ (n : ℕ). p ∷ drop n probes) (let e : suc i ≡ i + 1 = omega arith in e))

pub none_yet : (formats : List Format) (start span : ℕ) (probes : List Probe) (f : Found) → f.bodies ≡ [] → f.ticks.items ≡ [] → NoneFailed formats start span probes 0 f
none_yet formats start span probes f b t = record {
  bodies = ap (λ (l : List BodyId). l ++ bodies_from formats 0 probes) b;
  ticks = ap (λ (l : List Tick). l ++ ticks_from start span formats (length f.bodies) probes) t ∙ ap (λ (l : List BodyId). ticks_from start span formats (length l) probes) b;
  left = ap (λ (l : List Tick). probes_fault formats span (length l) (length f.bodies) probes) t ∙ ap (λ (l : List BodyId). probes_fault formats span 0 (length l) probes) b;
  bodies_fit = (let e = ap (λ (l : List BodyId). length l) b in omega (arith, e));
  ticks_fit = (let e = ap (λ (l : List Tick). length l) t in omega (arith, e));
}

pub failed_probe : (formats : List Format) (start span : ℕ) (probes : List Probe) (i : ℕ) (p : Probe) (f : Found) (e : AttachError) → NoneFailed formats start span probes i f → i < length probes → p ≡ get_or probes i p
    → points_fault formats span (length f.ticks.items) (length f.bodies) [] p.points ≡ Some e → probes_fault formats span 0 0 probes ≡ Some e
failed_probe formats start span probes i p f e h within is fault =
    sym h.left ∙ (ap (probes_fault formats span (length f.ticks.items) (length f.bodies)) (next_drop probes i p within is)
    ∙ ap (λ (o : Option AttachError). or_else o (probes_fault formats span (length f.ticks.items + sum_by (point_tick_count span) p.points)
    (length f.bodies + length (body_points formats p.points)) (drop (i + 1) probes))) fault)

pub next_probe : (formats : List Format) (start span : ℕ) (probes : List Probe) (i : ℕ) (p : Probe) (old new : Found) → NoneFailed formats start span probes i old → i < length probes → p ≡ get_or probes i p
    → points_fault formats span (length old.ticks.items) (length old.bodies) [] p.points ≡ None → AddsProbe formats start span i p.points old new → NoneFailed formats start span probes (i + 1) new
next_probe formats start span probes i p old new h within is none adds =
    let d = next_drop probes i p within is in
    let rest = drop (i + 1) probes in
    let own = with_probe i (body_points formats p.points) in
    let mine = flat_map (point_ticks start span (length old.bodies + length (begin_and_end p.points))) p.points in
    let count : length new.bodies ≡ length old.bodies + length (body_points formats p.points) =
    ap length adds.bodies ∙ (length-append old.bodies own
    ∙ ap (λ (n : ℕ). length old.bodies + n) (length-map (body_points formats p.points) (λ (point : BodyPoint). let id : BodyId = record { probe = i; point = point } in id))) in
    record {
      bodies = ap (λ (l : List BodyId). l ++ bodies_from formats (i + 1) rest) adds.bodies
          ∙ (append_assoc old.bodies own (bodies_from formats (i + 1) rest)
          ∙ (ap (λ (l : List Probe). old.bodies ++ bodies_from formats i l) (sym d) ∙ h.bodies));
      ticks = ap (λ (n : ℕ). new.ticks.items ++ ticks_from start span formats n rest) count
          ∙ (ap (λ (l : List Tick). l ++ ticks_from start span formats (length old.bodies + length (body_points formats p.points)) rest) adds.ticks
          ∙ (append_assoc old.ticks.items mine (ticks_from start span formats (length old.bodies + length (body_points formats p.points)) rest)
          ∙ (ap (λ (l : List Probe). old.ticks.items ++ ticks_from start span formats (length old.bodies) l) (sym d) ∙ h.ticks)));
      left = ap (λ (n : ℕ). probes_fault formats span n (length new.bodies) rest) adds.tick_count
          ∙ (ap (λ (n : ℕ). probes_fault formats span (length old.ticks.items + sum_by (point_tick_count span) p.points) n rest) count
          ∙ (sym (ap (λ (o : Option AttachError). or_else o (probes_fault formats span (length old.ticks.items + sum_by (point_tick_count span) p.points)
          (length old.bodies + length (body_points formats p.points)) rest)) none)
          ∙ (ap (probes_fault formats span (length old.ticks.items) (length old.bodies)) (sym d) ∙ h.left)));
      bodies_fit = adds.bodies_fit;
      ticks_fit = adds.ticks_fit;
    }

nothing_behind : {A : Type 0} (xs : List A) → xs ++ [] ≡ xs
nothing_behind [] = refl
nothing_behind (x ∷ xs) = ap (λ (l : List _). x ∷ l) (nothing_behind xs)

pub all_found : (formats : List Format) (start span : ℕ) (probes : List Probe) (i : ℕ) (f : Found) → NoneFailed formats start span probes i f → length probes ≤ i
    → (probes_fault formats span 0 0 probes ≡ None) × IsFound formats start span probes f
all_found formats start span probes i f h past =
    let d = drop_all i probes past in (
      sym h.left ∙ ap (probes_fault formats span (length f.ticks.items) (length f.bodies)) d,
      record {
        bodies = sym (nothing_behind f.bodies) ∙ (ap (λ (l : List Probe). f.bodies ++ bodies_from formats i l) (sym d) ∙ h.bodies);
        ticks = sym (nothing_behind f.ticks.items) ∙ (ap (λ (l : List Probe). f.ticks.items ++ ticks_from start span formats (length f.bodies) l) (sym d) ∙ h.ticks);
        bodies_fit = h.bodies_fit;
      },
    )

-- the same runs, of what was passed to a call
pub runs_of : (bodies own : List BodyId) (formats : ℕ) (r : Runs) → bodies ≡ own → AreRuns bodies formats r → AreRuns own formats r
runs_of bodies own formats r e h = subst (λ (l : List BodyId). AreRuns l formats r) e h

pub attached_is : (script : Script) (formats : List Format) (start end span : ℕ) (probes : List Probe) (f : Found) (a : Attached) → probes ≡ script.probes → span ≡ end - start → IsFound formats start span probes f
    → a.bodies ≡ f.bodies → AreRuns f.bodies (length formats) (record { by_format = a.by_format; begin = a.begin; end = a.end }) → AreInOrder f.ticks.items a.ticks
    → IsAttachedTo script formats start end a
attached_is script formats start end span probes f a pe se is bodies runs order = record {
  bodies = bodies ∙ (is.bodies ∙ ap (bodies_from formats 0) pe);
  by_format = runs.by_format ∙ ap (λ (b : List BodyId). at_each b (length formats)) (sym bodies);
  begin = runs.begin ∙ ap (λ (b : List BodyId). bodies_at b AtBegin) (sym bodies);
  finish = runs.finish ∙ ap (λ (b : List BodyId). bodies_at b AtEnd) (sym bodies);
  ticks = subst (λ (t : List Tick). AreInOrder t a.ticks)
      (is.ticks ∙ (ap (λ (n : ℕ). ticks_from start n formats 0 probes) se ∙ ap (ticks_from start (end - start) formats 0) pe)) order;
}

pub fault_is : (script : Script) (formats : List Format) (start end span : ℕ) (probes : List Probe) (o : Option AttachError) → probes ≡ script.probes → span ≡ end - start → probes_fault formats span 0 0 probes ≡ o
    → attach_fault script formats start end ≡ o
unfolding attach_fault
fault_is script formats start end span probes o pe se h =
    ap (probes_fault formats (end - start) 0 0) (sym pe) ∙ (ap (λ (n : ℕ). probes_fault formats n 0 0 probes) (sym se) ∙ h)
