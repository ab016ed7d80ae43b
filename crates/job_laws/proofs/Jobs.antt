-- What is attached and typed of a script can be run over its recording.
use Rattle.std.proofs.Common.{◌≡◌, ◌+◌, ◌-◌, ◌≤◌, ℕ, List, [], ◌∷◌, length, All, Option, Some, None, slice_get, get_or, sym, ap, ◌∙◌, subst, arith}
use Rattle.std.specs.List.{AllByRecursion}
use Rattle.std.proofs.lemmas.List.Elements.{All-from_recursion}
use Rattle.std.proofs.lemmas.Option.{slice_get_within}
use Rattle.bt_core.specs.declared.limits.TheConstants.{BODIES}
use Rattle.bt_ast.specs.declared.attached.Attached.{Attached}
use Rattle.bt_ast.specs.declared.attached.BodyId.{BodyId}
use Rattle.bt_ast.specs.declared.attached.BodyPoint.{BodyPoint}
use Rattle.bt_ast.specs.declared.attached.BodyPoint.TheVariants.{Begin, End, Event}
use Rattle.bt_ast.specs.declared.attached.Tick.{Tick}
use Rattle.bt_ast.specs.declared.probe.Script.{Script}
use Rattle.recordings.specs.declared.recording.Recording.{Recording}
use Rattle.recordings.specs.Recordings.{IsValidRecording}
use Rattle.event_layout.specs.declared.format.Format.{Format}
use Rattle.event_layout.specs.declared.layout.Layout.{Layout}
use Rattle.typed_tree.specs.declared.script.Typed.{Typed}
use Rattle.bt_attach.specs.Attaching.{IsAttachedTo, attach_fault, probes_fault, bodies_from, bodies_at, is_at}
use Rattle.bt_types.specs.Bodies.{layout_at}
use Rattle.bt_types.specs.Script.{IsTypedScript}
use Rattle.actor_plan.specs.Plans.{HasBodies}
use Rattle.walk_meaning.specs.Served.{least_length}
use Rattle.bt_meaning.specs.Walks.{walking}
use Rattle.bt_meaning.specs.Jobs.{IsJob}
use Rattle.job_laws.proofs.Bodies.{IsFor, sizes_of, sized, bodies_are, at_each_at, at_each_few}
use Rattle.job_laws.proofs.Lists.{places_few}
use Rattle.job_laws.proofs.Ticks.{IsIntervals, ticks_count, ticks_run, ticks_in_turn}
use Rattle.job_laws.proofs.Few.{few_of_both}

module _ (script : Script) (typed : Typed) (attached : Attached) (r : Recording)
    (to : IsAttachedTo script r.formats r.start r.end attached) (types : IsTypedScript script r.formats attached.bodies typed) where
  runs : (t : Tick) → IsIntervals (bodies_from r.formats 0 script.probes) t → IsFor (sizes_of typed.bodies) 0 t.body
  runs t h =
      sized script r.formats types.known attached.bodies typed.bodies types.each t.body h.id 0
      (ap (λ (l : List BodyId). slice_get l t.body) to.bodies ∙ h.there)
      (subst (λ (p : BodyPoint). least_length (layout_at r.formats p) ≤ 0) (sym h.point) (omega arith))

  each_tick : (ts : List Tick) → AllByRecursion (IsIntervals (bodies_from r.formats 0 script.probes)) ts → AllByRecursion (λ (t : Tick). IsFor (sizes_of typed.bodies) 0 t.body) ts
  each_tick [] h = tt
  each_tick (t ∷ ts) h = (runs t h.0, each_tick ts h.1)

  layout_is : (place : ℕ) (f : Format) → slice_get r.formats place ≡ Some f → layout_at r.formats (Event place) ≡ Some f.layout
  layout_is place f e = ap (λ (o : Option Format). layout_of o) e
    where
      layout_of : Option Format → Option Layout
      layout_of None = None
      layout_of (Some g) = Some g.layout

  has_bodies : (actor : ℕ) → HasBodies (walking typed (length r.cpus + 1) actor) r.formats attached
  has_bodies actor = record {
    by_format = λ place f e.
        let at : get_or attached.by_format place [] ≡ bodies_at attached.bodies (Event place) =
        ap (λ (l : List (List ℕ)). get_or l place []) to.by_format ∙ at_each_at attached.bodies (length r.formats) place (slice_get_within r.formats place f e) in
        subst (λ (l : List ℕ). All (IsFor (sizes_of typed.bodies) f.layout.size) l) (sym at)
        (All-from_recursion (IsFor (sizes_of typed.bodies) f.layout.size) _
        (bodies_are script r.formats types.known attached.bodies typed.bodies types.each (Event place) f.layout.size
        (subst (λ (l : Option Layout). least_length l ≤ f.layout.size) (sym (layout_is place f e)) (omega arith))));
    ticks = All-from_recursion (λ (t : Tick). IsFor (sizes_of typed.bodies) 0 t.body) attached.ticks
        (each_tick attached.ticks (ticks_run r.start (r.end - r.start) r.formats script.probes attached.ticks to.ticks));
    begin = subst (λ (l : List ℕ). All (IsFor (sizes_of typed.bodies) 0) l) (sym to.begin)
        (All-from_recursion (IsFor (sizes_of typed.bodies) 0) _ (bodies_are script r.formats types.known attached.bodies typed.bodies types.each Begin 0 (omega arith)));
    finish = subst (λ (l : List ℕ). All (IsFor (sizes_of typed.bodies) 0) l) (sym to.finish)
        (All-from_recursion (IsFor (sizes_of typed.bodies) 0) _ (bodies_are script r.formats types.known attached.bodies typed.bodies types.each End 0 (omega arith)));
  }

  none_of : attach_fault script r.formats r.start r.end ≡ None → probes_fault r.formats (r.end - r.start) 0 0 script.probes ≡ None
  unfolding attach_fault
  none_of h = h

  pub is_job : IsValidRecording r → attach_fault script r.formats r.start r.end ≡ None → IsJob typed attached r
  is_job valid none =
      let few = few_of_both r.formats r.start (r.end - r.start) script.probes (none_of none) in
      let bodies_few : length attached.bodies ≤ BODIES = subst (λ (l : List BodyId). length l ≤ BODIES) (sym to.bodies) few.1 in
      let ticks_few = few.0 in
      let count = ticks_count r.start (r.end - r.start) r.formats script.probes attached.ticks to.ticks in
      record {
        valid = valid;
        bodies = has_bodies;
        in_turn = ticks_in_turn r.start (r.end - r.start) r.formats script.probes attached.ticks to.ticks;
        few_ticks = omega (arith, ticks_few, count);
        few_at_events = subst (λ (l : List (List ℕ)). All (λ (which : List ℕ). length which ≤ BODIES) l) (sym to.by_format)
            (All-from_recursion (λ (which : List ℕ). length which ≤ BODIES) _ (at_each_few attached.bodies BODIES (length r.formats) bodies_few));
        few_begin = subst (λ (l : List ℕ). length l ≤ BODIES) (sym to.begin) (small (bodies_at attached.bodies Begin) (places_few (λ (b : BodyId). is_at Begin b.point) 0 attached.bodies) bodies_few);
        few_end = subst (λ (l : List ℕ). length l ≤ BODIES) (sym to.finish) (small (bodies_at attached.bodies End) (places_few (λ (b : BodyId). is_at End b.point) 0 attached.bodies) bodies_few);
      }
    where
      small : (l : List ℕ) → length l ≤ length attached.bodies → length attached.bodies ≤ BODIES → length l ≤ BODIES
      small l a b = omega (arith, a, b)
