use Rattle.bt_core.specs.declared.context.Context.{Context}
use Rattle.std.proofs.Common.{◌≡◌, ℕ, ◌≤◌, List, [], length, ◌∙◌, refl, sym, subst, ap}
use Rattle.std.specs.Prelude.{All, slice_index_or}
use Rattle.bt_core.specs.Interaction.{Interaction, Whole, Performed}
use Rattle.bt_core.proofs.InteractionLaws.{Whole-Ended}
use Rattle.bt_core.specs.declared.limits.TheConstants.{BODIES}
use Rattle.recordings.specs.InFile.{event_seen}
use Rattle.actor_plan.specs.Plans.{IsBodyFor}
use Rattle.actor_plan.specs.Contexts.{event_context}
use Rattle.actor_plan.specs.Programs.{in_turn}
use Rattle.actor_plan.proofs.ItemLaws.{known_at, few_at, listed, unlisted}
use Rattle.actor_plan.proofs.item.run_event.Goals as goal

pub run_in_turn-requires-clause-known : goal.run_in_turn-requires-clause-known
run_in_turn-requires-clause-known g c =
    let here = known_at (g.B.Bodies.plan c.args.bodies.now) c.args.recording.now c.args.attached.now (g.P.Port.fixed c.args.port.now).setting c.requires.ready (event_seen c.args.event.now) c.in-Some.which.now
    c.args.event.now.payload.now c.requires.recorded c.in-Some.ensures refl in
    subst (λ (l : List ℕ). All (IsBodyFor (g.B.Bodies.plan c.args.bodies.now) (length c.args.event.now.payload.now)) l) (sym c.as_slice.ensures) here

pub run_in_turn-requires-clause-few_bodies : goal.run_in_turn-requires-clause-few_bodies
run_in_turn-requires-clause-few_bodies g c =
    let few = few_at (g.B.Bodies.plan c.args.bodies.now) c.args.recording.now c.args.attached.now (g.P.Port.fixed c.args.port.now).setting c.requires.ready (event_seen c.args.event.now) c.in-Some.which.now c.in-Some.ensures in
    subst (λ (l : List ℕ). length l ≤ BODIES) (sym c.as_slice.ensures) few

pub returns-in-None-clause-performed : goal.returns-in-None-clause-performed
returns-in-None-clause-performed g c =
    let e = event_seen c.args.event.now in
    let old = g.P.Port.steps c.args.port.now in
    let run : ℕ → Interaction ℕ = (λ body. (g.B.Bodies.plan c.args.bodies.now).run body (event_context c.args.recording.now c.args.track.now e) e.payload) in
    subst (λ (l : List ℕ). Whole (in_turn run l) old old 0) (sym (unlisted c.args.attached.now.by_format e.format c.in-None.ensures)) (Whole-Ended 0 0 old refl)

pub returns-in-Some-clause-performed : goal.returns-in-Some-clause-performed
returns-in-Some-clause-performed g c =
    let e = event_seen c.args.event.now in
    let plan = g.B.Bodies.plan c.args.bodies.now in
    let lists = c.args.attached.now.by_format in
    let which : c.as_slice.result.now ≡ slice_index_or lists e.format [] = c.as_slice.ensures ∙ sym (listed lists e.format c.in-Some.which.now c.in-Some.ensures) in
    let context = c.context_of_event-context.ensures in
    subst (λ (t : Interaction ℕ). Performed t (g.P.Port.steps c.args.port.now) (g.P.Port.steps c.run_in_turn.new.port) c.run_in_turn.result)
    (λ i. in_turn (λ body. plan.run body (context i) e.payload) (which i)) c.run_in_turn.ensures.performed

pub run_in_turn-requires-clause-counted : goal.run_in_turn-requires-clause-counted
run_in_turn-requires-clause-counted g c =
    ap (λ (x : Context). x.payload_len) c.context_of_event-context.ensures
