-- The items of an agenda: which bodies are run at them.
use Rattle.std.proofs.Common.{◌≡◌, ℕ, ◌*◌, ◌≤◌, List, [], length, refl, sym, ap, ◌∙◌, arith, subst, lit≤, Ok, Err, IfOk, Result}
use Rattle.std.specs.Prelude.{All, Some, None, option_and_then, slice_get, slice_index_or, unwrap_or}
use Rattle.std.proofs.lemmas.Option.{slice_get_within, get_or_from_slice_get, unwrap_or-slice_get}
use Rattle.bt_ast.specs.declared.attached.Attached.{Attached}
use Rattle.bt_ast.specs.declared.attached.Tick.{Tick}
use Rattle.bt_core.specs.declared.context.Context.{Context}
use Rattle.bt_core.specs.declared.limits.TheConstants.{BODIES}
use Rattle.bt_core.specs.declared.memory.Memory.{Memory}
use Rattle.bt_core.specs.declared.step.Step.{Step}
use Rattle.bt_core.specs.Interaction.{Performed}
use Rattle.bt_core.specs.Ports.{Setting}
use Rattle.recordings.specs.declared.recording.CpuTrack.{CpuTrack}
use Rattle.recordings.specs.declared.recording.Entry.{Entry}
use Rattle.recordings.specs.declared.recording.Entry.TheVariants as entry
use Rattle.recordings.specs.declared.recording.Event.{Event}
use Rattle.recordings.specs.declared.recording.Recording.{Recording}
use Rattle.recordings.specs.Places.{HasFormat}
use Rattle.recordings.specs.Recordings.{IsValidRecording}
use Rattle.recordings.proofs.ForOthers.{recorded_format}
use Rattle.actor_plan.specs.declared.limits.TheConstants.{RUN_INSTRUCTIONS}
use Rattle.actor_plan.specs.Contexts.{tick_context}
use Rattle.actor_plan.specs.Plans.{Plan, CanRun, IsBodyFor}
use Rattle.actor_plan.specs.Ready.{IsReady}
use Rattle.actor_plan.specs.Steps.{IsRecorded}
use Rattle.actor_plan.proofs.InTurnLaws.{takes_few}

pub listed : (lists : List (List ℕ)) (i : ℕ) (which : List ℕ) → Some which ≡ slice_get lists i → slice_index_or lists i [] ≡ which
listed lists i which at = get_or_from_slice_get lists i which [] (sym at)

pub unlisted : (lists : List (List ℕ)) (i : ℕ) → None ≡ slice_get lists i → slice_index_or lists i [] ≡ []
unlisted lists i at = let none : List ℕ = [] in sym (unwrap_or-slice_get lists i none) ∙ ap (λ o. unwrap_or o none) (sym at)

-- an entry that stands in a track of a valid recording
pub recorded_here : (r : Recording) (cpu place : ℕ) (track : CpuTrack) (e : Entry) → IsValidRecording r → slice_get r.cpus cpu ≡ Some track → slice_get track.entries place ≡ Some e → IsRecorded r.formats e
recorded_here r cpu place track (entry.Lost time count) valid on at = tt
recorded_here r cpu place track (entry.Event e) valid on at =
    recorded_format r cpu place e valid (ap (λ o. option_and_then (λ (c : CpuTrack). slice_get c.entries place) o) on ∙ at)

module _ (plan : Plan) (r : Recording) (attached : Attached) (setting : Setting) (ready : IsReady plan r attached setting) where
  pub known_at : (e : Event) (which payload : List ℕ) → HasFormat r.formats e → Some which ≡ slice_get attached.by_format e.format → payload ≡ e.payload → All (IsBodyFor plan (length payload)) which
  known_at e which payload has at same k d lt =
      let listed_bodies = subst (All (IsBodyFor plan has.format.layout.size)) (listed attached.by_format e.format which at) (ready.bodies.by_format e.format has.format has.placed) in
      let fits = listed_bodies k d lt in
      let size = fits.1 in
      let long = has.long in
      let lengths : length payload ≡ length e.payload = ap length same in
      (fits.0, omega (arith, size, long, lengths))

  pub few_at : (e : Event) (which : List ℕ) → Some which ≡ slice_get attached.by_format e.format → length which ≤ BODIES
  few_at e which at =
      let none : List ℕ = [] in
      subst (λ (l : List ℕ). length l ≤ BODIES) (listed attached.by_format e.format which at)
      (ready.few_at_events e.format none (slice_get_within attached.by_format e.format which (sym at)))

  pub tick_runs : (track : CpuTrack) (place : ℕ) (t : Tick) (context : Context) → slice_get attached.ticks place ≡ Some t → context ≡ tick_context r track t → CanRun plan t.body context []
  tick_runs track place t context at is =
      let there = get_or_from_slice_get attached.ticks place t t at in
      let fits = subst (λ (u : Tick). IsBodyFor plan 0 u.body) there (ready.bodies.ticks place t (slice_get_within attached.ticks place t at)) in
      record { known = fits.0; long = fits.1; counted = ap (λ (x : Context). x.payload_len) is }

  pub run_is_few : (body : ℕ) (context : Context) (payload : List ℕ) (old new : List Step) (result : Result ℕ Memory) → Performed (plan.run body context payload) old new result → IfOk result (λ count. count ≤ BODIES * RUN_INSTRUCTIONS)
  run_is_few body context payload old new (Ok count) performed =
      let one = takes_few plan plan body context payload old new count refl ready.takes_few performed in
      let most : RUN_INSTRUCTIONS ≤ BODIES * RUN_INSTRUCTIONS = lit≤ tt in
      omega (arith, one, most)
  run_is_few body context payload old new (Err e) performed = tt
