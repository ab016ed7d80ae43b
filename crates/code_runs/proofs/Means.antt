-- The codes of a script's bodies ask what the walks ask.
use Rattle.std.proofs.Common.{◌≡◌, ℕ, zero, suc, ◌+◌, ◌<◌, ◌≤◌, ◌^◌, List, [], ◌∷◌, length, Option, Some, refl, sym, ap, ◌∙◌, subst, arith}
use Rattle.std.specs.Prelude.{slice_get, slice_index_or, option_and_then}
use Rattle.std.specs.List.{AllByRecursion}
use Rattle.std.proofs.lemmas.List.{length-map}
use Rattle.std.proofs.lemmas.List.Elements.{recursion_from_All}
use Rattle.std.proofs.lemmas.Option.{slice_get_within}
use Rattle.bt_ast.specs.declared.attached.Attached.{Attached}
use Rattle.bt_ast.specs.declared.attached.Tick.{Tick}
use Rattle.bt_core.specs.declared.context.Context.{Context}
use Rattle.bt_core.specs.declared.step.Step.{Step}
use Rattle.bt_core.specs.Interaction.{Ended}
use Rattle.bpf_insn.specs.declared.insn.Insn.{Insn}
use Rattle.event_record.specs.Contexts.{context_bytes}
use Rattle.helper_abi.specs.Running.{script_run}
use Rattle.helper_abi.specs.Served.{desk_of}
use Rattle.recordings.specs.declared.recording.CpuTrack.{CpuTrack}
use Rattle.recordings.specs.declared.recording.Entry.TheVariants as entry
use Rattle.recordings.specs.declared.recording.Event.{Event}
use Rattle.recordings.specs.declared.recording.Recording.{Recording}
use Rattle.recordings.specs.Places.{entry_at_place}
use Rattle.recordings.proofs.ForOthers.{recorded_format}
use Rattle.event_layout.proofs.Lists.{all_at}
use Rattle.typed_tree.specs.declared.body.TypedBody.{TypedBody}
use Rattle.typed_tree.specs.declared.script.Typed.{Typed}
use Rattle.actor_plan.specs.Contexts.{event_context, tick_context, begin_context, end_context}
use Rattle.actor_plan.specs.Plans.{IsBodyFor}
use Rattle.walk_meaning.specs.Walk.{walk}
use Rattle.walk_meaning.specs.Served.{least_length}
use Rattle.bt_core.proofs.SameLaws.{SameTo-and_then}
use Rattle.bt_meaning.specs.Interleavings.{IsReplayed}
use Rattle.bt_meaning.specs.Jobs.{IsJob}
use Rattle.bt_meaning.specs.Serial.{serial_steps}
use Rattle.bt_meaning.specs.Walks.{replay_of, walked, walking}
use Rattle.bt_meaning.proofs.Eachs.{each_so}
use Rattle.bt_meaning.proofs.OwnCalls.{size_at}
use Rattle.code_runs.specs.Agree.{AllReplies, Comes, AskSame, AskSameOn, BodiesAskSame, ReplaysAgree}
use Rattle.code_runs.specs.HeldReplies.{IsHeldReply}
use Rattle.code_runs.proofs.Agreeing.{script_replayed, script_serial}
use Rattle.code_runs.specs.Coding.{code_replay, coded, coding, count_of, fuel_of}
use Rattle.code_runs.specs.Kept.{AreHeld, EndsByExit, IsSeen, KeepBodies}
use Rattle.code_runs.proofs.Seen.{event_seen, moment_seen, number_small}

there : {X : Type 0} (xs : List X) (i : ℕ) → i < length xs → (x : X) × (slice_get xs i ≡ Some x)
there [] i low = absurd (omega arith)
there (x ∷ xs) zero low = (x, refl)
there (x ∷ xs) (suc i) low = there xs i (omega arith)

module _ (script : Typed) (codes : List (List Insn)) (attached : Attached) (r : Recording) (job : IsJob script attached r) (held : AreHeld attached r) (keep : KeepBodies script codes) where
  abbrev actors : ℕ
  actors = length r.cpus + 1

  -- the runs of a body by an actor ask the same at a context and a payload
  abbrev Same : ℕ → Context → List ℕ → ℕ → Type 0
  Same actor context payload body = AskSame IsHeldReply script.maps ((walking script actors actor).run body context payload) ((coding script codes actors actor).run body context payload)

  body_same : (actor body size : ℕ) (context : Context) (payload : List ℕ) → actor < actors → IsBodyFor (walking script actors actor) size body
      → ((b : TypedBody) → least_length b.layout ≤ size → IsSeen b context payload) → Same actor context payload body
  body_same actor body size context payload low fits seen =
      let many = length-map script.bodies (λ (b : TypedBody). least_length b.layout) in
      let known = fits.0 in
      let b = there script.bodies body (omega (arith, many, known)) in
      let as_many = keep.as_many in
      let code = there codes body (omega (arith, many, known, as_many)) in
      let long : least_length b.0.layout ≤ size = subst (λ (n : ℕ). n ≤ size) (size_at script.bodies body b.0 b.1) fits.1 in
      let kept = keep.each body b.0 code.0 b.1 code.1 in
      subst (λ (z : Option TypedBody × Option (List Insn)). AskSame IsHeldReply script.maps (walked z.0 context payload actor actors) (coded script actor actors z.1 context payload))
      (λ i. (sym b.1 i, sym code.1 i))
      (SameTo-and_then (Comes IsHeldReply script.maps) EndsByExit (λ m n. Unit {0}) (walk b.0 context payload actor actors)
      (script_run (desk_of script actor actors) code.0 (context_bytes context) payload (fuel_of code.0))
      (λ ending. Ended 0) (λ end. Ended (count_of end)) (kept.same context payload actor actors low (seen b.0 long)) (λ m n h. tt))

  bodies_same : (actor size : ℕ) (context : Context) (payload : List ℕ) (which : List ℕ) → actor < actors → AllByRecursion (IsBodyFor (walking script actors actor) size) which
      → ((b : TypedBody) → least_length b.layout ≤ size → IsSeen b context payload)
      → BodiesAskSame IsHeldReply script.maps (walking script actors actor) (coding script codes actors actor) which context payload
  bodies_same actor size context payload which low fit seen = each_so (IsBodyFor (walking script actors actor) size) (Same actor context payload)
      (λ body fits. body_same actor body size context payload low fits seen) which fit

  module _ (cpu : ℕ) (track : CpuTrack) (at : slice_get r.cpus cpu ≡ Some track) where
    low : cpu < actors
    low = let within = slice_get_within r.cpus cpu track at in omega (arith, within)

    events_same : (place : ℕ) (e : Event) → slice_get track.entries place ≡ Some (entry.Event e)
        → BodiesAskSame IsHeldReply script.maps (walking script actors cpu) (coding script codes actors cpu) (slice_index_or attached.by_format e.format []) (event_context r track e) e.payload
    events_same place e on =
        let placed : entry_at_place r cpu place ≡ Some (entry.Event e) = ap (λ o. option_and_then (λ (c : CpuTrack). slice_get c.entries place) o) at ∙ on in
        let has = recorded_format r cpu place e job.valid placed in
        let size = has.format.layout.size in
        let enough = has.long in
        bodies_same cpu size (event_context r track e) e.payload (slice_index_or attached.by_format e.format []) low
        (recursion_from_All (IsBodyFor (walking script actors cpu) size) (slice_index_or attached.by_format e.format []) ((job.bodies cpu).by_format e.format has.format has.placed))
        (λ b long. event_seen r job.valid attached cpu place track e b held at on (omega (arith, long, enough)))

    ticks_same : (place : ℕ) (t : Tick) → slice_get attached.ticks place ≡ Some t → Same cpu (tick_context r track t) [] t.body
    ticks_same place t on =
        let fits = all_at (λ (u : Tick). IsBodyFor (walking script actors cpu) 0 u.body) attached.ticks place t
        (recursion_from_All (λ (u : Tick). IsBodyFor (walking script actors cpu) 0 u.body) attached.ticks (job.bodies cpu).ticks) on in
        let early = all_at (λ (u : Tick). u.time < 2 ^ 64) attached.ticks place t held.ticks on in
        body_same cpu t.body 0 (tick_context r track t) [] low fits (λ b long. moment_seen r job.valid track.number t.time b (number_small r job.valid cpu track at) early long)

    cpu_same : AskSameOn IsHeldReply script.maps (walking script actors cpu) (coding script codes actors cpu) r attached track
    cpu_same = record { events = events_same; ticks = ticks_same }

  main_low : length r.cpus < actors
  main_low = omega arith

  pub agree : ReplaysAgree IsHeldReply (replay_of script attached r) (code_replay script codes attached r)
  agree = record {
    recording = refl;
    attached = refl;
    exits = refl;
    maps = refl;
    own = λ actor. refl;
    other_own = λ actor. refl;
    begin = bodies_same (length r.cpus) 0 (begin_context r) [] attached.begin main_low
        (recursion_from_All (IsBodyFor (walking script actors (length r.cpus)) 0) attached.begin (job.bodies (length r.cpus)).begin)
        (λ b long. moment_seen r job.valid 0 r.start b (omega arith) job.valid.start long);
    cpus = cpu_same;
    end = bodies_same (length r.cpus) 0 (end_context r) [] attached.end main_low
        (recursion_from_All (IsBodyFor (walking script actors (length r.cpus)) 0) attached.end (job.bodies (length r.cpus)).finish)
        (λ b long. moment_seen r job.valid 0 r.end b (omega arith) job.valid.end long);
  }

  pub code_replayed : (steps : List Step) → AllReplies IsHeldReply steps → IsReplayed (code_replay script codes attached r) steps → IsReplayed (replay_of script attached r) steps
  code_replayed steps replies i = script_replayed IsHeldReply script attached r job (code_replay script codes attached r) agree steps replies i

  pub code_serial : AllReplies IsHeldReply (serial_steps (code_replay script codes attached r))
      → serial_steps (code_replay script codes attached r) ≡ serial_steps (replay_of script attached r)
  code_serial replies = script_serial IsHeldReply script attached r job (code_replay script codes attached r) agree replies
