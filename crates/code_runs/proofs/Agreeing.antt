-- Replays that agree have the same interleavings.
use Rattle.std.proofs.Common.{◌≡◌, ℕ, ◌<◌, true, List, [], ◌∷◌, Option, Some, None, slice_get, refl, sym, ap, ◌∙◌, subst}
use Rattle.std.specs.List.{AllByRecursion}
use Rattle.std.proofs.lemmas.List.Elements.{All-from_recursion}
use Rattle.bt_ast.specs.declared.attached.Attached.{Attached}
use Rattle.bt_core.specs.declared.map.MapDecl.{MapDecl}
use Rattle.bt_core.specs.Interaction.{Interaction, Ended, Asks}
use Rattle.bt_core.specs.declared.step.ObjectId.{ObjectId}
use Rattle.bt_core.specs.declared.step.Op.{Op}
use Rattle.bt_core.specs.declared.step.Reply.{Reply}
use Rattle.bt_core.specs.declared.step.Step.{Step}
use Rattle.bt_core.specs.Ports.{CanStep, IsReplyOf}
use Rattle.recordings.specs.declared.recording.CpuTrack.{CpuTrack}
use Rattle.recordings.specs.declared.recording.Recording.{Recording}
use Rattle.recordings.specs.Recordings.{IsValidRecording}
use Rattle.typed_tree.specs.declared.script.Typed.{Typed}
use Rattle.agg_core.proofs.KindLaws.{answer-kind}
use Rattle.actor_plan.specs.declared.agenda.AgendaItem.{AgendaItem}
use Rattle.actor_plan.specs.Agendas.{AreInTurn, agenda_of}
use Rattle.actor_plan.specs.Contexts.{begin_context, end_context}
use Rattle.actor_plan.specs.Plans.{Plan}
use Rattle.actor_plan.specs.declared.outcome.Outcome.{Outcome}
use Rattle.actor_plan.specs.Programs.{cpu_program, item_work, items_program, track_program}
use Rattle.bt_core.specs.Same.{SameTo}
use Rattle.bt_meaning.specs.Interleavings.{IsInterleaving, IsReplayed}
use Rattle.bt_meaning.specs.Jobs.{IsJob}
use Rattle.bt_meaning.specs.Replays.{Replay, answers_of, begin_of, cpu_of, cpus_of, end_of}
use Rattle.bt_meaning.specs.Serial.{alone, alone_on, serial_steps}
use Rattle.bt_meaning.specs.Walks.{replay_of}
use Rattle.bt_meaning.proofs.SerialLaws.{serial_interleaves}
use Rattle.code_runs.specs.Agree.{AllReplies, AskSame, Comes, ReplaysAgree}
use Rattle.code_runs.specs.Asking.{objects_of, AsksObjects}
use Rattle.code_runs.proofs.Carried.{with_plans, SamePrograms, carried, replayed}
use Rattle.code_runs.proofs.SamePrograms.{EndAlike, items_same, item_same, turn_same}
use Rattle.code_runs.proofs.Coming.{kinds_of}
use Rattle.code_runs.proofs.SameRuns.{AsksWhere, HasKind, SameTo-sym, asks_fewer, same_asks}
use Rattle.code_runs.proofs.SameSerial.{serial_same}
use Rattle.code_runs.proofs.ScriptAsks.{script_asks}

alike_back : (holds : Reply → Type 0) (maps : List MapDecl) (t u : Interaction Outcome) → SameTo (Comes holds maps) (λ b a. EndAlike a b) t u → SameTo (Comes holds maps) EndAlike t u
alike_back holds maps (Ended a) (Ended b) same = sym same
alike_back holds maps (Ended a) (Asks d g) same = absurd same
alike_back holds maps (Asks c f) (Ended b) same = absurd same
alike_back holds maps (Asks c f) (Asks d g) same = (same.0, λ reply kind. alike_back holds maps (f reply) (g reply) (same.1 reply kind))

turn_back : (holds : Reply → Type 0) (maps : List MapDecl) (t u : Interaction Outcome) → SameTo (Comes holds maps) EndAlike t u → SameTo (Comes holds maps) EndAlike u t
turn_back holds maps t u same = alike_back holds maps u t (SameTo-sym holds maps EndAlike t u same)

-- ---- replays that differ by their plans

module _ (holds : Reply → Type 0) (p q : Replay) (agree : ReplaysAgree holds p q) where
  abbrev other : Replay
  other = with_plans p q.plan

  is_other : other ≡ q
  is_other = λ i. record { recording = sym agree.recording i; attached = sym agree.attached i; exits = sym agree.exits i; maps = sym agree.maps i; plan = q.plan }

  abbrev r : Recording
  r = p.recording

  abbrev attached : Attached
  attached = p.attached

  -- what a CPU does by a plan, if the CPU is there
  abbrev on_track : Plan → ℕ → Option CpuTrack → Interaction Outcome
  on_track plan cpu None = Ended (record { to_end = true; instructions = 0 })
  on_track plan cpu (Some track) = items_program p.exits (item_work plan r attached track) (agenda_of r attached cpu)

  is_on_track : (plan : Plan) (o : Option CpuTrack) → on_track plan plan.actor o ≡ track_program plan p.exits r attached o
  is_on_track plan None = refl
  is_on_track plan (Some track) = refl

  is_program : (plan : Plan) (cpu : ℕ) → plan.actor ≡ cpu → on_track plan cpu (slice_get r.cpus cpu) ≡ cpu_program plan p.exits r attached
  is_program plan cpu own = (λ i. on_track plan (sym own i) (slice_get r.cpus (sym own i))) ∙ is_on_track plan (slice_get r.cpus plan.actor)

  tracks_same : (cpu : ℕ) (o : Option CpuTrack) → slice_get r.cpus cpu ≡ o → SameTo (Comes holds p.maps) EndAlike (on_track (p.plan cpu) cpu o) (on_track (q.plan cpu) cpu o)
  tracks_same cpu None at = refl
  tracks_same cpu (Some track) at =
      items_same holds p.maps p.exits (item_work (p.plan cpu) r attached track) (item_work (q.plan cpu) r attached track)
      (item_same holds p.maps (p.plan cpu) (q.plan cpu) r attached track (agree.cpus cpu track at)) (agenda_of r attached cpu)

  cpus_same : (cpu : ℕ) → SameTo (Comes holds p.maps) EndAlike (cpu_of p cpu) (cpu_of other cpu)
  cpus_same cpu = subst (λ (z : Interaction Outcome × Interaction Outcome). SameTo (Comes holds p.maps) EndAlike z.0 z.1)
      (λ i. (is_program (p.plan cpu) cpu (agree.own cpu) i, is_program (q.plan cpu) cpu (agree.other_own cpu) i))
      (tracks_same cpu (slice_get r.cpus cpu) refl)

  begin_same : AskSame holds p.maps (begin_of p) (begin_of other)
  begin_same =
      turn_same holds p.maps (λ body. (p.plan (cpus_of p)).run body (begin_context r) []) (λ body. (q.plan (cpus_of p)).run body (begin_context r) []) attached.begin agree.begin

  end_same : AskSame holds p.maps (end_of p) (end_of other)
  end_same =
      turn_same holds p.maps (λ body. (p.plan (cpus_of p)).run body (end_context r) []) (λ body. (q.plan (cpus_of p)).run body (end_context r) []) attached.end agree.end

  there_same : SamePrograms holds p p.plan q.plan
  there_same = record { begin = begin_same; cpus = λ cpu low. cpus_same cpu; end = end_same }

  back_same : SamePrograms holds p q.plan p.plan
  back_same = record {
    begin = SameTo-sym holds p.maps (λ a b. Unit {0}) (begin_of p) (begin_of other) begin_same;
    cpus = λ cpu low. turn_back holds p.maps (cpu_of p cpu) (cpu_of other cpu) (cpus_same cpu);
    end = SameTo-sym holds p.maps (λ a b. Unit {0}) (end_of p) (end_of other) end_same;
  }

  alone_same : (cpu : ℕ) (i : AgendaItem) (o : Option CpuTrack) → slice_get r.cpus cpu ≡ o → SameTo (Comes holds p.maps) EndAlike (alone_on p cpu i o) (alone_on other cpu i o)
  alone_same cpu i None at = refl
  alone_same cpu i (Some track) at =
      items_same holds p.maps p.exits (item_work (p.plan cpu) r attached track) (item_work (q.plan cpu) r attached track)
      (item_same holds p.maps (p.plan cpu) (q.plan cpu) r attached track (agree.cpus cpu track at)) (i ∷ [])

  alone_back : (cpu : ℕ) (i : AgendaItem) → SameTo (Comes holds p.maps) EndAlike (alone other cpu i) (alone p cpu i)
  alone_back cpu i = turn_back holds p.maps (alone p cpu i) (alone other cpu i) (alone_same cpu i (slice_get r.cpus cpu) refl)

  module _ (asks : AsksObjects p) where
    abbrev at_objects : ObjectId → Op → Type 0
    at_objects = CanStep (objects_of p)

    kinds_are : (object : ObjectId) (before : List Op) (op : Op) → AllByRecursion (at_objects object) before → at_objects object op → IsReplyOf p.maps object op (answers_of p object before op)
    kinds_are object before op all own = answer-kind (objects_of p) (cpus_of p) object before op asks.fine (All-from_recursion (at_objects object) before all) own

    begin_asks : AsksWhere holds at_objects p.maps (begin_of p)
    begin_asks = asks_fewer holds at_objects p.maps (begin_of p) asks.begin

    cpu_asks : (cpu : ℕ) → cpu < cpus_of p → AsksWhere holds at_objects p.maps (cpu_of p cpu)
    cpu_asks cpu low = asks_fewer holds at_objects p.maps (cpu_of p cpu) (asks.cpus cpu low)

    end_asks : AsksWhere holds at_objects p.maps (end_of p)
    end_asks = asks_fewer holds at_objects p.maps (end_of p) asks.end

    kinds : (steps : List Step) → IsInterleaving p steps → AllReplies holds steps → AllByRecursion (HasKind holds p.maps) steps
    kinds steps i held = kinds_of holds p at_objects kinds_are begin_asks cpu_asks end_asks steps i held

    other_kinds : (steps : List Step) → IsInterleaving other steps → AllReplies holds steps → AllByRecursion (HasKind holds p.maps) steps
    other_kinds steps i held = kinds_of holds other at_objects kinds_are
        (same_asks holds p.maps (λ a b. Unit {0}) at_objects (begin_of p) (begin_of other) begin_same begin_asks)
        (λ cpu low. same_asks holds p.maps EndAlike at_objects (cpu_of p cpu) (cpu_of other cpu) (cpus_same cpu) (cpu_asks cpu low))
        (same_asks holds p.maps (λ a b. Unit {0}) at_objects (end_of p) (end_of other) end_same end_asks) steps i held

    module _ (steps : List Step) (held : AllReplies holds steps) where
      pub there : IsInterleaving p steps → IsInterleaving q steps
      there i = subst (λ (x : Replay). IsInterleaving x steps) is_other (carried holds p p.plan q.plan there_same steps (kinds steps i held) i)

      pub replayed_there : IsReplayed p steps → IsReplayed q steps
      replayed_there i = subst (λ (x : Replay). IsReplayed x steps) is_other (replayed holds p p.plan q.plan there_same steps (kinds steps i.interleaving held) i)

      pub back : IsInterleaving q steps → IsInterleaving p steps
      back i = let j = subst (λ (x : Replay). IsInterleaving x steps) (sym is_other) i in
          carried holds p q.plan p.plan back_same steps (other_kinds steps j held) j

      pub replayed_back : IsReplayed q steps → IsReplayed p steps
      replayed_back i = let j = subst (λ (x : Replay). IsReplayed x steps) (sym is_other) i in
          replayed holds p q.plan p.plan back_same steps (other_kinds steps j.interleaving held) j

    pub serial : IsValidRecording p.recording → AreInTurn p.attached.ticks → AllReplies holds (serial_steps q) → serial_steps q ≡ serial_steps p
    serial valid turn held =
        let own_held = subst (AllReplies holds) (ap serial_steps (sym is_other)) held in
        ap serial_steps (sym is_other)
        ∙ serial_same holds p q.plan p.plan alone_back back_same (other_kinds (serial_steps other) (serial_interleaves other valid turn agree.other_own) own_held)

-- ---- scripts

module _ (holds : Reply → Type 0) (script : Typed) (attached : Attached) (r : Recording) (job : IsJob script attached r) (q : Replay)
    (agree : ReplaysAgree holds (replay_of script attached r) q) where
  pub script_interleaving : (steps : List Step) → AllReplies holds steps → IsInterleaving q steps → IsInterleaving (replay_of script attached r) steps
  script_interleaving steps held i = back holds (replay_of script attached r) q agree (script_asks script attached r job) steps held i

  pub script_replayed : (steps : List Step) → AllReplies holds steps → IsReplayed q steps → IsReplayed (replay_of script attached r) steps
  script_replayed steps held i = replayed_back holds (replay_of script attached r) q agree (script_asks script attached r job) steps held i

  pub script_serial : AllReplies holds (serial_steps q) → serial_steps q ≡ serial_steps (replay_of script attached r)
  script_serial held = serial holds (replay_of script attached r) q agree (script_asks script attached r job) job.valid job.in_turn held
