-- What each actor of a run does, over what is told of the bodies.
use Rattle.std.specs.Prelude.{ℕ, ◌+◌, nat_lt, Bool, true, false, not, if◌then◌else◌}
use Rattle.std.specs.Prelude.{List, [], ◌∷◌, length, slice_get, slice_index_or, Option, Some, None}
use Rattle.bt_ast.specs.declared.attached.Attached.{Attached}
use Rattle.bt_ast.specs.declared.attached.Tick.{Tick}
use Rattle.bt_core.specs.declared.item.Item.TheVariants.{Lost}
use Rattle.bt_core.specs.declared.step.ObjectId.TheVariants.{Clock, Out}
use Rattle.bt_core.specs.declared.step.Op.TheVariants.{Cross, Check, Emit}
use Rattle.bt_core.specs.declared.step.Reply.{Reply}
use Rattle.bt_core.specs.declared.step.Reply.TheVariants.{Last, Stopped}
use Rattle.bt_core.specs.Interaction.{Interaction, Ended, and_then, ask}
use Rattle.recordings.specs.declared.recording.CpuTrack.{CpuTrack}
use Rattle.recordings.specs.declared.recording.Entry.{Entry}
use Rattle.recordings.specs.declared.recording.Entry.TheVariants as entry
use Rattle.recordings.specs.declared.recording.Event.{Event}
use Rattle.recordings.specs.declared.recording.Recording.{Recording}
use Rattle.actor_plan.specs.declared.agenda.AgendaItem.{AgendaItem}
use Rattle.actor_plan.specs.declared.agenda.AgendaItem.TheVariants as item
use Rattle.actor_plan.specs.declared.outcome.Outcome.{Outcome}
use Rattle.actor_plan.specs.Agendas.{agenda_of}
use Rattle.actor_plan.specs.Contexts.{event_context, tick_context, begin_context, end_context}
use Rattle.actor_plan.specs.Plans.{Plan}

-- the runs of bodies, one after the other; the value is the sum of their counts
abbrev pub in_turn : (ℕ → Interaction ℕ) → List ℕ → Interaction ℕ
in_turn run [] = Ended 0
in_turn run (body ∷ bodies) = and_then (run body) (λ count. and_then (in_turn run bodies) (λ rest. Ended (count + rest)))

-- what replies of the clock tell
abbrev pub tells_stop : Reply → Bool
tells_stop (Stopped stopped) = stopped
tells_stop _ = false

abbrev pub tells_last : Reply → Bool
tells_last (Last last) = last
tells_last _ = false

-- whether to go on: always where nothing is checked, and else not after a stop
abbrev pub goes_on : Bool → Interaction Bool
goes_on checks = if checks then and_then (ask Clock Check) (λ reply. Ended (not (tells_stop reply))) else Ended true

-- whether this actor is the last to cross a tick
abbrev pub crosses_last : ℕ → Interaction Bool
crosses_last tick = and_then (ask Clock (Cross tick)) (λ reply. Ended (tells_last reply))

-- what is done of a thing, if it is there
abbrev pub where_some : {A : Type 0} → (A → Interaction ℕ) → Option A → Interaction ℕ
where_some work None = Ended 0
where_some work (Some a) = work a

-- a mark of a CPU of this number: so many lost events are told of
abbrev pub mark_work : ℕ → ℕ → Interaction ℕ
mark_work number count = and_then (ask Out (Emit (Lost number count))) (λ reply. Ended 0)

module _ (plan : Plan) (r : Recording) (attached : Attached) where
  -- the bodies that are attached to an event
  abbrev pub bodies_at : Event → List ℕ
  bodies_at e = slice_index_or attached.by_format e.format []

  -- an event of a CPU: the bodies that are attached to it are run
  abbrev pub event_work : CpuTrack → Event → Interaction ℕ
  event_work track e = in_turn (λ body. plan.run body (event_context r track e) e.payload) (bodies_at e)

  -- an entry of a CPU: an event, or a mark
  abbrev pub entry_work : CpuTrack → Entry → Interaction ℕ
  entry_work track (entry.Event e) = event_work track e
  entry_work track (entry.Lost time count) = mark_work track.number count

  -- a tick, by its place, on a CPU: it is crossed, and the last to cross it runs its body
  abbrev pub tick_work : CpuTrack → ℕ → Tick → Interaction ℕ
  tick_work track place t = and_then (crosses_last place) (λ last. if last then plan.run t.body (tick_context r track t) [] else Ended 0)

  -- an item of a CPU's agenda
  abbrev pub item_work : CpuTrack → AgendaItem → Interaction ℕ
  item_work track (item.Tick place) = where_some (tick_work track place) (slice_get attached.ticks place)
  item_work track (item.Event place) = where_some (entry_work track) (slice_get track.entries place)
  item_work track (item.Lost place) = where_some (entry_work track) (slice_get track.entries place)

  -- the bodies of BEGIN, and those of END, in the order of the script
  abbrev pub begin_program : Interaction ℕ
  begin_program = in_turn (λ body. plan.run body (begin_context r) []) attached.begin

  abbrev pub end_program : Interaction ℕ
  end_program = in_turn (λ body. plan.run body (end_context r) []) attached.end

-- what was done before, and then this
abbrev pub after_count : ℕ → Outcome → Outcome
after_count count o = record { to_end = o.to_end; instructions = count + o.instructions }

-- Items, one after the other. Where there are checks, each item has one before it, and the program ends at the first that
-- finds a stop.
abbrev pub items_program : {I : Type 0} → Bool → (I → Interaction ℕ) → List I → Interaction Outcome
items_program checks work [] = Ended (record { to_end = true; instructions = 0 })
items_program checks work (i ∷ is) = and_then (goes_on checks) (λ on.
    if on then and_then (work i) (λ count. and_then (items_program checks work is) (λ rest. Ended (after_count count rest)))
    else Ended (record { to_end = false; instructions = 0 }))

-- what is left of a program, where what came before it went on to its end
abbrev pub then_program : Interaction Outcome → Outcome → Interaction Outcome
then_program rest o = if o.to_end then and_then rest (λ q. Ended (after_count o.instructions q)) else Ended o

-- a CPU, if it is there: its agenda, with checks where the script has an exit
abbrev pub track_program : Plan → Bool → Recording → Attached → Option CpuTrack → Interaction Outcome
track_program plan exits r attached None = Ended (record { to_end = true; instructions = 0 })
track_program plan exits r attached (Some track) = items_program exits (item_work plan r attached track) (agenda_of r attached plan.actor)

abbrev pub cpu_program : Plan → Bool → Recording → Attached → Interaction Outcome
cpu_program plan exits r attached = track_program plan exits r attached (slice_get r.cpus plan.actor)

-- the main actor: BEGIN, and then END
abbrev pub main_program : Plan → Recording → Attached → Interaction Outcome
main_program plan r attached = and_then (begin_program plan r attached) (λ begun.
    and_then (end_program plan r attached) (λ ended. Ended (record { to_end = true; instructions = begun + ended })))

-- The plan's actor: those below the number of CPUs are the CPUs by their places, and the next is the main actor.
unfoldable pub actor_program : Plan → Bool → Recording → Attached → Interaction Outcome
actor_program plan exits r attached =
    if nat_lt plan.actor (length r.cpus) then cpu_program plan exits r attached else main_program plan r attached
