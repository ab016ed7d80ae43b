-- The order in which a run on one thread takes the items of all agendas.
use Rattle.std.specs.Prelude.{ℕ, ◌+◌, ◌++◌, Bool, true, false, if◌then◌else◌, List, [], ◌∷◌}
use Rattle.std.specs.declared.cmp.Ordering.{Ordering}
use Rattle.std.specs.declared.cmp.Ordering.TheVariants.{Less, Greater}
use Rattle.std.specs.Ordering.{is_lt, bool_cmp, nat_cmp, ordering_then}
use Rattle.bt_ast.specs.declared.attached.Attached.{Attached}
use Rattle.bt_ast.specs.declared.attached.Tick.{Tick as TickTime}
use Rattle.recordings.specs.declared.recording.CpuTrack.{CpuTrack}
use Rattle.recordings.specs.declared.recording.Entry.{Entry as RecordedEntry}
use Rattle.recordings.specs.declared.recording.Entry.TheVariants as entry
use Rattle.recordings.specs.declared.recording.Recording.{Recording}
use Rattle.recordings.specs.Places.{entry_time}
use Rattle.bt_core.specs.Sorted.{ordered}
use Rattle.actor_plan.specs.declared.agenda.AgendaItem.{AgendaItem}
use Rattle.actor_plan.specs.declared.agenda.AgendaItem.TheVariants as item
use Rattle.bt_meaning.specs.declared.schedule.Due.{Due}
use Rattle.bt_meaning.specs.declared.schedule.Due.TheVariants.{Tick, Entry}
use Rattle.bt_meaning.specs.declared.schedule.Scheduled.{Scheduled}

-- ticks before entries; ticks by their order and then by CPU; entries by CPU and then by their place, where there is one of each place
abbrev pub due_order : Due → Due → Ordering
due_order (Tick tick cpu) (Tick other at) = ordering_then (nat_cmp tick other) (nat_cmp cpu at)
due_order (Tick tick cpu) (Entry at place lost) = Less
due_order (Entry cpu place lost) (Tick tick at) = Greater
due_order (Entry cpu place lost) (Entry at other too) = ordering_then (nat_cmp cpu at) (ordering_then (nat_cmp place other) (bool_cmp lost too))

-- by time first
abbrev pub schedule_order : Scheduled → Scheduled → Ordering
schedule_order s t = ordering_then (nat_cmp s.time t.time) (due_order s.due t.due)

abbrev pub is_sooner : Scheduled → Scheduled → Bool
is_sooner s t = is_lt (schedule_order s t)

-- the ticks from this place on, for a CPU
abbrev pub ticks_due : ℕ → ℕ → List TickTime → List Scheduled
ticks_due cpu place [] = []
ticks_due cpu place (t ∷ ts) = record { time = t.time; due = Tick place cpu } ∷ ticks_due cpu (place + 1) ts

-- whether an entry is a mark of lost events
abbrev pub is_lost : RecordedEntry → Bool
is_lost (entry.Event e) = false
is_lost (entry.Lost time count) = true

-- the entry of a CPU that has this place
abbrev pub entry_due : ℕ → ℕ → RecordedEntry → Scheduled
entry_due cpu place e = record { time = entry_time e; due = Entry cpu place (is_lost e) }

-- the entries from this place on, of a CPU
abbrev pub entries_due : ℕ → ℕ → List RecordedEntry → List Scheduled
entries_due cpu place [] = []
entries_due cpu place (e ∷ es) = entry_due cpu place e ∷ entries_due cpu (place + 1) es

-- the entries of each CPU from this one on, and all ticks for each of them
abbrev pub all_due : List TickTime → ℕ → List CpuTrack → List Scheduled
all_due ticks cpu [] = []
all_due ticks cpu (track ∷ tracks) = ticks_due cpu 0 ticks ++ (entries_due cpu 0 track.entries ++ all_due ticks (cpu + 1) tracks)

-- the items of all agendas in the serial order
unfoldable pub serial_order : Recording → Attached → List Scheduled
serial_order r attached = ordered is_sooner (all_due attached.ticks 0 r.cpus)

-- whose item it is
abbrev pub cpu_of_due : Due → ℕ
cpu_of_due (Tick tick cpu) = cpu
cpu_of_due (Entry cpu place lost) = cpu

-- the item as the CPU's agenda has it
abbrev pub item_of_due : Due → AgendaItem
item_of_due (Tick tick cpu) = item.Tick tick
item_of_due (Entry cpu place lost) = if lost then item.Lost place else item.Event place
