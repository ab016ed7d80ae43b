-- The entries and ticks of a CPU, one by one. No public contract speaks of it.
use Rattle.std.specs.Prelude.{ℕ, suc, ◌+◌, nat_le, nat_lt, Bool, true, false, List, [], ◌∷◌, ◌++◌, drop, Option, Some, None, if◌then◌else◌}
use Rattle.bt_ast.specs.declared.attached.Tick.{Tick}
use Rattle.recordings.specs.declared.recording.Entry.{Entry}
use Rattle.recordings.specs.declared.recording.Entry.TheVariants as entry
use Rattle.recordings.specs.Places.{entry_time, HasFormat}
use Rattle.event_layout.specs.declared.format.Format.{Format}
use Rattle.actor_plan.specs.declared.agenda.AgendaItem.{AgendaItem}
use Rattle.actor_plan.specs.declared.agenda.AgendaItem.TheVariants as item
use Rattle.actor_plan.specs.Agendas.{item_at}

-- the entries, the first of which has this place
abbrev pub entries_on : ℕ → List Entry → List AgendaItem
entries_on place [] = []
entries_on place (e ∷ es) = item_at place e ∷ entries_on (place + 1) es

-- those of these entries up to the first that is not before a time, and how many they are
abbrev pub earlier : ℕ → ℕ → List Entry → List AgendaItem
earlier time place [] = []
earlier time place (e ∷ es) = if nat_lt (entry_time e) time then item_at place e ∷ earlier time (place + 1) es else []

abbrev pub earlier_count : ℕ → List Entry → ℕ
earlier_count time [] = 0
earlier_count time (e ∷ es) = if nat_lt (entry_time e) time then suc (earlier_count time es) else 0

-- the ticks, each behind the entries before its time, and then the entries that are left
abbrev pub taken : ℕ → List Entry → ℕ → List Tick → List AgendaItem
taken first entries place [] = entries_on first entries
taken first entries place (t ∷ ts) =
    earlier t.time first entries
    ++ item.Tick place ∷ taken (first + earlier_count t.time entries) (drop (earlier_count t.time entries) entries) (place + 1) ts

-- a tick is the next item: no entry is before its time
abbrev pub is_tick_next : Option Tick → Option Entry → Bool
is_tick_next None entry = false
is_tick_next (Some t) None = true
is_tick_next (Some t) (Some e) = nat_le t.time (entry_time e)

-- where an entry is an event, it has its format
abbrev pub IsRecorded : List Format → Entry → Type 0
IsRecorded formats (entry.Event e) = HasFormat formats e
IsRecorded formats (entry.Lost time count) = Unit {0}
