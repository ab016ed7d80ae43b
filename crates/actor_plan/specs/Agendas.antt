-- Agendas: which entries and ticks a CPU takes, and in which order.
use Rattle.std.specs.Prelude.{◌≡◌, ℕ, suc, ⊤, ◌+◌, ◌<◌, ◌≤◌, ◌&&◌, nat_le, nat_lt, Bool, List, [], ◌∷◌, ◌++◌}
use Rattle.std.specs.Prelude.{length, slice_get, Option, Some, None, if◌then◌else◌}
use Rattle.std.specs.List.{AllByRecursion, filter_map, range_with_len}
use Rattle.bt_ast.specs.declared.attached.Attached.{Attached}
use Rattle.bt_ast.specs.declared.attached.Tick.{Tick}
use Rattle.recordings.specs.declared.recording.CpuTrack.{CpuTrack}
use Rattle.recordings.specs.declared.recording.Entry.{Entry}
use Rattle.recordings.specs.declared.recording.Entry.TheVariants as entry
use Rattle.recordings.specs.declared.recording.Recording.{Recording}
use Rattle.recordings.specs.Places.{entry_time}
use Rattle.actor_plan.specs.declared.agenda.AgendaItem.{AgendaItem}
use Rattle.actor_plan.specs.declared.agenda.AgendaItem.TheVariants as item

-- from one tick to the next the time does not fall, and at one time the body does not fall
pub record AreInTurn (ticks : List Tick) : Type 0 where
  pub times : (place : ℕ) (s t : Tick) → slice_get ticks place ≡ Some s → slice_get ticks (suc place) ≡ Some t → s.time ≤ t.time
  pub bodies : (place : ℕ) (s t : Tick) → slice_get ticks place ≡ Some s → slice_get ticks (suc place) ≡ Some t
      → s.time ≡ t.time → s.body ≤ t.body

-- the entries of a track, if it is there
abbrev pub entries_on_track : Option CpuTrack → List Entry
entries_on_track None = []
entries_on_track (Some track) = track.entries

-- the entries of a CPU
abbrev pub entries_of : Recording → ℕ → List Entry
entries_of r cpu = entries_on_track (slice_get r.cpus cpu)

-- the item of an entry that has this place
abbrev pub item_at : ℕ → Entry → AgendaItem
item_at place (entry.Event e) = item.Event place
item_at place (entry.Lost time count) = item.Lost place

-- Those of the entries whose time passes a test, as items. The first entry has this place.
abbrev pub entries_where : (ℕ → Bool) → ℕ → List Entry → List AgendaItem
entries_where test place [] = []
entries_where test place (e ∷ es) =
    if test (entry_time e) then item_at place e ∷ entries_where test (place + 1) es else entries_where test (place + 1) es

-- a time is from the one on and before the other
abbrev pub is_between : ℕ → ℕ → ℕ → Bool
is_between from to time = nat_le from time && nat_lt time to

-- The items from a time on. Before each tick stand the entries from the time of the tick before, and before its own; behind the
-- last tick stand the entries from its time on. The first entry has the one place, and the first tick the other.
abbrev pub items_from : ℕ → List Entry → ℕ → ℕ → List Tick → List AgendaItem
items_from first entries time place [] = entries_where (nat_le time) first entries
items_from first entries time place (t ∷ ts) =
    entries_where (is_between time t.time) first entries ++ item.Tick place ∷ items_from first entries t.time (place + 1) ts

-- the agenda of a CPU
unfoldable pub agenda_of : Recording → Attached → ℕ → List AgendaItem
agenda_of r attached cpu = items_from 0 (entries_of r cpu) 0 0 attached.ticks

-- ---- what an agenda is, item by item

abbrev pub tick_place : AgendaItem → Option ℕ
tick_place (item.Tick place) = Some place
tick_place (item.Event place) = None
tick_place (item.Lost place) = None

abbrev pub entry_place : AgendaItem → Option ℕ
entry_place (item.Tick place) = None
entry_place (item.Event place) = Some place
entry_place (item.Lost place) = Some place

-- an item of an entry is what the entry at its place is
abbrev pub IsOfEntry : List Entry → AgendaItem → Type 0
IsOfEntry entries (item.Tick place) = ⊤
IsOfEntry entries (item.Event place) = (e : Entry) → slice_get entries place ≡ Some e → item_at place e ≡ item.Event place
IsOfEntry entries (item.Lost place) = (e : Entry) → slice_get entries place ≡ Some e → item_at place e ≡ item.Lost place

-- an entry is before a time, and one is not; of a tick it says nothing
abbrev pub IsBefore : List Entry → ℕ → AgendaItem → Type 0
IsBefore entries time (item.Tick place) = ⊤
IsBefore entries time (item.Event place) = (e : Entry) → slice_get entries place ≡ Some e → entry_time e < time
IsBefore entries time (item.Lost place) = (e : Entry) → slice_get entries place ≡ Some e → entry_time e < time

abbrev pub IsNotBefore : List Entry → ℕ → AgendaItem → Type 0
IsNotBefore entries time (item.Tick place) = ⊤
IsNotBefore entries time (item.Event place) = (e : Entry) → slice_get entries place ≡ Some e → time ≤ entry_time e
IsNotBefore entries time (item.Lost place) = (e : Entry) → slice_get entries place ≡ Some e → time ≤ entry_time e

-- what stands before and behind a tick of this time
pub record StandsAt (entries : List Entry) (time : ℕ) (before after : List AgendaItem) : Type 0 where
  pub earlier : AllByRecursion (IsBefore entries time) before
  pub later : AllByRecursion (IsNotBefore entries time) after

-- all ticks and all entries stand in it, each once and both in their order, an event as an event and a mark as a mark; and each tick
-- stands after the entries with a smaller time and before those with its time or more
pub record IsAgenda (ticks : List Tick) (entries : List Entry) (items : List AgendaItem) : Type 0 where
  pub ticks_are : filter_map tick_place items ≡ range_with_len 0 (length ticks)
  pub entries_are : filter_map entry_place items ≡ range_with_len 0 (length entries)
  pub kinds_are : AllByRecursion (IsOfEntry entries) items
  pub stands : (before after : List AgendaItem) (place : ℕ) (t : Tick) → items ≡ before ++ item.Tick place ∷ after → slice_get ticks place ≡ Some t
      → StandsAt entries t.time before after
