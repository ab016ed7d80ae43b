-- A schedule that is under way: what is to come, told by the next tick and the next entry of each CPU.
use Rattle.std.specs.Prelude.{◌≡◌, ℕ, ⊤, ◌+◌, ◌<◌, ◌≤◌, ◌^◌, false, List, [], ◌∷◌, Option, drop, get_or, length, map, slice_get}
use Rattle.std.specs.List.{All, AllByRecursion, cons_option, flat_map}
use Rattle.std.specs.Option.{option_map}
use Rattle.std.specs.declared.cmp.Ordering.{Ordering}
use Rattle.std.specs.declared.cmp.Reverse.{Reverse}
use Rattle.std.specs.BinaryHeap.{IsHeap, IsUpperBound}
use Rattle.std.specs.List.Sorted.{IsPermutation}
use Rattle.bt_ast.specs.declared.attached.Tick.{Tick as TickTime}
use Rattle.recordings.specs.declared.recording.CpuTrack.{CpuTrack}
use Rattle.recordings.specs.declared.recording.Entry.{Entry as RecordedEntry}
use Rattle.actor_plan.specs.Agendas.{entries_on_track}
use Rattle.bt_core.specs.Sorted.{ordered}
use Rattle.bt_meaning.specs.declared.schedule.Due.{Due}
use Rattle.bt_meaning.specs.declared.schedule.Due.TheVariants.{Tick, Entry}
use Rattle.bt_meaning.specs.declared.schedule.Scheduled.{Scheduled}
use Rattle.bt_meaning.specs.Schedules.{schedule_order, is_sooner, ticks_due, entry_due, entries_due}

-- the tick, or the entry, of a CPU that has this place
abbrev pub tick_at : ℕ → ℕ → List TickTime → Option Scheduled
tick_at cpu place ticks = option_map (λ (t : TickTime). record { time = t.time; due = Tick place cpu }) (slice_get ticks place)

abbrev pub entry_at : ℕ → ℕ → List RecordedEntry → Option Scheduled
entry_at cpu place entries = option_map (entry_due cpu place) (slice_get entries place)

-- the first tick and the first entry of each CPU from this one on
abbrev pub first_items : List TickTime → ℕ → List CpuTrack → List Scheduled
first_items ticks cpu [] = []
first_items ticks cpu (track ∷ tracks) = cons_option (tick_at cpu 0 ticks) (cons_option (entry_at cpu 0 track.entries) (first_items ticks (cpu + 1) tracks))

module _ (ticks : List TickTime) (tracks : List CpuTrack) where
  -- the tick or the entry behind one, of the same CPU
  abbrev pub item_behind : Due → Option Scheduled
  item_behind (Tick tick cpu) = tick_at cpu (tick + 1) ticks
  item_behind (Entry cpu place lost) = entry_at cpu (place + 1) (entries_on_track (slice_get tracks cpu))

  -- all ticks or entries behind one, of the same CPU
  abbrev pub items_behind : Due → List Scheduled
  items_behind (Tick tick cpu) = ticks_due cpu (tick + 1) (drop (tick + 1) ticks)
  items_behind (Entry cpu place lost) = entries_due cpu (place + 1) (drop (place + 1) (entries_on_track (slice_get tracks cpu)))

  -- an item and all behind it
  abbrev pub items_from : Scheduled → List Scheduled
  items_from s = s ∷ items_behind s.due

  -- what is to come, in the serial order
  abbrev pub upcoming : List Scheduled → List Scheduled
  upcoming heads = ordered is_sooner (flat_map items_from heads)

-- no item comes before one that stands before it
abbrev pub Ascends : List Scheduled → Type 0
Ascends [] = ⊤
Ascends (s ∷ ss) = AllByRecursion (λ t. is_sooner t s ≡ false) ss × Ascends ss

-- the later is the less, so that a heap has the sooner one on top
abbrev pub later_order : Reverse Scheduled → Reverse Scheduled → Ordering
later_order s t = schedule_order t.0 s.0

abbrev pub head_item : Reverse Scheduled → Scheduled
head_item s = s.0

-- the next items stand in a heap, and each comes before those behind it
pub record IsUnderWay (ticks : List TickTime) (tracks : List CpuTrack) (heads : List (Reverse Scheduled)) : Type 0 where
  pub heap : IsHeap later_order heads
  pub ascend : All (λ s. Ascends (items_from ticks tracks s)) (map head_item heads)
  pub few_ticks : length ticks < 2 ^ 32
  pub few_entries : All (λ (track : CpuTrack). length track.entries ≤ 2 ^ 32) tracks

-- an item stands in the place of the first one of a heap
pub record HasReplaced (old new : List (Reverse Scheduled)) (item : Scheduled) : Type 0 where
  pub first : Reverse Scheduled
  pub rest : List (Reverse Scheduled)
  pub was : IsPermutation old (first ∷ rest)
  pub lay : get_or old 0 first ≡ first
  pub soonest : IsUpperBound later_order first rest
  pub now : IsPermutation (item ∷ map head_item rest) (map head_item new)
  pub heap : IsHeap later_order new
