-- A schedule that is under way: the next item stands first in what is to come, and behind it what is to come then.
use Rattle.std.proofs.Common.{◌≡◌, ℕ, zero, suc, ◌+◌, ◌<◌, ◌^◌, Bool, true, false, cond, List, [], ◌∷◌, ◌++◌, map, drop, length, get_or, refl, sym, ap, ◌∙◌, subst, arith, append_assoc, append-nil}
use Rattle.std.specs.Prelude.{slice_get, Option, Some, None}
use Rattle.std.specs.List.{All, AllByRecursion, cons_option, filter, flat_map, sum_by}
use Rattle.std.specs.List.Sorted.{ties, IsPermutation, IsSortedBy}
use Rattle.std.specs.BinaryHeap.{IsHeap, IsUpperBound, lt_by_cmp}
use Rattle.std.specs.declared.cmp.Ordering.{Ordering}
use Rattle.std.specs.declared.cmp.Reverse.{Reverse}
use Rattle.std.proofs.lemmas.List.{length-append}
use Rattle.std.proofs.lemmas.List.Elements.{filter-append}
use Rattle.std.proofs.lemmas.List.Sums.{sum_by-cons}
use Rattle.std.proofs.lemmas.List.Sorted.{length_permutation, sum_by-IsPermutation, All-permutation, IsPermutation-map, IsPermutation-refl}
use Rattle.std.proofs.lemmas.Option.{slice_get_within}
use Rattle.bt_core.specs.Sorted.{put_in, ordered}
use Rattle.bt_core.proofs.StableOrder.{stable_order}
use Rattle.weave.proofs.Among.{filter_has}
use Rattle.bt_ast.specs.declared.attached.Attached.{Attached}
use Rattle.bt_ast.specs.declared.attached.Tick.{Tick as TickTime}
use Rattle.recordings.specs.declared.recording.CpuTrack.{CpuTrack}
use Rattle.recordings.specs.declared.recording.Entry.{Entry as RecordedEntry}
use Rattle.recordings.specs.declared.recording.Recording.{Recording}
use Rattle.recordings.specs.Recordings.{IsValidRecording}
use Rattle.actor_plan.specs.Agendas.{AreInTurn, entries_on_track}
use Rattle.actor_plan.proofs.AgendaLaws.{InTime, few_entries, none_before, times_are}
use Rattle.actor_plan.proofs.LoopLaws.{from_place, none_left}
use Rattle.bt_meaning.specs.declared.schedule.Due.{Due}
use Rattle.bt_meaning.specs.declared.schedule.Due.TheVariants.{Tick, Entry}
use Rattle.bt_meaning.specs.declared.schedule.Scheduled.{Scheduled}
use Rattle.bt_meaning.specs.Schedules.{is_sooner, ticks_due, entry_due, entries_due, all_due, serial_order}
use Rattle.bt_meaning.specs.Upcoming.{tick_at, entry_at, first_items, item_behind, items_behind, items_from, upcoming, Ascends, head_item, later_order, HasReplaced, IsUnderWay}
use Rattle.bt_meaning.specs.contracts.schedule.ScheduledOrd.TheImpl as derived
use Rattle.bt_meaning.proofs.DueOrder.{derived_is, sooner_ranks, tied, one_value}
use Rattle.bt_meaning.proofs.Eachs.{each_both}
use Rattle.bt_meaning.proofs.OwnAgenda.{each_map, ticks_rise, entries_rise}
use Rattle.bt_meaning.proofs.Rises.{Late, Rises, rises_ordered, each_ordered, kept_ordered, late_past, put_first}

-- ---- lists with the same items are one list in order

step_from : (ys : List Scheduled) → Rises is_sooner sooner_ranks ys → IsSortedBy is_sooner ys
step_from [] r k d low lt = absurd (omega (arith, lt))
step_from (y ∷ []) r k d low lt = absurd (omega (arith, lt))
step_from (y ∷ z ∷ ys) r zero d low lt = r.0.0
step_from (y ∷ z ∷ ys) r (suc k) d low lt =
    let on : suc k + 1 ≡ suc (k + 1) = omega arith in
    ap (λ (n : ℕ). is_sooner (get_or (y ∷ z ∷ ys) n d) (get_or (z ∷ ys) k d)) on ∙ step_from (z ∷ ys) r.1 k d (omega arith) (omega (arith, lt))

length_put : (x : Scheduled) (ys : List Scheduled) → length (put_in is_sooner x ys) ≡ suc (length ys)
length_put x [] = refl
length_put x (y ∷ ys) = elim (is_sooner y x) as (λ t. length (cond t (y ∷ put_in is_sooner x ys) (x ∷ y ∷ ys)) ≡ suc (suc (length ys)))
    [ true ↦ ap suc (length_put x ys) | false ↦ refl ]

length_ordered : (xs : List Scheduled) → length (ordered is_sooner xs) ≡ length xs
length_ordered [] = refl
length_ordered (x ∷ xs) = length_put x (ordered is_sooner xs) ∙ ap suc (length_ordered xs)

same_order : (xs ys : List Scheduled) → ((p : Scheduled → Bool) → length (filter p xs) ≡ length (filter p ys)) → ordered is_sooner xs ≡ ordered is_sooner ys
same_order xs ys same = stable_order is_sooner sooner_ranks ys (ordered is_sooner xs) (step_from (ordered is_sooner xs) (rises_ordered is_sooner sooner_ranks xs)) (λ z.
    let p = ties is_sooner z in
    one_value z (filter p (ordered is_sooner xs)) (filter p ys)
    (λ x h. tied z x (filter_has p (ordered is_sooner xs) x h).1) (λ x h. tied z x (filter_has p ys x h).1)
    (ap length (kept_ordered is_sooner sooner_ranks p xs) ∙ length_ordered (filter p xs) ∙ same p))

module _ (f : Scheduled → List Scheduled) where
  counted_flat : (p : Scheduled → Bool) (hs : List Scheduled) → length (filter p (flat_map f hs)) ≡ sum_by (λ h. length (filter p (f h))) hs
  counted_flat p [] = refl
  counted_flat p (h ∷ hs) = ap length (filter-append p (f h) (flat_map f hs)) ∙ length-append (filter p (f h)) (filter p (flat_map f hs))
      ∙ ap (λ n. length (filter p (f h)) + n) (counted_flat p hs) ∙ sym (sum_by-cons (λ h. length (filter p (f h))) h hs)

  moved_order : (hs gs : List Scheduled) → IsPermutation hs gs → ordered is_sooner (flat_map f hs) ≡ ordered is_sooner (flat_map f gs)
  moved_order hs gs moved = same_order (flat_map f hs) (flat_map f gs)
      (λ p. counted_flat p hs ∙ sym (sum_by-IsPermutation (λ h. length (filter p (f h))) hs gs moved) ∙ sym (counted_flat p gs))

  flat_option : (o : Option Scheduled) (hs : List Scheduled) → flat_map f (cons_option o hs) ≡ flat_map f (cons_option o []) ++ flat_map f hs
  flat_option None hs = refl
  flat_option (Some h) hs = ap (λ l. l ++ flat_map f hs) (sym (append-nil (f h)))

add_option : (xs : List Scheduled) (o : Option Scheduled) (rest : List Scheduled) → (xs ++ cons_option o []) ++ rest ≡ xs ++ cons_option o rest
add_option xs None rest = ap (λ l. l ++ rest) (append-nil xs)
add_option xs (Some s) rest = append_assoc xs (s ∷ []) rest

-- one CPU more
pub two_more : (old one both : List Scheduled) (t e t' e' : Option Scheduled) (rest : List Scheduled) → one ≡ old ++ cons_option t [] → both ≡ one ++ cons_option e [] → t ≡ t' → e ≡ e'
    → both ++ rest ≡ old ++ cons_option t' (cons_option e' rest)
two_more old one both t e t' e' rest first second is also =
    ap (λ l. l ++ rest) second ∙ add_option one e rest ∙ ap (λ l. l ++ cons_option e rest) first ∙ add_option old t (cons_option e rest)
    ∙ (λ i. old ++ cons_option (is i) (cons_option (also i) rest))

-- ---- what holds of each item

all_each : {X : Type 0} (P : X → Type 0) (xs : List X) → All P xs → AllByRecursion P xs
all_each P [] h = tt
all_each P (x ∷ xs) h = (h 0 x (omega arith), all_each P xs (λ k d lt. h (suc k) d (omega (arith, lt))))

each_all : {X : Type 0} (P : X → Type 0) (xs : List X) → AllByRecursion P xs → All P xs
each_all P [] h k d lt = absurd (omega (arith, lt))
each_all P (x ∷ xs) h zero d lt = h.0
each_all P (x ∷ xs) h (suc k) d lt = each_all P xs h.1 k d (omega (arith, lt))

ascends : (xs : List Scheduled) → Rises is_sooner sooner_ranks xs → Ascends xs
ascends [] r = tt
ascends (x ∷ xs) r = (r.0, ascends xs r.1)

-- ---- what is to come

module _ (ticks : List TickTime) (tracks : List CpuTrack) where
  abbrev pub Steady : Scheduled → Type 0
  Steady s = Ascends (items_from ticks tracks s)

  -- the items behind one are those from the next one on
  none_behind : (due : Due) → item_behind ticks tracks due ≡ None → items_behind ticks tracks due ≡ []
  none_behind (Tick tick cpu) none = no_tick (slice_get ticks (tick + 1)) refl none
    where
      no_tick : (o : Option TickTime) → slice_get ticks (tick + 1) ≡ o → tick_at cpu (tick + 1) ticks ≡ None → ticks_due cpu (tick + 1) (drop (tick + 1) ticks) ≡ []
      no_tick None e n = ap (ticks_due cpu (tick + 1)) (none_left ticks (tick + 1) e)
      no_tick (Some t) e n = absurd cc
  none_behind (Entry cpu place lost) none = no_entry (slice_get es (place + 1)) refl none
    where
      es : List RecordedEntry
      es = entries_on_track (slice_get tracks cpu)

      no_entry : (o : Option RecordedEntry) → slice_get es (place + 1) ≡ o → entry_at cpu (place + 1) es ≡ None → entries_due cpu (place + 1) (drop (place + 1) es) ≡ []
      no_entry None e n = ap (entries_due cpu (place + 1)) (none_left es (place + 1) e)
      no_entry (Some t) e n = absurd cc

  one_behind : (due : Due) (s : Scheduled) → item_behind ticks tracks due ≡ Some s → items_behind ticks tracks due ≡ items_from ticks tracks s
  one_behind (Tick tick cpu) s some = one_tick (slice_get ticks (tick + 1)) refl some
    where
      one_tick : (o : Option TickTime) → slice_get ticks (tick + 1) ≡ o → tick_at cpu (tick + 1) ticks ≡ Some s → ticks_due cpu (tick + 1) (drop (tick + 1) ticks) ≡ items_from ticks tracks s
      one_tick None e n = absurd cc
      one_tick (Some t) e n = from_place (ticks_due cpu (tick + 1)) ticks (tick + 1) t e
          ∙ ap (items_from ticks tracks) (let is : record { time = t.time; due = Tick (tick + 1) cpu } ≡ s = cc in is)
  one_behind (Entry cpu place lost) s some = one_entry (slice_get es (place + 1)) refl some
    where
      es : List RecordedEntry
      es = entries_on_track (slice_get tracks cpu)

      one_entry : (o : Option RecordedEntry) → slice_get es (place + 1) ≡ o → entry_at cpu (place + 1) es ≡ Some s → entries_due cpu (place + 1) (drop (place + 1) es) ≡ items_from ticks tracks s
      one_entry None e n = absurd cc
      one_entry (Some t) e n = from_place (entries_due cpu (place + 1)) es (place + 1) t e
          ∙ ap (items_from ticks tracks) (let is : entry_due cpu (place + 1) t ≡ s = cc in is)

  behind_is : (due : Due) (o : Option Scheduled) → item_behind ticks tracks due ≡ o → items_behind ticks tracks due ≡ flat_map (items_from ticks tracks) (cons_option o [])
  behind_is due None e = none_behind due e
  behind_is due (Some s) e = one_behind due s e ∙ sym (append-nil (items_from ticks tracks s))

  late_from : (x : Scheduled) (hs : List Scheduled) → AllByRecursion (Late is_sooner sooner_ranks x) hs → AllByRecursion Steady hs
      → AllByRecursion (Late is_sooner sooner_ranks x) (flat_map (items_from ticks tracks) hs)
  late_from x [] late steady = tt
  late_from x (h ∷ hs) late steady = each_both (Late is_sooner sooner_ranks x) (items_from ticks tracks h) (flat_map (items_from ticks tracks) hs)
      (late.0, late_past is_sooner sooner_ranks x h (items_behind ticks tracks h.due) late.0 steady.0.0) (late_from x hs late.1 steady.1)

  -- the soonest of the next items is the first to come, and behind it come all that come when its follower has its place
  pub comes_first : (hs rest next : List Scheduled) (x : Scheduled) (o : Option Scheduled) → IsPermutation hs (x ∷ rest) → IsPermutation (cons_option o rest) next
      → item_behind ticks tracks x.due ≡ o → All Steady hs → AllByRecursion (Late is_sooner sooner_ranks x) rest
      → upcoming ticks tracks hs ≡ x ∷ upcoming ticks tracks next
  comes_first hs rest next x o popped pushed behind steady late =
      let f = items_from ticks tracks in
      let each = all_each Steady (x ∷ rest) (All-permutation Steady hs (x ∷ rest) popped steady) in
      let left = items_behind ticks tracks x.due ++ flat_map f rest in
      let all_late : AllByRecursion (Late is_sooner sooner_ranks x) left = each_both (Late is_sooner sooner_ranks x) (items_behind ticks tracks x.due) (flat_map f rest)
      each.0.0 (late_from x rest late each.1) in
      moved_order f hs (x ∷ rest) popped
      ∙ put_first is_sooner sooner_ranks x (ordered is_sooner left) (each_ordered is_sooner sooner_ranks (Late is_sooner sooner_ranks x) left all_late)
      ∙ ap (λ l. x ∷ ordered is_sooner l) (ap (λ l. l ++ flat_map f rest) (behind_is x.due o behind) ∙ sym (flat_option f o rest))
      ∙ ap (λ l. x ∷ l) (moved_order f (cons_option o rest) next pushed)

  pub stays_steady : (hs rest next : List Scheduled) (x : Scheduled) (o : Option Scheduled) → IsPermutation hs (x ∷ rest) → IsPermutation (cons_option o rest) next
      → item_behind ticks tracks x.due ≡ o → All Steady hs → All Steady next
  stays_steady hs rest next x o popped pushed behind steady =
      let each = all_each Steady (x ∷ rest) (All-permutation Steady hs (x ∷ rest) popped steady) in
      All-permutation Steady (cons_option o rest) next pushed (each_all Steady (cons_option o rest) (with_next o behind each))
    where
      with_next : (o : Option Scheduled) → item_behind ticks tracks x.due ≡ o → AllByRecursion Steady (x ∷ rest) → AllByRecursion Steady (cons_option o rest)
      with_next None e each = each.1
      with_next (Some s) e each = (subst Ascends (one_behind x.due s e) each.0.1, each.1)

-- ---- the heap of the next items

-- by the derived order
abbrev pub later_derived : Reverse Scheduled → Reverse Scheduled → Ordering
later_derived s t = derived.ghosts.cmp t.0 s.0

later_is : later_derived ≡ later_order
later_is = λ i s t. derived_is t.0 s.0 i

pub heap_derived : (hs : List (Reverse Scheduled)) → IsHeap later_order hs → IsHeap later_derived hs
heap_derived hs heap = subst (λ (o : Reverse Scheduled → Reverse Scheduled → Ordering). IsHeap o hs) (sym later_is) heap

pub heap_is : (hs : List (Reverse Scheduled)) → IsHeap later_derived hs → IsHeap later_order hs
heap_is hs heap = subst (λ (o : Reverse Scheduled → Reverse Scheduled → Ordering). IsHeap o hs) later_is heap

-- what is above all items of a heap is above those behind the first
pub above_rest : (hs rest : List (Reverse Scheduled)) (x : Reverse Scheduled) → IsPermutation hs (x ∷ rest) → IsUpperBound later_derived x hs → IsUpperBound later_order x rest
above_rest hs rest x moved top =
    let below : Reverse Scheduled → Type 0 = λ y. lt_by_cmp later_order x y ≡ false in
    let above = subst (λ (o : Reverse Scheduled → Reverse Scheduled → Ordering). IsUpperBound o x hs) later_is top in
    (all_each below (x ∷ rest) (All-permutation below hs (x ∷ rest) moved (each_all below hs above))).1

-- when the top is taken, and what is behind it has its place
pub record Advances (ticks : List TickTime) (tracks : List CpuTrack) (hs next : List (Reverse Scheduled)) (x : Reverse Scheduled) : Type 0 where
  pub under : IsUnderWay ticks tracks next
  pub first : upcoming ticks tracks (map head_item hs) ≡ x.0 ∷ upcoming ticks tracks (map head_item next)

pub advances : (ticks : List TickTime) (tracks : List CpuTrack) (hs rest next : List (Reverse Scheduled)) (x : Reverse Scheduled) (o : Option Scheduled)
    → IsUnderWay ticks tracks hs → IsPermutation hs (x ∷ rest) → IsPermutation (cons_option o (map head_item rest)) (map head_item next)
    → item_behind ticks tracks x.0.due ≡ o → IsUpperBound later_derived x rest → IsHeap later_derived next → Advances ticks tracks hs next x
advances ticks tracks hs rest next x o under popped pushed behind top heap =
    let taken = IsPermutation-map head_item hs (x ∷ rest) popped in
    let late = each_map head_item (Late is_sooner sooner_ranks x.0) rest
    (subst (λ (r : Reverse Scheduled → Reverse Scheduled → Ordering). IsUpperBound r x rest) later_is top) in
    record {
      under = record {
        heap = subst (λ (r : Reverse Scheduled → Reverse Scheduled → Ordering). IsHeap r next) later_is heap;
        ascend = stays_steady ticks tracks (map head_item hs) (map head_item rest) (map head_item next) x.0 o taken pushed behind under.ascend;
        few_ticks = under.few_ticks;
        few_entries = under.few_entries;
      };
      first = comes_first ticks tracks (map head_item hs) (map head_item rest) (map head_item next) x.0 o taken pushed behind under.ascend late;
    }

-- a list with the items of another one that has some has a first one, whatever stands for it where there is none
one_first : (hs : List (Reverse Scheduled)) (x y : Reverse Scheduled) → get_or hs 0 x ≡ x → get_or hs 0 y ≡ y → (rest : List (Reverse Scheduled)) → IsPermutation hs (y ∷ rest) → x ≡ y
one_first [] x y is also rest moved = absurd (omega (arith, length_permutation [] (y ∷ rest) moved))
one_first (h ∷ hs) x y is also rest moved = sym is ∙ also

-- when another item stands in the place of the top
pub replaced : (ticks : List TickTime) (tracks : List CpuTrack) (hs next : List (Reverse Scheduled)) (x : Reverse Scheduled) (behind : Scheduled) → IsUnderWay ticks tracks hs
    → HasReplaced hs next behind → item_behind ticks tracks x.0.due ≡ Some behind → get_or hs 0 x ≡ x → Advances ticks tracks hs next x
replaced ticks tracks hs next x behind under put is lay =
    let same : x ≡ put.first = one_first hs x put.first lay put.lay put.rest put.was in
    subst (λ (y : Reverse Scheduled). item_behind ticks tracks y.0.due ≡ Some behind → Advances ticks tracks hs next y) (sym same)
    (λ behind_first. advances ticks tracks hs put.rest next put.first (Some behind) under put.was put.now behind_first
    (subst (λ (o : Reverse Scheduled → Reverse Scheduled → Ordering). IsUpperBound o put.first put.rest) (sym later_is) put.soonest)
    (heap_derived next put.heap))
    is

-- when the top is taken, and nothing is behind it
pub removed : (ticks : List TickTime) (tracks : List CpuTrack) (hs rest : List (Reverse Scheduled)) (x last : Reverse Scheduled) → IsUnderWay ticks tracks hs
    → item_behind ticks tracks x.0.due ≡ None → get_or hs 0 x ≡ x → get_or hs 0 last ≡ last → IsPermutation hs (last ∷ rest) → IsUpperBound later_derived last rest
    → IsHeap later_derived rest → Advances ticks tracks hs rest last
removed ticks tracks hs rest x last under none lay also moved top heap =
    let same = one_first hs x last lay also rest moved in
    advances ticks tracks hs rest rest last None under moved (IsPermutation-refl (map head_item rest)) (ap (λ (y : Reverse Scheduled). item_behind ticks tracks y.0.due) (sym same) ∙ none) top heap

-- ---- the beginning

module _ (r : Recording) (attached : Attached) (valid : IsValidRecording r) (turn : AreInTurn attached.ticks) where
  f : Scheduled → List Scheduled
  f = items_from attached.ticks r.cpus

  first_tick : (cpu : ℕ) (ticks : List TickTime) → ticks ≡ attached.ticks → flat_map f (cons_option (tick_at cpu 0 ticks) []) ≡ ticks_due cpu 0 ticks
  unfolding f
  first_tick cpu [] e = refl
  first_tick cpu (t ∷ ts) e = append-nil (f s) ∙ ap (λ l. s ∷ ticks_due cpu 1 (drop 1 l)) (sym e)
    where
      s : Scheduled
      s = record { time = t.time; due = Tick 0 cpu }

  first_entry : (cpu : ℕ) (es : List RecordedEntry) → entries_on_track (slice_get r.cpus cpu) ≡ es → flat_map f (cons_option (entry_at cpu 0 es) []) ≡ entries_due cpu 0 es
  unfolding f
  first_entry cpu [] e = refl
  first_entry cpu (t ∷ ts) e = append-nil (f (entry_due cpu 0 t)) ∙ ap (λ l. entry_due cpu 0 t ∷ entries_due cpu 1 (drop 1 l)) e

  track_there : (cpu : ℕ) (track : CpuTrack) (tracks : List CpuTrack) → ((i : ℕ) → slice_get r.cpus (cpu + i) ≡ slice_get (track ∷ tracks) i) → slice_get r.cpus cpu ≡ Some track
  track_there cpu track tracks at = let same : cpu ≡ cpu + 0 = omega arith in ap (slice_get r.cpus) same ∙ at 0

  tracks_on : (cpu : ℕ) (track : CpuTrack) (tracks : List CpuTrack) → ((i : ℕ) → slice_get r.cpus (cpu + i) ≡ slice_get (track ∷ tracks) i)
      → (i : ℕ) → slice_get r.cpus (cpu + 1 + i) ≡ slice_get tracks i
  tracks_on cpu track tracks at i = let same : cpu + 1 + i ≡ cpu + suc i = omega arith in ap (slice_get r.cpus) same ∙ at (suc i)

  first_all : (cpu : ℕ) (tracks : List CpuTrack) → ((i : ℕ) → slice_get r.cpus (cpu + i) ≡ slice_get tracks i)
      → flat_map f (first_items attached.ticks cpu tracks) ≡ all_due attached.ticks cpu tracks
  first_all cpu [] at = refl
  first_all cpu (track ∷ tracks) at =
      let there : entries_on_track (slice_get r.cpus cpu) ≡ track.entries = ap entries_on_track (track_there cpu track tracks at) in
      flat_option f (tick_at cpu 0 attached.ticks) (cons_option (entry_at cpu 0 track.entries) (first_items attached.ticks (cpu + 1) tracks))
      ∙ ap (λ l. l ++ flat_map f (cons_option (entry_at cpu 0 track.entries) (first_items attached.ticks (cpu + 1) tracks))) (first_tick cpu attached.ticks refl)
      ∙ ap (λ l. ticks_due cpu 0 attached.ticks ++ l) (flat_option f (entry_at cpu 0 track.entries) (first_items attached.ticks (cpu + 1) tracks)
      ∙ ap (λ l. l ++ flat_map f (first_items attached.ticks (cpu + 1) tracks)) (first_entry cpu track.entries there)
      ∙ ap (λ l. entries_due cpu 0 track.entries ++ l) (first_all (cpu + 1) tracks (tracks_on cpu track tracks at)))

  steady_tick : (cpu : ℕ) (ticks : List TickTime) (hs : List Scheduled) → ticks ≡ attached.ticks → Rises is_sooner sooner_ranks (ticks_due cpu 0 ticks)
      → AllByRecursion (Steady attached.ticks r.cpus) hs → AllByRecursion (Steady attached.ticks r.cpus) (cons_option (tick_at cpu 0 ticks) hs)
  steady_tick cpu [] hs e rise each = each
  steady_tick cpu (t ∷ ts) hs e rise each = (ascends (s ∷ ticks_due cpu 1 (drop 1 attached.ticks)) (subst (λ l. Rises is_sooner sooner_ranks (s ∷ ticks_due cpu 1 (drop 1 l))) e rise), each)
    where
      s : Scheduled
      s = record { time = t.time; due = Tick 0 cpu }

  steady_entry : (cpu : ℕ) (es : List RecordedEntry) (hs : List Scheduled) → es ≡ entries_on_track (slice_get r.cpus cpu) → Rises is_sooner sooner_ranks (entries_due cpu 0 es)
      → AllByRecursion (Steady attached.ticks r.cpus) hs → AllByRecursion (Steady attached.ticks r.cpus) (cons_option (entry_at cpu 0 es) hs)
  steady_entry cpu [] hs e rise each = each
  steady_entry cpu (t ∷ ts) hs e rise each = (
    ascends (entry_due cpu 0 t ∷ entries_due cpu 1 (drop 1 (entries_on_track (slice_get r.cpus cpu))))
        (subst (λ l. Rises is_sooner sooner_ranks (entry_due cpu 0 t ∷ entries_due cpu 1 (drop 1 l))) e rise),
    each,
  )

  firsts_steady : (cpu : ℕ) (tracks : List CpuTrack) → ((i : ℕ) → slice_get r.cpus (cpu + i) ≡ slice_get tracks i)
      → AllByRecursion (Steady attached.ticks r.cpus) (first_items attached.ticks cpu tracks)
  firsts_steady cpu [] at = tt
  firsts_steady cpu (track ∷ tracks) at =
      let on : slice_get r.cpus cpu ≡ Some track = track_there cpu track tracks at in
      let there : entries_on_track (slice_get r.cpus cpu) ≡ track.entries = ap entries_on_track on in
      let lt = slice_get_within r.cpus cpu track on in
      let times = subst (InTime r.start r.end) there (times_are r cpu track valid lt) in
      steady_tick cpu attached.ticks (cons_option (entry_at cpu 0 track.entries) (first_items attached.ticks (cpu + 1) tracks)) refl
      (ticks_rise cpu 0 0 attached.ticks (none_before attached.ticks turn))
      (steady_entry cpu track.entries (first_items attached.ticks (cpu + 1) tracks) (sym there) (entries_rise cpu 0 r.start r.end track.entries times)
      (firsts_steady (cpu + 1) tracks (tracks_on cpu track tracks at)))

  from_zero : (i : ℕ) → slice_get r.cpus (0 + i) ≡ slice_get r.cpus i
  from_zero i = let same : 0 + i ≡ i = omega arith in ap (slice_get r.cpus) same

  -- what is to come at the beginning is all
  pub begins_whole : (hs : List Scheduled) → IsPermutation (first_items attached.ticks 0 r.cpus) hs → upcoming attached.ticks r.cpus hs ≡ serial_order r attached
  unfolding serial_order f
  begins_whole hs moved = sym (moved_order f (first_items attached.ticks 0 r.cpus) hs moved) ∙ ap (ordered is_sooner) (first_all 0 r.cpus from_zero)

  pub begins_steady : (hs : List Scheduled) → IsPermutation (first_items attached.ticks 0 r.cpus) hs → All (Steady attached.ticks r.cpus) hs
  begins_steady hs moved = All-permutation (Steady attached.ticks r.cpus) (first_items attached.ticks 0 r.cpus) hs moved
      (each_all (Steady attached.ticks r.cpus) (first_items attached.ticks 0 r.cpus) (firsts_steady 0 r.cpus from_zero))

  -- the heap of the first items
  pub begins : (items hs : List (Reverse Scheduled)) → length attached.ticks < 2 ^ 32 → map head_item items ≡ first_items attached.ticks 0 r.cpus → IsPermutation items hs
      → IsHeap later_derived hs → IsUnderWay attached.ticks r.cpus hs × (upcoming attached.ticks r.cpus (map head_item hs) ≡ serial_order r attached)
  begins items hs few are moved heap =
      let firsts = subst (λ (l : List Scheduled). IsPermutation l (map head_item hs)) are (IsPermutation-map head_item items hs moved) in (
        record {
          heap = subst (λ (o : Reverse Scheduled → Reverse Scheduled → Ordering). IsHeap o hs) later_is heap;
          ascend = begins_steady (map head_item hs) firsts;
          few_ticks = few;
          few_entries = λ k d lt. few_entries r k d valid lt;
        },
        begins_whole (map head_item hs) firsts,
      )
