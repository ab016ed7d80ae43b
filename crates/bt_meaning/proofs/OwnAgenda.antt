-- Of the items in the serial order, those of one CPU are its agenda.
use Rattle.std.proofs.Common.{◌≡◌, ◌≢◌, ℕ, zero, suc, ◌+◌, ◌<◌, ◌≤◌, ◌==◌, Bool, true, false, cond, List, [], ◌∷◌, ◌++◌, map, length, refl, sym, ap, ◌∙◌, subst, arith, append-nil, eq-eqb, ne_eqb, inl, inr}
use Rattle.std.specs.Prelude.{slice_get, Option, Some, None}
use Rattle.std.specs.List.{AllByRecursion, filter, filter_map, cons_option, range_with_len}
use Rattle.std.specs.declared.cmp.Ordering.{Ordering}
use Rattle.std.specs.declared.cmp.Ordering.TheVariants.{Less, Equal, Greater}
use Rattle.std.specs.Ordering.{is_lt, bool_cmp, nat_cmp, ordering_then}
use Rattle.std.proofs.lemmas.List.Elements.{filter-append}
use Rattle.std.proofs.lemmas.Option.{same_Some}
use mathlib.Core.Logic.{dite}
use native.Mathlib.Decide.{ℕ_discrete}
use Rattle.bt_ast.specs.declared.attached.Attached.{Attached}
use Rattle.bt_ast.specs.declared.attached.Tick.{Tick as TickTime}
use Rattle.recordings.specs.declared.recording.CpuTrack.{CpuTrack}
use Rattle.recordings.specs.declared.recording.Entry.{Entry as RecordedEntry}
use Rattle.recordings.specs.declared.recording.Entry.TheVariants as entry
use Rattle.recordings.specs.declared.recording.Recording.{Recording}
use Rattle.recordings.specs.Places.{entry_time}
use Rattle.recordings.specs.Recordings.{IsValidRecording}
use Rattle.weave.proofs.Less.{less_or_not, is_less, not_less}
use Rattle.bt_core.specs.Sorted.{ordered}
use Rattle.actor_plan.specs.declared.agenda.AgendaItem.{AgendaItem}
use Rattle.actor_plan.specs.declared.agenda.AgendaItem.TheVariants as item
use Rattle.actor_plan.specs.Agendas.{AreInTurn, IsAgenda, IsBefore, IsNotBefore, IsOfEntry, StandsAt, agenda_of, entries_of, entries_on_track, item_at, tick_place, entry_place}
use Rattle.actor_plan.proofs.AgendaFacts.{agenda_holds}
use Rattle.actor_plan.proofs.AgendaLaws.{InTime, NoneBefore, none_before, times_are}
use Rattle.actor_plan.proofs.OnlyAgenda.{only}
use Rattle.bt_meaning.specs.declared.schedule.Due.{Due}
use Rattle.bt_meaning.specs.declared.schedule.Due.TheVariants.{Tick, Entry}
use Rattle.bt_meaning.specs.declared.schedule.Scheduled.{Scheduled}
use Rattle.bt_meaning.specs.Schedules.{due_order, is_lost, is_sooner, ticks_due, entry_due, entries_due, all_due, serial_order, cpu_of_due, item_of_due}
use Rattle.bt_meaning.proofs.DueOrder.{sooner_ranks}
use Rattle.bt_meaning.proofs.Eachs.{each_both, each_front, each_back, each_so}
use Rattle.bt_meaning.proofs.ItemByItem.{is_own, item_of, items_for}
use Rattle.bt_meaning.proofs.Rises.{Late, Rises, rises_ordered, ordered_same, each_ordered, kept_ordered, at_cut}

-- ---- times first

abbrev pub by_time : ℕ → ℕ → Ordering → Bool
by_time m n o = is_lt (ordering_then (nat_cmp m n) o)

at_one_time : (m n : ℕ) (o : Ordering) → m ≡ n → by_time m n o ≡ is_lt o
at_one_time m n o e =
    ap (λ b. is_lt (ordering_then (cond b Less (cond (m == n) Equal Greater)) o)) (not_less m n (omega arith))
    ∙ ap (λ b. is_lt (ordering_then (cond b Equal Greater) o)) (eq-eqb m n e)

is_late : (m n : ℕ) (o : Ordering) → n < m → by_time m n o ≡ false
is_late m n o lt =
    ap (λ b. is_lt (ordering_then (cond b Less (cond (m == n) Equal Greater)) o)) (not_less m n (omega arith))
    ∙ ap (λ b. is_lt (ordering_then (cond b Equal Greater) o)) (ne_eqb m n (λ e. omega arith))

is_early : (m n : ℕ) (o : Ordering) → m < n → by_time m n o ≡ true
is_early m n o lt = ap (λ b. is_lt (ordering_then (cond b Less (cond (m == n) Equal Greater)) o)) (is_less m n lt)

-- not before it, where its time is not smaller
not_sooner : (m n : ℕ) (o : Ordering) → n ≤ m → (m ≡ n → is_lt o ≡ false) → by_time m n o ≡ false
not_sooner m n o le tie = dite (ℕ_discrete m n) (λ e. at_one_time m n o e ∙ tie e) (λ ne. is_late m n o (omega arith))

not_both : {A : Type 0} (b : Bool) → b ≡ true → b ≡ false → A
not_both b t f = absurd (let q : true ≡ false = sym t ∙ f in let r : ⊥ = cc in r)

-- what a tick is not before has a smaller time, if it is an entry
time_before : (m n : ℕ) → by_time m n Less ≡ false → n < m
time_before m n h = elim (less_or_not n m) [
  | inl lt ↦ lt
  | inr le ↦ dite (ℕ_discrete m n) (λ e. not_both (by_time m n Less) (at_one_time m n Less e) h) (λ ne. not_both (by_time m n Less) (is_early m n Less (omega arith)) h)
]

time_behind : (m n : ℕ) → by_time m n Greater ≡ false → n ≤ m
time_behind m n h = elim (less_or_not m n) [
  | inl lt ↦ not_both (by_time m n Greater) (is_early m n Greater lt) h
  | inr le ↦ le
]

-- ---- the ticks and the entries of one CPU rise

later_number : (m n : ℕ) (o : Ordering) → n < m → is_lt (ordering_then (nat_cmp m n) o) ≡ false
later_number = is_late

ticks_late : (cpu place next time : ℕ) (ts : List TickTime) → place < next → NoneBefore time ts
    → AllByRecursion (Late is_sooner sooner_ranks (record { time = time; due = Tick place cpu })) (ticks_due cpu next ts)
ticks_late cpu place next time [] lt h = tt
ticks_late cpu place next time (t ∷ ts) lt h = (
  not_sooner t.time time (due_order (Tick next cpu) (Tick place cpu)) h.0 (λ e. later_number next place (nat_cmp cpu cpu) lt),
  ticks_late cpu place (next + 1) time ts (omega arith) (later t.time h.0 ts h.1),
)
  where
    later : (n : ℕ) → time ≤ n → (us : List TickTime) → NoneBefore n us → NoneBefore time us
    later n le [] g = tt
    later n le (u ∷ us) g = (let low = g.0 in omega arith, g.1)

pub ticks_rise : (cpu place time : ℕ) (ts : List TickTime) → NoneBefore time ts → Rises is_sooner sooner_ranks (ticks_due cpu place ts)
ticks_rise cpu place time [] h = tt
ticks_rise cpu place time (t ∷ ts) h = (ticks_late cpu place (place + 1) t.time ts (omega arith) h.1, ticks_rise cpu (place + 1) t.time ts h.1)

entries_late : (cpu place next time end : ℕ) (lost : Bool) (es : List RecordedEntry) → place < next → InTime time end es
    → AllByRecursion (Late is_sooner sooner_ranks (record { time = time; due = Entry cpu place lost })) (entries_due cpu next es)
entries_late cpu place next time end lost [] lt h = tt
entries_late cpu place next time end lost (e ∷ es) lt h = (
  not_sooner (entry_time e) time (due_order (Entry cpu next (is_lost e)) (Entry cpu place lost)) h.0
      (λ q. at_one_time cpu cpu (ordering_then (nat_cmp next place) (bool_cmp (is_lost e) lost)) refl ∙ later_number next place (bool_cmp (is_lost e) lost) lt),
  entries_late cpu place (next + 1) time end lost es (omega arith) (later (entry_time e) h.0 es h.2),
)
  where
    later : (t : ℕ) → time ≤ t → (us : List RecordedEntry) → InTime t end us → InTime time end us
    later t le [] g = tt
    later t le (u ∷ us) g = (let low = g.0 in omega arith, g.1, g.2)

pub entries_rise : (cpu place time end : ℕ) (es : List RecordedEntry) → InTime time end es → Rises is_sooner sooner_ranks (entries_due cpu place es)
entries_rise cpu place time end [] h = tt
entries_rise cpu place time end (e ∷ es) h = (entries_late cpu place (place + 1) (entry_time e) end (is_lost e) es (omega arith) h.2, entries_rise cpu (place + 1) (entry_time e) end es h.2)

-- ---- of all items, those of one CPU

ticks_own : (cpu place : ℕ) (ts : List TickTime) → filter (is_own cpu) (ticks_due cpu place ts) ≡ ticks_due cpu place ts
ticks_own cpu place [] = refl
ticks_own cpu place (t ∷ ts) =
    let s : Scheduled = record { time = t.time; due = Tick place cpu } in
    (λ i. cond (eq-eqb cpu cpu refl i) (s ∷ ticks_own cpu (place + 1) ts i) (ticks_own cpu (place + 1) ts i))

entries_own : (cpu place : ℕ) (es : List RecordedEntry) → filter (is_own cpu) (entries_due cpu place es) ≡ entries_due cpu place es
entries_own cpu place [] = refl
entries_own cpu place (e ∷ es) =
    let s : Scheduled = entry_due cpu place e in
    (λ i. cond (eq-eqb cpu cpu refl i) (s ∷ entries_own cpu (place + 1) es i) (entries_own cpu (place + 1) es i))

ticks_other : (a cpu place : ℕ) (ts : List TickTime) → cpu ≢ a → filter (is_own a) (ticks_due cpu place ts) ≡ []
ticks_other a cpu place [] ne = refl
ticks_other a cpu place (t ∷ ts) ne =
    let s : Scheduled = record { time = t.time; due = Tick place cpu } in
    (λ i. cond (ne_eqb cpu a ne i) (s ∷ ticks_other a cpu (place + 1) ts ne i) (ticks_other a cpu (place + 1) ts ne i))

entries_other : (a cpu place : ℕ) (es : List RecordedEntry) → cpu ≢ a → filter (is_own a) (entries_due cpu place es) ≡ []
entries_other a cpu place [] ne = refl
entries_other a cpu place (e ∷ es) ne =
    let s : Scheduled = entry_due cpu place e in
    (λ i. cond (ne_eqb cpu a ne i) (s ∷ entries_other a cpu (place + 1) es ne i) (entries_other a cpu (place + 1) es ne i))

module _ (ticks : List TickTime) where
  parted : (a cpu : ℕ) (es : List RecordedEntry) (rest : List Scheduled)
      → filter (is_own a) (ticks_due cpu 0 ticks ++ (entries_due cpu 0 es ++ rest))
      ≡ filter (is_own a) (ticks_due cpu 0 ticks) ++ (filter (is_own a) (entries_due cpu 0 es) ++ filter (is_own a) rest)
  parted a cpu es rest =
      filter-append (is_own a) (ticks_due cpu 0 ticks) (entries_due cpu 0 es ++ rest)
      ∙ ap (λ l. filter (is_own a) (ticks_due cpu 0 ticks) ++ l) (filter-append (is_own a) (entries_due cpu 0 es) rest)

  none_later : (a cpu : ℕ) (tracks : List CpuTrack) → a < cpu → filter (is_own a) (all_due ticks cpu tracks) ≡ []
  none_later a cpu [] lt = refl
  none_later a cpu (track ∷ tracks) lt =
      let ne : cpu ≢ a = (λ e. omega arith) in
      parted a cpu track.entries (all_due ticks (cpu + 1) tracks)
      ∙ (λ i. ticks_other a cpu 0 ticks ne i ++ (entries_other a cpu 0 track.entries ne i ++ none_later a (cpu + 1) tracks (omega arith) i))

  own_due : (cpu k : ℕ) (tracks : List CpuTrack) (track : CpuTrack) → slice_get tracks k ≡ Some track
      → filter (is_own (cpu + k)) (all_due ticks cpu tracks) ≡ ticks_due (cpu + k) 0 ticks ++ entries_due (cpu + k) 0 track.entries
  own_due cpu k [] track at = absurd cc
  own_due cpu zero (t ∷ tracks) track at =
      let same : t ≡ track = same_Some t track at in
      let here : cpu + 0 ≡ cpu = omega arith in
      let whole : filter (is_own cpu) (all_due ticks cpu (t ∷ tracks)) ≡ ticks_due cpu 0 ticks ++ entries_due cpu 0 t.entries =
      parted cpu cpu t.entries (all_due ticks (cpu + 1) tracks)
      ∙ (λ i. ticks_own cpu 0 ticks i ++ (entries_own cpu 0 t.entries i ++ none_later cpu (cpu + 1) tracks (omega arith) i))
      ∙ ap (λ l. ticks_due cpu 0 ticks ++ l) (append-nil (entries_due cpu 0 t.entries)) in
      (λ i. filter (is_own (here i)) (all_due ticks cpu (t ∷ tracks)))
      ∙ whole ∙ (λ i. ticks_due (sym here i) 0 ticks ++ entries_due (sym here i) 0 (same i).entries)
  own_due cpu (suc k) (t ∷ tracks) track at =
      let ne : cpu ≢ cpu + suc k = (λ e. omega arith) in
      let next : cpu + 1 + k ≡ cpu + suc k = omega arith in
      let rest = own_due (cpu + 1) k tracks track at in
      parted (cpu + suc k) cpu t.entries (all_due ticks (cpu + 1) tracks)
      ∙ (λ i. ticks_other (cpu + suc k) cpu 0 ticks ne i ++ (entries_other (cpu + suc k) cpu 0 t.entries ne i ++ filter (is_own (sym next i)) (all_due ticks (cpu + 1) tracks)))
      ∙ rest
      ∙ (λ i. ticks_due (next i) 0 ticks ++ entries_due (next i) 0 track.entries)

-- ---- places

module _ {X Y : Type 0} (f : X → Option Y) (p : X → Bool) (none : (x : X) → p x ≡ false → f x ≡ None) where
  by_test : (b : Bool) (x : X) (xs : List X) → p x ≡ b → filter_map f xs ≡ filter_map f (filter p xs) → filter_map f (x ∷ xs) ≡ filter_map f (cond b (x ∷ filter p xs) (filter p xs))
  by_test true x xs e rest = ap (cons_option (f x)) rest
  by_test false x xs e rest = ap (λ o. cons_option o (filter_map f xs)) (none x e) ∙ rest

  kept_only : (xs : List X) → filter_map f xs ≡ filter_map f (filter p xs)
  kept_only [] = refl
  kept_only (x ∷ xs) = by_test (p x) x xs refl (kept_only xs)

map_then : {X Y Z : Type 0} (f : Y → Option Z) (g : X → Y) (xs : List X) → filter_map f (map g xs) ≡ filter_map (λ x. f (g x)) xs
map_then f g [] = refl
map_then f g (x ∷ xs) = ap (cons_option (f (g x))) (map_then f g xs)

abbrev pub is_tick_due : Due → Bool
is_tick_due (Tick place cpu) = true
is_tick_due (Entry cpu place lost) = false

abbrev pub is_entry_due : Due → Bool
is_entry_due (Tick place cpu) = false
is_entry_due (Entry cpu place lost) = true

abbrev pub is_tick : Scheduled → Bool
is_tick s = is_tick_due s.due

abbrev pub is_entry : Scheduled → Bool
is_entry s = is_entry_due s.due

no_tick : (d : Due) → is_tick_due d ≡ false → tick_place (item_of_due d) ≡ None
no_tick (Tick place cpu) e = cc
no_tick (Entry cpu place true) e = refl
no_tick (Entry cpu place false) e = refl

no_entry : (d : Due) → is_entry_due d ≡ false → entry_place (item_of_due d) ≡ None
no_entry (Tick place cpu) e = refl
no_entry (Entry cpu place lost) e = cc

ticks_only : (cpu place q : ℕ) (ts : List TickTime) (es : List RecordedEntry) → filter is_tick (ticks_due cpu place ts ++ entries_due cpu q es) ≡ ticks_due cpu place ts
ticks_only cpu place q [] [] = refl
ticks_only cpu place q [] (e ∷ es) = ticks_only cpu place (q + 1) [] es
ticks_only cpu place q (t ∷ ts) es = ap (λ l. record { time = t.time; due = Tick place cpu } ∷ l) (ticks_only cpu (place + 1) q ts es)

entries_only : (cpu place q : ℕ) (ts : List TickTime) (es : List RecordedEntry) → filter is_entry (ticks_due cpu place ts ++ entries_due cpu q es) ≡ entries_due cpu q es
entries_only cpu place q [] [] = refl
entries_only cpu place q [] (e ∷ es) = ap (λ l. entry_due cpu q e ∷ l) (entries_only cpu place (q + 1) [] es)
entries_only cpu place q (t ∷ ts) es = entries_only cpu (place + 1) q ts es

tick_places : (cpu place : ℕ) (ts : List TickTime) → filter_map (λ s. tick_place (item_of s)) (ticks_due cpu place ts) ≡ range_with_len place (length ts)
tick_places cpu place [] = refl
tick_places cpu place (t ∷ ts) = ap (λ l. place ∷ l) (tick_places cpu (place + 1) ts)

entry_places : (cpu place : ℕ) (es : List RecordedEntry) → filter_map (λ s. entry_place (item_of s)) (entries_due cpu place es) ≡ range_with_len place (length es)
entry_places cpu place [] = refl
entry_places cpu place (entry.Event e ∷ es) = ap (λ l. place ∷ l) (entry_places cpu (place + 1) es)
entry_places cpu place (entry.Lost time count ∷ es) = ap (λ l. place ∷ l) (entry_places cpu (place + 1) es)

-- ---- cuts

record MapCut {A B : Type 0} (f : A → B) (es : List A) (xs : List B) (w : B) (ys : List B) : Type 0 where
  front : List A
  at : A
  back : List A
  whole : es ≡ front ++ at ∷ back
  first : map f front ≡ xs
  here : f at ≡ w
  rest : map f back ≡ ys

map_cut : {A B : Type 0} (f : A → B) (es : List A) (xs : List B) (w : B) (ys : List B) → map f es ≡ xs ++ w ∷ ys → MapCut f es xs w ys
map_cut f [] [] w ys q = absurd (let t : ⊥ = cc in t)
map_cut f [] (x ∷ xs) w ys q = absurd (let t : ⊥ = cc in t)
map_cut f (e ∷ es) [] w ys q = let p : f e ≡ w = cc in let t : map f es ≡ ys = cc in
    record { front = []; at = e; back = es; whole = refl; first = refl; here = p; rest = t }
map_cut f (e ∷ es) (x ∷ xs) w ys q = let p : f e ≡ x = cc in let t : map f es ≡ xs ++ w ∷ ys = cc in let r = map_cut f es xs w ys t in
    record { front = e ∷ r.front; at = r.at; back = r.back; whole = ap (λ l. e ∷ l) r.whole; first = (λ i. p i ∷ r.first i); here = r.here; rest = r.rest }

pub each_map : {A B : Type 0} (f : A → B) (P : B → Type 0) (xs : List A) → AllByRecursion (λ x. P (f x)) xs → AllByRecursion P (map f xs)
each_map f P [] h = tt
each_map f P (x ∷ xs) h = (h.0, each_map f P xs h.1)

each_and : {A : Type 0} (P Q R : A → Type 0) → ((x : A) → P x → Q x → R x) → (xs : List A) → AllByRecursion P xs → AllByRecursion Q xs → AllByRecursion R xs
each_and P Q R so [] h g = tt
each_and P Q R so (x ∷ xs) h g = (so x h.0 g.0, each_and P Q R so xs h.1 g.1)

-- ---- the agenda

module _ (ticks : List TickTime) (es : List RecordedEntry) where
  -- the time is the one of the tick or the entry, and the entry's kind is told
  abbrev pub IsAt : Due → ℕ → Type 0
  IsAt (Tick place cpu) time = (t : TickTime) → slice_get ticks place ≡ Some t → t.time ≡ time
  IsAt (Entry cpu place lost) time = (e : RecordedEntry) → slice_get es place ≡ Some e → (entry_time e ≡ time) × (is_lost e ≡ lost)

  abbrev pub IsRight : Scheduled → Type 0
  IsRight s = IsAt s.due s.time

  right_ticks : (cpu place : ℕ) (ts : List TickTime) → ((i : ℕ) → slice_get ticks (place + i) ≡ slice_get ts i) → AllByRecursion IsRight (ticks_due cpu place ts)
  right_ticks cpu place [] at = tt
  right_ticks cpu place (t ∷ ts) at =
      let next : (i : ℕ) → place + 1 + i ≡ place + suc i = (λ i. omega arith) in
      let here : place ≡ place + 0 = omega arith in (
        (λ u there. ap (λ (x : TickTime). x.time) (same_Some u t (sym there ∙ ap (slice_get ticks) here ∙ at 0))),
        right_ticks cpu (place + 1) ts (λ i. ap (slice_get ticks) (next i) ∙ at (suc i)),
      )

  right_entries : (cpu place : ℕ) (rest : List RecordedEntry) → ((i : ℕ) → slice_get es (place + i) ≡ slice_get rest i) → AllByRecursion IsRight (entries_due cpu place rest)
  right_entries cpu place [] at = tt
  right_entries cpu place (e ∷ rest) at =
      let next : (i : ℕ) → place + 1 + i ≡ place + suc i = (λ i. omega arith) in
      let here : place ≡ place + 0 = omega arith in (
        (λ u there. let same : u ≡ e = same_Some u e (sym there ∙ ap (slice_get es) here ∙ at 0) in (ap entry_time same, ap is_lost same)),
        right_entries cpu (place + 1) rest (λ i. ap (slice_get es) (next i) ∙ at (suc i)),
      )

  -- what stands before a tick is before it
  before_by : (d : Due) (time tick_time place cpu : ℕ) → IsAt d time → by_time tick_time time (due_order (Tick place cpu) d) ≡ false → IsBefore es tick_time (item_of_due d)
  before_by (Tick q c) time tick_time place cpu right late = tt
  before_by (Entry c q true) time tick_time place cpu right late = λ e there. (let same = (right e there).0 in let low = time_before tick_time time late in omega arith)
  before_by (Entry c q false) time tick_time place cpu right late = λ e there. (let same = (right e there).0 in let low = time_before tick_time time late in omega arith)

  behind_by : (d : Due) (time tick_time place cpu : ℕ) → IsAt d time → by_time time tick_time (due_order d (Tick place cpu)) ≡ false → IsNotBefore es tick_time (item_of_due d)
  behind_by (Tick q c) time tick_time place cpu right late = tt
  behind_by (Entry c q true) time tick_time place cpu right late = λ e there. (let same = (right e there).0 in let low = time_behind time tick_time late in omega arith)
  behind_by (Entry c q false) time tick_time place cpu right late = λ e there. (let same = (right e there).0 in let low = time_behind time tick_time late in omega arith)

  -- an entry's item is what the entry is
  item_is : (cpu place : ℕ) (e : RecordedEntry) → item_at place e ≡ item_of_due (Entry cpu place (is_lost e))
  item_is cpu place (entry.Event e) = refl
  item_is cpu place (entry.Lost time count) = refl

  kind_is : (d : Due) (time : ℕ) → IsAt d time → IsOfEntry es (item_of_due d)
  kind_is (Tick q c) time right = tt
  kind_is (Entry c q true) time right = λ e there. item_is c q e ∙ ap (λ b. item_of_due (Entry c q b)) (right e there).1
  kind_is (Entry c q false) time right = λ e there. item_is c q e ∙ ap (λ b. item_of_due (Entry c q b)) (right e there).1

  is_that_tick : (d : Due) (place : ℕ) → item_of_due d ≡ item.Tick place → d ≡ Tick place (cpu_of_due d)
  is_that_tick (Tick q c) place e = let same : q ≡ place = cc in ap (λ n. Tick n c) same
  is_that_tick (Entry c q true) place e = absurd cc
  is_that_tick (Entry c q false) place e = absurd cc

  stands_at : (before : List Scheduled) (s : Scheduled) (after : List Scheduled) (place : ℕ) (t : TickTime) → item_of s ≡ item.Tick place → slice_get ticks place ≡ Some t
      → Rises is_sooner sooner_ranks (before ++ s ∷ after) → AllByRecursion IsRight (before ++ s ∷ after) → StandsAt es t.time (map item_of before) (map item_of after)
  stands_at before s after place t is at rises right =
      let due = is_that_tick s.due place is in
      let cpu = cpu_of_due s.due in
      let cut = at_cut is_sooner sooner_ranks before s after rises in
      let own : IsRight s = (each_back IsRight before (s ∷ after) right).0 in
      let time : t.time ≡ s.time = subst (λ d. IsAt d s.time) due own t at in
      let fronts = each_front IsRight before (s ∷ after) right in
      let backs = (each_back IsRight before (s ∷ after) right).1 in
      let low : AllByRecursion (λ (b : Scheduled). IsBefore es s.time (item_of b)) before =
      each_and IsRight (λ b. Late is_sooner sooner_ranks b s) (λ b. IsBefore es s.time (item_of b))
      (λ b r l. before_by b.due b.time s.time place cpu r (ap (λ d. by_time s.time b.time (due_order d b.due)) (sym due) ∙ l)) before fronts cut.earlier in
      let high : AllByRecursion (λ (b : Scheduled). IsNotBefore es s.time (item_of b)) after =
      each_and IsRight (Late is_sooner sooner_ranks s) (λ b. IsNotBefore es s.time (item_of b))
      (λ b r l. behind_by b.due b.time s.time place cpu r (ap (λ d. by_time b.time s.time (due_order b.due d)) (sym due) ∙ l)) after backs cut.later in
      subst (λ n. StandsAt es n (map item_of before) (map item_of after)) (sym time)
      (record { earlier = each_map item_of (IsBefore es s.time) before low; later = each_map item_of (IsNotBefore es s.time) after high })

  pub is_agenda : (cpu start end : ℕ) → NoneBefore 0 ticks → InTime start end es
      → IsAgenda ticks es (map item_of (ordered is_sooner (ticks_due cpu 0 ticks ++ entries_due cpu 0 es)))
  is_agenda cpu start end ticks_in entries_in =
      let all = ticks_due cpu 0 ticks ++ entries_due cpu 0 es in
      let o = ordered is_sooner all in
      let from_zero : (i : ℕ) → 0 + i ≡ i = (λ i. omega arith) in
      let right : AllByRecursion IsRight o = each_ordered is_sooner sooner_ranks IsRight all (each_both IsRight (ticks_due cpu 0 ticks) (entries_due cpu 0 es)
      (right_ticks cpu 0 ticks (λ i. ap (slice_get ticks) (from_zero i))) (right_entries cpu 0 es (λ i. ap (slice_get es) (from_zero i)))) in
      let rises = rises_ordered is_sooner sooner_ranks all in
      record {
        ticks_are = map_then tick_place item_of o
            ∙ kept_only (λ s. tick_place (item_of s)) is_tick (λ s e. no_tick s.due e) o
            ∙ ap (filter_map (λ s. tick_place (item_of s))) (kept_ordered is_sooner sooner_ranks is_tick all
            ∙ ap (ordered is_sooner) (ticks_only cpu 0 0 ticks es)
            ∙ ordered_same is_sooner sooner_ranks (ticks_due cpu 0 ticks) (ticks_rise cpu 0 0 ticks ticks_in))
            ∙ tick_places cpu 0 ticks;
        entries_are = map_then entry_place item_of o
            ∙ kept_only (λ s. entry_place (item_of s)) is_entry (λ s e. no_entry s.due e) o
            ∙ ap (filter_map (λ s. entry_place (item_of s))) (kept_ordered is_sooner sooner_ranks is_entry all
            ∙ ap (ordered is_sooner) (entries_only cpu 0 0 ticks es)
            ∙ ordered_same is_sooner sooner_ranks (entries_due cpu 0 es) (entries_rise cpu 0 start end es entries_in))
            ∙ entry_places cpu 0 es;
        kinds_are = each_map item_of (IsOfEntry es) o (each_so IsRight (λ s. IsOfEntry es (item_of s)) (λ s h. kind_is s.due s.time h) o right);
        stands = λ before after place t e at. (let c = map_cut item_of o before (item.Tick place) after e in
            let there = stands_at c.front c.at c.back place t c.here at (subst (Rises is_sooner sooner_ranks) c.whole rises) (subst (AllByRecursion IsRight) c.whole right) in
            subst (λ (z : List AgendaItem × List AgendaItem). StandsAt es t.time z.0 z.1) (λ i. (c.first i, c.rest i)) there);
      }

pub own_agenda : (r : Recording) (attached : Attached) (a : ℕ) (track : CpuTrack) → IsValidRecording r → AreInTurn attached.ticks → a < length r.cpus → slice_get r.cpus a ≡ Some track
    → items_for a (serial_order r attached) ≡ agenda_of r attached a
unfolding serial_order
own_agenda r attached a track valid turn lt there =
    let ticks = attached.ticks in
    let zero_more : 0 + a ≡ a = omega arith in
    let own : filter (is_own a) (all_due ticks 0 r.cpus) ≡ ticks_due a 0 ticks ++ entries_due a 0 track.entries =
    subst (λ n. filter (is_own n) (all_due ticks 0 r.cpus) ≡ ticks_due n 0 ticks ++ entries_due n 0 track.entries) zero_more (own_due ticks 0 a r.cpus track there) in
    let es_are : entries_of r a ≡ track.entries = ap entries_on_track there in
    let times = subst (InTime r.start r.end) es_are (times_are r a track valid lt) in
    let made = is_agenda ticks track.entries a r.start r.end (none_before ticks turn) times in
    let defined = subst (λ es. IsAgenda ticks es (agenda_of r attached a)) es_are (agenda_holds r attached a valid turn lt) in
    ap (map item_of) (kept_ordered is_sooner sooner_ranks (is_own a) (all_due ticks 0 r.cpus) ∙ ap (ordered is_sooner) own)
    ∙ only ticks track.entries (map item_of (ordered is_sooner (ticks_due a 0 ticks ++ entries_due a 0 track.entries))) (agenda_of r attached a) made defined
