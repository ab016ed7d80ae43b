-- What the agenda of a CPU has.
use Rattle.std.proofs.Common.{◌≡◌, ℕ, zero, suc, ◌+◌, ◌<◌, ◌≤◌, Bool, true, false, List, [], ◌∷◌, ◌++◌, drop, length, refl, sym, ap, ◌∙◌, subst, arith}
use Rattle.std.specs.Prelude.{nat_lt, nat_le, slice_get, Option, Some, None, ⊤, if◌then◌else◌}
use Rattle.std.specs.List.{AllByRecursion, cons_option, filter_map, range_with_len}
use Rattle.std.proofs.lemmas.Bool.Decides.{nat_tests}
use Rattle.std.proofs.lemmas.List.Elements.{filter_map-append}
use Rattle.std.proofs.lemmas.List.{append-nil, length-drop}
use Rattle.std.proofs.lemmas.Option.{same_Some}
use Rattle.bt_ast.specs.declared.attached.Attached.{Attached}
use Rattle.bt_ast.specs.declared.attached.Tick.{Tick}
use Rattle.recordings.specs.declared.recording.Entry.{Entry}
use Rattle.recordings.specs.declared.recording.Entry.TheVariants as entry
use Rattle.recordings.specs.Places.{entry_time}
use Rattle.recordings.specs.declared.recording.Recording.{Recording}
use Rattle.recordings.specs.Recordings.{IsValidRecording}
use Rattle.actor_plan.specs.declared.agenda.AgendaItem.{AgendaItem}
use Rattle.actor_plan.specs.declared.agenda.AgendaItem.TheVariants as item
use Rattle.actor_plan.specs.Agendas.{AreInTurn, IsAgenda, IsOfEntry, IsNotBefore, StandsAt, agenda_of, entries_of, item_at, entries_where, is_between, items_from, tick_place, entry_place}
use Rattle.actor_plan.specs.Steps.{entries_on, earlier, earlier_count, taken}
use Rattle.actor_plan.proofs.AgendaLaws.{NoneBefore, none_before, taken_all, times_are}
use Rattle.actor_plan.proofs.LoopLaws.{few_earlier}

from_zero : (i : ℕ) → 0 + i ≡ i
from_zero i = omega arith

-- ---- facts on each member of a list

both : (P : AgendaItem → Type 0) (xs ys : List AgendaItem) → AllByRecursion P xs → AllByRecursion P ys → AllByRecursion P (xs ++ ys)
both P [] ys h g = g
both P (x ∷ xs) ys h g = (h.0, both P xs ys h.1 g)

middle : (P : AgendaItem → Type 0) (xs : List AgendaItem) (y : AgendaItem) (ys : List AgendaItem) → AllByRecursion P (xs ++ y ∷ ys) → P y
middle P [] y ys h = h.0
middle P (x ∷ xs) y ys h = middle P xs y ys h.1

each_so : (P Q : AgendaItem → Type 0) → ((i : AgendaItem) → P i → Q i) → (xs : List AgendaItem) → AllByRecursion P xs → AllByRecursion Q xs
each_so P Q so [] h = tt
each_so P Q so (x ∷ xs) h = (so x h.0, each_so P Q so xs h.1)

-- of the entries that pass a test
each_where : (P : AgendaItem → Type 0) (test : ℕ → Bool) (p : ℕ) (es : List Entry) → ((i : ℕ) (e : Entry) → slice_get es i ≡ Some e → test (entry_time e) ≡ true → P (item_at (p + i) e))
    → AllByRecursion P (entries_where test p es)
each_where P test p [] h = tt
each_where P test p (e ∷ es) h =
    let next : (i : ℕ) → p + suc i ≡ p + 1 + i = (λ i. omega arith) in
    let rest = each_where P test (p + 1) es (λ i d at passed. subst (λ n. P (item_at n d)) (next i) (h (suc i) d at passed)) in
    let here : p + 0 ≡ p = omega arith in
    (elim (test (entry_time e)) as (λ b. test (entry_time e) ≡ b → AllByRecursion P (if b then item_at p e ∷ entries_where test (p + 1) es else entries_where test (p + 1) es)) [
      | true ↦ λ passed. (subst (λ n. P (item_at n e)) here (h 0 e refl passed), rest)
      | false ↦ λ passed. rest
    ]) refl

-- ---- items of entries

no_tick : (p : ℕ) (e : Entry) → tick_place (item_at p e) ≡ None
no_tick p (entry.Event e) = refl
no_tick p (entry.Lost time count) = refl

has_place : (p : ℕ) (e : Entry) → entry_place (item_at p e) ≡ Some p
has_place p (entry.Event e) = refl
has_place p (entry.Lost time count) = refl

-- what is said of the items of entries alike holds of the item of one
of_item : (P : AgendaItem → Type 0) (p : ℕ) (e : Entry) → P (item.Event p) → P (item.Lost p) → P (item_at p e)
of_item P p (entry.Event e) h g = h
of_item P p (entry.Lost time count) h g = g

skip_one : {X : Type 0} (f : AgendaItem → Option X) (i : AgendaItem) (is : List AgendaItem) → f i ≡ None → filter_map f (i ∷ is) ≡ filter_map f is
skip_one f i is none = ap (λ o. cons_option o (filter_map f is)) none

take_one : {X : Type 0} (f : AgendaItem → Option X) (i : AgendaItem) (is : List AgendaItem) (x : X) → f i ≡ Some x → filter_map f (i ∷ is) ≡ x ∷ filter_map f is
take_one f i is x some = ap (λ o. cons_option o (filter_map f is)) some

-- ---- places

places_of_ticks : (test : ℕ → Bool) (p : ℕ) (es : List Entry) → filter_map tick_place (entries_where test p es) ≡ []
places_of_ticks test p [] = refl
places_of_ticks test p (e ∷ es) = elim (test (entry_time e)) as (λ b. filter_map tick_place (if b then item_at p e ∷ entries_where test (p + 1) es else entries_where test (p + 1) es) ≡ []) [
  | true ↦ skip_one tick_place (item_at p e) (entries_where test (p + 1) es) (no_tick p e) ∙ places_of_ticks test (p + 1) es
  | false ↦ places_of_ticks test (p + 1) es
]

ticks_stand : (p : ℕ) (es : List Entry) (time k : ℕ) (ts : List Tick) → filter_map tick_place (items_from p es time k ts) ≡ range_with_len k (length ts)
ticks_stand p es time k [] = places_of_ticks (nat_le time) p es
ticks_stand p es time k (t ∷ ts) =
    filter_map-append tick_place (entries_where (is_between time t.time) p es) (item.Tick k ∷ items_from p es t.time (k + 1) ts)
    ∙ (λ i. places_of_ticks (is_between time t.time) p es i ++ (k ∷ ticks_stand p es t.time (k + 1) ts i))

range_both : (p n m : ℕ) → range_with_len p n ++ range_with_len (p + n) m ≡ range_with_len p (n + m)
range_both p zero m = let here : p + 0 ≡ p = omega arith in let none : m ≡ 0 + m = omega arith in (λ i. range_with_len (here i) (none i))
range_both p (suc n) m = let next : p + suc n ≡ p + 1 + n = omega arith in let more : suc (n + m) ≡ suc n + m = omega arith in
    ap (λ k. p ∷ (range_with_len (p + 1) n ++ range_with_len k m)) next ∙ ap (λ l. p ∷ l) (range_both (p + 1) n m) ∙ ap (range_with_len p) more

places_on : (p : ℕ) (es : List Entry) → filter_map entry_place (entries_on p es) ≡ range_with_len p (length es)
places_on p [] = refl
places_on p (e ∷ es) = take_one entry_place (item_at p e) (entries_on (p + 1) es) p (has_place p e) ∙ ap (λ l. p ∷ l) (places_on (p + 1) es)

places_earlier : (time p : ℕ) (es : List Entry) → filter_map entry_place (earlier time p es) ≡ range_with_len p (earlier_count time es)
places_earlier time p [] = refl
places_earlier time p (e ∷ es) = elim (nat_lt (entry_time e) time) as (λ b. filter_map entry_place (if b then item_at p e ∷ earlier time (p + 1) es else []) ≡ range_with_len p (if b then suc (earlier_count time es) else 0)) [
  | true ↦ take_one entry_place (item_at p e) (earlier time (p + 1) es) p (has_place p e) ∙ ap (λ l. p ∷ l) (places_earlier time (p + 1) es)
  | false ↦ refl
]

entries_stand : (p : ℕ) (es : List Entry) (k : ℕ) (ts : List Tick) → filter_map entry_place (taken p es k ts) ≡ range_with_len p (length es)
entries_stand p es k [] = places_on p es
entries_stand p es k (t ∷ ts) =
    let n = earlier_count t.time es in
    let few = few_earlier t.time es in
    let long = length-drop n es in
    let whole : n + length (drop n es) ≡ length es = omega (arith, few, long) in
    filter_map-append entry_place (earlier t.time p es) (item.Tick k ∷ taken (p + n) (drop n es) (k + 1) ts)
    ∙ (λ i. places_earlier t.time p es i ++ entries_stand (p + n) (drop n es) (k + 1) ts i)
    ∙ range_both p n (length (drop n es))
    ∙ ap (range_with_len p) whole

-- ---- times

from_passed : (time x : ℕ) → nat_le time x ≡ true → time ≤ x
from_passed time x h = grind (arith, nat_tests)

between_low : (from to x : ℕ) → is_between from to x ≡ true → from ≤ x
between_low from to x h = grind (arith, nat_tests)

between_high : (from to x : ℕ) → is_between from to x ≡ true → x < to
between_high from to x h = grind (arith, nat_tests)

module _ (ticks : List Tick) (es : List Entry) where
  -- a tick is not before a time
  abbrev pub IsTickFrom : ℕ → AgendaItem → Type 0
  IsTickFrom time (item.Tick place) = (t : Tick) → slice_get ticks place ≡ Some t → time ≤ t.time
  IsTickFrom time (item.Event place) = ⊤
  IsTickFrom time (item.Lost place) = ⊤

  -- a tick is behind an entry
  abbrev pub IsBehind : ℕ → AgendaItem → Type 0
  IsBehind q (item.Tick place) = (t : Tick) (e : Entry) → slice_get ticks place ≡ Some t → slice_get es q ≡ Some e → (entry_time e) < t.time
  IsBehind q (item.Event place) = ⊤
  IsBehind q (item.Lost place) = ⊤

  -- each tick has no earlier entry behind it, and each entry only later ticks
  abbrev pub Goes : List AgendaItem → Type 0
  Goes [] = ⊤
  Goes (item.Tick place ∷ is) = ((t : Tick) → slice_get ticks place ≡ Some t → AllByRecursion (IsNotBefore es t.time) is) × Goes is
  Goes (item.Event place ∷ is) = AllByRecursion (IsBehind place) is × Goes is
  Goes (item.Lost place ∷ is) = AllByRecursion (IsBehind place) is × Goes is

  cut : (before after : List AgendaItem) (place : ℕ) (t : Tick) → Goes (before ++ item.Tick place ∷ after) → slice_get ticks place ≡ Some t → StandsAt es t.time before after
  cut [] after place t h at = record { earlier = tt; later = h.0 t at }
  cut (item.Tick p ∷ bs) after place t h at = let rest = cut bs after place t h.1 at in record { earlier = (tt, rest.earlier); later = rest.later }
  cut (item.Event q ∷ bs) after place t h at = let rest = cut bs after place t h.1 at in
      record { earlier = ((λ e there. middle (IsBehind q) bs (item.Tick place) after h.0 t e at there), rest.earlier); later = rest.later }
  cut (item.Lost q ∷ bs) after place t h at = let rest = cut bs after place t h.1 at in
      record { earlier = ((λ e there. middle (IsBehind q) bs (item.Tick place) after h.0 t e at there), rest.earlier); later = rest.later }

  -- an entry goes before what is behind it
  goes_one : (p : ℕ) (e : Entry) (is : List AgendaItem) → AllByRecursion (IsBehind p) is → Goes is → Goes (item_at p e ∷ is)
  goes_one p (entry.Event e) is h g = (h, g)
  goes_one p (entry.Lost time count) is h g = (h, g)

  -- the events that pass a test, before what is behind each of them
  goes_front : (test : ℕ → Bool) (p : ℕ) (rest : List Entry) (back : List AgendaItem) → ((i : ℕ) → slice_get es (p + i) ≡ slice_get rest i)
      → ((q : ℕ) (e : Entry) → slice_get es q ≡ Some e → test (entry_time e) ≡ true → AllByRecursion (IsBehind q) back) → Goes back → Goes (entries_where test p rest ++ back)
  goes_front test p [] back at h g = g
  goes_front test p (e ∷ rest) back at h g =
      let next : (i : ℕ) → p + 1 + i ≡ p + suc i = (λ i. omega arith) in
      let later = goes_front test (p + 1) rest back (λ i. ap (slice_get es) (next i) ∙ at (suc i)) h g in
      let zero_more : p ≡ p + 0 = omega arith in
      let here : slice_get es p ≡ Some e = ap (slice_get es) zero_more ∙ at 0 in
      (elim (test (entry_time e)) as (λ b. test (entry_time e) ≡ b → Goes ((if b then item_at p e ∷ entries_where test (p + 1) rest else entries_where test (p + 1) rest) ++ back)) [
        | true ↦ λ passed. goes_one p e (entries_where test (p + 1) rest ++ back)
            (both (IsBehind p) (entries_where test (p + 1) rest) back (each_where (IsBehind p) test (p + 1) rest (λ i d there ok. of_item (IsBehind p) (p + 1 + i) d tt tt)) (h p e here passed)) later
        | false ↦ λ passed. later
      ]) refl

  not_before_in : (test : ℕ → Bool) (time : ℕ) → ((x : ℕ) → test x ≡ true → time ≤ x) → AllByRecursion (IsNotBefore es time) (entries_where test 0 es)
  not_before_in test time high = each_where (IsNotBefore es time) test 0 es (λ i e there passed.
      let here : 0 + i ≡ i = omega arith in
      let late : (d : Entry) → slice_get es (0 + i) ≡ Some d → time ≤ entry_time d = (λ d at.
      let same : e ≡ d = same_Some e d (sym there ∙ ap (slice_get es) (sym here) ∙ at) in
      subst (λ (x : Entry). time ≤ entry_time x) same (high (entry_time e) passed)) in
      of_item (IsNotBefore es time) (0 + i) e late late)

  late_events : (time k : ℕ) (ts : List Tick) → NoneBefore time ts → AllByRecursion (IsNotBefore es time) (items_from 0 es time k ts)
  late_events time k [] h = not_before_in (nat_le time) time (λ x passed. from_passed time x passed)
  late_events time k (t ∷ ts) h =
      let rest = late_events t.time (k + 1) ts h.1 in
      both (IsNotBefore es time) (entries_where (is_between time t.time) 0 es) (item.Tick k ∷ items_from 0 es t.time (k + 1) ts)
      (not_before_in (is_between time t.time) time (λ x passed. between_low time t.time x passed))
      (tt, each_so (IsNotBefore es t.time) (IsNotBefore es time) (later h.0) (items_from 0 es t.time (k + 1) ts) rest)
    where
      later : time ≤ t.time → (i : AgendaItem) → IsNotBefore es t.time i → IsNotBefore es time i
      later le (item.Tick place) h = tt
      later le (item.Event place) h = λ e at. (let high = h e at in omega arith)
      later le (item.Lost place) h = λ e at. (let high = h e at in omega arith)

  late_ticks : (time k : ℕ) (ts : List Tick) → ((i : ℕ) → slice_get ticks (k + i) ≡ slice_get ts i) → NoneBefore time ts → AllByRecursion (IsTickFrom time) (items_from 0 es time k ts)
  late_ticks time k [] at h = each_where (IsTickFrom time) (nat_le time) 0 es (λ i e there passed. of_item (IsTickFrom time) (0 + i) e tt tt)
  late_ticks time k (t ∷ ts) at h =
      let next : (i : ℕ) → k + 1 + i ≡ k + suc i = (λ i. omega arith) in
      let rest = late_ticks t.time (k + 1) ts (λ i. ap (slice_get ticks) (next i) ∙ at (suc i)) h.1 in
      both (IsTickFrom time) (entries_where (is_between time t.time) 0 es) (item.Tick k ∷ items_from 0 es t.time (k + 1) ts)
      (each_where (IsTickFrom time) (is_between time t.time) 0 es (λ i e there passed. of_item (IsTickFrom time) (0 + i) e tt tt))
      ((λ u there. first_tick u there), each_so (IsTickFrom t.time) (IsTickFrom time) (later h.0) (items_from 0 es t.time (k + 1) ts) rest)
    where
      first_tick : (u : Tick) → slice_get ticks k ≡ Some u → time ≤ u.time
      first_tick u there = let here : k + 0 ≡ k = omega arith in
          subst (λ (x : Tick). time ≤ x.time) (same_Some t u (sym (at 0) ∙ ap (slice_get ticks) here ∙ there)) h.0

      later : time ≤ t.time → (i : AgendaItem) → IsTickFrom t.time i → IsTickFrom time i
      later le (item.Tick place) h = λ u there. (let high = h u there in omega arith)
      later le (item.Event place) h = tt
      later le (item.Lost place) h = tt

  goes : (time k : ℕ) (ts : List Tick) → ((i : ℕ) → slice_get ticks (k + i) ≡ slice_get ts i) → NoneBefore time ts → Goes (items_from 0 es time k ts)
  goes time k [] at h = subst Goes (append-nil (entries_where (nat_le time) 0 es))
      (goes_front (nat_le time) 0 es [] (λ i. ap (slice_get es) (from_zero i)) (λ q e there passed. tt) tt)
  goes time k (t ∷ ts) at h =
      let next : (i : ℕ) → k + 1 + i ≡ k + suc i = (λ i. omega arith) in
      let rest_at : (i : ℕ) → slice_get ticks (k + 1 + i) ≡ slice_get ts i = (λ i. ap (slice_get ticks) (next i) ∙ at (suc i)) in
      let rest = items_from 0 es t.time (k + 1) ts in
      let here : k + 0 ≡ k = omega arith in
      let is_tick : (u : Tick) → slice_get ticks k ≡ Some u → t ≡ u = (λ u there. same_Some t u (sym (at 0) ∙ ap (slice_get ticks) here ∙ there)) in
      let this : AllByRecursion (IsTickFrom t.time) (item.Tick k ∷ rest) = ((λ u there. no_later u (is_tick u there)), late_ticks t.time (k + 1) ts rest_at h.1) in
      goes_front (is_between time t.time) 0 es (item.Tick k ∷ rest) (λ i. ap (slice_get es) (from_zero i))
      (λ q e there passed. each_so (IsTickFrom t.time) (IsBehind q) (behind q e there (between_high time t.time (entry_time e) passed)) (item.Tick k ∷ rest) this)
      ((λ u there. subst (λ (x : Tick). AllByRecursion (IsNotBefore es x.time) rest) (is_tick u there) (late_events t.time (k + 1) ts h.1)), goes t.time (k + 1) ts rest_at h.1)
    where
      no_later : (u : Tick) → t ≡ u → t.time ≤ u.time
      no_later u e = let same : t.time ≡ u.time = ap (λ (x : Tick). x.time) e in omega arith

      behind : (q : ℕ) (e : Entry) → slice_get es q ≡ Some e → (entry_time e) < t.time → (i : AgendaItem) → IsTickFrom t.time i → IsBehind q i
      behind q e there early (item.Tick place) from = λ u d at there_too.
          (let same : e ≡ d = same_Some e d (sym there ∙ there_too) in
          let time : entry_time e ≡ entry_time d = ap entry_time same in
          let high = from u at in omega arith)
      behind q e there early (item.Event place) from = tt
      behind q e there early (item.Lost place) from = tt

-- an item is of the entry at its place
module _ (es : List Entry) where
  of_one : (p : ℕ) (e : Entry) → slice_get es p ≡ Some e → IsOfEntry es (item_at p e)
  of_one p (entry.Event e) at = λ d there. ap (item_at p) (same_Some d (entry.Event e) (sym there ∙ at))
  of_one p (entry.Lost time count) at = λ d there. ap (item_at p) (same_Some d (entry.Lost time count) (sym there ∙ at))

  kinds_where : (test : ℕ → Bool) → AllByRecursion (IsOfEntry es) (entries_where test 0 es)
  kinds_where test = each_where (IsOfEntry es) test 0 es (λ i e there passed. of_one (0 + i) e (ap (slice_get es) (from_zero i) ∙ there))

  kinds_hold : (time k : ℕ) (ts : List Tick) → AllByRecursion (IsOfEntry es) (items_from 0 es time k ts)
  kinds_hold time k [] = kinds_where (nat_le time)
  kinds_hold time k (t ∷ ts) = both (IsOfEntry es) (entries_where (is_between time t.time) 0 es) (item.Tick k ∷ items_from 0 es t.time (k + 1) ts) (kinds_where (is_between time t.time)) (tt, kinds_hold t.time (k + 1) ts)

pub agenda_holds : (r : Recording) (attached : Attached) (cpu : ℕ) → IsValidRecording r → AreInTurn attached.ticks → cpu < length r.cpus → IsAgenda attached.ticks (entries_of r cpu) (agenda_of r attached cpu)
unfolding agenda_of
agenda_holds r attached cpu valid turn lt =
    let es = entries_of r cpu in
    let ts = attached.ticks in
    let none = none_before ts turn in
    let times = times_are r cpu (record { number = 0; entries = [] }) valid lt in
    record {
      ticks_are = ticks_stand 0 es 0 0 ts;
      entries_are = ap (filter_map entry_place) (taken_all r.start r.end 0 es 0 ts times none) ∙ entries_stand 0 es 0 ts;
      kinds_are = kinds_hold es 0 0 ts;
      stands = λ before after place t e at. cut ts es before after place t (subst (Goes ts es) e (goes ts es 0 0 ts (λ i. ap (slice_get ts) (from_zero i)) none)) at;
    }
