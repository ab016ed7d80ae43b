-- Only one list is an agenda of these ticks and entries.
use Rattle.std.proofs.Common.{◌≡◌, ℕ, zero, suc, ◌+◌, ◌<◌, ◌≤◌, List, [], ◌∷◌, ◌++◌, length, refl, ap, sym, ◌∙◌, subst, arith, get_or}
use Rattle.std.specs.Prelude.{slice_get, Some, None}
use Rattle.std.specs.List.{AllByRecursion, filter_map, range_with_len}
use Rattle.std.proofs.lemmas.Option.{slice_get-get_or}
use Rattle.bt_ast.specs.declared.attached.Tick.{Tick}
use Rattle.recordings.specs.declared.recording.Entry.{Entry}
use Rattle.recordings.specs.Places.{entry_time}
use Rattle.actor_plan.specs.declared.agenda.AgendaItem.{AgendaItem}
use Rattle.actor_plan.specs.declared.agenda.AgendaItem.TheVariants as item
use Rattle.actor_plan.specs.Agendas.{tick_place, entry_place, item_at, IsOfEntry, IsBefore, IsNotBefore, StandsAt, IsAgenda}

-- where the first tick of a list stands
record FirstTick (place : ℕ) (items : List AgendaItem) : Type 0 where
  before : List AgendaItem
  after : List AgendaItem
  cut : items ≡ before ++ item.Tick place ∷ after

first_tick : (items : List AgendaItem) (place : ℕ) (rest : List ℕ) → filter_map tick_place items ≡ place ∷ rest → FirstTick place items
first_tick [] place rest e = absurd cc
first_tick (item.Tick p ∷ is) place rest e = let same : p ≡ place = cc in record { before = []; after = is; cut = ap (λ n. item.Tick n ∷ is) same }
first_tick (item.Event p ∷ is) place rest e =
    let there = first_tick is place rest e in record { before = item.Event p ∷ there.before; after = there.after; cut = ap (λ l. item.Event p ∷ l) there.cut }
first_tick (item.Lost p ∷ is) place rest e =
    let there = first_tick is place rest e in record { before = item.Lost p ∷ there.before; after = there.after; cut = ap (λ l. item.Lost p ∷ l) there.cut }

-- what holds of all holds of the first entry
record FirstEntry (P : AgendaItem → Type 0) (place : ℕ) : Type 0 where
  it : AgendaItem
  there : entry_place it ≡ Some place
  holds : P it

first_entry : (P : AgendaItem → Type 0) (items : List AgendaItem) (place : ℕ) (rest : List ℕ) → AllByRecursion P items → filter_map entry_place items ≡ place ∷ rest → FirstEntry P place
first_entry P [] place rest all e = absurd cc
first_entry P (item.Tick p ∷ is) place rest all e = first_entry P is place rest all.1 e
first_entry P (item.Event p ∷ is) place rest all e = let same : p ≡ place = cc in record { it = item.Event p; there = ap (λ n. Some n) same; holds = all.0 }
first_entry P (item.Lost p ∷ is) place rest all e = let same : p ≡ place = cc in record { it = item.Lost p; there = ap (λ n. Some n) same; holds = all.0 }

late_entry : (entries : List Entry) (time : ℕ) (i : AgendaItem) (place : ℕ) → entry_place i ≡ Some place → IsNotBefore entries time i → (e : Entry) → slice_get entries place ≡ Some e → time ≤ entry_time e
late_entry entries time (item.Tick p) place there late e at = absurd cc
late_entry entries time (item.Event p) place there late e at = let same : p ≡ place = cc in late e (ap (slice_get entries) same ∙ at)
late_entry entries time (item.Lost p) place there late e at = let same : p ≡ place = cc in late e (ap (slice_get entries) same ∙ at)

early_entry : (entries : List Entry) (time : ℕ) (i : AgendaItem) (place : ℕ) → entry_place i ≡ Some place → IsBefore entries time i → (e : Entry) → slice_get entries place ≡ Some e → entry_time e < time
early_entry entries time (item.Tick p) place there early e at = absurd cc
early_entry entries time (item.Event p) place there early e at = let same : p ≡ place = cc in early e (ap (slice_get entries) same ∙ at)
early_entry entries time (item.Lost p) place there early e at = let same : p ≡ place = cc in early e (ap (slice_get entries) same ∙ at)

-- two items of the entry at one place are one
one_item : (entries : List Entry) (i j : AgendaItem) (place : ℕ) (e : Entry) → slice_get entries place ≡ Some e → entry_place i ≡ Some place → entry_place j ≡ Some place → IsOfEntry entries i → IsOfEntry entries j → i ≡ j
one_item entries i j place e at there_i there_j is_i is_j = item_is entries i place e at there_i is_i ∙ sym (item_is entries j place e at there_j is_j)
  where
    item_is : (entries : List Entry) (i : AgendaItem) (place : ℕ) (e : Entry) → slice_get entries place ≡ Some e → entry_place i ≡ Some place → IsOfEntry entries i → i ≡ item_at place e
    item_is entries (item.Tick p) place e at there is = absurd cc
    item_is entries (item.Event p) place e at there is = let same : p ≡ place = cc in sym (is e (ap (slice_get entries) same ∙ at)) ∙ ap (λ n. item_at n e) same
    item_is entries (item.Lost p) place e at there is = let same : p ≡ place = cc in sym (is e (ap (slice_get entries) same ∙ at)) ∙ ap (λ n. item_at n e) same

placed : {X : Type 0} (xs : List X) (i : ℕ) → i < length xs → (x : X) × (slice_get xs i ≡ Some x)
placed [] i lt = absurd (omega arith)
placed (x ∷ xs) zero lt = (x, refl)
placed (x ∷ xs) (suc i) lt = placed xs i (omega arith)

nil_cons : (n : ℕ) (ns : List ℕ) → [] ≡ n ∷ ns → ⊥
nil_cons n ns e = cc

head_of : (m n : ℕ) (ms ns : List ℕ) → m ∷ ms ≡ n ∷ ns → m ≡ n
head_of m n ms ns e = cc

tail_of : (m n : ℕ) (ms ns : List ℕ) → m ∷ ms ≡ n ∷ ns → ms ≡ ns
tail_of m n ms ns e = cc

-- each number is below a bound
abbrev pub AllBelow : ℕ → List ℕ → Type 0
AllBelow n ns = AllByRecursion (λ k. k < n) ns

range_below : (first count n : ℕ) → first + count ≤ n → AllBelow n (range_with_len first count)
range_below first zero n le = tt
range_below first (suc count) n le = (omega arith, range_below (first + 1) count n (omega arith))

module _ (ticks : List Tick) (entries : List Entry) where
  abbrev pub Stands : List AgendaItem → Type 0
  Stands items = (before after : List AgendaItem) (place : ℕ) (t : Tick) → items ≡ before ++ item.Tick place ∷ after → slice_get ticks place ≡ Some t → StandsAt entries t.time before after

  behind_first : (i : AgendaItem) (is : List AgendaItem) → Stands (i ∷ is) → Stands is
  behind_first i is h before after place t e at =
      let all = h (i ∷ before) after place t (ap (λ l. i ∷ l) e) at in record { earlier = all.earlier.1; later = all.later }

  -- a tick cannot come first in the one list and an entry in the other
  not_both : (p q : ℕ) (i : AgendaItem) (xs ys : List AgendaItem) (tick_rest entry_rest : List ℕ) → entry_place i ≡ Some q → tick_place i ≡ None → p < length ticks → q < length entries → Stands (item.Tick p ∷ xs) → Stands (i ∷ ys)
      → filter_map entry_place xs ≡ q ∷ entry_rest → filter_map tick_place ys ≡ p ∷ tick_rest → ⊥
  not_both p q i xs ys tick_rest entry_rest here none tick_there entry_there one other entry_is tick_is =
      let t = get_or ticks p (record { time = 0; body = 0 }) in
      let at = slice_get-get_or ticks p (record { time = 0; body = 0 }) tick_there in
      let found = placed entries q entry_there in
      let first = first_entry (IsNotBefore entries t.time) xs q entry_rest (one [] xs p t refl at).later entry_is in
      let late = late_entry entries t.time first.it q first.there first.holds found.0 found.1 in
      let there = first_tick ys p tick_rest tick_is in
      let before = (other (i ∷ there.before) there.after p t (ap (λ l. i ∷ l) there.cut) at).earlier.0 in
      let early = early_entry entries t.time i q here before found.0 found.1 in
      omega (arith, late, early)

  -- what comes first is a tick or the item of an entry
  abbrev pub Kinds : List AgendaItem → Type 0
  Kinds items = AllByRecursion (IsOfEntry entries) items

  -- two that begin with the entry at one place begin alike
  head_is : (i j : AgendaItem) (p q n : ℕ) → entry_place i ≡ Some p → entry_place j ≡ Some q → n ≡ p → n ≡ q → n < length entries → IsOfEntry entries i → IsOfEntry entries j → i ≡ j
  head_is i j p q n at_i at_j pn qn lt is_i is_j =
      let found = placed entries n lt in
      one_item entries i j n found.0 found.1 (at_i ∙ ap (λ k. Some k) (sym pn)) (at_j ∙ ap (λ k. Some k) (sym qn)) is_i is_j

  same : (one other : List AgendaItem) (tick_places entry_places : List ℕ) → AllBelow (length ticks) tick_places → AllBelow (length entries) entry_places
      → filter_map tick_place one ≡ tick_places → filter_map entry_place one ≡ entry_places → filter_map tick_place other ≡ tick_places → filter_map entry_place other ≡ entry_places
      → Kinds one → Kinds other → Stands one → Stands other → one ≡ other
  same [] [] tp ep tb eb a b c d ki kj h g = refl
  same [] (item.Tick q ∷ ys) tp ep tb eb a b c d ki kj h g = absurd (nil_cons q (filter_map tick_place ys) (a ∙ sym c))
  same [] (item.Event q ∷ ys) tp ep tb eb a b c d ki kj h g = absurd (nil_cons q (filter_map entry_place ys) (b ∙ sym d))
  same [] (item.Lost q ∷ ys) tp ep tb eb a b c d ki kj h g = absurd (nil_cons q (filter_map entry_place ys) (b ∙ sym d))
  same (item.Tick p ∷ xs) [] tp ep tb eb a b c d ki kj h g = absurd (nil_cons p (filter_map tick_place xs) (c ∙ sym a))
  same (item.Event p ∷ xs) [] tp ep tb eb a b c d ki kj h g = absurd (nil_cons p (filter_map entry_place xs) (d ∙ sym b))
  same (item.Lost p ∷ xs) [] tp ep tb eb a b c d ki kj h g = absurd (nil_cons p (filter_map entry_place xs) (d ∙ sym b))
  same (item.Tick p ∷ xs) (item.Tick q ∷ ys) [] ep tb eb a b c d ki kj h g = absurd (nil_cons p (filter_map tick_place xs) (sym a))
  same (item.Tick p ∷ xs) (item.Tick q ∷ ys) (n ∷ ns) ep tb eb a b c d ki kj h g =
      let head : p ≡ q = head_of p q (filter_map tick_place xs) (filter_map tick_place ys) (a ∙ sym c) in
      let one_rest = tail_of p n (filter_map tick_place xs) ns a in
      let other_rest = tail_of q n (filter_map tick_place ys) ns c in
      let rest = same xs ys ns ep tb.1 eb one_rest b other_rest d ki.1 kj.1 (behind_first (item.Tick p) xs h) (behind_first (item.Tick q) ys g) in
      (λ i. item.Tick (head i) ∷ rest i)
  same (item.Event p ∷ xs) (item.Event q ∷ ys) tp [] tb eb a b c d ki kj h g = absurd (nil_cons p (filter_map entry_place xs) (sym b))
  same (item.Event p ∷ xs) (item.Event q ∷ ys) tp (n ∷ ns) tb eb a b c d ki kj h g =
      let pn = sym (head_of p n (filter_map entry_place xs) ns b) in
      let qn = sym (head_of q n (filter_map entry_place ys) ns d) in
      let one_rest = tail_of p n (filter_map entry_place xs) ns b in
      let other_rest = tail_of q n (filter_map entry_place ys) ns d in
      let head = head_is (item.Event p) (item.Event q) p q n refl refl pn qn eb.0 ki.0 kj.0 in
      let rest = same xs ys tp ns tb eb.1 a one_rest c other_rest ki.1 kj.1 (behind_first (item.Event p) xs h) (behind_first (item.Event q) ys g) in
      (λ i. head i ∷ rest i)
  same (item.Event p ∷ xs) (item.Lost q ∷ ys) tp [] tb eb a b c d ki kj h g = absurd (nil_cons p (filter_map entry_place xs) (sym b))
  same (item.Event p ∷ xs) (item.Lost q ∷ ys) tp (n ∷ ns) tb eb a b c d ki kj h g =
      let pn = sym (head_of p n (filter_map entry_place xs) ns b) in
      let qn = sym (head_of q n (filter_map entry_place ys) ns d) in
      let one_rest = tail_of p n (filter_map entry_place xs) ns b in
      let other_rest = tail_of q n (filter_map entry_place ys) ns d in
      let head = head_is (item.Event p) (item.Lost q) p q n refl refl pn qn eb.0 ki.0 kj.0 in
      let rest = same xs ys tp ns tb eb.1 a one_rest c other_rest ki.1 kj.1 (behind_first (item.Event p) xs h) (behind_first (item.Lost q) ys g) in
      (λ i. head i ∷ rest i)
  same (item.Lost p ∷ xs) (item.Event q ∷ ys) tp [] tb eb a b c d ki kj h g = absurd (nil_cons p (filter_map entry_place xs) (sym b))
  same (item.Lost p ∷ xs) (item.Event q ∷ ys) tp (n ∷ ns) tb eb a b c d ki kj h g =
      let pn = sym (head_of p n (filter_map entry_place xs) ns b) in
      let qn = sym (head_of q n (filter_map entry_place ys) ns d) in
      let one_rest = tail_of p n (filter_map entry_place xs) ns b in
      let other_rest = tail_of q n (filter_map entry_place ys) ns d in
      let head = head_is (item.Lost p) (item.Event q) p q n refl refl pn qn eb.0 ki.0 kj.0 in
      let rest = same xs ys tp ns tb eb.1 a one_rest c other_rest ki.1 kj.1 (behind_first (item.Lost p) xs h) (behind_first (item.Event q) ys g) in
      (λ i. head i ∷ rest i)
  same (item.Lost p ∷ xs) (item.Lost q ∷ ys) tp [] tb eb a b c d ki kj h g = absurd (nil_cons p (filter_map entry_place xs) (sym b))
  same (item.Lost p ∷ xs) (item.Lost q ∷ ys) tp (n ∷ ns) tb eb a b c d ki kj h g =
      let pn = sym (head_of p n (filter_map entry_place xs) ns b) in
      let qn = sym (head_of q n (filter_map entry_place ys) ns d) in
      let one_rest = tail_of p n (filter_map entry_place xs) ns b in
      let other_rest = tail_of q n (filter_map entry_place ys) ns d in
      let head = head_is (item.Lost p) (item.Lost q) p q n refl refl pn qn eb.0 ki.0 kj.0 in
      let rest = same xs ys tp ns tb eb.1 a one_rest c other_rest ki.1 kj.1 (behind_first (item.Lost p) xs h) (behind_first (item.Lost q) ys g) in
      (λ i. head i ∷ rest i)
  same (item.Tick p ∷ xs) (item.Event q ∷ ys) [] ep tb eb a b c d ki kj h g = absurd (nil_cons p (filter_map tick_place xs) (sym a))
  same (item.Tick p ∷ xs) (item.Event q ∷ ys) (n ∷ ns) [] tb eb a b c d ki kj h g = absurd (nil_cons q (filter_map entry_place ys) (sym d))
  same (item.Tick p ∷ xs) (item.Event q ∷ ys) (n ∷ ns) (m ∷ ms) tb eb a b c d ki kj h g =
      let tick = sym (head_of p n (filter_map tick_place xs) ns a) in let entry = sym (head_of q m (filter_map entry_place ys) ms d) in
      absurd (not_both p q (item.Event q) xs ys ns ms refl refl (subst (λ k. k < length ticks) tick tb.0) (subst (λ k. k < length entries) entry eb.0) h g (b ∙ ap (λ k. k ∷ ms) entry) (c ∙ ap (λ k. k ∷ ns) tick))
  same (item.Event p ∷ xs) (item.Tick q ∷ ys) [] ep tb eb a b c d ki kj h g = absurd (nil_cons q (filter_map tick_place ys) (sym c))
  same (item.Event p ∷ xs) (item.Tick q ∷ ys) (n ∷ ns) [] tb eb a b c d ki kj h g = absurd (nil_cons p (filter_map entry_place xs) (sym b))
  same (item.Event p ∷ xs) (item.Tick q ∷ ys) (n ∷ ns) (m ∷ ms) tb eb a b c d ki kj h g =
      let tick = sym (head_of q n (filter_map tick_place ys) ns c) in let entry = sym (head_of p m (filter_map entry_place xs) ms b) in
      absurd (not_both q p (item.Event p) ys xs ns ms refl refl (subst (λ k. k < length ticks) tick tb.0) (subst (λ k. k < length entries) entry eb.0) g h (d ∙ ap (λ k. k ∷ ms) entry) (a ∙ ap (λ k. k ∷ ns) tick))
  same (item.Tick p ∷ xs) (item.Lost q ∷ ys) [] ep tb eb a b c d ki kj h g = absurd (nil_cons p (filter_map tick_place xs) (sym a))
  same (item.Tick p ∷ xs) (item.Lost q ∷ ys) (n ∷ ns) [] tb eb a b c d ki kj h g = absurd (nil_cons q (filter_map entry_place ys) (sym d))
  same (item.Tick p ∷ xs) (item.Lost q ∷ ys) (n ∷ ns) (m ∷ ms) tb eb a b c d ki kj h g =
      let tick = sym (head_of p n (filter_map tick_place xs) ns a) in let entry = sym (head_of q m (filter_map entry_place ys) ms d) in
      absurd (not_both p q (item.Lost q) xs ys ns ms refl refl (subst (λ k. k < length ticks) tick tb.0) (subst (λ k. k < length entries) entry eb.0) h g (b ∙ ap (λ k. k ∷ ms) entry) (c ∙ ap (λ k. k ∷ ns) tick))
  same (item.Lost p ∷ xs) (item.Tick q ∷ ys) [] ep tb eb a b c d ki kj h g = absurd (nil_cons q (filter_map tick_place ys) (sym c))
  same (item.Lost p ∷ xs) (item.Tick q ∷ ys) (n ∷ ns) [] tb eb a b c d ki kj h g = absurd (nil_cons p (filter_map entry_place xs) (sym b))
  same (item.Lost p ∷ xs) (item.Tick q ∷ ys) (n ∷ ns) (m ∷ ms) tb eb a b c d ki kj h g =
      let tick = sym (head_of q n (filter_map tick_place ys) ns c) in let entry = sym (head_of p m (filter_map entry_place xs) ms b) in
      absurd (not_both q p (item.Lost p) ys xs ns ms refl refl (subst (λ k. k < length ticks) tick tb.0) (subst (λ k. k < length entries) entry eb.0) g h (d ∙ ap (λ k. k ∷ ms) entry) (a ∙ ap (λ k. k ∷ ns) tick))

  pub only : (one other : List AgendaItem) → IsAgenda ticks entries one → IsAgenda ticks entries other → one ≡ other
  only one other h g = same one other (range_with_len 0 (length ticks)) (range_with_len 0 (length entries))
      (range_below 0 (length ticks) (length ticks) (omega arith)) (range_below 0 (length entries) (length entries) (omega arith))
      h.ticks_are h.entries_are g.ticks_are g.entries_are h.kinds_are g.kinds_are h.stands g.stands
