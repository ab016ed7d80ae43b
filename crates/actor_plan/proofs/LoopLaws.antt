-- The next one of the entries and ticks of a CPU.
use Rattle.std.proofs.Common.{◌≡◌, ℕ, zero, suc, ◌+◌, ◌≤◌, Bool, true, false, List, [], ◌∷◌, ◌++◌, drop, length, refl, sym, ap, ◌∙◌, arith, add-zero}
use Rattle.std.specs.Prelude.{nat_lt, slice_get, Option, None, Some, if◌then◌else◌}
use Rattle.std.proofs.lemmas.Bool.Decides.{nat_tests}
use Rattle.std.proofs.lemmas.Option.{slice_get_within, get_or_from_slice_get}
use Rattle.std.proofs.lemmas.List.{at_drop_more}
use Rattle.bt_ast.specs.declared.attached.Tick.{Tick}
use Rattle.recordings.specs.declared.recording.Entry.{Entry}
use Rattle.recordings.specs.Places.{entry_time}
use Rattle.actor_plan.specs.declared.agenda.AgendaItem.{AgendaItem}
use Rattle.actor_plan.specs.declared.agenda.AgendaItem.TheVariants as item
use Rattle.actor_plan.specs.Agendas.{item_at}
use Rattle.actor_plan.specs.Steps.{earlier, earlier_count, taken, is_tick_next}

-- ---- lists by places

-- from the place of an element on the list begins with it
pub from_place : {X A : Type 0} (f : List X → A) (xs : List X) (i : ℕ) (x : X) → slice_get xs i ≡ Some x → f (drop i xs) ≡ f (x ∷ drop (i + 1) xs)
from_place {X} f xs i x at = at_drop_more f xs i x (slice_get_within xs i x at) ∙ ap (λ (y : X). f (y ∷ drop (i + 1) xs)) (get_or_from_slice_get xs i x x at)

-- past the last element nothing is left
pub none_left : {X : Type 0} (xs : List X) (i : ℕ) → slice_get xs i ≡ None → drop i xs ≡ []
none_left [] zero none = refl
none_left [] (suc i) none = refl
none_left (x ∷ xs) zero none = absurd cc
none_left (x ∷ xs) (suc i) none = none_left xs i none

-- ---- entries

module _ (entries : List Entry) (time place : ℕ) (e : Entry) (at : slice_get entries place ≡ Some e) where
  pub none_earlier : time ≤ entry_time e → earlier time place (drop place entries) ≡ []
  none_earlier le = let not_less : nat_lt (entry_time e) time ≡ false = grind (arith, nat_tests) in
      from_place (earlier time place) entries place e at ∙ ap (λ (b : Bool). if b then item_at place e ∷ earlier time (place + 1) (drop (place + 1) entries) else []) not_less

  pub none_counted : time ≤ entry_time e → earlier_count time (drop place entries) ≡ 0
  none_counted le = let not_less : nat_lt (entry_time e) time ≡ false = grind (arith, nat_tests) in
      from_place (earlier_count time) entries place e at ∙ ap (λ (b : Bool). if b then suc (earlier_count time (drop (place + 1) entries)) else 0) not_less

-- ---- ticks

pub few_earlier : (time : ℕ) (es : List Entry) → earlier_count time es ≤ length es
few_earlier time [] = omega arith
few_earlier time (e ∷ es) = elim (nat_lt (entry_time e) time) as (λ b. (if b then suc (earlier_count time es) else 0) ≤ suc (length es)) [
  | true ↦ (let rest = few_earlier time es in omega arith)
  | false ↦ omega arith
]

-- ---- the next item

never : {P : Type 0} → false ≡ true → P
never h = absurd cc

-- an entry before the tick's time
head_earlier : (place number : ℕ) (e : Entry) (es : List Entry) (t : Tick) (ts : List Tick) → nat_lt (entry_time e) t.time ≡ true
    → taken place (e ∷ es) number (t ∷ ts) ≡ item_at place e ∷ taken (place + 1) es number (t ∷ ts)
head_earlier place number e es t ts less =
    let n = earlier_count t.time es in
    let next : place + suc n ≡ place + 1 + n = omega arith in
    rw less (ap (λ m. item_at place e ∷ (earlier t.time (place + 1) es ++ item.Tick number ∷ taken m (drop n es) (number + 1) ts)) next)

module _ (entries : List Entry) (ticks : List Tick) where
  -- what is to come, from these places on
  abbrev pub to_come : ℕ → ℕ → List AgendaItem
  to_come place number = taken place (drop place entries) number (drop number ticks)

  module _ (place number : ℕ) where
    none_before : (t : Tick) (o : Option Entry) → slice_get entries place ≡ o → is_tick_next (Some t) o ≡ true
        → (earlier t.time place (drop place entries) ≡ []) × (earlier_count t.time (drop place entries) ≡ 0)
    none_before t None at first = let left = none_left entries place at in (ap (earlier t.time place) left, ap (earlier_count t.time) left)
    none_before t (Some e) at first =
        let le : t.time ≤ entry_time e = grind (arith, nat_tests, first) in
        (none_earlier entries t.time place e at le, none_counted entries t.time place e at le)

    next_tick : (o : Option Tick) → slice_get ticks number ≡ o → is_tick_next o (slice_get entries place) ≡ true → to_come place number ≡ item.Tick number ∷ to_come place (number + 1)
    next_tick None at first = never first
    next_tick (Some t) at first =
        let none = none_before t (slice_get entries place) refl first in
        from_place (taken place (drop place entries) number) ticks number t at
        ∙ (λ i. none.0 i ++ item.Tick number ∷ taken (place + none.1 i) (drop (none.1 i) (drop place entries)) (number + 1) (drop (number + 1) ticks))
        ∙ ap (λ n. item.Tick number ∷ taken n (drop place entries) (number + 1) (drop (number + 1) ticks)) (add-zero place)

    pub tick_is_next : is_tick_next (slice_get ticks number) (slice_get entries place) ≡ true → to_come place number ≡ item.Tick number ∷ to_come place (number + 1)
    tick_is_next first = next_tick (slice_get ticks number) refl first

    next_entry : (e : Entry) (o : Option Tick) → slice_get ticks number ≡ o → is_tick_next o (Some e) ≡ false
        → taken place (e ∷ drop (place + 1) entries) number (drop number ticks) ≡ item_at place e ∷ to_come (place + 1) number
    next_entry e None at later = let left = none_left ticks number at in
        ap (taken place (e ∷ drop (place + 1) entries) number) left
        ∙ sym (ap (λ l. item_at place e ∷ taken (place + 1) (drop (place + 1) entries) number l) left)
    next_entry e (Some t) at later =
        let less : nat_lt (entry_time e) t.time ≡ true = grind (arith, nat_tests, later) in
        let es = drop (place + 1) entries in
        from_place (taken place (e ∷ es) number) ticks number t at
        ∙ head_earlier place number e es t (drop (number + 1) ticks) less
        ∙ sym (ap (λ l. item_at place e ∷ l) (from_place (taken (place + 1) es number) ticks number t at))

    pub entry_is_next : (e : Entry) → slice_get entries place ≡ Some e → is_tick_next (slice_get ticks number) (Some e) ≡ false → to_come place number ≡ item_at place e ∷ to_come (place + 1) number
    entry_is_next e at later =
        from_place (λ l. taken place l number (drop number ticks)) entries place e at ∙ next_entry e (slice_get ticks number) refl later

    no_tick : (o : Option Tick) → is_tick_next o None ≡ false → o ≡ None
    no_tick None later = refl
    no_tick (Some t) later = never (sym later)

    pub none_is_next : slice_get entries place ≡ None → is_tick_next (slice_get ticks number) None ≡ false → to_come place number ≡ []
    none_is_next at later =
        (λ i. taken place (none_left entries place at i) number (none_left ticks number (no_tick (slice_get ticks number) later) i))
