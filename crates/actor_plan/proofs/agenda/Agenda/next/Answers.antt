use Rattle.std.proofs.Common.{◌≡◌, ◌+◌, ◌∙◌, ◌∷◌, sym, ap, arith, drop}
use Rattle.std.specs.Prelude.{Bool, slice_get, Option, None, Some}
use Rattle.bt_ast.specs.declared.attached.Tick.{Tick}
use Rattle.recordings.specs.declared.recording.Entry.{Entry}
use Rattle.std.specs.Option.{option_map}
use Rattle.std.proofs.lemmas.Option.{slice_get_within}
use Rattle.recordings.specs.InFile.{entry_seen}
use Rattle.actor_plan.specs.Steps.{is_tick_next, taken}
use Rattle.actor_plan.proofs.LoopLaws.{tick_is_next, entry_is_next, none_is_next}
use Rattle.actor_plan.proofs.agenda.Agenda.next.Goals as goal

-- what was told of the entry that was got is so of the one that stands there
told : (t : Option Tick) (got here : Option Entry) (r b : Bool) → r ≡ is_tick_next t got → got ≡ here → r ≡ b → is_tick_next t here ≡ b
told t got here r b is at so = ap (is_tick_next t) (sym at) ∙ sym is ∙ so

pub returns-then-is_tick_next : goal.returns-then-is_tick_next
returns-then-is_tick_next c = let s = c.self.inside in
    sym c.self.view_is ∙ tick_is_next s.entries.now s.ticks.now s.next_entry s.next_tick (told _ _ _ _ _ c.is_tick_next.ensures c.get-entry.ensures c.if-is_tick_next.true)

-- nothing is left
pub returns-in_default : goal.returns-in_default
returns-in_default c =
    let s = c.self.inside in
    let none : slice_get s.entries.now s.next_entry ≡ None = sym c.get-entry.ensures ∙ ap (option_map entry_seen) c.in_default.is in
    let empty = none_is_next s.entries.now s.ticks.now s.next_entry s.next_tick none
    (told _ _ _ _ _ c.is_tick_next.ensures (c.get-entry.ensures ∙ none) c.if-is_tick_next.false) in
    (sym c.self.view_is ∙ empty, sym c.self.view_is ∙ empty)

pub overflow_cast-self-inside : goal.overflow_cast-self-inside
overflow_cast-self-inside c =
    let s = c.self.inside in
    let lt = slice_get_within s.entries.now s.next_entry (entry_seen c.in-Some.entry) (sym c.get-entry.ensures ∙ ap (option_map entry_seen) c.in-Some.is) in
    let few = c.self.invariant.0 in
    omega (arith, lt, few)

pub returns : goal.returns
returns c =
    let s = c.self.inside in
    let at : slice_get s.entries.now s.next_entry ≡ Some (entry_seen c.in-Some.entry) = sym c.get-entry.ensures ∙ ap (option_map entry_seen) c.in-Some.is in
    sym c.self.view_is
    ∙ entry_is_next s.entries.now s.ticks.now s.next_entry s.next_tick (entry_seen c.in-Some.entry) at
    (told _ _ _ _ _ c.is_tick_next.ensures (c.get-entry.ensures ∙ at) c.if-is_tick_next.false)
    ∙ ap (λ i. i ∷ taken (s.next_entry + 1) (drop (s.next_entry + 1) s.entries.now) s.next_tick (drop s.next_tick s.ticks.now)) (sym c.item_at-item.ensures)
