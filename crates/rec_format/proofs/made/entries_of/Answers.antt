use Rattle.std.proofs.Common.{◌≡◌, ℕ, ◌+◌, List, [], ◌∷◌, ◌++◌, length, map, take, sym, ap, subst, ◌∙◌, append_assoc, arith}
use Rattle.std.specs.Prelude.{IfOk}
use Rattle.std.proofs.lemmas.List.{drop_at, take_more, take_all, append-nil}
use Rattle.recordings.specs.declared.entries.EntryPlace.TheVariants as place
use Rattle.recordings.specs.declared.recording.Entry.{Entry}
use Rattle.recordings.specs.declared.recording.Entry.TheVariants as entry
use Rattle.recordings.specs.declared.recording.Event.{Event}
use Rattle.recordings.specs.Events.{part_of_event}
use Rattle.recordings.specs.InFile.{entry_in, entries_in, event_taken}
use Rattle.recordings.specs.Parts.{IsEventPart, event_bytes}
use Rattle.recordings.specs.Fronts.{event_at}
use Rattle.rec_format.proofs.InFileLaws.{entries_more, map_more}
use Rattle.recordings.proofs.PartLaws.{event_reads}
use Rattle.rec_format.proofs.made.entries_of.Goals as goal

-- an event that is spelled behind bytes lies there
spelled_lies : (bytes more : List ℕ) (at : ℕ) (e : Event) → at ≡ length bytes → IsEventPart (part_of_event e) → entry_in (bytes ++ (event_bytes (part_of_event e) ++ more)) (place.Event at e.format) ≡ entry.Event e
spelled_lies bytes more at e here whole =
    ap (λ (l : List ℕ). event_taken e.format (event_at l)) (drop_at bytes (event_bytes (part_of_event e) ++ more) at (sym here))
    ∙ ap (event_taken e.format) (event_reads.again (part_of_event e) more whole)

pub loop-event-preserved : goal.loop-event-preserved
loop-event-preserved c = λ more.
    let e : Event = c.event-item.result in
    let i : ℕ = c.loop-event.event-index in
    let old : List ℕ = c.loop-event.bytes.items in
    let whole : IsEventPart (part_of_event e) = subst (λ (x : Event). IsEventPart (part_of_event x)) c.seen.ensures c.push_event.ensures.whole in
    let written : c.push_event.new.bytes.items ≡ old ++ event_bytes (part_of_event e) = c.in_ok-push_event.ensures.written ∙ ap (λ (x : Event). old ++ event_bytes (part_of_event x)) c.seen.ensures in
    let file : c.push_event.new.bytes.items ++ more ≡ old ++ (event_bytes (part_of_event e) ++ more) = ap (λ (l : List ℕ). l ++ more) written ∙ append_assoc old (event_bytes (part_of_event e)) more in
    let at : c.in_ok-at.at ≡ length old = omega (arith, c.in_ok-at.ensures, c.len.ensures) in
    let added = entries_more (old ++ (event_bytes (part_of_event e) ++ more)) c.loop-event.places.items c.push.new.self.items (place.Event c.in_ok-at.at e.format) (entry.Event e) c.in_ok-push.ensures.items
    (spelled_lies old more c.in_ok-at.at e at whole) in
    let taken : take (i + 1) c.args.events.now ≡ take i c.args.events.now ++ e ∷ [] = take_more c.args.events.now i e c.loop-event-test.true ∙ ap (λ (x : Event). take i c.args.events.now ++ x ∷ []) (sym c.event-item.is) in
    ap (λ (l : List ℕ). entries_in l c.push.new.self.items) file ∙ added
    ∙ ap (λ (l : List Entry). l ++ entry.Event e ∷ []) (c.loop-event.invariant (event_bytes (part_of_event e) ++ more))
    ∙ sym (map_more (λ (x : Event). entry.Event x) (take i c.args.events.now) e) ∙ ap (map (λ (x : Event). entry.Event x)) (sym taken)

pub returns : goal.returns
returns c =
    let all : take c.loop-event.event-index c.args.events.now ≡ c.args.events.now = take_all c.loop-event.event-index c.args.events.now (omega (arith, c.loop-event-test.false)) in
    let made : entries_in c.loop-event.bytes.items c.loop-event.places.items ≡ map (λ (x : Event). entry.Event x) c.args.events.now =
    ap (λ (l : List ℕ). entries_in l c.loop-event.places.items) (sym (append-nil c.loop-event.bytes.items)) ∙ c.loop-event.invariant [] ∙ ap (map (λ (x : Event). entry.Event x)) all in
    subst (λ (l : List Entry). IfOk c.in_bytes.result (λ entries. entries ≡ l)) made c.in_bytes.ensures
