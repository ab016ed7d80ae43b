use Rattle.std.proofs.Common.{List, ◌<◌, ◌^◌, length, ap, sym, subst, ◌∙◌, ◌++◌, ◌∷◌, []}
use Rattle.std.specs.List.{AllByRecursion}
use Rattle.recordings.specs.declared.recording.Event.{Event}
use Rattle.rec_gen.specs.Draws.{next_state}
use Rattle.rec_gen.proofs.Valid.{short_events}
use Rattle.rec_gen.proofs.Loop.{more, no_more, three_on, drawn_event}
use Rattle.rec_gen.proofs.generate.made_track.Goals.{then-place-number+in_ok-event_of+in_ok-push, else-place-number}
use Rattle.rec_gen.proofs.generate.made_track.Goals as goal

pub entries_of-requires : goal.entries_of-requires
entries_of-requires c =
    subst (λ (es : List Event). AllByRecursion (λ (e : Event). length e.payload < 2 ^ 32) es) (sym (c.as_slice.ensures ∙ c.loop-place.invariant.0)) (short_events c.args.seed c.args.number c.loop-place.place)

pub loop-place-preserved : goal.loop-place-preserved
loop-place-preserved c =
    let drawn = c.for_event-drawn.ensures in
    let state = drawn.state ∙ ap (λ x. next_state (next_state (next_state x))) c.loop-place.invariant.1 ∙ sym (three_on c.args.seed c.loop-place.place) in
    elim c.if-place-number.branch [
      | then-place-number+in_ok-event_of+in_ok-push w ↦
          let event = w.in_ok-event_of.ensures ∙ drawn_event c.args.seed c.loop-place.place c.loop-place.draws.state c.for_event-drawn.result.name c.for_event-drawn.result.thread c.for_event-drawn.result.id c.loop-place.invariant.1 drawn.name drawn.thread drawn.id in (
            w.events-is ∙ w.in_ok-push.ensures.ok ∙ (λ i. c.loop-place.invariant.0 i ++ event i ∷ []) ∙ sym (more c.args.seed c.args.number c.loop-place.place w.if-place-number.true),
            state,
          )
      | else-place-number w ↦ (w.events-is ∙ c.loop-place.invariant.0 ∙ sym (no_more c.args.seed c.args.number c.loop-place.place w.if-place-number.false), state)
    ]
