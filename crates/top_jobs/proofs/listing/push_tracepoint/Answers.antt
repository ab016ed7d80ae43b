use Rattle.std.proofs.Common.{◌≡◌, ◌++◌, ◌∙◌, ap, List, ℕ, codes, append_assoc, sym}
use Rattle.std.specs.Prelude.{Option, Some, slice_get}
use Rattle.std.proofs.lemmas.Option.{slice_get-get_or}
use Rattle.event_layout.specs.declared.format.Format.{Format}
use Rattle.top_jobs.specs.Listings.{event_name}
use Rattle.top_jobs.proofs.Listed.{on_ok-map}
use Rattle.top_jobs.proofs.listing.push_tracepoint.Goals as goal

pub returns-in-Some : goal.returns-in-Some
returns-in-Some c =
    let there : slice_get c.args.formats.now c.args.place ≡ Some c.in-Some.format.now =
    slice_get-get_or c.args.formats.now c.args.place c.in-Some.format.now c.in-Some.ensures.lookup.3.0 ∙ ap Some (sym c.in-Some.ensures.lookup.1) in
    on_ok-map c.push_event.result (c.push_event.new.text.items ≡ c.extend_from_slice.new.self.items ++ event_name (Some c.in-Some.format.now))
    (c.push_event.new.text.items ≡ c.args.text.now.items ++ (codes "tracepoint:" ++ event_name (slice_get c.args.formats.now c.args.place)))
    (λ e. e ∙ ap (λ (l : List ℕ). l ++ event_name (Some c.in-Some.format.now)) c.in_ok-extend_from_slice.ensures.items
    ∙ append_assoc c.args.text.now.items (codes "tracepoint:") (event_name (Some c.in-Some.format.now))
    ∙ ap (λ (o : Option Format). c.args.text.now.items ++ (codes "tracepoint:" ++ event_name o)) (sym there))
    c.push_event.ensures
