-- Programs ask only what ports can do.
use Rattle.std.proofs.Common.{◌≡◌, ℕ, ◌+◌, ◌<◌, ◌≤◌, Bool, true, false, List, [], ◌∷◌, length, refl, ap, ◌∙◌, arith, if◌then◌else◌}
use Rattle.std.specs.Prelude.{nat_lt, slice_get, slice_index_or, Option, Some, None, option_and_then}
use Rattle.std.specs.List.{AllByRecursion}
use Rattle.std.proofs.lemmas.Option.{slice_get_within}
use Rattle.std.proofs.lemmas.List.Elements.{recursion_from_All}
use Rattle.bt_ast.specs.declared.attached.Attached.{Attached}
use Rattle.bt_ast.specs.declared.attached.Tick.{Tick}
use Rattle.bt_core.specs.declared.context.Context.{Context}
use Rattle.bt_core.specs.Interaction.{Interaction, Ended, Asks, and_then}
use Rattle.bt_core.specs.declared.map.MapDecl.{MapDecl}
use Rattle.bt_core.specs.declared.step.ObjectId.{ObjectId}
use Rattle.bt_core.specs.declared.item.Item.TheVariants.{Lost}
use Rattle.bt_core.specs.declared.step.ObjectId.TheVariants.{Clock, Out}
use Rattle.bt_core.specs.declared.step.Op.{Op}
use Rattle.bt_core.specs.declared.step.Op.TheVariants.{Check, Cross, Emit}
use Rattle.recordings.specs.declared.recording.CpuTrack.{CpuTrack}
use Rattle.recordings.specs.declared.recording.Entry.{Entry}
use Rattle.recordings.specs.declared.recording.Entry.TheVariants as entry
use Rattle.recordings.specs.declared.recording.Recording.{Recording}
use Rattle.recordings.specs.Places.{entry_at_place}
use Rattle.recordings.specs.Recordings.{IsValidRecording}
use Rattle.recordings.proofs.ForOthers.{recorded_format}
use Rattle.event_layout.proofs.Lists.{all_at}
use Rattle.actor_plan.specs.declared.agenda.AgendaItem.{AgendaItem}
use Rattle.actor_plan.specs.declared.agenda.AgendaItem.TheVariants as item
use Rattle.actor_plan.specs.Agendas.{agenda_of}
use Rattle.actor_plan.specs.Contexts.{event_context, tick_context, begin_context, end_context}
use Rattle.actor_plan.specs.Plans.{Plan, IsBodyFor, HasBodies, AsksOf, BodiesAsk}
use Rattle.actor_plan.specs.declared.outcome.Outcome.{Outcome}
use Rattle.actor_plan.specs.Programs.{after_count, in_turn, goes_on, crosses_last, entry_work, tick_work, item_work, where_some, items_program, track_program, begin_program, end_program, cpu_program, main_program, actor_program}

asks_then : {A B : Type 0} (calls : ObjectId → Op → Type 0) (maps : List MapDecl) (t : Interaction A) (k : A → Interaction B) → AsksOf calls maps t → ((a : A) → AsksOf calls maps (k a)) → AsksOf calls maps (and_then t k)
asks_then calls maps (Ended a) k h g = g a
asks_then calls maps (Asks c f) k h g = (h.0, λ r kind. asks_then calls maps (f r) k (h.1 r kind) g)

where_asks : {X : Type 0} (calls : ObjectId → Op → Type 0) (maps : List MapDecl) (work : X → Interaction ℕ) (o : Option X) → ((x : X) → o ≡ Some x → AsksOf calls maps (work x)) → AsksOf calls maps (where_some work o)
where_asks calls maps work None h = tt
where_asks calls maps work (Some x) h = h x refl

goes_on_asks : (calls : ObjectId → Op → Type 0) (maps : List MapDecl) (checks : Bool) → calls Clock Check → AsksOf calls maps (goes_on checks)
goes_on_asks calls maps true check = (check, λ r kind. tt)
goes_on_asks calls maps false check = tt

module _ (calls : ObjectId → Op → Type 0) (maps : List MapDecl) (plan : Plan) (r : Recording) (attached : Attached) (valid : IsValidRecording r) (bodies : HasBodies plan r.formats attached)
    (check : calls Clock Check) (cross : (tick : ℕ) → tick < length attached.ticks → calls Clock (Cross tick)) (emit : (number count : ℕ) → calls Out (Emit (Lost number count))) (runs : BodiesAsk calls maps plan) where
  in_turn_asks : (context : Context) (payload : List ℕ) (size : ℕ) (which : List ℕ) → context.payload_len ≡ length payload → size ≤ length payload → AllByRecursion (IsBodyFor plan size) which
      → AsksOf calls maps (in_turn (λ body. plan.run body context payload) which)
  in_turn_asks context payload size [] counted long h = tt
  in_turn_asks context payload size (b ∷ bs) counted long h =
      let fits = h.0.1 in
      asks_then calls maps (plan.run b context payload) (λ n. and_then (in_turn (λ body. plan.run body context payload) bs) (λ m. Ended (n + m)))
      (runs b context payload (record { known = h.0.0; long = omega arith; counted = counted }))
      (λ n. asks_then calls maps (in_turn (λ body. plan.run body context payload) bs) (λ m. Ended (n + m)) (in_turn_asks context payload size bs counted long h.1) (λ m. tt))

  module _ (track : CpuTrack) (placed : slice_get r.cpus plan.actor ≡ Some track) where
    entry_asks : (place : ℕ) (e : Entry) → slice_get track.entries place ≡ Some e → AsksOf calls maps (entry_work plan r attached track e)
    entry_asks place (entry.Lost time count) there = (emit track.number count, λ reply kind. tt)
    entry_asks place (entry.Event e) there =
        let at : entry_at_place r plan.actor place ≡ Some (entry.Event e) = ap (λ o. option_and_then (λ (c : CpuTrack). slice_get c.entries place) o) placed ∙ there in
        let has = recorded_format r plan.actor place e valid at in
        in_turn_asks (event_context r track e) e.payload has.format.layout.size (slice_index_or attached.by_format e.format []) refl has.long
        (recursion_from_All (IsBodyFor plan has.format.layout.size) (slice_index_or attached.by_format e.format []) (bodies.by_format e.format has.format has.placed))

    tick_asks : (place : ℕ) (t : Tick) → slice_get attached.ticks place ≡ Some t → AsksOf calls maps (tick_work plan r attached track place t)
    tick_asks place t there =
        let fits = all_at (λ (u : Tick). IsBodyFor plan 0 u.body) attached.ticks place t (recursion_from_All (λ (u : Tick). IsBodyFor plan 0 u.body) attached.ticks bodies.ticks) there in
        asks_then calls maps (crosses_last place) (λ last. if last then plan.run t.body (tick_context r track t) [] else Ended 0) (cross place (slice_get_within attached.ticks place t there), λ reply kind. tt) (λ last. at_last last fits)
      where
        at_last : (last : Bool) → IsBodyFor plan 0 t.body → AsksOf calls maps (if last then plan.run t.body (tick_context r track t) [] else Ended 0)
        at_last true fits = runs t.body (tick_context r track t) [] (record { known = fits.0; long = fits.1; counted = refl })
        at_last false fits = tt

    item_asks : (i : AgendaItem) → AsksOf calls maps (item_work plan r attached track i)
    item_asks (item.Tick place) = where_asks calls maps (tick_work plan r attached track place) (slice_get attached.ticks place) (tick_asks place)
    item_asks (item.Event place) = where_asks calls maps (entry_work plan r attached track) (slice_get track.entries place) (entry_asks place)
    item_asks (item.Lost place) = where_asks calls maps (entry_work plan r attached track) (slice_get track.entries place) (entry_asks place)

    -- what follows the question whether to go on
    abbrev pub going : AgendaItem → Interaction Outcome → Bool → Interaction Outcome
    going i rest on = if on then and_then (item_work plan r attached track i) (λ count. and_then rest (λ q. Ended (after_count count q))) else Ended (record { to_end = false; instructions = 0 })

    go_asks : (i : AgendaItem) (rest : Interaction Outcome) → AsksOf calls maps rest → (on : Bool) → AsksOf calls maps (going i rest on)
    go_asks i rest h true = asks_then calls maps (item_work plan r attached track i) (λ count. and_then rest (λ q. Ended (after_count count q))) (item_asks i)
        (λ count. asks_then calls maps rest (λ q. Ended (after_count count q)) h (λ q. tt))
    go_asks i rest h false = tt

    items_ask : (exits : Bool) (is : List AgendaItem) → AsksOf calls maps (items_program exits (item_work plan r attached track) is)
    items_ask exits [] = tt
    items_ask exits (i ∷ is) = let rest = items_program exits (item_work plan r attached track) is in
        asks_then calls maps (goes_on exits) (going i rest) (goes_on_asks calls maps exits check) (go_asks i rest (items_ask exits is))

  track_asks : (exits : Bool) (o : Option CpuTrack) → slice_get r.cpus plan.actor ≡ o → AsksOf calls maps (track_program plan exits r attached o)
  track_asks exits None at = tt
  track_asks exits (Some track) at = items_ask track at exits (agenda_of r attached plan.actor)

  pub begin_asks : AsksOf calls maps (begin_program plan r attached)
  begin_asks = in_turn_asks (begin_context r) [] 0 attached.begin refl (omega arith) (recursion_from_All (IsBodyFor plan 0) attached.begin bodies.begin)

  pub end_asks : AsksOf calls maps (end_program plan r attached)
  end_asks = in_turn_asks (end_context r) [] 0 attached.end refl (omega arith) (recursion_from_All (IsBodyFor plan 0) attached.end bodies.finish)

  pub cpu_asks : (exits : Bool) → AsksOf calls maps (cpu_program plan exits r attached)
  cpu_asks exits = track_asks exits (slice_get r.cpus plan.actor) refl

  main_asks : AsksOf calls maps (main_program plan r attached)
  main_asks = asks_then calls maps (begin_program plan r attached) (λ begun. and_then (end_program plan r attached) (λ ended. Ended (record { to_end = true; instructions = begun + ended })))
      begin_asks
      (λ begun. asks_then calls maps (end_program plan r attached) (λ ended. Ended (record { to_end = true; instructions = begun + ended })) end_asks (λ ended. tt))

  pub program_asks : (exits : Bool) → AsksOf calls maps (actor_program plan exits r attached)
  unfolding actor_program
  program_asks exits = of_actor (nat_lt plan.actor (length r.cpus))
    where
      of_actor : (b : Bool) → AsksOf calls maps (if b then cpu_program plan exits r attached else main_program plan r attached)
      of_actor true = cpu_asks exits
      of_actor false = main_asks
