-- The totals of the script over a made recording have few keys.
use Rattle.std.proofs.Common.{◌≡◌, ℕ, zero, suc, ◌+◌, ◌≤◌, ◌++◌, Bool, true, false, List, [], ◌∷◌, length, refl, ap, sym, subst, ◌∙◌, arith}
use Rattle.std.specs.Prelude.{ℤ, map, cond, ◌==◌, ◌%◌, pos, not, ◌&&◌, ◌-◌, ◌*◌, slice_get, slice_index_or}
use Rattle.std.specs.List.{AllByRecursion, flat_map, filter}
use Rattle.std.specs.List.Sorted.{ties}
use Rattle.std.specs.Ordering.{nat_cmp, is_lt}
use Rattle.std.specs.Cmp.{nat_cmp_is}
use Rattle.std.proofs.Common.{Ordering}
use Rattle.std.proofs.lemmas.List.{length-map}
use Rattle.std.specs.declared.cmp.Ordering.TheVariants.{Equal}
use Rattle.bt_core.specs.declared.limits.TheConstants.{KEYS}
use Rattle.bt_core.specs.declared.map.MapId.{MapId}
use Rattle.bt_core.specs.declared.value.Value.{Value}
use Rattle.bt_core.specs.declared.value.Value.TheVariants.{Str}
use Rattle.bt_core.specs.declared.ending.Ending.{Ending}
use Rattle.bt_core.specs.Interaction.{Interaction, Ended, and_then}
use Rattle.bt_core.specs.Text.{short_text}
use Rattle.bt_ast.specs.declared.attached.Attached.{Attached}
use Rattle.bt_ast.specs.declared.attached.BodyId.{BodyId}
use Rattle.bt_ast.specs.declared.attached.BodyPoint.TheVariants as points
use Rattle.bt_ast.specs.declared.attached.Tick.{Tick}
use Rattle.bt_attach.specs.Attaching.{IsAttachedTo, bodies_from, bodies_at, at_each, ticks_from}
use Rattle.bt_attach.specs.Ticks.{AreInOrder}
use Rattle.event_layout.specs.declared.format.Format.{Format}
use Rattle.recordings.specs.declared.recording.CpuTrack.{CpuTrack}
use Rattle.recordings.specs.declared.recording.Entry.{Entry}
use Rattle.recordings.specs.declared.recording.Entry.TheVariants as entry
use Rattle.recordings.specs.declared.recording.Event.{Event}
use Rattle.recordings.specs.declared.recording.Recording.{Recording}
use Rattle.rec_gen.specs.Draws.{drawn_at}
use Rattle.rec_gen.specs.Made.{IsMade, name_of, made_event, events_on, made_tracks}
use Rattle.event_record.specs.Fields.{field_number}
use Rattle.typed_tree.specs.declared.body.TypedBody.{TypedBody}
use Rattle.typed_tree.specs.declared.script.Typed.{Typed}
use Rattle.agg_core.specs.Answers.{agg_kind_in}
use Rattle.actor_plan.specs.Contexts.{begin_context, end_context, event_context}
use Rattle.actor_plan.specs.Programs.{entry_work, event_work, in_turn}
use Rattle.bt_meaning.specs.Replays.{begin_of, end_of}
use Rattle.bt_meaning.specs.Totals.{Addition, addition_keys, adds_of, events_add, ticks_add, all_adds, total_rows, totals}
use Rattle.bt_meaning.specs.Walks.{replay_of, walking, walked}
use Rattle.rec_gen.proofs.Attach.{the_bodies}
use Rattle.rec_gen.proofs.Body.{IsBody}
use Rattle.rec_gen.proofs.Grammar.{the_tree}
use Rattle.rec_gen.proofs.Keys.{IsKey, HaveKeys, few_keys}
use Rattle.rec_gen.proofs.MadeFormat.{formats_are}
use Rattle.rec_gen.proofs.Walked.{three_adds, walk_is}

-- ---- lists

both : (xs ys : List Addition) → HaveKeys xs → HaveKeys ys → HaveKeys (xs ++ ys)
both [] ys h g = g
both (x ∷ xs) ys h g = (h.0, both xs ys h.1 g)

if_added : (b : Bool) (key : List Value) (number : ℤ) → IsKey key → HaveKeys (cond b ((key, number) ∷ []) [])
if_added true key number h = (h, tt)
if_added false key number h = tt

empty_key : IsKey []
empty_key = (0, omega arith, refl)

name_is : (n : ℕ) → IsKey (Str (short_text (name_of n)) ∷ [])
name_is zero = (1, omega arith, refl)
name_is (suc zero) = (4, omega arith, refl)
name_is (suc (suc zero)) = (2, omega arith, refl)
name_is (suc (suc (suc n))) = (3, omega arith, refl)

-- ---- one event

pub record IsOurs (e : Event) : Type 0 where
  pub format : e.format ≡ 0
  pub key : IsKey (Str (short_text e.comm) ∷ [])

-- an entry that is such an event
abbrev IsOurEntry : Entry → Type 0
IsOurEntry (entry.Event e) = IsOurs e
IsOurEntry (entry.Lost time count) = ⊥

module _ (r : Recording) (attached : Attached) (typed : Typed) (body : TypedBody) (one : typed.bodies ≡ body ∷ []) (is : IsBody body.tree) (by_format : attached.by_format ≡ (0 ∷ []) ∷ []) where
  abbrev around : Interaction Ending → Interaction ℕ
  around w = and_then (and_then w (λ ending. Ended 0)) (λ count. and_then (Ended 0) (λ rest. Ended (count + rest)))

  event_is : (actors cpu : ℕ) (track : CpuTrack) (e : Event) → e.format ≡ 0 → event_work (walking typed actors cpu) r attached track e
      ≡ three_adds cpu is.first is.second is.third (short_text e.comm) (field_number is.one e.payload) (field_number is.two e.payload) 0
  event_is actors cpu track e format =
      (λ i. in_turn (λ (b : ℕ). walked (slice_get (one i) b) (event_context r track e) e.payload cpu actors) (slice_index_or (by_format i) (format i) []))
      ∙ ap around (walk_is body is (event_context r track e) e.payload cpu actors)

  event_keys : (actors cpu : ℕ) (m : MapId) (track : CpuTrack) (e : Event) → IsOurs e → HaveKeys (adds_of m (event_work (walking typed actors cpu) r attached track e))
  event_keys actors cpu m track e ours =
      let one_key = if_added (m.0 == is.first.0) (Str (short_text e.comm) ∷ []) (pos 1) ours.key in
      let two_key = if_added (m.0 == is.second.0) [] (field_number is.one e.payload) empty_key in
      let three_key = if_added (m.0 == is.third.0) [] (field_number is.two e.payload) empty_key in
      subst (λ (w : Interaction ℕ). HaveKeys (adds_of m w)) (sym (event_is actors cpu track e ours.format))
      (both _ _ one_key (both _ _ two_key (both _ _ three_key tt)))

  added_keys : (actors cpu : ℕ) (m : MapId) (track : CpuTrack) (e : Entry) → IsOurEntry e → HaveKeys (adds_of m (entry_work (walking typed actors cpu) r attached track e))
  added_keys actors cpu m track (entry.Event e) ours = event_keys actors cpu m track e ours
  added_keys actors cpu m track (entry.Lost time count) ours = absurd ours

  track_keys : (actors cpu : ℕ) (m : MapId) (track : CpuTrack) (es : List Entry) → AllByRecursion IsOurEntry es
      → HaveKeys (flat_map (λ (e : Entry). adds_of m (entry_work (walking typed actors cpu) r attached track e)) es)
  track_keys actors cpu m track [] all = tt
  track_keys actors cpu m track (e ∷ es) all = both _ _ (added_keys actors cpu m track e all.0) (track_keys actors cpu m track es all.1)

  events_keys : (m : MapId) (cpu : ℕ) (tracks : List CpuTrack) → AllByRecursion (λ (t : CpuTrack). AllByRecursion IsOurEntry t.entries) tracks
      → HaveKeys (events_add (replay_of typed attached r) m cpu tracks)
  events_keys m cpu [] all = tt
  events_keys m cpu (t ∷ tracks) all = both _ _ (track_keys (length r.cpus + 1) cpu m t t.entries all.0) (events_keys m (cpu + 1) tracks all.1)

  all_keys : (m : MapId) (named : ℕ → ℕ) → attached.begin ≡ [] → attached.end ≡ [] → attached.ticks ≡ [] → AllByRecursion (λ (t : CpuTrack). AllByRecursion IsOurEntry t.entries) r.cpus
      → HaveKeys (all_adds (replay_of typed attached r) m named)
  all_keys m named begin finish ticks all =
      let p = replay_of typed attached r in
      let plan = walking typed (length r.cpus + 1) (length r.cpus) in
      let first : adds_of m (begin_of p) ≡ [] = λ i. adds_of m (in_turn (λ (b : ℕ). plan.run b (begin_context r) []) (begin i)) in
      let last : adds_of m (end_of p) ≡ [] = λ i. adds_of m (in_turn (λ (b : ℕ). plan.run b (end_context r) []) (finish i)) in
      let none : ticks_add p m named 0 attached.ticks ≡ [] = λ i. ticks_add p m named 0 (ticks i) in
      both (adds_of m (begin_of p)) _ (subst HaveKeys (sym first) tt)
      (both (events_add p m 0 r.cpus) _ (events_keys m 0 r.cpus all)
      (both (ticks_add p m named 0 attached.ticks) _ (subst HaveKeys (sym none) tt) (subst HaveKeys (sym last) tt)))

-- ---- made events

ours_end : (b : Bool) (es : List Event) (e : Event) → AllByRecursion IsOurs es → IsOurs e → AllByRecursion IsOurs (es ++ cond b (e ∷ []) [])
ours_end true [] e all here = (here, tt)
ours_end false [] e all here = tt
ours_end b (f ∷ es) e all here = (all.0, ours_end b es e all.1 here)

ours_on : (seed cpu n : ℕ) → AllByRecursion IsOurs (events_on seed cpu n)
ours_on seed cpu zero = tt
ours_on seed cpu (suc n) = ours_end (n % 4 == cpu) (events_on seed cpu n) (made_event seed n) (ours_on seed cpu n) (record { format = refl; key = name_is (drawn_at seed (3 * n) % 4) })

entries_ours : (es : List Event) → AllByRecursion IsOurs es → AllByRecursion IsOurEntry (map (λ e. entry.Event e) es)
entries_ours [] all = tt
entries_ours (e ∷ es) all = (all.0, entries_ours es all.1)

ours_of : (seed cpu count : ℕ) → AllByRecursion IsOurEntry (map (λ e. entry.Event e) (events_on seed cpu count))
ours_of seed cpu count = entries_ours (events_on seed cpu count) (ours_on seed cpu count)

ours : (seed count : ℕ) → AllByRecursion (λ (t : CpuTrack). AllByRecursion IsOurEntry t.entries) (made_tracks seed count 4)
ours seed count = (ours_of seed 0 count, (ours_of seed 1 count, (ours_of seed 2 count, (ours_of seed 3 count, tt))))

-- ---- what is attached

ties_own : (t : Tick) → ties (λ (x y : Tick). is_lt (nat_cmp x.time y.time)) t t ≡ true
ties_own t = let e : Equal ≡ nat_cmp t.time t.time = nat_cmp_is t.time t.time Equal refl in ap (λ (o : Ordering). not (is_lt o) && not (is_lt o)) (sym e)

no_ticks : (ticks : List Tick) → AreInOrder [] ticks → ticks ≡ []
no_ticks [] h = refl
no_ticks (t ∷ ts) h =
    let lt : Tick → Tick → Bool = λ x y. is_lt (nat_cmp x.time y.time) in
    let none : filter (ties lt t) (t ∷ ts) ≡ [] = h.by_point t in
    let some : filter (ties lt t) (t ∷ ts) ≡ t ∷ filter (ties lt t) ts = ap (λ (b : Bool). cond b (t ∷ filter (ties lt t) ts) (filter (ties lt t) ts)) (ties_own t) in
    let clash : t ∷ filter (ties lt t) ts ≡ [] = sym some ∙ none in absurd (cc (clash))

pub few : (seed count : ℕ) (r : Recording) → IsMade seed count r → (typed : Typed) (body : TypedBody) → typed.bodies ≡ body ∷ [] → IsBody body.tree
    → (attached : Attached) → IsAttachedTo the_tree r.formats r.start r.end attached → (m : MapId) (named : ℕ → ℕ) → length (totals (replay_of typed attached r) m named) ≤ KEYS
unfolding totals
few seed count r made typed body one is attached to m named =
    let formats = formats_are seed count r made in
    let bodies : attached.bodies ≡ the_bodies = to.bodies ∙ ap (λ (l : List Format). bodies_from l 0 the_tree.probes) formats in
    let by_format : attached.by_format ≡ (0 ∷ []) ∷ [] = to.by_format ∙ (λ i. at_each (bodies i) (length (formats i))) in
    let begin : attached.begin ≡ [] = to.begin ∙ ap (λ (l : List BodyId). bodies_at l points.Begin) bodies in
    let finish : attached.end ≡ [] = to.finish ∙ ap (λ (l : List BodyId). bodies_at l points.End) bodies in
    let in_order : AreInOrder [] attached.ticks = subst (λ (l : List Format). AreInOrder (ticks_from r.start (r.end - r.start) l 0 the_tree.probes) attached.ticks) formats to.ticks in
    let ticks : attached.ticks ≡ [] = no_ticks attached.ticks in_order in
    let all = subst (λ (l : List CpuTrack). AllByRecursion (λ (t : CpuTrack). AllByRecursion IsOurEntry t.entries) l) (sym made.cpus) (ours seed count) in
    let keys = all_keys r attached typed body one is by_format m named begin finish ticks all in
    rows (all_adds (replay_of typed attached r) m named) keys
  where
    rows : (es : List Addition) → HaveKeys es → length (total_rows (agg_kind_in typed.maps m) es) ≤ KEYS
    rows es keys =
        let most = few_keys es keys in
        let same : length (total_rows (agg_kind_in typed.maps m) es) ≡ length (addition_keys es) = length-map (addition_keys es) _ in
        omega (arith, most, same)
