-- The whole program of a CPU.
use Rattle.std.proofs.Common.{◌≡◌, ℕ, ◌+◌, ◌<◌, ◌≤◌, Bool, true, List, [], ◌∷◌, length, get_or, sym, ap, ◌∙◌, arith, if◌then◌else◌}
use Rattle.std.specs.Prelude.{Some, nat_lt, slice_get}
use Rattle.std.specs.List.{filter_map}
use Rattle.std.proofs.lemmas.Bool.Decides.{nat_tests}
use Rattle.std.proofs.lemmas.List.FromFn.{length-range_with_len}
use Rattle.std.proofs.lemmas.List.Sums.{get_or-le-sum_by}
use Rattle.std.proofs.lemmas.Option.{slice_get-get_or}
use Rattle.bt_ast.specs.declared.attached.Attached.{Attached}
use Rattle.bt_core.specs.declared.limits.TheConstants.{EVENTS, TICKS}
use Rattle.recordings.specs.declared.recording.CpuTrack.{CpuTrack}
use Rattle.recordings.specs.declared.recording.Recording.{Recording}
use Rattle.recordings.specs.Recordings.{IsValidRecording}
use Rattle.actor_plan.specs.declared.agenda.AgendaItem.{AgendaItem}
use Rattle.actor_plan.specs.declared.agenda.AgendaItem.TheVariants as item
use Rattle.actor_plan.specs.Agendas.{AreInTurn, agenda_of, entries_of, entries_on_track, tick_place, entry_place}
use Rattle.actor_plan.specs.Plans.{Plan}
use Rattle.actor_plan.specs.Programs.{actor_program, cpu_program, main_program, item_work, items_program, track_program}
use Rattle.actor_plan.proofs.AgendaFacts.{agenda_holds}

two_kinds : (xs : List AgendaItem) → length xs ≡ length (filter_map tick_place xs) + length (filter_map entry_place xs)
two_kinds [] = omega arith
two_kinds (item.Tick p ∷ xs) = let rest = two_kinds xs in omega (arith, rest)
two_kinds (item.Event p ∷ xs) = let rest = two_kinds xs in omega (arith, rest)
two_kinds (item.Lost p ∷ xs) = let rest = two_kinds xs in omega (arith, rest)

pub few_items : (r : Recording) (attached : Attached) (cpu : ℕ) → IsValidRecording r → AreInTurn attached.ticks → cpu < length r.cpus → length attached.ticks ≤ TICKS → length (agenda_of r attached cpu) ≤ EVENTS + TICKS
few_items r attached cpu valid turn lt few =
    let d : CpuTrack = record { number = 0; entries = [] } in
    let is = agenda_holds r attached cpu valid turn lt in
    let ticks = ap length is.ticks_are ∙ length-range_with_len 0 (length attached.ticks) in
    let all_entries = ap length is.entries_are ∙ length-range_with_len 0 (length (entries_of r cpu)) in
    let there : length (entries_of r cpu) ≡ length (get_or r.cpus cpu d).entries = ap (λ o. length (entries_on_track o)) (slice_get-get_or r.cpus cpu d lt) in
    let one = get_or-le-sum_by (λ (c : CpuTrack). length c.entries) r.cpus cpu d lt in
    let most = valid.cpus.few in
    let parts = two_kinds (agenda_of r attached cpu) in
    omega (arith, ticks, all_entries, there, one, most, parts, few)

pub on_track : (r : Recording) (cpu actor : ℕ) (track : CpuTrack) → actor ≡ cpu → cpu < length r.cpus → track ≡ get_or r.cpus cpu track → slice_get r.cpus actor ≡ Some track
on_track r cpu actor track is lt at = ap (slice_get r.cpus) is ∙ slice_get-get_or r.cpus cpu track lt ∙ ap (λ t. Some t) (sym at)

below : (a b : ℕ) → a < b → nat_lt a b ≡ true
below a b h = grind (arith, nat_tests)

pub cpu_is : (plan : Plan) (exits : Bool) (r : Recording) (attached : Attached) (cpu : ℕ) (track : CpuTrack) → plan.actor ≡ cpu → cpu < length r.cpus → slice_get r.cpus plan.actor ≡ Some track
    → items_program exits (item_work plan r attached track) (agenda_of r attached cpu) ≡ actor_program plan exits r attached
unfolding actor_program
cpu_is plan exits r attached cpu track is lt at =
    let low : plan.actor < length r.cpus = omega arith in
    sym (ap (λ b. if b then cpu_program plan exits r attached else main_program plan r attached) (below plan.actor (length r.cpus) low)
    ∙ ap (track_program plan exits r attached) at
    ∙ ap (λ n. items_program exits (item_work plan r attached track) (agenda_of r attached n)) is)
