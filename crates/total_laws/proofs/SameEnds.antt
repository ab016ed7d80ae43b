-- Where no body of a tick uses `cpu`, the totals do not depend on who runs the ticks.
use Rattle.std.proofs.Common.{◌≡◌, ℕ, suc, ◌+◌, ◌<◌, ◌≤◌, List, [], ◌∷◌, ◌++◌, length, refl, sym, ap, ◌∙◌, subst, inr, arith}
use Rattle.std.specs.Prelude.{slice_get, Some, All}
use Rattle.std.proofs.lemmas.Option.{slice_get_within}
use Rattle.bt_ast.specs.declared.attached.Attached.{Attached}
use Rattle.bt_ast.specs.declared.attached.Tick.{Tick}
use Rattle.bt_core.specs.declared.limits.TheConstants.{KEYS}
use Rattle.bt_core.specs.declared.map.MapId.{MapId}
use Rattle.bt_core.specs.declared.step.Step.{Step}
use Rattle.recordings.specs.declared.recording.Recording.{Recording}
use Rattle.typed_tree.specs.declared.body.TypedBody.{TypedBody}
use Rattle.typed_tree.specs.declared.script.Typed.{Typed}
use Rattle.typed_tree.specs.Bodies.{tree_parts}
use Rattle.agg_core.specs.Answers.{agg_kind_in}
use Rattle.actor_plan.specs.Contexts.{tick_context}
use Rattle.bt_meaning.specs.Interleavings.{IsInterleaving}
use Rattle.bt_meaning.specs.Jobs.{IsJob}
use Rattle.bt_meaning.specs.Replays.{Replay, begin_of, end_of}
use Rattle.bt_meaning.specs.Totals.{Addition, IsAggregationOnly, adds_of, tick_adds, events_add, ticks_add, all_adds, total_rows, totals, who}
use Rattle.bt_meaning.specs.Walks.{replay_of, walked}
use Rattle.total_laws.specs.Ends.{UsesNoCpu, TicksUseNoCpu, IsAddingRun, EndsWithSameMaps, HaveFewKeys, all_totals}
use Rattle.total_laws.proofs.Adding.{gives_adds}
use Rattle.total_laws.proofs.Exact.{decided}
use Rattle.total_laws.proofs.MapEnds.{maps_same, rows_end, ends}
use Rattle.total_laws.proofs.Own.{there_is}
use Rattle.total_laws.proofs.Scripts.{all_there, runs_add}

module _ (script : Typed) (attached : Attached) (r : Recording) (job : IsJob script attached r) (only : IsAggregationOnly script) (same_cpu : TicksUseNoCpu script attached) where
  abbrev p : Replay
  p = replay_of script attached r

  abbrev n : ℕ
  n = length r.cpus

  module _ (m : MapId) where
    -- a tick adds the same on every CPU
    tick_same : (t : Tick) (place : ℕ) → slice_get attached.ticks place ≡ Some t → (a b : ℕ) → a < n → b < n
        → tick_adds p m t a (slice_get r.cpus a) ≡ tick_adds p m t b (slice_get r.cpus b)
    tick_same t place there a b la lb =
        let ta = there_is r.cpus a la in let tb = there_is r.cpus b lb in
        let no_cpu = all_there (λ (u : Tick). (body : TypedBody) → slice_get script.bodies u.body ≡ Some body → All UsesNoCpu (tree_parts body.tree)) attached.ticks same_cpu place t there in
        let x = runs_add script only m (tick_context r ta.0 t) (tick_context r tb.0 t)
        (record { time = refl; start = refl; pid = refl; tid = refl; uid = refl; gid = refl; comm = refl }) [] a b (n + 1) t.body
        (slice_get script.bodies t.body) refl (λ body e. inr (no_cpu body e)) in
        ap (tick_adds p m t a) ta.1
        ∙ gives_adds m a x.entries (λ count. Unit {0}) (walked (slice_get script.bodies t.body) (tick_context r ta.0 t) [] a (n + 1)) x.first
        ∙ sym (gives_adds m b x.entries (λ count. Unit {0}) (walked (slice_get script.bodies t.body) (tick_context r tb.0 t) [] b (n + 1)) x.second)
        ∙ sym (ap (tick_adds p m t b) tb.1)

    ticks_same : (one other : ℕ → ℕ) (place : ℕ) (ts : List Tick)
        → ((i : ℕ) (t : Tick) → slice_get ts i ≡ Some t
        → tick_adds p m t (one (place + i)) (slice_get r.cpus (one (place + i))) ≡ tick_adds p m t (other (place + i)) (slice_get r.cpus (other (place + i))))
        → ticks_add p m one place ts ≡ ticks_add p m other place ts
    ticks_same one other place [] same = refl
    ticks_same one other place (t ∷ ts) same =
        let here : place + 0 ≡ place = omega arith in
        let first : tick_adds p m t (one place) (slice_get r.cpus (one place)) ≡ tick_adds p m t (other place) (slice_get r.cpus (other place)) =
        subst (λ (k : ℕ). tick_adds p m t (one k) (slice_get r.cpus (one k)) ≡ tick_adds p m t (other k) (slice_get r.cpus (other k))) here (same 0 t refl) in
        let rest = ticks_same one other (place + 1) ts (λ i u there.
        let e : place + suc i ≡ place + 1 + i = omega arith in
        subst (λ (k : ℕ). tick_adds p m u (one k) (slice_get r.cpus (one k)) ≡ tick_adds p m u (other k) (slice_get r.cpus (other k))) e (same (suc i) u there)) in
        λ i. first i ++ rest i

    module _ (steps others : List Step) (it : IsInterleaving p steps) (that : IsInterleaving p others) where
      adds_same : all_adds p m (who steps) ≡ all_adds p m (who others)
      adds_same = ap (λ (l : List Addition). adds_of m (begin_of p) ++ (events_add p m 0 r.cpus ++ (l ++ adds_of m (end_of p))))
          (ticks_same (who steps) (who others) 0 attached.ticks (λ i t there.
          let low = slice_get_within attached.ticks i t there in
          let below : 0 + i < length attached.ticks = omega arith in
          tick_same t i there (who steps (0 + i)) (who others (0 + i))
          (decided script attached r job only m steps it (0 + i) below).1 (decided script attached r job only m others that (0 + i) below).1))

      totals_same : totals p m (who steps) ≡ totals p m (who others)
      unfolding totals
      totals_same = ap (total_rows (agg_kind_in script.maps m)) adds_same

pub same_ends : (script : Typed) (attached : Attached) (r : Recording) (steps others : List Step) → IsAddingRun script attached r steps → TicksUseNoCpu script attached
    → IsInterleaving (replay_of script attached r) others → EndsWithSameMaps script attached r steps others
same_ends script attached r steps others run same_cpu that =
    let p = replay_of script attached r in
    let same : (m : MapId) → totals p m (who steps) ≡ totals p m (who others) =
    λ m. totals_same script attached r run.job run.only_adds same_cpu m steps others run.interleaving that in
    let few : HaveFewKeys p others = λ m low. subst (λ rows. length rows ≤ KEYS) (same m) (run.few_keys m low) in
    let other : IsAddingRun script attached r others = record { job = run.job; only_adds = run.only_adds; interleaving = that; few_keys = few } in
    let all : all_totals p others ≡ all_totals p steps =
    maps_same (λ m decl. totals p m (who others)) (λ m decl. totals p m (who steps)) 0 script.maps (λ i decl there. sym (same (record { 0 = 0 + i }))) in
    record {
      ends = ends script attached r others other;
      same = rows_end script attached r others other ∙ all ∙ sym (rows_end script attached r steps run);
    }
