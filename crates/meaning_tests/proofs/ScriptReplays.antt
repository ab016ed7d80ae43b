-- A typed script that counts is the runs of bodies that are written out.
use Rattle.std.proofs.Common.{◌≡◌, ℕ, zero, suc, List, [], ◌∷◌, map, refl, ap, ◌∙◌}
use Rattle.std.specs.Prelude.{slice_get}
use Rattle.bt_core.specs.declared.context.Context.{Context}
use Rattle.bt_core.specs.declared.ending.Ending.{Ending}
use Rattle.bt_core.specs.Interaction.{Interaction, Ended, and_then}
use Rattle.typed_tree.specs.declared.body.TypedBody.{TypedBody}
use Rattle.typed_tree.specs.declared.script.Typed.{Typed}
use Rattle.typed_tree.specs.declared.stmt.TypedStmt.{TypedStmt}
use Rattle.walk_meaning.specs.Walk.{walk}
use Rattle.walk_meaning.specs.Served.{least_length}
use Rattle.bt_meaning.specs.Walks.{replay_of, walked}
use Rattle.meaning_tests.specs.Bodies.{clear_statement, print_statement}
use Rattle.meaning_tests.specs.Intervals.{replaying, runs_of, two_cpus, two_ticks}
use Rattle.meaning_tests.specs.Scripts.{IsCounting}
use Rattle.meaning_tests.specs.Written.{clears, counts_one, prints}
use Rattle.meaning_tests.proofs.Walking.{count_walk, print_and_clear_walk, print_walk}

abbrev pub sizes_of : Typed → List ℕ
sizes_of script = map (λ (body : TypedBody). least_length body.layout) script.bodies

-- the walk of a body, which executes no instructions
abbrev plain : Interaction Ending → Interaction ℕ
plain t = and_then t (λ ending. Ended 0)

module _ (statements : List TypedStmt) (t : Interaction Ending) (script : Typed) (has : IsCounting statements script)
    (walks : (context : Context) (payload : List ℕ) (actor : ℕ) → walk has.tick_body context payload actor 3 ≡ t) where
  by_body : (actor body : ℕ) (context : Context) (payload : List ℕ)
      → walked (slice_get (has.event_body ∷ has.tick_body ∷ []) body) context payload actor 3 ≡ runs_of (counts_one actor [] 0) (plain t) body
  by_body actor zero context payload = ap plain (count_walk has.event_body context payload actor 3 has.at_events)
  by_body actor (suc zero) context payload = ap plain (walks context payload actor)
  by_body actor (suc (suc body)) context payload = refl

  run_is : (actor body : ℕ) (context : Context) (payload : List ℕ)
      → walked (slice_get script.bodies body) context payload actor 3 ≡ runs_of (counts_one actor [] 0) (plain t) body
  run_is actor body context payload = ap (λ (l : List TypedBody). walked (slice_get l body) context payload actor 3) has.bodies ∙ by_body actor body context payload

  same_replay : replay_of script two_ticks two_cpus ≡ replaying (sizes_of script) 0 (plain t)
  same_replay = λ i. record {
    recording = two_cpus;
    attached = two_ticks;
    exits = has.no_exit i;
    maps = has.maps i;
    plan = λ actor. record {
      actor = actor;
      actors = 3;
      maps = has.maps i;
      sizes = sizes_of script;
      run = λ body context payload. run_is actor body context payload i;
    };
  }

pub printing_script : (script : Typed) → IsCounting (print_statement ∷ []) script → replay_of script two_ticks two_cpus ≡ replaying (sizes_of script) 0 (prints 3 (Ended 0))
printing_script script has = same_replay (print_statement ∷ []) (prints 3 (Ended _)) script has
    (λ context payload actor. print_walk has.tick_body context payload actor has.at_ticks has.declared)

pub clearing_script : (script : Typed) → IsCounting (print_statement ∷ clear_statement ∷ []) script → replay_of script two_ticks two_cpus ≡ replaying (sizes_of script) 0 (prints 3 (clears 3 0))
clearing_script script has = same_replay (print_statement ∷ clear_statement ∷ []) (prints 3 (clears 3 _)) script has
    (λ context payload actor. print_and_clear_walk has.tick_body context payload actor has.at_ticks has.declared)
