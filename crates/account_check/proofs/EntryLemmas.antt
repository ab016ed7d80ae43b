-- What entries give to who makes steps of them.
use Rattle.std.proofs.Common.{◌≡◌, ◌<◌, ◌+◌, ℕ, List, [], ◌∷◌, length, map, slice_index_or, refl, sym, ap, ◌∙◌, arith}
use Rattle.std.specs.Prelude.{All}
use Rattle.std.specs.List.{AllByRecursion}
use Rattle.std.proofs.lemmas.List.Elements.{All-from_recursion}
use Rattle.bt_ast.specs.declared.attached.Attached.{Attached}
use Rattle.bt_core.specs.declared.step.Op.{Op}
use Rattle.bt_core.specs.declared.step.Op.TheVariants.{Emit}
use Rattle.bt_core.specs.declared.step.Step.{Step}
use Rattle.bt_core.specs.Kinds.{IsFineDecl}
use Rattle.recordings.specs.declared.recording.Recording.{Recording}
use Rattle.typed_tree.specs.declared.script.Typed.{Typed}
use Rattle.actor_plan.specs.Plans.{Plan, TakesFew}
use Rattle.step_entries.specs.Blank.{blank, blank_op}
use Rattle.bt_meaning.specs.Jobs.{IsJob}
use Rattle.bt_meaning.specs.Walks.{walking}
use Rattle.bt_meaning.proofs.OwnCalls.{all_fine}
use Rattle.account_replay.specs.Replaying.{CanBeMade}
use Rattle.account_steps.specs.Plans.{CanFollow, HavePlans}
use Rattle.account_check.specs.declared.walks.Walks.{Walks}
use Rattle.account_check.specs.Plans.{plan_of}
use Rattle.account_format.specs.Entries.{FitsOp, FitsStep, IsEntry}
use Rattle.account_check.specs.Accounts.{named}

module _ (script : Typed) (attached : Attached) (r : Recording) where
  -- each entry can be made as a step
  pub entries_can : (entries : List Step) → AllByRecursion (IsEntry (named script attached r)) entries
      → AllByRecursion (CanBeMade (record { cpus = length r.cpus; ticks = length attached.ticks; maps = script.maps })) entries
  entries_can [] each = tt
  entries_can (s ∷ ss) each = (record { actor = (let lt = each.0.told.actor in omega arith); own = each.0.told.own }, entries_can ss each.1)

  pub entries_blank : (entries : List Step) → AllByRecursion (IsEntry (named script attached r)) entries → map blank entries ≡ entries
  entries_blank [] each = refl
  entries_blank (s ∷ ss) each = λ i. each.0.is_blank i ∷ entries_blank ss each.1 i

  pub maps_fine : All IsFineDecl script.maps
  maps_fine = All-from_recursion IsFineDecl script.maps (all_fine script.maps script.fine)

  pub can_follow : IsJob script attached r → ((actor : ℕ) → TakesFew (walking script (length r.cpus + 1) actor)) → CanFollow r attached script.maps (walking script (length r.cpus + 1))
  can_follow job few = record {
    replay = record {
      valid = job.valid;
      in_turn = job.in_turn;
      few_ticks = job.few_ticks;
      few_at_events = job.few_at_events;
      few_begin = job.few_begin;
      few_end = job.few_end;
    };
    plans_are = λ actor. record { actor_is = refl; actors = refl; served = λ number lt. refl; bodies = job.bodies actor; takes_few = few actor };
  }

-- the walks of all actors have the plans of their actors
pub have_plans : (script : Typed) (cpus n : ℕ) (plans : ℕ → Plan) → plans ≡ walking script (cpus + 1) → n ≡ cpus → (walks : List Walks) → length walks ≡ n + 1
    → ((actor : ℕ) (d : Walks) → actor < n + 1 → plan_of (slice_index_or walks actor d) ≡ walking script (n + 1) actor) → HavePlans plan_of plans cpus walks
have_plans script cpus n plans are same walks count each = record {
  count = count ∙ ap (λ k. k + 1) same;
  each = λ actor d lt. each actor d (omega arith) ∙ ap (λ k. walking script (k + 1) actor) same ∙ (λ i. sym are i actor);
}

-- ---- steps that entries tell

op_fits : (op : Op) → FitsOp (blank_op op) → FitsOp op
op_fits (Emit item) h = h
op_fits op h = h

-- they have no greater numbers
pub steps_fit : (steps : List Step) → AllByRecursion FitsStep (map blank steps) → AllByRecursion FitsStep steps
steps_fit [] h = tt
steps_fit (s ∷ ss) h = (record { actor = h.0.actor; stamp = h.0.stamp; object = h.0.object; op = op_fits s.op h.0.op }, steps_fit ss h.1)
