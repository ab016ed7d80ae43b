-- What can be run of a script that can be run over a recording.
use Rattle.std.proofs.Common.{◌≡◌, ℕ, ◌+◌, length, refl, sym, subst}
use Rattle.bt_ast.specs.declared.attached.Attached.{Attached}
use Rattle.recordings.specs.declared.recording.Recording.{Recording}
use Rattle.typed_tree.specs.declared.script.Typed.{Typed}
use Rattle.actor_plan.specs.Plans.{Plan, TakesFew}
use Rattle.actor_plan.specs.Ready.{CanReplay, IsPlanFor}
use Rattle.bt_meaning.specs.Jobs.{IsJob}
use Rattle.bt_meaning.specs.Walks.{walking}

module _ (typed : Typed) (attached : Attached) (r : Recording) (is : IsJob typed attached r) where
  -- the recording can be replayed
  pub can_replay : CanReplay r attached
  can_replay = record {
    valid = is.valid;
    in_turn = is.in_turn;
    few_ticks = is.few_ticks;
    few_at_events = is.few_at_events;
    few_begin = is.few_begin;
    few_end = is.few_end;
  }

  walks_are : (actor : ℕ) → TakesFew (walking typed (length r.cpus + 1) actor) → IsPlanFor r attached typed.maps actor (walking typed (length r.cpus + 1) actor)
  walks_are actor few = record {
    actor_is = refl;
    actors = refl;
    served = λ number low. refl;
    bodies = record { by_format = (is.bodies actor).by_format; ticks = (is.bodies actor).ticks; begin = (is.bodies actor).begin; finish = (is.bodies actor).finish };
    takes_few = few;
  }

  -- the walks of its bodies can be run by each actor
  pub walks_fit : (actor : ℕ) (plan : Plan) → plan ≡ walking typed (length r.cpus + 1) actor → TakesFew (walking typed (length r.cpus + 1) actor) → IsPlanFor r attached typed.maps actor plan
  walks_fit actor plan by few = subst (IsPlanFor r attached typed.maps actor) (sym by) (walks_are actor few)
