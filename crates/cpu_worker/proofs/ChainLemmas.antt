-- Traces that grow by steps of their actor.
use Rattle.std.proofs.Common.{◌≡◌, ℕ, max, ◌<◌, List, [], ◌∷◌, ◌++◌, length, refl, sym, ap, ◌∙◌, arith, append_assoc, append-nil, Result, Ok, Err, OnOk, OnErr, subst}
use Rattle.bt_core.specs.declared.memory.Memory.{Memory}
use Rattle.bt_core.specs.declared.step.ObjectId.{ObjectId}
use Rattle.bt_core.specs.declared.step.Op.{Op}
use Rattle.bt_core.specs.declared.step.Step.{Step}
use Rattle.bt_core.specs.Ports.{Setting, CanStep}
use Rattle.turn_lock.specs.History.{Each}
use Rattle.turn_lock.proofs.HistoryLemmas.{Each-snoc}
use Rattle.stamped.specs.declared.trace.Trace.{Trace}
use Rattle.stamped.specs.SetSteps.{Grows}
use Rattle.stamped.specs.Traces.{actor_of, clock_of, steps_of, floors_of, step_by, IsSame}
use Rattle.weave.specs.Lists.{greatest}
use Rattle.weave.specs.Traces.{floors_from}
use Rattle.cpu_worker.specs.Chains.{clock_after, Climbs, IsBy, Since, HasWalked}

clock_snoc : (clock : ℕ) (ss : List Step) (s : Step) → clock_after clock (ss ++ s ∷ []) ≡ s.stamp
clock_snoc clock [] s = refl
clock_snoc clock (x ∷ ss) s = clock_snoc x.stamp ss s

floors_snoc : (clock : ℕ) (ss : List Step) (s : Step) → floors_from clock (ss ++ s ∷ []) ≡ floors_from clock ss ++ clock_after clock ss ∷ []
floors_snoc clock [] s = refl
floors_snoc clock (x ∷ ss) s = ap (λ (l : List ℕ). clock ∷ l) (floors_snoc x.stamp ss s)

climbs_snoc : (clock : ℕ) (ss : List Step) (s : Step) → Climbs clock ss → clock_after clock ss < s.stamp → Climbs clock (ss ++ s ∷ [])
climbs_snoc clock [] s h lt = (lt, tt)
climbs_snoc clock (x ∷ ss) s h lt = (h.0, climbs_snoc x.stamp ss s h.1 lt)

-- where the stamps rise, the clock is the greatest of the clock at the start and of all stamps
pub climbs_greatest : (clock : ℕ) (ss : List Step) → Climbs clock ss → clock_after clock ss ≡ max clock (greatest ss)
climbs_greatest clock [] h = omega arith
climbs_greatest clock (s ∷ ss) h = let r = climbs_greatest s.stamp ss h.1 in let lt : clock < s.stamp = h.0 in omega (arith, r, lt)

no_floors : (fs : List ℕ) → length fs ≡ 0 → fs ≡ []
no_floors [] e = refl
no_floors (f ∷ fs) e = absurd (omega (arith, e))

module _ (setting : Setting) where
  pub since_start : (t : Trace) → Since setting t t
  since_start t = record { made = []; steps_grew = sym (append-nil (steps_of t)); floors_grew = sym (append-nil (floors_of t)); clock = refl; climbs = tt; by = tt }

  pub since_same : (start old new : Trace) → Since setting start old → IsSame old new → Since setting start new
  since_same start old new h e = record {
    made = h.made;
    steps_grew = e.steps ∙ h.steps_grew;
    floors_grew = e.floors ∙ h.floors_grew;
    clock = e.clock ∙ h.clock;
    climbs = h.climbs;
    by = h.by;
  }

  module _ (object : ObjectId) (op : Op) (can : CanStep setting object op) (start old new : Trace) (actor : actor_of old ≡ setting.actor) (h : Since setting start old) where
    pub since_more : Grows object op old new → Since setting start new
    since_more g = let s = step_by (actor_of old) object (clock_of new) op g.reply in
        let f : floors_of old ++ clock_of old ∷ [] ≡ floors_of start ++ floors_from (clock_of start) (h.made ++ s ∷ []) =
        (λ i. h.floors_grew i ++ h.clock i ∷ []) ∙ append_assoc (floors_of start) (floors_from (clock_of start) h.made) (clock_after (clock_of start) h.made ∷ [])
        ∙ ap (λ (z : List ℕ). floors_of start ++ z) (sym (floors_snoc (clock_of start) h.made s)) in
        let lt : clock_after (clock_of start) h.made < clock_of new = subst (λ (c : ℕ). c < clock_of new) h.clock g.clock in record {
          made = h.made ++ s ∷ [];
          steps_grew = g.steps ∙ ap (λ (z : List Step). z ++ s ∷ []) h.steps_grew ∙ append_assoc (steps_of start) h.made (s ∷ []);
          floors_grew = g.floors ∙ f;
          clock = sym (clock_snoc (clock_of start) h.made s);
          climbs = climbs_snoc (clock_of start) h.made s h.climbs lt;
          by = Each-snoc (IsBy setting) h.made s h.by (record { actor = actor; can = can });
        }

    pub since_step : {A : Type 0} (r : Result A Memory) → OnOk r (Grows object op old new) → OnErr r (IsSame old new) → Since setting start new
    since_step (Ok x) g e = since_more g
    since_step (Err x) g e = since_same start old new h e

  -- from an empty trace on
  pub since_empty : (start now : Trace) → steps_of start ≡ [] → actor_of now ≡ setting.actor → Since setting start now → HasWalked setting (clock_of start) now
  since_empty start now empty actor h =
      let none : floors_of start ≡ [] = no_floors (floors_of start) (start.paired ∙ ap length empty) in
      let made : steps_of now ≡ h.made = h.steps_grew ∙ ap (λ (l : List Step). l ++ h.made) empty in record {
        actor = actor;
        floors = h.floors_grew ∙ ap (λ (l : List ℕ). l ++ floors_from (clock_of start) h.made) none ∙ ap (floors_from (clock_of start)) (sym made);
        ends = h.clock ∙ ap (clock_after (clock_of start)) (sym made);
        climbs = subst (Climbs (clock_of start)) (sym made) h.climbs;
        by = subst (Each (IsBy setting)) (sym made) h.by;
      }
