-- Bodies of actors and the plans that they tell.
use Rattle.std.specs.Prelude.{◌≡◌, ℕ, ◌<◌, List, length, slice_index_or}
use Rattle.actor_plan.specs.Plans.{Plan}

-- there are bodies for each actor, which tell its plan
pub record HavePlans {B : Type 0} (plan_of : B → Plan) (actors : ℕ) (plans : ℕ → Plan) (bodies : List B) : Type 0 where
  pub count : length bodies ≡ actors
  pub each : (actor : ℕ) (d : B) → actor < length bodies → plan_of (slice_index_or bodies actor d) ≡ plans actor
