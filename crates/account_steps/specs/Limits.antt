-- How far a written list can be made.
use Rattle.std.specs.Prelude.{ℕ, ◌≤◌, ◌<◌, List, length, take, slice_index_or}
use Rattle.bt_core.specs.declared.step.Step.{Step}
use Rattle.bt_meaning.specs.Replays.{Replay}
use Rattle.begun_meaning.specs.Wrong.{NoneFollows}

-- the list goes no further than to this place, or ends there
pub record IsLimit (p : Replay) (list : List Step) (place : ℕ) : Type 0 where
  pub within : place ≤ length list
  pub none : (d : Step) → place < length list → NoneFollows p (take place list) (slice_index_or list place d)
