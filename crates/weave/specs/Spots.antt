-- Steps by the spots where they lie in lists.
use Rattle.std.specs.Prelude.{◌≡◌, List, Option, Some, map, slice_get}
use Rattle.std.specs.List.{filter_map}
use Rattle.std.specs.Option.{option_and_then}
use Rattle.bt_core.specs.declared.step.Step.{Step}
use Rattle.step_list.specs.declared.list.StepList.{StepList}
use Rattle.step_list.specs.Lists.{steps_in}
use Rattle.weave.specs.declared.spots.Spot.{Spot}

-- the step at a spot, if one lies there
abbrev pub step_at : List StepList → Spot → Option Step
step_at lists spot = option_and_then (λ list. slice_get (steps_in list) spot.place) (slice_get lists spot.list)

-- the steps at these spots
abbrev pub steps_at : List StepList → List Spot → List Step
steps_at lists spots = filter_map (step_at lists) spots

-- at each of them lies a step
abbrev pub AreSpots : List StepList → List Spot → Type 0
AreSpots lists spots = map (step_at lists) spots ≡ map Some (steps_at lists spots)
