-- Spots with what their steps are put in order by. No public contract speaks of it.
use Rattle.std.specs.Prelude.{ℕ, suc, Bool, Option, None, Some, List, [], ◌∷◌, ◌++◌}
use Rattle.std.specs.Ordering.{is_lt, nat_cmp, ordering_then}
use Rattle.bt_core.specs.declared.step.Step.{Step}
use Rattle.bt_core.specs.Order.{object_order}
use Rattle.step_list.specs.declared.list.StepList.{StepList}
use Rattle.step_list.specs.Lists.{steps_in}
use Rattle.weave.specs.declared.spots.Keyed.{Keyed}

abbrev pub keyed_step : ℕ → ℕ → Step → Keyed
keyed_step list place s = record { stamp = s.stamp; object = s.object; spot = record { list = list; place = place } }

-- the spot of the step at a place, if there is one
abbrev pub keyed_at : ℕ → ℕ → Option Step → List Keyed
keyed_at list place None = []
keyed_at list place (Some s) = keyed_step list place s ∷ []

-- the spots of steps of a list from a place on
abbrev pub keyed_from : ℕ → ℕ → List Step → List Keyed
keyed_from list place [] = []
keyed_from list place (s ∷ ss) = keyed_step list place s ∷ keyed_from list (suc place) ss

-- the spots of lists from a number on, one list after the other
abbrev pub keyed_lists : ℕ → List StepList → List Keyed
keyed_lists list [] = []
keyed_lists list (l ∷ ls) = keyed_from list 0 (steps_in l) ++ keyed_lists (suc list) ls

abbrev pub keyed_before : Keyed → Keyed → Bool
keyed_before k l = is_lt (ordering_then (nat_cmp k.stamp l.stamp) (object_order k.object l.object))
