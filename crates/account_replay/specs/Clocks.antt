-- The clocks of actors, read off the steps so far.
use Rattle.std.specs.Prelude.{◌≡◌, ℕ, ◌+◌, ◌<◌, List, length, slice_index_or}
use Rattle.bt_core.specs.declared.step.Step.{Step}
use Rattle.bt_core.specs.Steps.{of_actor}
use Rattle.weave.specs.Lists.{greatest}
use Rattle.account_replay.specs.declared.clocks.Clocks.{Clocks}

-- of each actor up to the main one the greatest stamp of its steps, and that of all steps
pub record TellClocks (main : ℕ) (before : List Step) (clocks : Clocks) : Type 0 where
  pub count : length clocks.lasts.items ≡ main + 1
  pub each : (actor : ℕ) (d : ℕ) → actor < length clocks.lasts.items → slice_index_or clocks.lasts.items actor d ≡ greatest (of_actor actor before)
  pub top : clocks.top ≡ greatest before
