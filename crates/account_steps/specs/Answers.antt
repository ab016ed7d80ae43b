-- What is found of entries.
use Rattle.std.specs.Prelude.{◌≡◌, List, map}
use Rattle.bt_core.specs.declared.step.Step.{Step}
use Rattle.bt_meaning.specs.Interleavings.{IsReplayed}
use Rattle.bt_meaning.specs.Prints.{lost_after, of_maps, rows_after}
use Rattle.bt_meaning.specs.Replays.{Replay, cpus_of}
use Rattle.map_rows.specs.Fits.{AllRowsFit}
use Rattle.step_entries.specs.Blank.{blank}
use Rattle.begun_meaning.specs.Wrong.{IsWrongStep, IsUnfinished}
use Rattle.account_steps.specs.declared.check.Checked.{Checked}
use Rattle.account_steps.specs.declared.check.Told.{Told}
use Rattle.account_steps.specs.declared.check.Checked.TheVariants.{Wrong, Unfinished, Right}

-- of each map the rows are those after these steps, which fit it, and the lost updates those that the steps lost
pub record TellsEnd (p : Replay) (told : Told) : Type 0 where
  pub rows : told.rows.items ≡ of_maps (rows_after p.maps (cpus_of p) told.steps) 0 p.maps
  pub lost : told.lost.items ≡ of_maps (lost_after p.maps (cpus_of p) told.steps) 0 p.maps
  pub fit : AllRowsFit p.maps told.rows.items

-- the entry at this place is wrong; or all of them tell a list that can be made, in which some program isn't whole; or they tell
-- these steps, which a run hands back, with what is in the maps after them
abbrev pub IsFound : Replay → List Step → Checked → Type 0
IsFound p entries (Wrong place) = IsWrongStep p entries place
IsFound p entries Unfinished = IsUnfinished p entries
IsFound p entries (Right told) = IsReplayed p told.steps × (map blank told.steps ≡ entries) × TellsEnd p told
