-- What can be wrong with entries, which tell steps but for their replies and items.
use Rattle.std.specs.Prelude.{◌≡◌, ℕ, suc, ◌<◌, List, length, map, take}
use Rattle.bt_core.specs.declared.step.Step.{Step}
use Rattle.bt_meaning.specs.Replays.{Replay}
use Rattle.step_entries.specs.Blank.{blank}
use Rattle.begun_meaning.specs.Begun.{MayFollow, IsBegun, AreAllWhole}

module _ (p : Replay) where
  -- no step that is told as this one can come next
  abbrev pub NoneFollows : List Step → Step → Type 0
  NoneFollows before s = (other : Step) → blank other ≡ blank s → MayFollow p before other → ⊥

  -- the first so many entries tell a list that can be made, and with one more they tell none
  pub record IsWrongStep (entries : List Step) (i : ℕ) : Type 0 where
    pub made : List Step
    pub begun : IsBegun p made
    pub told : map blank made ≡ take i entries
    pub within : i < length entries
    pub no_more : (others : List Step) → IsBegun p others → map blank others ≡ take (suc i) entries → ⊥

  -- all entries tell a list that can be made, and some actor's program isn't whole in it
  pub record IsUnfinished (entries : List Step) : Type 0 where
    pub made : List Step
    pub begun : IsBegun p made
    pub told : map blank made ≡ entries
    pub unfinished : AreAllWhole p made → ⊥
