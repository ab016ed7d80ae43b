-- Entries that were made as steps so far.
use Rattle.std.specs.Prelude.{ℕ, ◌≤◌, List, length, take}
use Rattle.std.specs.List.{AllByRecursion}
use Rattle.bt_core.specs.declared.step.Reply.{Reply}
use Rattle.bt_core.specs.declared.step.Step.{Step}
use Rattle.bt_core.specs.Steps.{AtEach, RepliesFollow}
use Rattle.begun_meaning.specs.Parts.{IsStampedAfter, NotBeforeLast}
use Rattle.run_objects.specs.Objects.{Stand}
use Rattle.run_objects.specs.Worlds.{World, IsOwn, answers}
use Rattle.account_replay.specs.declared.replay.Replaying.{Replaying}
use Rattle.account_replay.specs.Clocks.{TellClocks}

-- its actor is there, and its operation can be made in this world
pub record CanBeMade (w : World) (s : Step) : Type 0 where
  pub actor : s.actor ≤ w.cpus
  pub own : IsOwn w s.object s.op

-- the step with this reply
abbrev pub with_reply : Reply → Step → Step
with_reply reply s = record { actor = s.actor; object = s.object; stamp = s.stamp; op = s.op; reply = reply }

abbrev pub world_of : Replaying → World
world_of r = record { cpus = r.cpus; ticks = r.ticks; maps = r.maps.value }

-- the entries that were made
abbrev pub taken : Replaying → List Step
taken r = take r.at r.entries

-- the objects and the clocks are those after the steps so far, whose replies, stamps and order are right
pub record IsReplaying (r : Replaying) : Type 0 where
  pub within : r.at ≤ length r.entries
  pub can : AllByRecursion (CanBeMade (world_of r)) r.entries
  pub stand : Stand (world_of r) (taken r) r.objects
  pub clocks : TellClocks r.cpus (taken r) r.clocks
  pub replies : RepliesFollow (answers (world_of r)) (taken r)
  pub stamps : AtEach (IsStampedAfter r.cpus) (taken r)
  pub order : AtEach NotBeforeLast (taken r)

-- the step has not both the stamp and the order that it has to have behind these
abbrev pub IsWrongNext : ℕ → List Step → Step → Type 0
IsWrongNext main before s = IsStampedAfter main before s → NotBeforeLast before s → ⊥
