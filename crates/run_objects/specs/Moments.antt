-- What is read of the objects at the end. No public contract speaks of it.
use Rattle.std.specs.Prelude.{ℕ, ◌%◌, ◌^◌, List, map}
use Rattle.std.specs.List.{range_with_len}
use Rattle.bt_core.specs.declared.map.MapDecl.{MapDecl}
use Rattle.bt_core.specs.declared.map.MapId.{MapId}
use Rattle.bt_core.specs.declared.step.ObjectId.TheVariants.{Shared, Cpu}
use Rattle.bt_core.specs.declared.step.Op.TheVariants.{Read, ReadAll}
use Rattle.bt_core.specs.declared.step.Reply.{Reply}
use Rattle.bt_core.specs.declared.step.Step.{Step}
use Rattle.agg_core.specs.Answers.{back, shared_answer, shared_change, table_answer, table_change}
use Rattle.agg_core.specs.Changes.{lost_updates}
use Rattle.bt_meaning.specs.Prints.{operations_at}
use Rattle.run_objects.specs.Worlds.{World}

-- a world, and the steps that were made in it
pub record Moment : Type 0 where
  pub world : World
  pub steps : List Step

module _ (maps : List MapDecl) (steps : List Step) (m : MapId) where
  -- what an actor's tables would answer to who reads the map, and how many updates they lost
  abbrev pub table_reply : ℕ → Reply
  table_reply actor = table_answer maps (operations_at (Cpu actor) steps) (Read m)

  abbrev pub table_lost : ℕ → ℕ
  table_lost actor = lost_updates (back (table_change m) (operations_at (Cpu actor) steps)) % 2 ^ 64

  -- the same of a part of a map that is declared so
  abbrev pub part_reply : MapDecl → ℕ → Reply
  part_reply decl part = shared_answer decl.kind (operations_at (Shared m part) steps) ReadAll

  abbrev pub part_lost : ℕ → ℕ
  part_lost part = lost_updates (back shared_change (operations_at (Shared m part) steps)) % 2 ^ 64

-- of so many objects, from the first one on
abbrev pub of_first : {A : Type 0} → (ℕ → A) → ℕ → List A
of_first f n = map f (range_with_len 0 n)
