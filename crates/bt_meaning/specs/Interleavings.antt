-- Interleavings: the lists of all steps that a run can make.
use Rattle.std.specs.Prelude.{◌≡◌, ℕ, ◌<◌, ◌++◌, List, All, length}
use Rattle.bt_core.specs.declared.step.Step.{Step}
use Rattle.bt_core.specs.Interaction.{Interaction, Runs}
use Rattle.bt_core.specs.Steps.{of_actor, RepliesFollow}
use Rattle.weave.specs.Woven.{IsWoven}
use Rattle.bt_meaning.specs.Replays.{Replay, cpus_of, begin_of, cpu_of, end_of, answers_of}

-- these steps are the whole of a computation, under the replies that stand in them
pub record IsWhole {A : Type 0} (t : Interaction A) (steps : List Step) : Type 0 where
  pub value : A
  pub runs : Runs t steps value

-- BEGIN's steps come first and END's last, all of them the main actor's. In between each CPU makes the whole of its program, in
-- its order. Each reply is what its object answers after the earlier steps at it, whoever made them.
pub record IsInterleaving (p : Replay) (steps : List Step) : Type 0 where
  pub first : List Step
  pub middle : List Step
  pub last : List Step
  pub parts : steps ≡ first ++ (middle ++ last)
  pub begin_is_main : All (λ s. s.actor ≡ cpus_of p) first
  pub begin : IsWhole (begin_of p) first
  pub middle_is_cpus : All (λ s. s.actor < cpus_of p) middle
  pub each_cpu : (cpu : ℕ) → cpu < cpus_of p → IsWhole (cpu_of p cpu) (of_actor cpu middle)
  pub end_is_main : All (λ s. s.actor ≡ cpus_of p) last
  pub end : IsWhole (end_of p) last
  pub replies : RepliesFollow (answers_of p) steps

-- an interleaving in the order of its stamps, each of which is one more than the greater of the actor's clock and the object's
pub record IsReplayed (p : Replay) (steps : List Step) : Type 0 where
  pub interleaving : IsInterleaving p steps
  pub woven : IsWoven (cpus_of p) (length interleaving.first) steps
