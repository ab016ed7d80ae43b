-- What holds of a run on one thread at each moment. No public contract speaks of it.
use Rattle.std.specs.Prelude.{◌≡◌, ℕ, max, ◌+◌, ◌≤◌, ◌<◌, Bool, true, false, List, All, length, drop, slice_index_or}
use Rattle.bt_core.specs.declared.step.Step.{Step}
use Rattle.bt_core.specs.Kinds.{IsFineDecl}
use Rattle.bt_core.specs.Ports.{Setting}
use Rattle.bt_core.specs.Steps.{of_actor, RepliesFollow}
use Rattle.turn_lock.specs.History.{Each}
use Rattle.step_list.specs.Lists.{steps_in}
use Rattle.weave.specs.Lists.{greatest}
use Rattle.weave.specs.Woven.{begin_steps, StampsFollow, StandsBetween}
use Rattle.run_objects.specs.declared.objects.Objects.{Objects}
use Rattle.bt_run.specs.declared.port.Running.{Running}
use Rattle.bt_run.specs.declared.port.Turn.{Turn}
use Rattle.run_objects.specs.Objects.{Stand}
use Rattle.run_objects.specs.Worlds.{World, setting_in, answers, IsOwn}

abbrev pub world_of : Running → World
world_of r = record { cpus = r.cpus; ticks = r.ticks; maps = r.maps.value }

-- what a port shows of its run
pub record Seen : Type 0 where
  pub world : World
  pub steps : List Step
  pub turn : Turn

abbrev pub seen_of : Running → Seen
seen_of r = record { world = world_of r; steps = steps_in r.steps; turn = r.turn }

-- BEGIN's turn
abbrev pub first_turn : ℕ → Turn
first_turn cpus = record { among = false; begun = 0; floor = 0; actor = cpus; start = 0 }

-- it is a CPU's turn: no clock of a CPU stands below BEGIN's last stamp, and END has made no steps
pub record IsCpuTurn (cpus : ℕ) (t : Turn) (steps : List Step) : Type 0 where
  pub actor : t.actor < cpus
  pub floor : t.floor ≡ greatest (begin_steps cpus t.begun steps)
  pub begun : length (of_actor cpus steps) ≡ t.begun

-- it is the main actor's turn: its clock is the last stamp of all
pub record IsMainTurn (cpus : ℕ) (t : Turn) (steps : List Step) : Type 0 where
  pub actor : t.actor ≡ cpus
  pub floor : greatest steps ≡ max t.floor (greatest (of_actor cpus steps))
  pub begun : t.begun ≤ length (of_actor cpus steps)

abbrev pub IsTurnBy : Bool → ℕ → Turn → List Step → Type 0
IsTurnBy true cpus t steps = IsCpuTurn cpus t steps
IsTurnBy false cpus t steps = IsMainTurn cpus t steps

-- the turn fits the steps, and those made since it began are its actor's
pub record IsTurn (cpus : ℕ) (t : Turn) (steps : List Step) : Type 0 where
  pub start : t.start ≤ length steps
  pub own : Each (λ s. s.actor ≡ t.actor) (drop t.start steps)
  pub by : IsTurnBy t.among cpus t steps

-- the objects, the last stamps and the steps of a run, and whose turn it is
pub record IsRunOf (w : World) (objects : Objects) (lasts : List ℕ) (top : ℕ) (steps : List Step) (turn : Turn) : Type 0 where
  pub fine : All IsFineDecl w.maps
  pub stand : Stand w steps objects
  pub possible : Each (λ (s : Step). IsOwn w s.object s.op) steps
  pub count : length lasts ≡ w.cpus + 1
  pub lasts_are : (a : ℕ) (d : ℕ) → a < length lasts → slice_index_or lasts a d ≡ greatest (of_actor a steps)
  pub top_is : top ≡ greatest steps
  pub actors : Each (λ (s : Step). s.actor ≤ w.cpus) steps
  pub replies : RepliesFollow (answers w) steps
  pub stamps : StampsFollow w.cpus turn.begun steps
  pub between : StandsBetween w.cpus turn.begun steps
  pub turn_is : IsTurn w.cpus turn steps

abbrev pub IsRunning : Running → Type 0
IsRunning r = IsRunOf (world_of r) r.objects r.lasts.items r.top (steps_in r.steps) r.turn

-- the actor whose turn it is
abbrev pub setting_of : Seen → Setting
setting_of p = setting_in p.world p.turn.actor

-- there is a run of which this is seen
pub record IsSeen (p : Seen) : Type 0 where
  pub objects : Objects
  pub lasts : List ℕ
  pub top : ℕ
  pub run : IsRunOf p.world objects lasts top p.steps p.turn

-- it was seen of a run with these objects and steps
pub record IsLeft (p : Seen) (objects : Objects) (steps : List Step) : Type 0 where
  pub lasts : List ℕ
  pub top : ℕ
  pub same : steps ≡ p.steps
  pub run : IsRunOf p.world objects lasts top p.steps p.turn
