-- What a call leaves that does something through a port.
use Rattle.std.specs.Prelude.{List, Result, MatchResult}
use Rattle.bt_core.specs.declared.memory.Memory.{Memory}
use Rattle.bt_core.specs.declared.step.Step.{Step}
use Rattle.bt_core.specs.Interaction.{Whole, Part}
use Rattle.walk_meaning.specs.declared.flow.Frame.{Frame}
use Rattle.walk_meaning.specs.Does.{BodyScene, Does}

-- done whole at Ok, with its value and this frame after it, and else by its first steps
abbrev pub Walked : {A : Type 0} → Does A → BodyScene → Frame → List Step → List Step → Result A Memory → Frame → Type 0
Walked d scene frame old new r after = MatchResult r (λ a. Whole (d scene frame) old new (a, after)) (λ _. Part (d scene frame) old new)

-- the same whatever is seen, where the frame stays as it is
abbrev pub WalkedAnywhere : {A : Type 0} → Does A → List Step → List Step → Result A Memory → Type 0
WalkedAnywhere d old new r = (scene : BodyScene) (frame : Frame) → Walked d scene frame old new r frame
