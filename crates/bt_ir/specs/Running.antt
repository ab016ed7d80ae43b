-- What a run through a port needs and leaves.
use Rattle.std.specs.Prelude.{◌≡◌, ℕ, ◌<◌, ◌≤◌, ◌⊎◌, List, [], ◌∷◌, length, Result, MatchResult}
use Rattle.bt_core.specs.declared.context.Context.{Context}
use Rattle.bt_core.specs.declared.limits.TheConstants.{KEY_PARTS}
use Rattle.bt_core.specs.declared.memory.Memory.{Memory}
use Rattle.bt_core.specs.declared.step.Reply.{Reply}
use Rattle.bt_core.specs.declared.step.Step.{Step}
use Rattle.bt_core.specs.Interaction.{Interaction, Ended, Asks, Whole, Part}
use Rattle.bt_core.specs.Kinds.{IsAggregation}
use Rattle.bt_core.specs.Ports.{Setting, CanStep}
use Rattle.event_layout.specs.declared.field.FieldKind.TheVariants.{Number, Chars, DataLoc}
use Rattle.event_layout.specs.Sizes.{end_of}
use Rattle.map_ops.specs.Holders.{kind_of, CanSweep}
use Rattle.ir_code.specs.declared.blocks.Block.{Block}
use Rattle.ir_code.specs.declared.instr.Instr.{Instr}
use Rattle.ir_code.specs.declared.instr.Instr.TheVariants as i
use Rattle.ir_code.specs.declared.probe.IrProbe.{IrProbe}
use Rattle.ir_code.specs.declared.state.State.{State}
use Rattle.bt_ir.specs.declared.step.View.{View}
use Rattle.ir_code.specs.Meaning.{Scene}
use Rattle.ir_code.specs.Serving.{payload_need, ServesBlocks}

-- each call can be made in this setting, whatever the replies are
abbrev pub CanAsk : {A : Type 0} → Setting → (A → Type 0) → Interaction A → Type 0
CanAsk setting holds (Ended a) = holds a
CanAsk setting holds (Asks call next) = CanStep setting call.object call.op × ((reply : Reply) → CanAsk setting holds (next reply))

-- the conditions of a run: the payload has the fields that are read and the context names its length, the port serves the maps
-- that instructions name as the probe declares them, and the actor is the port's and below the number of its actors
pub record CanRun (setting : Setting) (probe : IrProbe) (context : Context) (payload : List ℕ) (actor actors : ℕ) : Type 0 where
  pub payload_is_long : payload_need probe.blocks.list ≤ length payload
  pub length_is_named : context.payload_len ≡ length payload
  pub maps_are_served : ServesBlocks setting.maps probe.maps probe.blocks.list
  pub actor_is_the_ports : setting.actor ≡ actor
  pub actor_is_below : actor < actors
  pub actors_are_the_ports : setting.actors ≡ actors

-- done whole at Ok, with this state after it, and else by its first steps
abbrev pub Did : Interaction State → List Step → List Step → Result (Unit {0}) Memory → State → Type 0
Did t old new r after = MatchResult r (λ u. Whole t old new after) (λ _. Part t old new)

abbrev pub scene_in : View → Scene
scene_in v = record { context = v.context.now; payload = v.payload.now; actor = v.actor; actors = v.actors; maps = v.maps.now }

-- what an instruction needs beside its calls: a field has its kind and ends inside the payload, a key has few parts, a map that
-- is swept is declared and has its tables, and one that is read as an aggregation is one
abbrev pub IsReady : Setting → View → Instr → Type 0
IsReady setting v (i.NumberField f) = (f.kind ≡ Number) × (end_of f ≤ length v.payload.now)
IsReady setting v (i.TextField f) = (f.kind ≡ Chars ⊎ f.kind ≡ DataLoc) × (end_of f ≤ length v.payload.now)
IsReady setting v (i.Get m key shape) = length key ≤ KEY_PARTS
IsReady setting v (i.ReadAgg m key) =
    (length key ≤ KEY_PARTS) × CanSweep setting m (kind_of v.maps.now m) v.actors × IsAggregation (kind_of v.maps.now m)
IsReady setting v (i.Set m key shape) = length key ≤ KEY_PARTS
IsReady setting v (i.Delete m key) = length key ≤ KEY_PARTS
IsReady setting v (i.Update m key op) = length key ≤ KEY_PARTS
IsReady setting v (i.StepMap m key plus prefix) = length key ≤ KEY_PARTS
IsReady setting v (i.Add m key) = length key ≤ KEY_PARTS
IsReady setting v (i.Count m key) = length key ≤ KEY_PARTS
IsReady setting v (i.Print m top div) = CanSweep setting m (kind_of v.maps.now m) v.actors
IsReady setting v (i.Clear m) = CanSweep setting m (kind_of v.maps.now m) v.actors
IsReady setting v (i.Zero m) = CanSweep setting m (kind_of v.maps.now m) v.actors
IsReady setting v instr = Unit {0}

abbrev pub AreReady : Setting → View → List Instr → Type 0
AreReady setting v [] = Unit {0}
AreReady setting v (x ∷ xs) = IsReady setting v x × AreReady setting v xs

abbrev pub AllReady : Setting → View → List Block → Type 0
AllReady setting v [] = Unit {0}
AllReady setting v (b ∷ bs) = AreReady setting v b.instrs × AllReady setting v bs

-- each call of the computation can be made
abbrev pub MayAsk : {A : Type 0} → Setting → Interaction A → Type 0
MayAsk setting t = CanAsk setting (λ a. Unit {0}) t
