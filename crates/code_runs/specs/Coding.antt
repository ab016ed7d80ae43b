-- What is told of bodies that are run by their code.
use Rattle.std.specs.Prelude.{◌≢◌, ◌≤◌, ℕ, ◌+◌, ◌*◌, List, [], length, map, Option, Some, None, Result, Ok, Err, slice_get}
use Rattle.bt_ast.specs.declared.attached.Attached.{Attached}
use Rattle.bt_core.specs.declared.context.Context.{Context}
use Rattle.bt_core.specs.declared.limits.TheConstants.{CODE_SLOTS, FUEL_OF_A_SLOT}
use Rattle.bt_core.specs.Interaction.{Interaction, Ended, and_then}
use Rattle.bpf_insn.specs.declared.insn.Insn.{Insn}
use Rattle.bpf_insn.specs.declared.trap.Trap.{Trap}
use Rattle.bpf_insn.specs.Code.{IsWellFormed}
use Rattle.bpf_interp.specs.declared.machine.Ended.{Ended as EndedRun}
use Rattle.event_record.specs.Contexts.{context_bytes}
use Rattle.helper_abi.specs.Running.{script_run}
use Rattle.helper_abi.specs.Served.{desk_of}
use Rattle.recordings.specs.declared.recording.Recording.{Recording}
use Rattle.typed_tree.specs.declared.body.TypedBody.{TypedBody}
use Rattle.typed_tree.specs.declared.script.Typed.{Typed}
use Rattle.actor_plan.specs.Plans.{Plan}
use Rattle.walk_meaning.specs.Served.{least_length}
use Rattle.bt_meaning.specs.Replays.{Replay}

-- the code is well formed, and has an instruction and at most 4,096
pub record CanRunCode (code : List Insn) : Type 0 where
  pub well_formed : IsWellFormed code
  pub begins : code ≢ []
  pub few : length code ≤ CODE_SLOTS

-- the fuel of code: 4,098 times its slots
abbrev pub fuel_of : List Insn → ℕ
fuel_of code = FUEL_OF_A_SLOT * length code

-- how many instructions a run took that ended by its exit; code that keeps its body does not trap
abbrev pub count_of : Result EndedRun Trap → ℕ
count_of (Ok ended) = ended.instructions
count_of (Err trap) = 0

module _ (script : Typed) (actor actors : ℕ) where
  -- the run of a body's code, if there is any, by an actor below so many
  abbrev pub coded : Option (List Insn) → Context → List ℕ → Interaction ℕ
  coded None context payload = Ended 0
  coded (Some code) context payload =
      and_then (script_run (desk_of script actor actors) code (context_bytes context) payload (fuel_of code)) (λ end. Ended (count_of end))

-- the runs of the codes of a script's bodies by an actor below so many
abbrev pub coding : Typed → List (List Insn) → ℕ → ℕ → Plan
coding script codes actors actor = record {
  actor = actor;
  actors = actors;
  maps = script.maps;
  sizes = map (λ (body : TypedBody). least_length body.layout) script.bodies;
  run = λ body context payload. coded script actor actors (slice_get codes body) context payload;
}

-- a script over a recording, whose bodies are run by their codes
abbrev pub code_replay : Typed → List (List Insn) → Attached → Recording → Replay
code_replay script codes attached r = record {
  recording = r;
  attached = attached;
  exits = script.uses_exit;
  maps = script.maps;
  plan = coding script codes (length r.cpus + 1);
}
