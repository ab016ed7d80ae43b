-- Code that keeps the bodies of a script.
use Rattle.std.specs.Prelude.{◌≡◌, ◌≢◌, ℕ, ◌<◌, ◌≤◌, ◌^◌, List, [], length, Some, Result, Ok, Err, slice_get}
use Rattle.std.specs.List.{AllByRecursion}
use Rattle.bt_ast.specs.declared.attached.Attached.{Attached}
use Rattle.bt_ast.specs.declared.attached.Tick.{Tick}
use Rattle.bt_core.specs.declared.context.Context.{Context}
use Rattle.bt_core.specs.declared.ending.Ending.{Ending}
use Rattle.bpf_insn.specs.declared.insn.Insn.{Insn}
use Rattle.bpf_insn.specs.declared.trap.Trap.{Trap}
use Rattle.bpf_insn.specs.Code.{IsWellFormed}
use Rattle.bpf_interp.specs.declared.machine.Ended.{Ended as EndedRun}
use Rattle.event_record.specs.Contexts.{context_bytes, AreBytes, IsContext}
use Rattle.helper_abi.specs.Running.{script_run}
use Rattle.helper_abi.specs.Served.{desk_of}
use Rattle.recordings.specs.declared.recording.CpuTrack.{CpuTrack}
use Rattle.recordings.specs.declared.recording.Recording.{Recording}
use Rattle.recordings.specs.Places.{IsHeldEntry}
use Rattle.typed_tree.specs.declared.body.TypedBody.{TypedBody}
use Rattle.typed_tree.specs.declared.script.Typed.{Typed}
use Rattle.bt_core.specs.Same.{SameTo}
use Rattle.walk_meaning.specs.Walk.{walk}
use Rattle.walk_meaning.specs.Served.{least_length}
use Rattle.code_runs.specs.Agree.{Comes}
use Rattle.code_runs.specs.HeldReplies.{IsHeldReply}
use Rattle.code_runs.specs.Coding.{fuel_of}

-- what a body may be run at: a payload of the size of its layout or more, of fewer than 2^32 bytes, and a context that names its length
pub record IsSeen (body : TypedBody) (context : Context) (payload : List ℕ) : Type 0 where
  pub long : least_length body.layout ≤ length payload
  pub short : length payload < 2 ^ 32
  pub bytes : AreBytes payload
  pub named : context.payload_len ≡ length payload
  pub fits : IsContext context

-- the code ends by its exit
abbrev pub EndsByExit : Ending → Result EndedRun Trap → Type 0
EndsByExit ending (Ok ended) = Unit {0}
EndsByExit ending (Err trap) = ⊥

-- Well-formed code with an instruction, which for every number of actors, actor, context and payload makes the calls of the body's walk, as
-- long as each reply is of the kind of its call and as a program holds it, and ends by its exit where the walk ends: it neither traps nor
-- uses up its fuel.
pub record KeepsWalk (script : Typed) (body : TypedBody) (code : List Insn) : Type 0 where
  pub well_formed : IsWellFormed code
  pub begins : code ≢ []
  pub same : (context : Context) (payload : List ℕ) (actor actors : ℕ) → actor < actors → IsSeen body context payload
      → SameTo (Comes IsHeldReply script.maps) EndsByExit (walk body context payload actor actors)
      (script_run (desk_of script actor actors) code (context_bytes context) payload (fuel_of code))

-- there is one code for each body, which keeps it
pub record KeepBodies (script : Typed) (codes : List (List Insn)) : Type 0 where
  pub as_many : length codes ≡ length script.bodies
  pub each : (n : ℕ) (body : TypedBody) (code : List Insn) → slice_get script.bodies n ≡ Some body → slice_get codes n ≡ Some code
      → KeepsWalk script body code

-- the bytes of a recording's events are bytes, and the times of ticks have 64 bits, as a program holds them
pub record AreHeld (attached : Attached) (r : Recording) : Type 0 where
  pub entries : AllByRecursion (λ (track : CpuTrack). AllByRecursion IsHeldEntry track.entries) r.cpus
  pub ticks : AllByRecursion (λ (t : Tick). t.time < 2 ^ 64) attached.ticks
