-- What accepted code comes to.
use Rattle.std.specs.Prelude.{List, Result, Ok, Err}
use Rattle.bt_core.specs.declared.map.MapDecl.{MapDecl}
use Rattle.bt_core.specs.declared.step.Reply.{Reply}
use Rattle.bt_core.specs.Interaction.{Call}
use Rattle.bt_core.specs.Ports.{IsReplyOf}
use Rattle.step_list.specs.HeldReplies.{IsHeldReply}
use Rattle.bpf_insn.specs.declared.trap.Trap.{Trap}
use Rattle.bpf_interp.specs.declared.machine.Ended.{Ended as EndedRun}

-- a reply of the kind that its call has, where these maps are declared, as a program holds it
abbrev pub CanReply : List MapDecl → Call → Reply → Type 0
CanReply maps call reply = IsReplyOf maps call.object call.op reply × IsHeldReply reply

-- a run that ends by its exit: it neither traps nor uses up its fuel
abbrev pub EndsWell : Result EndedRun Trap → Type 0
EndsWell (Ok ended) = Unit {0}
EndsWell (Err trap) = ⊥
