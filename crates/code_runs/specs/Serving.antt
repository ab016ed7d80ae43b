-- What the run of a body's code gives, and the setting of a script's own port. No public contract speaks of it.
use Rattle.std.specs.Prelude.{ℕ, List, Result, Ok, Err}
use Rattle.bt_core.specs.declared.map.MapDecl.{MapDecl}
use Rattle.bt_core.specs.declared.memory.Memory.{Memory as NoMemory}
use Rattle.bt_core.specs.Ports.{Setting}
use Rattle.bpf_insn.specs.declared.trap.Trap.{Trap}
use Rattle.bpf_insn.specs.declared.trap.Trap.TheVariants as trap
use Rattle.bpf_interp.specs.declared.machine.Ended.{Ended as EndedRun}

-- with these maps and no others
abbrev pub with_maps : List MapDecl → Setting → Setting
with_maps maps s = record { actor = s.actor; actors = s.actors; ticks = s.ticks; maps = maps }

-- the count of a run, but for want of memory
abbrev pub told : Result EndedRun Trap → Result ℕ NoMemory
told (Ok ended) = Ok ended.instructions
told (Err (trap.Memory want)) = Err want
told (Err other) = Ok 0
