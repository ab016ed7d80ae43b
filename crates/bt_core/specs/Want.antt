-- Want of memory, the one value of its type.
use Rattle.bt_core.specs.declared.memory.Memory.{Memory}

abbrev pub out_of_memory : Memory
out_of_memory = record { 0 = tt }
