use Rattle.std.proofs.Common.{take}
use Rattle.print_list.proofs.CodeLaws.{Written}
use Rattle.print_list.proofs.writing.push_values.Given as goal

abbrev pub invariant-loop-value : goal.invariant-loop-value
invariant-loop-value l = Written l.fn.bytes.items l.bytes.items (take l.value-index l.values)
