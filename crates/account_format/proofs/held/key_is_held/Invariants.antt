use Rattle.std.proofs.Common.{take}
use Rattle.std.specs.List.{AllByRecursion}
use Rattle.bt_core.specs.KeyBytes.{FitsValue}
use Rattle.account_format.proofs.held.key_is_held.Given as goal

abbrev pub invariant-loop-part : goal.invariant-loop-part
invariant-loop-part l = AllByRecursion FitsValue (take l.part-index l.part-items)
