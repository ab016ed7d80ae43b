use Rattle.std.proofs.Common.{◌≡◌, ◌++◌, take}
use Rattle.bt_core.specs.KeyBytes.{key_bytes}
use Rattle.account_format.proofs.pushing.push_key.Given as goal

abbrev pub invariant-loop-part : goal.invariant-loop-part
invariant-loop-part l = l.bytes.items ≡ l.initial.bytes.items ++ key_bytes (take l.part-index l.part-items)
