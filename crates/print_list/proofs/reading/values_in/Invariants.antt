use Rattle.std.proofs.Common.{◌≡◌, ◌++◌, ◌-◌}
use Rattle.print_list.specs.Codes.{values_in}
use Rattle.print_list.proofs.reading.values_in.Given as goal

-- what is read, with what is left to read, is the whole
abbrev pub invariant-loop : goal.invariant-loop
invariant-loop l = l.values.items ++ values_in (l.count - l.counter) l.rest ≡ values_in l.count l.bytes
