use Rattle.std.proofs.Common.{◌≡◌, ◌≤◌, ◌+◌, ◌-◌, ◌*◌, drop}
use Rattle.std.specs.List.{list_all, fold}
use Rattle.bt_core.specs.Bytes.{is_digit}
use Rattle.event_layout.specs.Bytes.{decimal_value}
use Rattle.tracefs_format.proofs.bytes.number_in.Given as goal

-- what is read, with what is read from here, is the whole
abbrev pub invariant-loop-byte : goal.invariant-loop-byte
invariant-loop-byte l = record {
  digits : list_all is_digit (drop l.byte-index l.bytes) ≡ list_all is_digit l.bytes;
  value : fold (λ n digit. 10 * n + (digit - 48)) l.value (drop l.byte-index l.bytes) ≡ decimal_value l.bytes;
  within : l.value ≤ l.greatest;
}
