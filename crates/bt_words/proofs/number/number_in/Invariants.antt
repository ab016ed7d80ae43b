use Rattle.std.proofs.Common.{◌≡◌, ◌≤◌, drop}
use Rattle.std.specs.List.{list_all}
use Rattle.std.specs.Str.Parse.{digits_value, digits_value_after}
use Rattle.bt_core.specs.Bytes.{is_digit}
use Rattle.bt_words.proofs.number.number_in.Given as goal

-- what is read, with what is read from here, is the whole
abbrev pub invariant-loop-byte : goal.invariant-loop-byte
invariant-loop-byte l = record {
  digits : list_all is_digit (drop l.byte-index l.word) ≡ list_all is_digit l.word;
  value : digits_value_after 10 l.value (drop l.byte-index l.word) ≡ digits_value 10 l.word;
  within : l.value ≤ l.greatest;
}
