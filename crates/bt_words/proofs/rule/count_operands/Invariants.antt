use Rattle.std.proofs.Common.{◌≡◌, ◌+◌, ◌≤◌, map, drop, filter, length, string_bytes}
use Rattle.bt_words.specs.Words.{is_operand}
use Rattle.bt_words.proofs.rule.count_operands.Given as goal

-- what is found, with what is left, is the whole
abbrev pub invariant-loop-word : goal.invariant-loop-word
invariant-loop-word l = record {
  whole : l.found + length (filter is_operand (map string_bytes (drop l.word-index l.words))) ≡ length (filter is_operand (map string_bytes l.words));
  few : l.found ≤ l.word-index;
}
