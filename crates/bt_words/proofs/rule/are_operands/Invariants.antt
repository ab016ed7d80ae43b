use Rattle.std.proofs.Common.{◌≡◌, map, drop, string_bytes}
use Rattle.std.specs.List.{list_all}
use Rattle.bt_words.specs.Words.{is_operand}
use Rattle.bt_words.proofs.rule.are_operands.Given as goal

-- what is left decides
abbrev pub invariant-loop-word : goal.invariant-loop-word
invariant-loop-word l = list_all is_operand (map string_bytes (drop l.word-index l.words)) ≡ list_all is_operand (map string_bytes l.words)
