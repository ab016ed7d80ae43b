use Rattle.std.proofs.Common.{◌≡◌, map, drop, string_bytes}
use Rattle.std.specs.List.{list_any}
use Rattle.bt_words.specs.Words.{is_empty}
use Rattle.bt_words.proofs.rule.has_empty.Given as goal

-- what is left decides
abbrev pub invariant-loop-word : goal.invariant-loop-word
invariant-loop-word l = list_any is_empty (map string_bytes (drop l.word-index l.words)) ≡ list_any is_empty (map string_bytes l.words)
