use Rattle.std.proofs.Common.{◌≡◌, ◌+◌, ◌≤◌, map, drop, count_by, string_bytes}
use Rattle.std.specs.Str.{bytes_eq}
use Rattle.bt_words.proofs.rule.count.Given as goal

-- what is found, with what is left, is the whole
abbrev pub invariant-loop-word : goal.invariant-loop-word
invariant-loop-word l = record {
  whole : l.found + count_by (λ w. bytes_eq w l.option) (map string_bytes (drop l.word-index l.words)) ≡ count_by (λ w. bytes_eq w l.option) (map string_bytes l.words);
  few : l.found ≤ l.word-index;
}
