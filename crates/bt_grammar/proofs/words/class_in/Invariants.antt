use Rattle.std.proofs.Common.{◌≡◌, drop}
use Rattle.std.specs.Prelude.{map}
use Rattle.bt_grammar.specs.Words.{class_in}
use Rattle.bt_grammar.proofs.words.class_in.Given as goal

-- the rows that are left give what all rows give
abbrev pub invariant-loop-word : goal.invariant-loop-word
invariant-loop-word l = class_in (map (λ row. (row.0.now, row.1)) (drop l.word-index l.rows)) l.text l.other ≡ class_in (map (λ row. (row.0.now, row.1)) l.rows) l.text l.other
