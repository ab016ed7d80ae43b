use Rattle.std.proofs.Common.{◌≡◌, drop}
use Rattle.std.specs.Prelude.{map}
use Rattle.bt_grammar.specs.Words.{text_in}
use Rattle.bt_grammar.proofs.words.text_in.Given as goal

-- the rows that are left give what all rows give
abbrev pub invariant-loop-text : goal.invariant-loop-text
invariant-loop-text l = text_in (map (λ row. (row.0.now, row.1)) (drop l.text-index l.rows)) l.class ≡ text_in (map (λ row. (row.0.now, row.1)) l.rows) l.class
