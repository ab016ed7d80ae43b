use Rattle.std.proofs.Common.{◌<◌, List, ℕ, length, sym, ◌∙◌, Bor, arith}
use Rattle.bt_grammar.specs.declared.class.Class.{Class}
use Rattle.bt_grammar.proofs.SameClass.{equals_is}
use Rattle.bt_grammar.proofs.Rows.{text_here, text_further}
use Rattle.bt_grammar.proofs.words.text_in.Goals as goal

abbrev row_of : Bor (List ℕ) × Class → List ℕ × Class
row_of row = (row.0.now, row.1)

pub returns-then-eq : goal.returns-then-eq
returns-then-eq c =
    let h : c.loop-text.text-index < length c.args.rows.now = omega arith in
    sym (text_here row_of c.args.rows.now c.loop-text.text-index _ c.args.class h (sym (equals_is _ c.args.class) ∙ sym c.eq.ensures ∙ c.if-eq.true)) ∙ c.loop-text.invariant

pub loop-text-preserved : goal.loop-text-preserved
loop-text-preserved c =
    let h : c.loop-text.text-index < length c.args.rows.now = omega arith in
    sym (text_further row_of c.args.rows.now c.loop-text.text-index _ c.args.class h (sym (equals_is _ c.args.class) ∙ sym c.eq.ensures ∙ c.if-eq.false)) ∙ c.loop-text.invariant
