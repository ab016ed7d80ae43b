use Rattle.std.proofs.Common.{sym, ap, ◌∙◌, inl, inr, subst, List, Option, Some}
use Rattle.ir_code.specs.declared.blocks.Block.{Block}
use Rattle.ir_code.specs.declared.blocks.Exit.{Exit}
use Rattle.ir_fold.specs.Folded.{bare_at, Shortens}
use Rattle.ir_fold.proofs.Shortening.{shortens, shortens-self}
use Rattle.ir_fold.proofs.through.test_block.Goals as goal

pub returns-in-Some-Branch-clause-short : goal.returns-in-Some-Branch-clause-short
returns-in-Some-Branch-clause-short c bs e = elim c.test_here.ensures.tests [
  | inl same ↦ subst (λ (b : Block). Shortens bs c.args.block b) (sym same) (shortens-self bs c.args.block)
  | inr t ↦ shortens bs c.args.block c.test_here.result c.in-Goto.to c.in-Some-Branch.first c.in-Some-Branch.second c.in-Goto.is
      (ap (λ (l : List (Option Exit)). bare_at l c.in-Goto.to) (sym e) ∙ sym c.bare_at.ensures ∙ c.in-Some-Branch.is ∙ ap (λ (x : Exit). Some x) c.in-Some-Branch.field-0-is) t.0 t.1
]
