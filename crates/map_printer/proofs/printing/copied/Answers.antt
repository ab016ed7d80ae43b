use Rattle.std.proofs.Common.{◌≡◌, ◌+◌, ◌<◌, ◌++◌, ℕ, List, [], ◌∷◌, get_or, length, take, sym, ◌∙◌}
use Rattle.std.proofs.lemmas.List.{take_more, take_all}
use Rattle.bt_core.specs.declared.value.Value.{Value}
use Rattle.bt_core.specs.declared.item.Cell.{Cell}
use Rattle.map_printer.proofs.printing.copied.Goals as goal

one_more : (rows all new : List (List Value × Cell)) (i : ℕ) (row copied : List Value × Cell) → i < length rows → row ≡ get_or rows i row → copied ≡ row
    → all ≡ take i rows → new ≡ all ++ copied ∷ [] → new ≡ take (i + 1) rows
one_more rows all new i row copied less is same before more = more ∙ (λ k. before k ++ (same ∙ is) k ∷ []) ∙ sym (take_more rows i row less)

pub loop-row-preserved : goal.loop-row-preserved
loop-row-preserved c =
    one_more c.args.rows.now c.loop-row.all.items c.push.new.self.items c.loop-row.row-index c.row-item.result c.in_ok-try_copy.field-0
    c.loop-row-test.true c.row-item.is c.in_ok-try_copy.ensures c.loop-row.invariant c.in_ok-push.ensures.items

pub returns : goal.returns
returns c = c.loop-row.invariant ∙ take_all c.loop-row.row-index c.args.rows.now c.loop-row-test.false
