use Rattle.std.proofs.Common.{sym, ap, ◌∙◌, Option}
use Rattle.std.proofs.lemmas.Option.{unwrap_or-slice_get}
use Rattle.std.specs.Option.{unwrap_or}
use Rattle.bt_core.specs.declared.item.Item.{Item}
use Rattle.step_list.specs.Deeds.{no_item}
use Rattle.step_list.proofs.marking.print_at.Goals as goal

pub returns-in-None : goal.returns-in-None
returns-in-None c = ap (λ (o : Option Item). unwrap_or o no_item) (sym c.in-None.is ∙ c.in_ok-item.ensures) ∙ unwrap_or-slice_get c.args.prints.now c.args.print no_item

pub returns-in-Some : goal.returns-in-Some
returns-in-Some c =
    ap (λ (o : Option Item). unwrap_or o no_item) (sym c.in-Some.is ∙ c.in_ok-item.ensures) ∙ unwrap_or-slice_get c.args.prints.now c.args.print no_item
