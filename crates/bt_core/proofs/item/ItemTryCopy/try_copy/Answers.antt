use Rattle.std.proofs.Common.{ap, sym, ◌∙◌}
use Rattle.std.proofs.lemmas.Result.{IfOk-from_err}
use Rattle.bt_core.specs.declared.item.Item.TheVariants.{Printf}
use Rattle.bt_core.proofs.item.ItemTryCopy.try_copy.Goals as goal

pub returns-in-Cut : goal.returns-in-Cut
returns-in-Cut c = sym c.in-Cut.is

pub returns-in-Lost : goal.returns-in-Lost
returns-in-Lost c = sym c.in-Lost.is

pub returns-in_err-rows-in-Map : goal.returns-in_err-rows-in-Map
returns-in_err-rows-in-Map c = IfOk-from_err c.from_residual-in_err-rows-in-Map.result _ c.from_residual-in_err-rows-in-Map.ensures.0

pub returns-in_err-values-in-Printf : goal.returns-in_err-values-in-Printf
returns-in_err-values-in-Printf c = IfOk-from_err c.from_residual.result _ c.from_residual.ensures.0

pub returns-in_ok-values-in-Printf : goal.returns-in_ok-values-in-Printf
returns-in_ok-values-in-Printf c = ap (Printf c.in-Printf.format) c.in_ok-values-in-Printf.ensures ∙ sym c.in-Printf.is
