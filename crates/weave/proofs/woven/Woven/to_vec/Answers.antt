use Rattle.std.proofs.Common.{sym, ap, ◌∙◌}
use Rattle.weave.specs.Order.{comes_before}
use Rattle.weave.specs.Ranked.{ranked}
use Rattle.weave.proofs.woven.Woven.to_vec.Goals as goal

pub returns : goal.returns
returns c = c.in_ok-put_in_order.ensures ∙ (ap (ranked comes_before) c.in_ok-steps.ensures ∙ sym c.lists.ensures)
