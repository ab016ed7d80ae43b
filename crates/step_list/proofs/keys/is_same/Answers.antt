use Rattle.std.proofs.Common.{sym, ◌∙◌}
use Rattle.step_list.proofs.KeyLemmas.{equal_keys}
use Rattle.step_list.proofs.keys.is_same.Goals as goal

pub returns : goal.returns
returns c = λ e. equal_keys c.args.one.now c.args.other.now (sym c.eq.ensures ∙ e)
