use Rattle.bt_grammar.proofs.MentionLaws.{maps_in_order, formats_in_order, few_formats}
use Rattle.bt_grammar.proofs.laws.mentions_in_order.Goals as goal

pub returns : goal.returns
returns c = record { maps = maps_in_order; formats = formats_in_order; few = few_formats }
