use Rattle.agg_core.proofs.LifeLaws.{live_keys-sorted}
use Rattle.agg_core.proofs.laws.live_keys_are_in_order.Goals as goal

pub returns : goal.returns
returns c = record { numbers = λ changes. live_keys-sorted changes; values = λ changes. live_keys-sorted changes }
