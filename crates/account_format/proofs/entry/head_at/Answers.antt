use Rattle.std.proofs.Common.{sym}
use Rattle.std.specs.Int.{w32, w64}
use Rattle.recordings.specs.Fronts.{number_at}
use Rattle.account_format.specs.Reading.{head_at, kind_at}
use Rattle.account_format.proofs.Chained.{not_below, some_then}
use Rattle.account_format.proofs.entry.head_at.Goals as goal

pub returns-else-actor-actors : goal.returns-else-actor-actors
unfolding head_at
returns-else-actor-actors c =
    some_then (number_at w32 c.args.bytes.now) _ (c.in-Some.actor, c.in-Some.bytes.now) _ (sym c.in-Some.ensures)
    (some_then (number_at w64 c.in-Some.bytes.now) _ (c.in-Some-u64_at.stamp, c.in-Some-u64_at.bytes.now) _ (sym c.in-Some-u64_at.ensures)
    (some_then (kind_at c.in-Some-u64_at.bytes.now) _ (c.in-Some-kind_at.kind, c.in-Some-kind_at.rest.now) _ (sym c.in-Some-kind_at.ensures)
    (not_below c.in-Some.actor c.args.actors _ c.if-actor-actors.false)))
