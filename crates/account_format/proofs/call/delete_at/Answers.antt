use Rattle.std.proofs.Common.{◌≡◌, None}
use Rattle.account_format.specs.Reading.{delete_at, keyed_at}
use Rattle.account_format.proofs.Chained.{none_then}
use Rattle.account_format.proofs.Mapped.{mapped_none}
use Rattle.account_format.proofs.call.delete_at.Goals as goal

pub returns-in_default : goal.returns-in_default
unfolding delete_at
returns-in_default c =
    let none : keyed_at c.args.maps.now c.args.bytes.now ≡ None = mapped_none _ c.in_ok-map.field-0 (keyed_at c.args.maps.now c.args.bytes.now) c.in_ok-map.ensures c.in_default.is in
    none_then (keyed_at c.args.maps.now c.args.bytes.now) _ none
