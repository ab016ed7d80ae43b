use Rattle.std.proofs.Common.{◌≡◌, None, sym}
use Rattle.bt_core.specs.Ports.{Setting}
use Rattle.account_format.specs.Reading.{call_of_kind, entry_at, head_at}
use Rattle.account_format.specs.Scopes.{setting_in}
use Rattle.account_format.proofs.Chained.{none_then, some_then}
use Rattle.account_format.proofs.Mapped.{mapped_none}
use Rattle.account_format.proofs.entry.entry_at.Goals as goal

pub returns-in_default-2 : goal.returns-in_default-2
unfolding entry_at
returns-in_default-2 c =
    let s : Setting = setting_in c.args.scope.now in
    let none : call_of_kind s c.in-Some.actor c.in-Some.kind c.in-Some.rest.now ≡ None = mapped_none _ c.in_ok-object.field-0 (call_of_kind s c.in-Some.actor c.in-Some.kind c.in-Some.rest.now) c.in_ok-object.ensures (c.in_default-2).is in
    some_then (head_at s.actors c.args.bytes.now) _ ((c.in-Some.actor, (c.in-Some.stamp, c.in-Some.kind)), c.in-Some.rest.now) _ (sym c.in-Some.ensures)
    (none_then (call_of_kind s c.in-Some.actor c.in-Some.kind c.in-Some.rest.now) _ none)
