use Rattle.std.proofs.Common.{◌≡◌, Some, None, inl, inr}
use Rattle.bt_core.specs.Ports.{Setting}
use Rattle.account_format.specs.Reading.{entry_at}
use Rattle.account_format.specs.Scopes.{setting_in}
use Rattle.account_format.proofs.EntryLaws.{none_next, one_next}
use Rattle.account_format.proofs.Mapped.{seen, mapped_none, mapped_some}
use Rattle.account_format.proofs.entries.Entries.next.Goals as goal

pub returns-then-self-eq0-clause-step : goal.returns-then-self-eq0-clause-step
returns-then-self-eq0-clause-step c = (none_next (setting_in c.self.inside.scope) c.self.inside.left c.self.inside.bytes.now c.args.self.now c.self.view_is (inl c.if-self-eq0.true)).0

pub returns-then-self-eq0-clause-left : goal.returns-then-self-eq0-clause-left
returns-then-self-eq0-clause-left c = (none_next (setting_in c.self.inside.scope) c.self.inside.left c.self.inside.bytes.now c.args.self.now c.self.view_is (inl c.if-self-eq0.true)).1

pub returns-in_default-clause-step : goal.returns-in_default-clause-step
returns-in_default-clause-step c =
    let s : Setting = setting_in c.self.inside.scope in
    let e : entry_at s c.self.inside.bytes.now ≡ None = mapped_none seen c.in_ok-step.field-0 (entry_at s c.self.inside.bytes.now) c.in_ok-step.ensures c.in_default.is in
    (none_next s c.self.inside.left c.self.inside.bytes.now c.args.self.now c.self.view_is (inr e)).0

pub returns-in_default-clause-left : goal.returns-in_default-clause-left
returns-in_default-clause-left c =
    let s : Setting = setting_in c.self.inside.scope in
    let e : entry_at s c.self.inside.bytes.now ≡ None = mapped_none seen c.in_ok-step.field-0 (entry_at s c.self.inside.bytes.now) c.in_ok-step.ensures c.in_default.is in
    (none_next s c.self.inside.left c.self.inside.bytes.now c.args.self.now c.self.view_is (inr e)).1

pub returns-clause-step : goal.returns-clause-step
returns-clause-step c =
    let s : Setting = setting_in c.self.inside.scope in
    let e : entry_at s c.self.inside.bytes.now ≡ Some (seen (c.in-Some.step, c.in-Some.rest)) =
    mapped_some seen c.in_ok-step.field-0 (entry_at s c.self.inside.bytes.now) (c.in-Some.step, c.in-Some.rest) c.in_ok-step.ensures c.in-Some.is in
    (one_next s c.self.inside.left c.self.inside.bytes.now c.in-Some.rest.now c.in-Some.step c.args.self.now c.self.view_is c.if-self-eq0.false e).0

pub returns-clause-left : goal.returns-clause-left
returns-clause-left c =
    let s : Setting = setting_in c.self.inside.scope in
    let e : entry_at s c.self.inside.bytes.now ≡ Some (seen (c.in-Some.step, c.in-Some.rest)) =
    mapped_some seen c.in_ok-step.field-0 (entry_at s c.self.inside.bytes.now) (c.in-Some.step, c.in-Some.rest) c.in_ok-step.ensures c.in-Some.is in
    (one_next s c.self.inside.left c.self.inside.bytes.now c.in-Some.rest.now c.in-Some.step c.args.self.now c.self.view_is c.if-self-eq0.false e).1
