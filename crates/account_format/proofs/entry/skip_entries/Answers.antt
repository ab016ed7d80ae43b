use Rattle.std.proofs.Common.{◌≡◌, Some, None, refl, arith}
use Rattle.std.proofs.lemmas.Bool.{false≢true}
use Rattle.bt_core.specs.Ports.{Setting}
use Rattle.account_format.specs.Reading.{entry_at}
use Rattle.account_format.specs.Scopes.{setting_in}
use Rattle.account_format.proofs.EntryLaws.{passed_first, passed_more, passed_stop, passed_all}
use Rattle.account_format.proofs.Mapped.{seen, mapped_none, mapped_some}
use Rattle.account_format.proofs.entry.skip_entries.Goals as goal

pub loop-place-init : goal.loop-place-init
loop-place-init c = passed_first (setting_in c.args.scope.now) c.args.count c.args.bytes.now

pub loop-place-preserved : goal.loop-place-preserved
loop-place-preserved c =
    let s : Setting = setting_in c.args.scope.now in
    let e : entry_at s c.loop-place.rest.now ≡ Some (seen (c.in-Some.field-0-0, c.in-Some.after)) =
    mapped_some seen c.in_ok-after.field-0 (entry_at s c.loop-place.rest.now) (c.in-Some.field-0-0, c.in-Some.after) c.in_ok-after.ensures c.in-Some.is in
    passed_more s c.args.count c.loop-place._place c.args.bytes.now c.loop-place.rest.now c.in-Some.after.now c.in-Some.field-0-0 c.loop-place-test.true c.loop-place.invariant e

pub returns-in_default-clause-behind : goal.returns-in_default-clause-behind
returns-in_default-clause-behind c =
    let s : Setting = setting_in c.args.scope.now in
    let e : entry_at s c.loop-place.rest.now ≡ None = mapped_none seen c.in_ok-after.field-0 (entry_at s c.loop-place.rest.now) c.in_ok-after.ensures c.in_default.is in
    (passed_stop s c.args.count c.loop-place._place c.args.bytes.now c.loop-place.rest.now c.loop-place-test.true c.loop-place.invariant e).0

pub returns-in_default-clause-whole : goal.returns-in_default-clause-whole
returns-in_default-clause-whole c =
    let s : Setting = setting_in c.args.scope.now in
    let e : entry_at s c.loop-place.rest.now ≡ None = mapped_none seen c.in_ok-after.field-0 (entry_at s c.loop-place.rest.now) c.in_ok-after.ensures c.in_default.is in
    let stop = passed_stop s c.args.count c.loop-place._place c.args.bytes.now c.loop-place.rest.now c.loop-place-test.true c.loop-place.invariant e in
    (λ yes. absurd (false≢true yes), λ same. absurd (stop.1 same))

pub returns-clause-behind : goal.returns-clause-behind
returns-clause-behind c =
    let last : c.loop-place._place ≡ c.args.count = omega arith in
    (passed_all (setting_in c.args.scope.now) c.args.count c.loop-place._place c.args.bytes.now c.loop-place.rest.now last c.loop-place.invariant).0

pub returns-clause-whole : goal.returns-clause-whole
returns-clause-whole c =
    let last : c.loop-place._place ≡ c.args.count = omega arith in
    let all = passed_all (setting_in c.args.scope.now) c.args.count c.loop-place._place c.args.bytes.now c.loop-place.rest.now last c.loop-place.invariant in
    (λ yes. all.1, λ same. refl)
