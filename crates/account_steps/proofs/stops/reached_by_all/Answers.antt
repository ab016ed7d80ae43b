use Rattle.std.proofs.Common.{◌≡◌, length, get_or, subst, arith}
use Rattle.std.proofs.lemmas.List.{get_or_default}
use Rattle.std.proofs.Common.{ℕ, ◌↔◌}
use Rattle.account_steps.specs.Stops.{ArePassed, IsPassed}
use Rattle.account_steps.proofs.Together.{passed_more}
use Rattle.account_steps.proofs.stops.reached_by_all.Goals as goal

pub loop-reached-preserved : goal.loop-reached-preserved
loop-reached-preserved c = λ place.
    let n = c.loop-reached.reached-index in
    let one = get_or c.args.each.now n c.loop-reached.all in
    passed_more c.args.each.now n c.loop-reached.all one c.both-all.result place (λ d. get_or_default c.args.each.now n d c.loop-reached.all c.loop-reached-test.true)
    (c.loop-reached.invariant place)
    (subst (λ r. IsPassed c.both-all.result place ↔ (IsPassed c.loop-reached.all place × IsPassed r place))
    (get_or_default c.args.each.now n _ c.loop-reached.all c.loop-reached-test.true) (c.both-all.ensures place))

pub returns : goal.returns
returns c = λ place.
    let all : c.loop-reached.reached-index ≡ length c.args.each.now = (let low = c.loop-reached.auto.reached-index-end in let high = c.loop-reached-test.false in omega arith) in
    subst (λ (n : ℕ). IsPassed c.loop-reached.all place ↔ ArePassed n c.args.each.now place) all (c.loop-reached.invariant place)
