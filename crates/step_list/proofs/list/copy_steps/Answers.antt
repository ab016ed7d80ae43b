use Rattle.step_list.proofs.PlaceLemmas.{one_more_step}
use Rattle.std.proofs.Common.{List, ◌++◌, ap, ◌∙◌}
use Rattle.std.proofs.lemmas.List.{take_all}
use Rattle.step_list.specs.declared.list.Place.{Place}
use Rattle.step_list.specs.Places.{expanded}
use Rattle.step_list.proofs.list.copy_steps.Goals as goal

pub loop-place-preserved : goal.loop-place-preserved
loop-place-preserved c = one_more_step c.args.keys.now c.args.whole.now c.args.prints.now c.args.places.now c.loop-place.place-index _ c.args.steps.now.items c.loop-place.steps.items
    c.push.new.self.items c.in_ok-step.step c.loop-place-test.true c.loop-place.invariant c.in_ok-step.ensures c.in_ok-push.ensures.items

pub returns : goal.returns
returns c =
    c.loop-place.invariant
    ∙ ap (λ (ps : List Place). c.args.steps.now.items ++ expanded c.args.keys.now c.args.whole.now c.args.prints.now ps) (take_all c.loop-place.place-index c.args.places.now c.loop-place-test.false)
