use Rattle.std.proofs.Common.{◌≡◌, ap, ◌∙◌, sym, refl, subst, slice_get, IfOk, List, Option}
use Rattle.std.proofs.lemmas.Option.{slice_get_read}
use Rattle.bt_core.specs.declared.step.Step.{Step}
use Rattle.weave.specs.declared.spots.Spot.{Spot}
use Rattle.weave.proofs.Spotted.{spot_tells}
use Rattle.weave.proofs.ordered.Ordered.get.Goals as goal

pub returns-in-Some : goal.returns-in-Some
returns-in-Some c =
    let at = c.in-Some.ensures.lookup in
    let stands = ap (λ (l : List Spot). slice_get l c.args.place) (sym c.deref.ensures.value)
    ∙ slice_get_read c.deref.result.now _ c.args.place c.in-Some.spot.now refl at.3.0 at.1 in
    let told = spot_tells c.self.inside.lists.now c.self.inside.spots.items c.args.place c.in-Some.spot.now c.self.invariant stands in
    subst (λ (o : Option Step). IfOk c.copy_at.result (λ step. step ≡ o))
    (told ∙ ap (λ (l : List Step). slice_get l c.args.place) c.self.view_is) c.copy_at.ensures
