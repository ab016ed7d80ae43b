use Rattle.std.proofs.Common.{◌≢◌, sym, subst, ap, ◌∙◌, IfSome, Some}
use Rattle.std.specs.Prelude.{slice_get, IsSomeAnd}
use Rattle.bt_core.specs.declared.step.ObjectId.{ObjectId}
use Rattle.bt_core.specs.Ports.{IsSharedOp}
use Rattle.agg_core.specs.Answers.{shared_answer}
use Rattle.stamped.specs.Sets.{actors_of}
use Rattle.stamped.specs.SetSteps.{AreDistinct, Grows, IsReplied, IsRefused, AtPlace}
use Rattle.stamped.specs.Traces.{clock_of}
use Rattle.stamped.proofs.OutcomeLemmas.{on_ok, on_err}
use Rattle.step_objects.specs.declared.shared.PartKind.{PartKind}
use Rattle.step_objects.specs.Free.{IsSharedFree}
use Rattle.shared_maps.specs.Parts.{Part, IsPartFor, parts_from}
use Rattle.shared_maps.specs.Refusals.{part_law}
use Rattle.shared_maps.proofs.PartLemmas.{there_is, step_is_at_part, the_object, the_own, reply_kind, of_part}
use Rattle.shared_maps.proofs.PlaceLemmas.{parts_are_distinct}
use Rattle.shared_maps.proofs.maps.SharedMaps.step.Goals as goal

pub place_of-place-requires : goal.place_of-place-requires
place_of-place-requires g c = step_is_at_part c.args.self.now.maps c.args.object c.args.op.now c.requires.own

pub step-requires-clause-own : goal.step-requires-clause-own
step-requires-clause-own g c =
    let set = c.args.self.now.set in let maps = c.args.self.now.maps in let object = c.args.object in let op = c.args.op.now in let place = c.place_of-place.result in
    let found = there_is (IsPartFor maps object) (slice_get (parts_from 0 maps) place) c.place_of-place.ensures in let part = found.0 in
    let there = ap (λ ids. slice_get ids place) c.args.self.now.ids ∙ of_part (λ (part : Part). part.0) (parts_from 0 maps) place part found.1 ∙ ap Some (the_object maps object part found.2) in
    let kind = ap (λ kinds. slice_get kinds place) c.args.self.now.kinds ∙ of_part (λ (part : Part). part.1) (parts_from 0 maps) place part found.1 in
    subst (λ z. IsSomeAnd z (λ (of : PartKind). IsSharedOp of.decl op)) (sym kind) (the_own maps object op part c.requires.own found.2).1

pub step-requires-clause-distinct : goal.step-requires-clause-distinct
step-requires-clause-distinct g c = subst AreDistinct (sym c.args.self.now.ids) (parts_are_distinct 0 c.args.self.now.maps)

pub returns-clause-done : goal.returns-clause-done
returns-clause-done g c =
    let set = c.args.self.now.set in let maps = c.args.self.now.maps in let object = c.args.object in let op = c.args.op.now in let place = c.place_of-place.result in
    let found = there_is (IsPartFor maps object) (slice_get (parts_from 0 maps) place) c.place_of-place.ensures in let part = found.0 in
    let there = ap (λ ids. slice_get ids place) c.args.self.now.ids ∙ of_part (λ (part : Part). part.0) (parts_from 0 maps) place part found.1 ∙ ap Some (the_object maps object part found.2) in
    let kind = ap (λ kinds. slice_get kinds place) c.args.self.now.kinds ∙ of_part (λ (part : Part). part.1) (parts_from 0 maps) place part found.1 in
    on_ok c.step.result _ _ (subst (λ z. IfSome z (λ o. Grows o op c.args.trace.now c.step.new.trace)) there) c.step.ensures.done

pub returns-clause-replied : goal.returns-clause-replied
returns-clause-replied g c =
    let set = c.args.self.now.set in let maps = c.args.self.now.maps in let object = c.args.object in let op = c.args.op.now in let place = c.place_of-place.result in
    let found = there_is (IsPartFor maps object) (slice_get (parts_from 0 maps) place) c.place_of-place.ensures in let part = found.0 in
    let there = ap (λ ids. slice_get ids place) c.args.self.now.ids ∙ of_part (λ (part : Part). part.0) (parts_from 0 maps) place part found.1 ∙ ap Some (the_object maps object part found.2) in
    let kind = ap (λ kinds. slice_get kinds place) c.args.self.now.kinds ∙ of_part (λ (part : Part). part.1) (parts_from 0 maps) place part found.1 in
    on_ok c.step.result _ _ (λ r. reply_kind maps object op part c.step.new.trace c.requires.own found.2
    (subst (λ z. IfSome z (λ (of : PartKind). IsReplied (IsSharedOp of.decl) (shared_answer of.decl.kind) op c.step.new.trace)) kind r)) c.step.ensures.replied

pub returns-clause-elsewhere : goal.returns-clause-elsewhere
returns-clause-elsewhere g c o other =
    let set = c.args.self.now.set in let maps = c.args.self.now.maps in let object = c.args.object in let op = c.args.op.now in let place = c.place_of-place.result in
    let found = there_is (IsPartFor maps object) (slice_get (parts_from 0 maps) place) c.place_of-place.ensures in let part = found.0 in
    let there = ap (λ ids. slice_get ids place) c.args.self.now.ids ∙ of_part (λ (part : Part). part.0) (parts_from 0 maps) place part found.1 ∙ ap Some (the_object maps object part found.2) in
    let kind = ap (λ kinds. slice_get kinds place) c.args.self.now.kinds ∙ of_part (λ (part : Part). part.1) (parts_from 0 maps) place part found.1 in
    c.step.ensures.elsewhere o (subst (λ z. IfSome z (λ here. o ≢ here)) (sym there) other)

pub returns-clause-cause : goal.returns-clause-cause
returns-clause-cause g c room =
    let set = c.args.self.now.set in let maps = c.args.self.now.maps in let object = c.args.object in let op = c.args.op.now in let place = c.place_of-place.result in
    let found = there_is (IsPartFor maps object) (slice_get (parts_from 0 maps) place) c.place_of-place.ensures in let part = found.0 in
    let there = ap (λ ids. slice_get ids place) c.args.self.now.ids ∙ of_part (λ (part : Part). part.0) (parts_from 0 maps) place part found.1 ∙ ap Some (the_object maps object part found.2) in
    let kind = ap (λ kinds. slice_get kinds place) c.args.self.now.kinds ∙ of_part (λ (part : Part). part.1) (parts_from 0 maps) place part found.1 in
    let refused = λ (of : PartKind). IsRefused (part_law (actors_of set) of) IsSharedFree (clock_of c.args.trace.now) op in
    on_err c.step.result _ _ (λ r. record {
      place = place;
      kind = part.1;
      there = found.1 ∙ ap (λ (o : ObjectId). Some (o, part.1)) (the_object maps object part found.2);
      refused = subst (λ z. IfSome z (λ (of : PartKind). AtPlace (refused of) place c.args.turns.now.1 c.step.new.turns.1)) kind r;
    })
    (c.step.ensures.cause room)
