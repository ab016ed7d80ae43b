use Rattle.std.proofs.Common.{◌≡◌, ◌<◌, ◌≤◌, ◌^◌, List, length, sym, ap, ◌∙◌, subst, arith, sum}
use Rattle.bt_core.specs.declared.map.MapDecl.{MapDecl}
use Rattle.bt_core.specs.declared.step.ObjectId.TheVariants.{Shared}
use Rattle.bt_core.specs.declared.step.Step.{Step}
use Rattle.bt_core.specs.Steps.{on_object, operations}
use Rattle.step_objects.specs.Objects.{shared_kind, SharedStands}
use Rattle.run_objects.specs.Moments.{part_lost, of_first}
use Rattle.run_objects.specs.Objects.{AllStandAt, StandsAt, IsPartOf}
use Rattle.run_objects.proofs.ReadLemmas.{sum_more, sum_beyond, on_err}
use Rattle.run_objects.proofs.reads.part_losses.Goals as goal

pub loop-part-preserved : goal.loop-part-preserved
loop-part-preserved c = λ maps steps all. let i = c.loop-part.part-index in
    let lt : c.loop-part.part-index < length c.args.parts.now = c.loop-part-test.true in
    let one : StandsAt shared_kind SharedStands (IsPartOf maps c.args.map.0) steps (Shared c.args.map c.loop-part.part-index) c.part-item.result = subst (StandsAt shared_kind SharedStands (IsPartOf maps c.args.map.0) steps (Shared c.args.map c.loop-part.part-index)) (sym c.part-item.is) (all i c.part-item.result lt) in
    sum_more (part_lost maps steps c.args.map) i c.loop-part.total _ c.lost.result (c.loop-part.invariant maps steps all) (c.lost.ensures (operations (on_object (Shared c.args.map i) steps)) one.stood) c.in_ok-total.ensures.both

pub returns-clause-lost : goal.returns-clause-lost
returns-clause-lost c = λ maps steps all. let f = c.loop-part-test.false in let a = c.loop-part.auto.part-index-end in
    c.loop-part.invariant maps steps all ∙ ap (λ n. sum (of_first (part_lost maps steps c.args.map) n)) (let e : c.loop-part.part-index ≡ length c.args.parts.now = omega arith in e)

pub returns-in_err-total-clause-beyond : goal.returns-in_err-total-clause-beyond
returns-in_err-total-clause-beyond c = let too_many : (maps : List MapDecl) (steps : List Step) → AllStandAt shared_kind SharedStands (IsPartOf maps c.args.map.0) steps (Shared c.args.map) c.args.parts.now → 2 ^ 64 ≤ sum (of_first (part_lost maps steps c.args.map) (length c.args.parts.now)) =
    λ maps steps all. let i = c.loop-part.part-index in
    let lt : c.loop-part.part-index < length c.args.parts.now = c.loop-part-test.true in
    let one : StandsAt shared_kind SharedStands (IsPartOf maps c.args.map.0) steps (Shared c.args.map c.loop-part.part-index) c.part-item.result = subst (StandsAt shared_kind SharedStands (IsPartOf maps c.args.map.0) steps (Shared c.args.map c.loop-part.part-index)) (sym c.part-item.is) (all i c.part-item.result lt) in
    sum_beyond (part_lost maps steps c.args.map) (2 ^ 64) i (length c.args.parts.now) c.loop-part.total c.lost.result lt (c.loop-part.invariant maps steps all) (c.lost.ensures (operations (on_object (Shared c.args.map i) steps)) one.stood) c.in_err-total.ensures.beyond in
    on_err c.from_residual.result ((maps : List MapDecl) (steps : List Step) → AllStandAt shared_kind SharedStands (IsPartOf maps c.args.map.0) steps (Shared c.args.map) c.args.parts.now → 2 ^ 64 ≤ sum (of_first (part_lost maps steps c.args.map) (length c.args.parts.now))) too_many
