use Rattle.std.proofs.Common.{refl, ap, ◌∙◌, arith}
use Rattle.bt_core.specs.declared.map.MapDecl.{MapDecl}
use Rattle.step_objects.specs.declared.shared.PartKind.{PartKind}
use Rattle.step_objects.specs.declared.shared.SharedPart.{SharedPart}
use Rattle.step_objects.specs.Objects.{shared_kind, SharedStands}
use Rattle.run_objects.specs.declared.own.OwnObject.{OwnObject}
use Rattle.run_objects.specs.News.{IsNew}
use Rattle.run_objects.proofs.MoreLemmas.{all_more, count_more}
use Rattle.run_objects.proofs.new_objects.parts_of.Goals as goal

pub loop-preserved : goal.loop-preserved
loop-preserved c =
    let own : OwnObject SharedPart = record { object = c.in_ok-object.object; clock = 0 } in
    let kind : PartKind = record { map = record { 0 = c.args.map }; decl = c.args.decl.now } in
    let l = count_more c.loop.parts.items _ own c.in_ok-push.ensures.items in let i = c.loop.invariant.count in record {
      new = all_more (IsNew shared_kind SharedStands kind) c.loop.parts.items _ own c.loop.invariant.new
          (record { same = c.in_ok-object.ensures.kind ∙ ap (λ (d : MapDecl). record { map = record { 0 = c.args.map }; decl = d }) c.in_ok-try_copy.ensures; stood = c.in_ok-object.ensures.stands; unstamped = refl }) c.in_ok-push.ensures.items;
      count = omega arith;
    }
