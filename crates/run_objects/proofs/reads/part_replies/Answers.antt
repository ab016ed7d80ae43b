use Rattle.std.proofs.Common.{◌<◌, length, sym, ap, ◌∙◌, subst, ◌≡◌, arith}
use Rattle.bt_core.specs.declared.map.MapDecl.{MapDecl}
use Rattle.bt_core.specs.declared.step.ObjectId.TheVariants.{Shared}
use Rattle.bt_core.specs.declared.step.Op.TheVariants.{ReadAll}
use Rattle.bt_core.specs.Steps.{on_object, operations}
use Rattle.agg_core.specs.Answers.{shared_answer}
use Rattle.step_objects.specs.Objects.{shared_kind, SharedStands}
use Rattle.run_objects.specs.Moments.{part_reply, of_first}
use Rattle.run_objects.specs.Objects.{StandsAt, IsPartOf}
use Rattle.run_objects.proofs.ReadLemmas.{read_more, same_decl}
use Rattle.run_objects.proofs.reads.part_replies.Goals as goal

pub loop-part-preserved : goal.loop-part-preserved
loop-part-preserved c = λ maps steps decl there all. let i = c.loop-part.part-index in
    let lt : c.loop-part.part-index < length c.args.parts.now = c.loop-part-test.true in
    let one : StandsAt shared_kind SharedStands (IsPartOf maps c.args.map.0) steps (Shared c.args.map c.loop-part.part-index) c.part-item.result = subst (StandsAt shared_kind SharedStands (IsPartOf maps c.args.map.0) steps (Shared c.args.map c.loop-part.part-index)) (sym c.part-item.is) (all i c.part-item.result lt) in
    read_more (part_reply maps steps c.args.map decl) i c.loop-part.replies.items _ c.in_ok-reply.reply (c.loop-part.invariant maps steps decl there all)
    (c.in_ok-reply.ensures (operations (on_object (Shared c.args.map i) steps)) one.stood ∙ ap (λ (d : MapDecl). shared_answer d.kind (operations (on_object (Shared c.args.map i) steps)) ReadAll) (same_decl (shared_kind c.part-item.result).decl decl _ one.fit.declared there)) c.in_ok-push.ensures.items

pub returns : goal.returns
returns c = λ maps steps decl there all. let end : c.loop-part.part-index ≡ length c.args.parts.now = omega arith in
    c.loop-part.invariant maps steps decl there all ∙ ap (of_first (part_reply maps steps c.args.map decl)) end
