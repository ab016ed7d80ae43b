use Rattle.std.proofs.Common.{◌≡◌, ◌<◌, List, length, sym, ap, ◌∙◌, subst, arith}
use Rattle.bt_core.specs.declared.map.MapDecl.{MapDecl}
use Rattle.bt_core.specs.declared.step.ObjectId.TheVariants.{Cpu}
use Rattle.bt_core.specs.declared.step.Op.TheVariants.{Read}
use Rattle.bt_core.specs.Steps.{on_object, operations}
use Rattle.agg_core.specs.Answers.{table_answer}
use Rattle.step_objects.specs.Objects.{cpu_kind, CpuStands}
use Rattle.run_objects.specs.Moments.{table_reply, of_first}
use Rattle.run_objects.specs.Objects.{StandsAt}
use Rattle.run_objects.proofs.ReadLemmas.{read_more}
use Rattle.run_objects.proofs.reads.table_replies.Goals as goal

pub loop-table-preserved : goal.loop-table-preserved
loop-table-preserved c = λ maps steps all. let i = c.loop-table.table-index in
    let lt : c.loop-table.table-index < length c.args.tables.now = c.loop-table-test.true in
    let one : StandsAt cpu_kind CpuStands (λ (ms : List MapDecl). ms ≡ maps) steps (Cpu c.loop-table.table-index) c.table-item.result = subst (StandsAt cpu_kind CpuStands (λ (ms : List MapDecl). ms ≡ maps) steps (Cpu c.loop-table.table-index)) (sym c.table-item.is) (all i c.table-item.result lt) in
    read_more (table_reply maps steps c.args.map) i c.loop-table.replies.items _ c.in_ok-reply.reply (c.loop-table.invariant maps steps all)
    (c.in_ok-reply.ensures (operations (on_object (Cpu i) steps)) one.stood ∙ ap (λ ms. table_answer ms (operations (on_object (Cpu i) steps)) (Read c.args.map)) one.fit) c.in_ok-push.ensures.items

pub returns : goal.returns
returns c = λ maps steps all. let end : c.loop-table.table-index ≡ length c.args.tables.now = omega arith in
    c.loop-table.invariant maps steps all ∙ ap (of_first (table_reply maps steps c.args.map)) end
