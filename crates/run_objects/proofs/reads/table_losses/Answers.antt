use Rattle.std.proofs.Common.{◌≡◌, ◌<◌, ◌≤◌, ◌^◌, List, length, sym, ap, ◌∙◌, subst, arith, sum}
use Rattle.bt_core.specs.declared.map.MapDecl.{MapDecl}
use Rattle.bt_core.specs.declared.step.ObjectId.TheVariants.{Cpu}
use Rattle.bt_core.specs.declared.step.Step.{Step}
use Rattle.bt_core.specs.Steps.{on_object, operations}
use Rattle.step_objects.specs.Objects.{cpu_kind, CpuStands}
use Rattle.run_objects.specs.Moments.{table_lost, of_first}
use Rattle.run_objects.specs.Objects.{AllStandAt, StandsAt}
use Rattle.run_objects.proofs.ReadLemmas.{sum_more, sum_beyond, on_err}
use Rattle.run_objects.proofs.reads.table_losses.Goals as goal

pub loop-table-preserved : goal.loop-table-preserved
loop-table-preserved c = λ maps steps all. let i = c.loop-table.table-index in
    let lt : c.loop-table.table-index < length c.args.tables.now = c.loop-table-test.true in
    let one : StandsAt cpu_kind CpuStands (λ (ms : List MapDecl). ms ≡ maps) steps (Cpu c.loop-table.table-index) c.table-item.result = subst (StandsAt cpu_kind CpuStands (λ (ms : List MapDecl). ms ≡ maps) steps (Cpu c.loop-table.table-index)) (sym c.table-item.is) (all i c.table-item.result lt) in
    sum_more (table_lost maps steps c.args.map) i c.loop-table.total _ c.lost.result (c.loop-table.invariant maps steps all) (c.lost.ensures (operations (on_object (Cpu i) steps)) one.stood) c.in_ok-total.ensures.both

pub returns-clause-lost : goal.returns-clause-lost
returns-clause-lost c = λ maps steps all. let f = c.loop-table-test.false in let a = c.loop-table.auto.table-index-end in
    c.loop-table.invariant maps steps all ∙ ap (λ n. sum (of_first (table_lost maps steps c.args.map) n)) (let e : c.loop-table.table-index ≡ length c.args.tables.now = omega arith in e)

pub returns-in_err-total-clause-beyond : goal.returns-in_err-total-clause-beyond
returns-in_err-total-clause-beyond c = let too_many : (maps : List MapDecl) (steps : List Step) → AllStandAt cpu_kind CpuStands (λ ms. ms ≡ maps) steps Cpu c.args.tables.now → 2 ^ 64 ≤ sum (of_first (table_lost maps steps c.args.map) (length c.args.tables.now)) =
    λ maps steps all. let i = c.loop-table.table-index in
    let lt : c.loop-table.table-index < length c.args.tables.now = c.loop-table-test.true in
    let one : StandsAt cpu_kind CpuStands (λ (ms : List MapDecl). ms ≡ maps) steps (Cpu c.loop-table.table-index) c.table-item.result = subst (StandsAt cpu_kind CpuStands (λ (ms : List MapDecl). ms ≡ maps) steps (Cpu c.loop-table.table-index)) (sym c.table-item.is) (all i c.table-item.result lt) in
    sum_beyond (table_lost maps steps c.args.map) (2 ^ 64) i (length c.args.tables.now) c.loop-table.total c.lost.result lt (c.loop-table.invariant maps steps all) (c.lost.ensures (operations (on_object (Cpu i) steps)) one.stood) c.in_err-total.ensures.beyond in
    on_err c.from_residual.result ((maps : List MapDecl) (steps : List Step) → AllStandAt cpu_kind CpuStands (λ ms. ms ≡ maps) steps Cpu c.args.tables.now → 2 ^ 64 ≤ sum (of_first (table_lost maps steps c.args.map) (length c.args.tables.now))) too_many
