use Rattle.std.proofs.Common.{List, length, sym, ap, ◌∙◌, subst}
use Rattle.bt_core.specs.declared.step.Step.{Step}
use Rattle.map_rows.specs.Fits.{AllRowsFit}
use Rattle.bt_meaning.specs.Prints.{rows_after, lost_after, of_maps, operations_at}
use Rattle.run_output.specs.Jobs.{cpus_in}
use Rattle.run_objects.specs.Worlds.{World}
use Rattle.run_objects.proofs.MapReads.{maps_long, rows_fit}
use Rattle.run_objects.specs.Closed.{AreClosedAt}
use Rattle.run_output.specs.Outputs.{output_of}
use Rattle.bt_run.proofs.RunLemmas.{output_then}
use Rattle.bt_run.proofs.run.output_of.Goals as goal

pub read_maps-requires : goal.read_maps-requires
read_maps-requires g c = (
  subst (λ (z : World × List Step). AreClosedAt (record { world = z.0; steps = z.1 }) c.args.ran.now.objects) (λ i. (sym c.requires.1.0 i, sym c.requires.1.1 i)) c.requires.0.moment,
  ap (λ (w : World). w.maps) c.requires.1.0 ∙ sym c.as_slice.ensures,
)

pub output_of_run-requires-clause-rows : goal.output_of_run-requires-clause-rows
output_of_run-requires-clause-rows g c = ap length (c.as_slice-2.ensures.value ∙ c.in_ok-rows.ensures.rows)
    ∙ maps_long (rows_after g.at.world.maps g.at.world.cpus g.at.steps) 0 c.as_slice.result.now ∙ ap length c.as_slice.ensures

pub output_of_run-requires-clause-lost : goal.output_of_run-requires-clause-lost
output_of_run-requires-clause-lost g c = ap length (c.as_slice-3.ensures.value ∙ c.in_ok-rows.ensures.lost)
    ∙ maps_long (lost_after g.at.world.maps g.at.world.cpus g.at.steps) 0 c.as_slice.result.now ∙ ap length c.as_slice.ensures

pub output_of_run-requires-clause-fit : goal.output_of_run-requires-clause-fit
output_of_run-requires-clause-fit g c =
    let maps = c.args.job.now.typed.maps in
    let rows = c.as_slice-2.ensures.value ∙ c.in_ok-rows.ensures.rows ∙ ap (of_maps (rows_after g.at.world.maps g.at.world.cpus g.at.steps) 0) c.as_slice.ensures in
    let moment = subst (λ (z : World × List Step). AreClosedAt (record { world = z.0; steps = z.1 }) c.args.ran.now.objects) (λ i. (sym c.requires.1.0 i, sym c.requires.1.1 i)) c.requires.0.moment in
    subst (AllRowsFit maps) (sym rows) (rows_fit g.at moment.fine moment.possible maps (ap (λ (w : World). w.maps) c.requires.1.0))

pub returns : goal.returns
returns g c =
    let script = c.args.job.now.typed in
    output_then script (cpus_in c.args.job.now) g.at.steps c.args.ran.now.steps (λ object. ap (operations_at object) c.requires.1.1 ∙ c.requires.0.same object)
    (λ cpus. output_of c.args.form script cpus c.args.ran.now.steps)
    c.as_slice-2.result.now c.as_slice-3.result.now _
    (c.as_slice-2.ensures.value ∙ c.in_ok-rows.ensures.rows ∙ ap (of_maps (rows_after g.at.world.maps g.at.world.cpus g.at.steps) 0) c.as_slice.ensures
    ∙ (λ i. of_maps (rows_after (c.requires.1.0 i).maps (c.requires.1.0 i).cpus g.at.steps) 0 script.maps))
    (c.as_slice-3.ensures.value ∙ c.in_ok-rows.ensures.lost ∙ ap (of_maps (lost_after g.at.world.maps g.at.world.cpus g.at.steps) 0) c.as_slice.ensures
    ∙ (λ i. of_maps (lost_after (c.requires.1.0 i).maps (c.requires.1.0 i).cpus g.at.steps) 0 script.maps))
    c.in_ok-output.ensures
