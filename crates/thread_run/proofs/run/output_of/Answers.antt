use Rattle.std.proofs.Common.{length, sym, ap, ◌∙◌, subst}
use Rattle.map_rows.specs.Fits.{AllRowsFit}
use Rattle.bt_meaning.specs.Prints.{rows_after, lost_after, of_maps}
use Rattle.run_objects.proofs.MapReads.{maps_long, rows_fit}
use Rattle.run_objects.specs.Worlds.{World}
use Rattle.thread_run.proofs.run.output_of.Goals as goal

pub output_of_run-requires-clause-rows : goal.output_of_run-requires-clause-rows
output_of_run-requires-clause-rows g c = ap length (c.as_slice-2.ensures.value ∙ c.in_ok-rows.ensures.rows)
    ∙ maps_long (rows_after g.at.world.maps g.at.world.cpus g.at.steps) 0 c.as_slice.result.now ∙ ap length c.as_slice.ensures

pub output_of_run-requires-clause-lost : goal.output_of_run-requires-clause-lost
output_of_run-requires-clause-lost g c = ap length (c.as_slice-3.ensures.value ∙ c.in_ok-rows.ensures.lost)
    ∙ maps_long (lost_after g.at.world.maps g.at.world.cpus g.at.steps) 0 c.as_slice.result.now ∙ ap length c.as_slice.ensures

pub output_of_run-requires-clause-fit : goal.output_of_run-requires-clause-fit
output_of_run-requires-clause-fit g c =
    let maps = c.args.job.now.typed.maps in
    let rows = c.as_slice-2.ensures.value ∙ c.in_ok-rows.ensures.rows ∙ ap (of_maps (rows_after g.at.world.maps g.at.world.cpus g.at.steps) 0) c.as_slice.ensures in
    subst (AllRowsFit maps) (sym rows) (rows_fit g.at c.requires.0.fine c.requires.0.possible maps (ap (λ (w : World). w.maps) c.requires.1.0))
