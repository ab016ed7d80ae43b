use Rattle.top_jobs.proofs.TooLarge.{probe_at}
use Rattle.top_jobs.proofs.sizes.probe_place.Goals as goal

pub returns : goal.returns
returns c =
    probe_at c.args.script.now c.args.attached.now c.args.body c.requires c.as_slice.result.now c.as_slice-2.result.now _ c.index-as_slice-id.result
    c.as_slice.ensures c.as_slice-2.ensures
