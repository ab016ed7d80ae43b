use Rattle.std.proofs.Common.{◌∙◌}
use Rattle.run_objects.proofs.MapReads.{reads_have_rows}
use Rattle.run_objects.proofs.ends.rows_of.Goals as goal

pub merged-requires : goal.merged-requires
merged-requires g c = reads_have_rows g.at c.args.map c.args.decl.now c.requires.1 c.requires.0.fine c.requires.0.possible c.as_slice.result.now (c.as_slice.ensures.value ∙ c.in_ok-replies.ensures)
