use Rattle.rec_gen.proofs.Formats.{is_memory}
use Rattle.rec_gen.proofs.format.made_format.Goals as goal

pub want_of-requires : goal.want_of-requires
want_of-requires c = is_memory c.read_layout.result c.in-Err.fault c.read_layout.ensures.only c.in-Err.is
