use Rattle.tracefs_format.proofs.LayoutLaws.{fields_inside, size_inside}
use Rattle.tracefs_format.proofs.laws.fields_inside.Goals as goal

pub returns : goal.returns
returns c = record { fields = fields_inside; small = size_inside }
