use Rattle.tracefs_format.proofs.LayoutLaws.{layout_or_fault, IsLayoutOf-read, one_layout}
use Rattle.tracefs_format.proofs.laws.one_answer.Goals as goal

pub returns : goal.returns
returns c = record { some = layout_or_fault; not_both = λ text layout s. (IsLayoutOf-read text layout s).0; one = one_layout }
