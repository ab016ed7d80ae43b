use Rattle.std.proofs.Common.{◌∙◌, ◌+◌, ap, sym, take, Some}
use Rattle.std.proofs.lemmas.List.{take_rest}
use Rattle.tracefs_format.proofs.BytesLemmas.{cut_at-Some, cut_at-None}
use Rattle.tracefs_format.proofs.bytes.cut_at.Goals as goal

pub returns-in-Some : goal.returns-in-Some
returns-in-Some c = cut_at-Some c.args.byte c.args.bytes.now c.in-Some.place (sym c.in-Some.ensures) ∙ ap (λ rest. Some (take c.in-Some.place c.args.bytes.now, rest)) (sym (take_rest c.args.bytes.now (c.in-Some.place + 1)))

pub returns-in-None : goal.returns-in-None
returns-in-None c = cut_at-None c.args.byte c.args.bytes.now (sym c.in-None.ensures)
