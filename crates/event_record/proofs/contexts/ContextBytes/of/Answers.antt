use Rattle.std.proofs.Common.{◌+◌, ◌-◌, length, arith}
use Rattle.event_record.specs.Parts.{context_of}
use Rattle.event_record.proofs.ContextLemmas.{name_put, told, told_whole}
use Rattle.event_record.proofs.contexts.ContextBytes.of.Goals as goal

pub invariant_of-result : goal.invariant_of-result
invariant_of-result c =
    let parts = context_of c.args.parts.now in
    let name = c.name_in-name.result.now in
    told_whole parts _
    (name_put parts c.put_numbers.new.bytes name c.copy_from_slice.new.self (64 + length name - 64) c.put_numbers.ensures.numbers c.name_in-name.ensures.value c.copy_from_slice.ensures.after (omega arith))
    c.put_numbers.ensures.fits c.name_in-name.ensures.short

pub returns : goal.returns
returns c =
    let parts = context_of c.args.parts.now in
    let name = c.name_in-name.result.now in
    told parts _
    (name_put parts c.put_numbers.new.bytes name c.copy_from_slice.new.self (64 + length name - 64) c.put_numbers.ensures.numbers c.name_in-name.ensures.value c.copy_from_slice.ensures.after (omega arith))
    c.put_numbers.ensures.fits c.name_in-name.ensures.short
