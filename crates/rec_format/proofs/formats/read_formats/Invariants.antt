use Rattle.rec_format.specs.Faults.{HasFormats}
use Rattle.rec_format.proofs.formats.read_formats.Given as goal

abbrev pub invariant-loop : goal.invariant-loop
invariant-loop l = HasFormats l.counter l.bytes l.table l.rest
