use Rattle.std.proofs.Common.{ap, length, List, ◌∙◌, []}
use Rattle.std.proofs.lemmas.List.{length-replicate}
use Rattle.step_objects.specs.declared.table.Table.{Table}
use Rattle.bt_core.specs.declared.agg.Agg.{Agg}
use Rattle.step_objects.proofs.cpu.CpuTable.new.Goals as goal

pub invariant_of-result : goal.invariant_of-result
invariant_of-result c = let blank : Table Agg = record { rows = []; lost = 0 } in record {
  sized = ap (λ (ts : List (Table Agg)). length ts) c.in_ok-tables.ensures ∙ length-replicate {A = Table Agg} c.len.result blank ∙ c.len.ensures;
  fine = c.requires;
}
