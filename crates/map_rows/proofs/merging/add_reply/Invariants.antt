use Rattle.std.proofs.Common.{◌≡◌, drop, map}
use Rattle.std.specs.Prelude.{fold}
use Rattle.map_rows.specs.Merged.{agg_row}
use Rattle.map_rows.specs.Merging.{with_row, AllHaveKind}
use Rattle.map_rows.proofs.merging.add_reply.Given as goal

-- the rows so far, with what is left to add, are the whole
abbrev pub invariant-loop-agg : goal.invariant-loop-agg
invariant-loop-agg l = record {
  added : fold with_row l.rows.entries (map agg_row (drop l.agg-index l.agg-items)) ≡ fold with_row l.fn.rows.entries (map agg_row l.agg-items);
  held : AllHaveKind l.fn.kind l.rows.entries;
}
