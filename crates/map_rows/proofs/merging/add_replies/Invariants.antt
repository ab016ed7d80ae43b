use Rattle.std.proofs.Common.{◌≡◌, drop}
use Rattle.std.specs.Prelude.{fold}
use Rattle.map_rows.specs.Merged.{all_rows}
use Rattle.map_rows.specs.Merging.{with_row, AllHaveKind}
use Rattle.map_rows.proofs.merging.add_replies.Given as goal

-- the rows so far, with what is left to add, are the whole
abbrev pub invariant-loop-reply : goal.invariant-loop-reply
invariant-loop-reply l = record {
  added : fold with_row l.rows.entries (all_rows l.kind (drop l.reply-index l.replies)) ≡ fold with_row l.fn.rows.entries (all_rows l.kind l.replies);
  held : AllHaveKind l.kind l.rows.entries;
}
