use Rattle.std.proofs.Common.{◌≡◌, map, take}
use Rattle.serde_json.specs.View.{view}
use Rattle.json_out.specs.Rows.{row_data}
use Rattle.json_out.proofs.rows.row_list.Given as goal

-- the rows so far
abbrev pub invariant-loop-row : goal.invariant-loop-row
invariant-loop-row l = map view l.list.items ≡ map (row_data l.div) (take l.row-index l.rows)
