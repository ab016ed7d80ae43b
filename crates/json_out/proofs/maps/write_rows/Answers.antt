use Rattle.std.proofs.Common.{◌≡◌, map, w64, FitsSigned}
use Rattle.std.proofs.lemmas.Int.{to_z-of_z}
use Rattle.serde_json.specs.View.{view}
use Rattle.json_out.specs.Lines.{map_data}
use Rattle.json_out.specs.Rows.{row_data}
use Rattle.json_out.proofs.Plain.{plain_line}
use Rattle.json_out.proofs.maps.write_rows.Goals as goal

pub write_line-requires : goal.write_line-requires
write_line-requires c =
    let f : FitsSigned w64 c.args.div = c.ranges.div in
    let is : view c.in_ok-map_value.field-0 ≡ map_data c.args.name.now (map (row_data c.args.div) c.args.rows.now) = simp to_z-of_z at c.in_ok-map_value.ensures in
    plain_line _ c.args.name.now c.args.div c.args.rows.now is
