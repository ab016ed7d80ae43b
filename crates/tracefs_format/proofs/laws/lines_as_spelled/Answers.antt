use Rattle.tracefs_format.proofs.SpellingLaws.{field_on-IsFieldLine, IsFieldLine-field_on, name_on-IsNameLine, IsNameLine-name_on, id_on-IsIdLine, IsIdLine-id_on}
use Rattle.tracefs_format.proofs.laws.lines_as_spelled.Goals as goal

pub returns : goal.returns
returns c = record {
  name = λ line name. (name_on-IsNameLine line name, IsNameLine-name_on line name);
  id = λ line id. (id_on-IsIdLine line id, IsIdLine-id_on line id);
  field = λ line field. (field_on-IsFieldLine line field, IsFieldLine-field_on line field);
}
