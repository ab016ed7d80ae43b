use Rattle.tracefs_format.proofs.NameLaws.{field_named-IsFieldNamed, IsFieldNamed-field_named}
use Rattle.tracefs_format.proofs.laws.one_field_of_a_name.Goals as goal

pub returns : goal.returns
returns c = λ text name layout field is. (field_named-IsFieldNamed name layout.fields field, IsFieldNamed-field_named name layout.fields field is.names)
