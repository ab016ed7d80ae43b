use Rattle.std.proofs.Common.{Some, None, ap, ◌∙◌}
use Rattle.recordings.specs.Events.{format_with}
use Rattle.rec_format.proofs.TableLaws.{place_found}
use Rattle.rec_format.proofs.table.FormatTable.find.Goals as goal

pub returns-in_default-get : goal.returns-in_default-get
returns-in_default-get c =
    place_found c.args.id c.in-Some.place.now c.self.inside.tables.formats None (c.in-Some.ensures.value ∙ c.self.invariant.by_id c.args.id) c.in_default-get.ensures
    ∙ ap (format_with c.args.id) c.self.view_is

pub returns : goal.returns
returns c =
    place_found c.args.id c.in-Some.place.now c.self.inside.tables.formats (Some c.in-Some-get.format.now) (c.in-Some.ensures.value ∙ c.self.invariant.by_id c.args.id) c.in-Some-get.ensures
    ∙ ap (format_with c.args.id) c.self.view_is
