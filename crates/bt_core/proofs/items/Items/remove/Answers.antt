use Rattle.std.proofs.Common.{length, get_or, refl, ap, ◌∙◌}
use Rattle.std.specs.Prelude.{remove}
use Rattle.std.proofs.lemmas.Option.{slice_get_read}
use Rattle.bt_core.proofs.items.Items.remove.Goals as goal

pub returns-clause-taken : goal.returns-clause-taken
returns-clause-taken g c =
    slice_get_read c.args.self.now (length c.args.self.now) c.args.place c.remove.result refl c.requires
    (c.remove.ensures.value ∙ ap (λ l. get_or l c.args.place c.remove.result) c.self.view_is)

pub returns-clause-rest : goal.returns-clause-rest
returns-clause-rest g c = c.remove.ensures.items ∙ ap (λ l. remove l c.args.place) c.self.view_is
