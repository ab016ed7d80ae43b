use Rattle.std.proofs.Common.{sym, ap, ◌∙◌}
use Rattle.std.specs.Option.{option_copied}
use Rattle.body_fixtures.proofs.Served.{served}
use Rattle.body_fixtures.proofs.walks.walk_typed.Goals as goal

pub walk-requires : goal.walk-requires
walk-requires c = served c.args.typed.now.maps c.args.typed.now.formats c.args.typed.now.bodies c.args.number c.in-Some.body.now c.args.typed.now.placed (sym c.get.ensures ∙ ap option_copied c.in-Some.is)
