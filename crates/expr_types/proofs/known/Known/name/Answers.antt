use Rattle.std.proofs.Common.{ap, ◌∙◌}
use Rattle.expr_types.specs.declared.known.Known.{Known}
use Rattle.expr_types.specs.Known.{add_number, place_of}
use Rattle.expr_types.proofs.known.Known.name.Goals as goal

pub returns-clause-learned : goal.returns-clause-learned
returns-clause-learned c =
    c.in_ok-add_number.ensures.learned
    ∙ (ap (add_number c.add_name.new.self) c.in_ok-number.ensures.placed ∙ ap (λ (x : Known). add_number x (place_of c.args.name.now x.names)) c.in_ok-number.ensures.learned)
