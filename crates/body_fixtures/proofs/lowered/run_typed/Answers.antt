use Rattle.std.proofs.Common.{sym, ap, ◌∙◌}
use Rattle.std.specs.Option.{option_copied}
use Rattle.body_fixtures.proofs.lowered.run_typed.Goals as goal

pub run_lowered-requires : goal.run_lowered-requires
run_lowered-requires c = λ p e. (c.in_ok-probes.ensures.each c.args.number c.in-Some.body.now p (sym c.get.ensures ∙ ap option_copied c.in-Some.is) (sym (c.get-in-Some).ensures ∙ e)).reads
