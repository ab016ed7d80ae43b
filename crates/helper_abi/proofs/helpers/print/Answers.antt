use Rattle.std.proofs.Common.{sym, subst, ◌∙◌, SFits, w64, rules}
use Rattle.std.specs.Prelude.{ℤ}
use Rattle.std.proofs.lemmas.Int.{to_z-of_z}
use Rattle.bpf_interp.specs.Running.{Called}
use Rattle.map_ops.specs.Asking.{printed}
use Rattle.helper_abi.specs.Helpers.{map_id, are_shown}
use Rattle.helper_abi.specs.Steps.{frame_kept}
use Rattle.helper_abi.proofs.Callings.{range-some, range-true}
use Rattle.helper_abi.proofs.CanDo.{small}
use Rattle.helper_abi.proofs.helpers.print.Goals as goal

pub returns-clause-called : goal.returns-clause-called
returns-clause-called g c =
    let fits : SFits w64 c.cast_signed.result = search rules in
    let number = to_z-of_z w64 c.cast_signed.result fits ∙ c.cast_signed.ensures in
    let told = subst (λ (z : ℤ). Called (frame_kept c.args.memory.now (printed c.in-Some.decl.now.kind (map_id c.args.map) c.args.top z c.args.actors)) (g.P.Port.steps c.args.port.now) (g.P.Port.steps c.print_map.new.port) c.print_map.result c.args.memory.now.frame) number c.print_map.ensures.called in
    range-some _ _ c.in-Some.decl.now _ _ _ _ (sym c.in-Some.ensures) (range-true (are_shown c.args.top c.args.div) _ _ _ _ _ (sym c.if-not-are_shown.ensures) told)

pub overflow_cast-map : goal.overflow_cast-map
overflow_cast-map g c =
    record { fits = small c.args.maps.now c.args.map c.in-Some.decl.now (sym c.in-Some.ensures) }
