use Rattle.std.proofs.Common.{ℤ, SFits, to_z, of_z, w64, ap, sym, subst, ◌∙◌, refl, rules}
use Rattle.std.proofs.lemmas.Int.{to_z-of_z}
use Rattle.std.proofs.lemmas.Result.{err_from_is_err_and}
use Rattle.bt_core.specs.Interaction.{Interaction, Part, Whole}
use Rattle.bt_core.proofs.InteractionLaws.{Part-and_then, Part-after, Performed-none, Whole-and_then, Whole-Ended}
use Rattle.map_rows.specs.Merged.{merged}
use Rattle.map_rows.specs.UnderKey.{number_under}
use Rattle.map_ops.proofs.AggSums.{summed_is}
use Rattle.map_ops.proofs.summing.sum_under.Goals as goal

pub returns-in_err-replies-clause-performed : goal.returns-in_err-replies-clause-performed
returns-in_err-replies-clause-performed g c =
    let p = err_from_is_err_and c.from_residual.result c.from_residual.ensures.1 in
    rw p.1 (subst (λ (t : Interaction ℤ). Part t (g.P.Port.steps c.args.port.now) (g.P.Port.steps c.ask_each.new.port)) (summed_is c.args.kind c.args.map c.args.key.now c.args.actors c.requires.gathers)
    (Part-and_then _ _ _ _ c.in_err-replies.ensures.performed))

pub returns-in_err-rows-clause-performed : goal.returns-in_err-rows-clause-performed
returns-in_err-rows-clause-performed g c =
    let p = err_from_is_err_and c.from_residual-in_err-rows.result c.from_residual-in_err-rows.ensures.1 in
    rw p.1 (subst (λ (t : Interaction ℤ). Part t (g.P.Port.steps c.args.port.now) (g.P.Port.steps c.ask_each.new.port)) (summed_is c.args.kind c.args.map c.args.key.now c.args.actors c.requires.gathers)
    (Part-after _ _ _ _ _ _ c.in_ok-replies.ensures.performed (Performed-none _ _ _ refl)))

pub returns-clause-performed : goal.returns-clause-performed
returns-clause-performed g c =
    let rows = c.in_ok-rows.ensures ∙ ap (merged c.args.kind) c.as_slice.ensures in
    let number = c.number_under.ensures ∙ ap (number_under c.args.key.now) ((c.as_slice-2).ensures ∙ rows) in
    let fits : SFits w64 c.number_under.result = search rules in
    subst (λ (t : Interaction ℤ). Whole t (g.P.Port.steps c.args.port.now) (g.P.Port.steps c.ask_each.new.port) (to_z w64 (of_z w64 c.number_under.result))) (summed_is c.args.kind c.args.map c.args.key.now c.args.actors c.requires.gathers)
    (Whole-and_then _ _ _ _ _ _ _ c.in_ok-replies.ensures.performed (Whole-Ended _ _ _ (sym number ∙ sym (to_z-of_z w64 c.number_under.result fits))))
