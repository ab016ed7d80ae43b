use Rattle.std.proofs.Common.{[], append-nil, sym, ap, ◌∙◌, SFits, w64, rules}
use Rattle.std.proofs.lemmas.Int.{to_z-of_z}
use Rattle.bt_core.specs.declared.step.ObjectId.TheVariants.{Cpu}
use Rattle.bt_core.specs.declared.step.Op.TheVariants.{Add}
use Rattle.step_list.specs.Deeds.{deed, key_of}
use Rattle.step_list.proofs.marking.keep_add.Goals as goal

pub returns-in-Add-Done-clause-whole : goal.returns-in-Add-Done-clause-whole
returns-in-Add-Done-clause-whole c =
    ([], sym (append-nil c.args.whole.now.items))

pub returns-in_default-clause-keys : goal.returns-in_default-clause-keys
returns-in_default-clause-keys c =
    ([], sym (append-nil c.args.keys.now.items))

pub returns-in-Add-Done-clause-deed : goal.returns-in-Add-Done-clause-deed
returns-in-Add-Done-clause-deed c =
    let at = c.in-Add-Done in
    let fits : SFits w64 at.number = search rules in
    let op = (λ i. Add at.map ((c.keep_key_of.ensures.key ∙ ap key_of at.is-0) i) (to_z-of_z w64 at.number fits i)) ∙ sym at.is-0 in
    λ prints i. deed c.args.actor (Cpu (sym c.if-owner-actor.true i)) (op i) (sym at.is-1 i)
