use Rattle.std.proofs.Common.{[], append-nil, sym, ap, ◌∙◌}
use Rattle.bt_core.specs.declared.step.ObjectId.TheVariants.{Shared}
use Rattle.bt_core.specs.declared.step.Op.TheVariants.{Delete}
use Rattle.step_list.specs.Deeds.{deed, key_of}
use Rattle.step_list.proofs.marking.keep_shared.Goals as goal

pub returns-in-Get-Value-Int-clause-whole : goal.returns-in-Get-Value-Int-clause-whole
returns-in-Get-Value-Int-clause-whole c =
    ([], sym (append-nil c.args.whole.now.items))

pub returns-in-Set-default-Int-Done-clause-whole : goal.returns-in-Set-default-Int-Done-clause-whole
returns-in-Set-default-Int-Done-clause-whole c =
    ([], sym (append-nil c.args.whole.now.items))

pub returns-in-Delete-Done-clause-whole : goal.returns-in-Delete-Done-clause-whole
returns-in-Delete-Done-clause-whole c =
    ([], sym (append-nil c.args.whole.now.items))

pub returns-in_default-clause-keys : goal.returns-in_default-clause-keys
returns-in_default-clause-keys c =
    ([], sym (append-nil c.args.keys.now.items))

pub returns-in-Delete-Done-clause-deed : goal.returns-in-Delete-Done-clause-deed
returns-in-Delete-Done-clause-deed c =
    let at = c.in-Delete-Done in
    let key = c.keep_key_of-in-Delete-Done.ensures.key ∙ ap key_of at.is-0 in
    λ prints i. deed c.args.actor (Shared c.args.map c.args.part) ((ap Delete key ∙ sym at.is-0) i) (sym at.is-1 i)
