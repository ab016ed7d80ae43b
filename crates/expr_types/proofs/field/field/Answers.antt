use Rattle.std.proofs.lemmas.Grind.{common_steps}
use Rattle.std.proofs.Common.{◌≡◌, ◌∷◌, [], Some, ap, sym, subst, ◌∙◌, arith, rules}
use Rattle.typed_tree.specs.Parts.{Made}
use Rattle.expr_types.specs.Known.{event_field}
use Rattle.expr_types.specs.Mentions.{ReadsField, Args, OfField, FieldWord}
use Rattle.expr_types.specs.Walk.{at, seen}
use Rattle.expr_types.specs.Checked.{Checked}
use Rattle.expr_types.proofs.Constructs.{field_checked, field_refused, field_unknown, field_unreadable}
use Rattle.expr_types.proofs.field.field.Goals as goal

pub returns-in-Some-value_of_field : goal.returns-in-Some-value_of_field
returns-in-Some-value_of_field c =
    let k = c.args.known.now in
    let name = c.args.name.now in
    let read = c.in-Some-value_of_field.ensures in
    let found : event_field k.event name ≡ Some c.in_ok-try_copy.field-0 =
    ap (event_field k.event) (sym c.as_slice.ensures) ∙ (sym c.in-Some.ensures ∙ ap (λ f. Some f) (sym c.in_ok-try_copy.ensures)) in
    subst (λ (m : Made). Checked (seen (at c.args.place Args ∷ at c.args.word (ReadsField name) ∷ []) (OfField name) (FieldWord name ∷ [])) k k m) (sym read.is)
    (field_checked k name c.args.place c.args.word c.in_ok-try_copy.field-0 read.shape found read.kind)

pub returns-in_default : goal.returns-in_default
returns-in_default c = search (rules, field_refused, field_unknown, field_unreadable)

pub returns-then-is_none : goal.returns-then-is_none
returns-then-is_none c = search (rules, field_refused, field_unknown, field_unreadable)

pub returns-in-None : goal.returns-in-None
returns-in-None c = search (rules, field_refused, field_unknown, field_unreadable)
