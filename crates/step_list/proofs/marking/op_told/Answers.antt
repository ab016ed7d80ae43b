use Rattle.std.proofs.Common.{[], ap, sym, ◌∙◌, SFits, w64, rules}
use Rattle.std.proofs.lemmas.Int.{to_z-of_z}
use Rattle.bt_core.specs.declared.step.Op.TheVariants as ops
use Rattle.bt_core.specs.declared.value.Value.TheVariants.{Int}
use Rattle.step_list.specs.declared.deed.Mark.{Mark}
use Rattle.step_list.specs.Deeds.{deed_of}
use Rattle.step_list.proofs.marking.op_told.Goals as goal

pub returns-in_ok-key_at-in-GetInt : goal.returns-in_ok-key_at-in-GetInt
returns-in_ok-key_at-in-GetInt c =
    ap ops.Get c.in_ok-key_at-in-GetInt.ensures ∙ ap (λ (m : Mark). (deed_of c.args.keys.now [] c.args.prints.now m).op) (sym c.in-GetInt.is)

pub returns-in_ok-key_at-in-SetInt : goal.returns-in_ok-key_at-in-SetInt
returns-in_ok-key_at-in-SetInt c =
    let fits : SFits w64 c.in-SetInt.number = search rules in
    (λ i. ops.Set (c.in_ok-key_at-in-SetInt.ensures i) (Int (to_z-of_z w64 c.in-SetInt.number fits i))) ∙ ap (λ (m : Mark). (deed_of c.args.keys.now [] c.args.prints.now m).op) (sym c.in-SetInt.is)

pub returns-in_ok-key_at-in-Delete : goal.returns-in_ok-key_at-in-Delete
returns-in_ok-key_at-in-Delete c =
    ap ops.Delete c.in_ok-key_at-in-Delete.ensures ∙ ap (λ (m : Mark). (deed_of c.args.keys.now [] c.args.prints.now m).op) (sym c.in-Delete.is)

pub returns-in_ok-key_at-in-Add : goal.returns-in_ok-key_at-in-Add
returns-in_ok-key_at-in-Add c =
    let fits : SFits w64 c.in-Add.number = search rules in
    (λ i. ops.Add (record { 0 = c.in-Add.map }) (c.in_ok-key_at-in-Add.ensures i) (to_z-of_z w64 c.in-Add.number fits i)) ∙ ap (λ (m : Mark). (deed_of c.args.keys.now [] c.args.prints.now m).op) (sym c.in-Add.is)

pub returns-in-Check : goal.returns-in-Check
returns-in-Check c =
    ap (λ (m : Mark). (deed_of c.args.keys.now [] c.args.prints.now m).op) (sym c.in-Check.is)

pub returns-in_ok-print_at-in-Print : goal.returns-in_ok-print_at-in-Print
returns-in_ok-print_at-in-Print c =
    ap ops.Emit c.in_ok-print_at-in-Print.ensures ∙ ap (λ (m : Mark). (deed_of c.args.keys.now [] c.args.prints.now m).op) (sym c.in-Print.is)

pub returns-in-Whole : goal.returns-in-Whole
returns-in-Whole c =
    ap (λ (m : Mark). (deed_of c.args.keys.now [] c.args.prints.now m).op) (sym c.in-Whole.is)
