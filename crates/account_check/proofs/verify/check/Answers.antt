use Rattle.std.proofs.Common.{length, ap, ◌∙◌, subst}
use Rattle.bt_meaning.specs.Prints.{lost_after, rows_after}
use Rattle.run_objects.proofs.MapReads.{maps_long}
use Rattle.account_steps.specs.Answers.{IsFound}
use Rattle.account_check.specs.Accounts.{run}
use Rattle.account_check.proofs.RunsTold.{emit_own}
use Rattle.account_check.proofs.Verdicts.{true_of}
use Rattle.account_check.proofs.verify.check.Goals as goal

pub text_of-requires-clause-own : goal.text_of-requires-clause-own
text_of-requires-clause-own c =
    let found = subst (IsFound (run c.args.script.now c.args.attached.now c.args.recording.now) c.in_ok-entries.field-0.entries) c.in-Right.is c.in_ok-place.ensures in
    emit_own c.args.script.now c.args.attached.now c.args.recording.now c.requires c.in-Right.told.steps found.0

pub text_of-requires-clause-rows : goal.text_of-requires-clause-rows
text_of-requires-clause-rows c =
    let script = c.args.script.now in
    let found = subst (IsFound (run script c.args.attached.now c.args.recording.now) c.in_ok-entries.field-0.entries) c.in-Right.is c.in_ok-place.ensures in
    ap length found.2.rows ∙ maps_long (rows_after script.maps (length c.args.recording.now.cpus) c.in-Right.told.steps) 0 script.maps

pub text_of-requires-clause-lost : goal.text_of-requires-clause-lost
text_of-requires-clause-lost c =
    let script = c.args.script.now in
    let found = subst (IsFound (run script c.args.attached.now c.args.recording.now) c.in_ok-entries.field-0.entries) c.in-Right.is c.in_ok-place.ensures in
    ap length found.2.lost ∙ maps_long (lost_after script.maps (length c.args.recording.now.cpus) c.in-Right.told.steps) 0 script.maps

pub returns-in-None : goal.returns-in-None
returns-in-None c =
    let script = c.args.script.now in let attached = c.args.attached.now in let r = c.args.recording.now in
    let found = subst (IsFound (run script attached r) c.in_ok-entries.field-0.entries) c.in-Right.is c.in_ok-place.ensures in
    true_of script attached r c.args.account.now c.in_ok-entries.field-0.entries c.in_ok-entries.field-0.text.now c.in_ok-entries.ensures.read c.in-Right.told.steps found.0 found.1
    c.in_ok-printed.printed.items (c.in_ok-printed.ensures (length r.cpus) found.2.rows found.2.lost) c.requires
    (λ actor. c.programs_make_such_calls.ensures script attached r c.requires actor) (c.in-None.ensures ∙ c.as_slice.ensures.value)
