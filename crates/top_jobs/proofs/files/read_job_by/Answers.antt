use Rattle.std.proofs.Common.{[], ◌∷◌, refl, ◌∙◌}
use Rattle.bt_io.specs.Parts.{joined}
use Rattle.top_refusals.specs.declared.refusal.Operand.TheVariants.{Script, Recording}
use Rattle.top_jobs.specs.Doing.{IsRead}
use Rattle.top_jobs.specs.Jobs.{IsJobFor}
use Rattle.top_refusals.specs.Orders.{file_of, on_script}
use Rattle.top_jobs.specs.Reads.{shelf_use}
use Rattle.top_jobs.proofs.FailedNames.{failed_among, failed_later, judged_failed}
use Rattle.top_jobs.proofs.OneRead.{both_jobs, found_of, named_first, named_next, read_from, two_asked, unread_from}
use Rattle.top_jobs.proofs.Reading.{all_read, file_unread}
use Rattle.top_jobs.proofs.files.read_job_by.Goals as goal

pub returns-in-Err-clause-performs : goal.returns-in-Err-clause-performs
returns-in-Err-clause-performs g c =
    file_unread _ (file_of Script c.args.script.now) (file_of Recording c.args.recording.now ∷ []) [] [] c.in-Err.refusal tt tt c.in-Err.ensures.unread _
    c.in-Err.ensures.named_unless (named_first _ _ c.args.script.now c.read_file.ensures.named_or_not)

pub returns-in-Err-clause-fault_named : goal.returns-in-Err-clause-fault_named
returns-in-Err-clause-fault_named g c =
    let seen = shelf_use g.S.Shelf.held g.S.Shelf.faults g.S.Shelf.asked c.args.shelf.now c.read_file.new.shelf in
    failed_among (on_script c.args.script.now c.args.recording.now) (file_of Script c.args.script.now) seen c.in-Err.refusal _ _ refl c.in-Err.ensures.unread
    c.in-Err.ensures.fault_named

pub returns-in-Err-read_parts-clause-performs : goal.returns-in-Err-read_parts-clause-performs
returns-in-Err-read_parts-clause-performs g c =
    let seen = shelf_use g.S.Shelf.held g.S.Shelf.faults g.S.Shelf.asked c.args.shelf.now c.read_parts.new.shelf in
    let between = shelf_use g.S.Shelf.held g.S.Shelf.faults g.S.Shelf.asked c.read_file.new.shelf c.read_parts.new.shelf in
    file_unread seen (file_of Recording c.args.recording.now) [] (file_of Script c.args.script.now ∷ []) (c.in-Ok.text.items ∷ []) c.in-Err-read_parts.refusal
    (c.in-Ok.ensures.read, tt) ((λ e. cc, tt), tt)
    (unread_from seen between (file_of Recording c.args.recording.now) c.in-Err-read_parts.refusal c.read_file.ensures.kept c.read_file.ensures.later refl
    c.in-Err-read_parts.ensures.unread) _
    (λ known. two_asked _ _ _ (c.args.script.now ∷ []) c.args.recording.now c.in-Ok.ensures.named (c.in-Err-read_parts.ensures.named_unless known))
    (named_next _ _ _ (c.args.script.now ∷ []) c.args.recording.now c.in-Ok.ensures.named c.read_parts.ensures.named_or_not)

pub returns-in-Err-read_parts-clause-fault_named : goal.returns-in-Err-read_parts-clause-fault_named
returns-in-Err-read_parts-clause-fault_named g c =
    let between = shelf_use g.S.Shelf.held g.S.Shelf.faults g.S.Shelf.asked c.read_file.new.shelf c.read_parts.new.shelf in
    failed_later (on_script c.args.script.now c.args.recording.now) _ _ _ c.in-Err-read_parts.refusal c.in-Ok.ensures.fault_named
    (failed_among (on_script c.args.script.now c.args.recording.now) (file_of Recording c.args.recording.now) between c.in-Err-read_parts.refusal _ _ refl
    c.in-Err-read_parts.ensures.unread c.in-Err-read_parts.ensures.fault_named)

pub returns-clause-performs : goal.returns-clause-performs
returns-clause-performs g c =
    let text = c.as_slice.result.now in let bytes = joined c.in-Ok-read_parts.parts.items in
    let first : IsRead (g.S.Shelf.held c.args.shelf.now) (file_of Script c.args.script.now) text = rw c.as_slice.ensures.value c.in-Ok.ensures.read in
    let second : IsRead (g.S.Shelf.held c.args.shelf.now) (file_of Recording c.args.recording.now) bytes =
    read_from (g.S.Shelf.held c.args.shelf.now) (g.S.Shelf.held c.read_file.new.shelf) (file_of Recording c.args.recording.now) bytes
    c.read_file.ensures.kept c.in-Ok-read_parts.ensures.read in
    all_read _ (file_of Script c.args.script.now) (file_of Recording c.args.recording.now ∷ []) (text ∷ bytes ∷ []) (first, (second, tt)) c.judge.result _
    (both_jobs (on_script c.args.script.now c.args.recording.now) text bytes [] c.judge.result (first.fits, (second.fits, tt)) c.judge.ensures.job)
    (found_of text bytes [] c.judge.result c.judge.ensures.refused) c.judge.ensures.exact
    (two_asked _ _ _ (c.args.script.now ∷ []) c.args.recording.now c.in-Ok.ensures.named c.in-Ok-read_parts.ensures.named)

pub returns-clause-fault_named : goal.returns-clause-fault_named
returns-clause-fault_named g c =
    judged_failed (on_script c.args.script.now c.args.recording.now) _ _ _ _ c.judge.result c.judge.ensures.refused
    (c.in-Ok-read_parts.ensures.fault_named ∙ c.in-Ok.ensures.fault_named)
