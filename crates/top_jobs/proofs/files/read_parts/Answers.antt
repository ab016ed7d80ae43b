use Rattle.std.proofs.Common.{[], ◌∷◌}
use Rattle.top_refusals.specs.declared.refusal.Operand.TheVariants.{Recording}
use Rattle.top_refusals.specs.Orders.{file_of}
use Rattle.top_jobs.specs.Reads.{shelf_use}
use Rattle.top_jobs.proofs.FailedNames.{named_alone, none_failed_ok, unread_failed}
use Rattle.top_jobs.proofs.OneRead.{noted_ok, noted_unless, unread_by}
use Rattle.top_jobs.proofs.Reading.{read_error}
use Rattle.top_jobs.proofs.files.read_parts.Goals as goal

pub returns-in-Ok-clause-read : goal.returns-in-Ok-clause-read
returns-in-Ok-clause-read g c = record { fits = c.in-Ok.ensures.fits; told = c.in-Ok.ensures.bytes }

pub returns-in-Ok-clause-named : goal.returns-in-Ok-clause-named
returns-in-Ok-clause-named g c = noted_ok c.in-Ok.parts c.in-Ok.ensures.named

pub returns-in-Ok-clause-fault_named : goal.returns-in-Ok-clause-fault_named
returns-in-Ok-clause-fault_named g c = none_failed_ok c.in-Ok.parts c.in-Ok.ensures.none_failed

pub returns-in-Err-clause-unread : goal.returns-in-Err-clause-unread
returns-in-Err-clause-unread g c =
    rw c.read_refusal.ensures
    (unread_by (file_of Recording c.args.name.now) (shelf_use g.S.Shelf.held g.S.Shelf.faults g.S.Shelf.asked c.args.shelf.now c.parts.new.shelf) c.in-Err.error (λ e. c.in-Err.ensures.failed (read_error e))
    (λ e. (c.in-Err.ensures.too_long (read_error e))))

pub returns-in-Err-clause-named_unless : goal.returns-in-Err-clause-named_unless
returns-in-Err-clause-named_unless g c =
    rw c.read_refusal.ensures (noted_unless Recording c.in-Err.error c.in-Err.ensures.named)

pub returns-in-Err-clause-fault_named : goal.returns-in-Err-clause-fault_named
returns-in-Err-clause-fault_named g c =
    rw c.read_refusal.ensures
    (unread_failed (file_of Recording c.args.name.now ∷ []) Recording c.args.name.now _ _ c.in-Err.error (named_alone Recording c.args.name.now)
    (λ e. c.in-Err.ensures.failed_name (read_error e)) c.in-Err.ensures.none_failed)
