use Rattle.std.proofs.Common.{◌≡◌, ℕ, sym, subst}
use Rattle.bt_core.specs.declared.memory.Memory.{Memory}
use Rattle.fmt_text.specs.declared.piece.FormatFault.{FormatFault}
use Rattle.fmt_text.specs.declared.piece.FormatFault.TheVariants as faults
use Rattle.fmt_text.specs.Reading.{IsFault}
use Rattle.fmt_text.proofs.Decided.{format_read, bad_unread}
use Rattle.bt_types.proofs.printf.pieces_of.Goals as goal

not_memory : (e : FormatFault) (offset : ℕ) (m : Memory) → e ≡ faults.BadAt offset → e ≡ faults.Memory m → ⊥
not_memory e offset m is other = cc

pub returns-in-Ok : goal.returns-in-Ok
returns-in-Ok c = sym (format_read c.args.text.now c.in-Ok.pieces c.in-Ok.ensures.found)

pub returns-in-Err-BadAt : goal.returns-in-Err-BadAt
returns-in-Err-BadAt c =
    sym (bad_unread c.args.text.now c.in-Err-BadAt.field-0-0
    (subst (λ (e : FormatFault). IsFault c.args.text.now e) c.in-Err-BadAt.field-0-is (c.in-Err-BadAt.ensures.fault (λ h. not_memory _ _ _ c.in-Err-BadAt.field-0-is h))))
