-- What `vet` says of the programs that it hands back.
use Rattle.std.specs.Prelude.{◌≡◌, ◌≢◌, ◌↔◌, ℕ, List, Option, Some, None}
use Rattle.std.specs.Io.KnownBytes.{Appends}
use Rattle.bpf_check.specs.declared.check.CodeFault.{CodeFault}
use Rattle.bpf_encode.specs.declared.program.Program.{Program}
use Rattle.bt_words.specs.declared.order.Order.{Order}
use Rattle.bt_words.specs.declared.order.Order.TheVariants.{Vet}
use Rattle.run_output.specs.declared.job.Job.{Job}
use Rattle.typed_tree.specs.declared.script.Typed.{Typed}
use Rattle.top_refusals.specs.declared.refusal.CodeRefusal.{CodeRefusal}
use Rattle.top_refusals.specs.declared.refusal.Denial.TheVariants as denial
use Rattle.top_refusals.specs.declared.refusal.Refusal.{Refusal}
use Rattle.top_refusals.specs.declared.refusal.Refusal.TheVariants.{WriteFault, Denied}
use Rattle.top_jobs.specs.Jobs.{IsJobFor}
use Rattle.top_refusals.specs.Lines.{SinkUse}
use Rattle.top_refusals.specs.Orders.{OperandFile, on_script}
use Rattle.top_jobs.specs.Reads.{ShelfUse, AreContentsOf}
use Rattle.top_jobs.specs.Vetting.{AllPass, IsFirstRefused, IsRefused, vet_listing}
use Rattle.bt_top.specs.declared.report.Report.{Report}

-- the check refuses one of the programs
abbrev pub HasRefused : Typed → List Program → Type 0
HasRefused typed programs = (number : ℕ) × (fault : CodeFault) × IsRefused typed programs number fault

-- The programs are those of the job of the files that were read. The status is 8 exactly where the check refuses one of them; the first such is
-- told then. Else the check accepts all, and at status 0 the lines that tell so were written.
pub record IsVetted (held : List ℕ → Option (List ℕ)) (files : List OperandFile) (out : SinkUse) (report : Report) : Type 0 where
  pub contents : List (List ℕ)
  pub read : AreContentsOf held files contents
  pub job : Job
  pub accepted : IsJobFor files contents job
  pub programs : report.programs ≡ job.programs
  pub exact : (report.status ≡ 8) ↔ HasRefused job.typed report.programs
  pub first : (why : CodeRefusal) → report.refusal ≡ Some (Denied (denial.Code why)) → IsFirstRefused job.attached.bodies job.typed report.programs why
  pub passed : report.status ≢ 8 → AllPass job.typed report.programs
  pub lines : report.status ≡ 0 → Appends out.taken out.taken_after (vet_listing job.recording.formats job.attached.bodies report.programs)

-- so it is wherever programs are handed back; else the status is another
abbrev pub IsVettedUnlessRefused : Option Refusal → (List ℕ → Option (List ℕ)) → List OperandFile → SinkUse → Report → Type 0
IsVettedUnlessRefused None held files out report = IsVetted held files out report
IsVettedUnlessRefused (Some WriteFault) held files out report = IsVetted held files out report
IsVettedUnlessRefused (Some (Denied (denial.Code why))) held files out report = IsVetted held files out report
IsVettedUnlessRefused (Some refusal) held files out report = report.status ≢ 8

-- status 8 is of `vet` alone
abbrev pub Vetted : Option Order → ShelfUse → SinkUse → Report → Type 0
Vetted (Some (Vet script recording)) shelf out report = IsVettedUnlessRefused report.refusal shelf.held (on_script script recording) out report
Vetted order shelf out report = report.status ≢ 8
