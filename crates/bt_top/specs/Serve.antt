-- What the top call answers.
use Rattle.std.specs.Prelude.{◌≡◌, ℕ, ◌⊎◌, List, [], ◌∷◌, Option, Some, None}
use Rattle.std.specs.Io.KnownBytes.{Appends, Keeps}
use Rattle.bt_io.specs.Taken.{AppendsPart}
use Rattle.bt_words.specs.declared.order.Order.{Order}
use Rattle.bt_words.specs.declared.order.Order.TheVariants.{Run, Check, Code, Vet, Account, Verify, Gen, Big}
use Rattle.top_refusals.specs.declared.refusal.Denial.{Denial}
use Rattle.top_refusals.specs.declared.refusal.Denial.TheVariants as denial
use Rattle.top_refusals.specs.declared.refusal.Refusal.{Refusal}
use Rattle.top_refusals.specs.declared.refusal.Refusal.TheVariants.{WriteFault, Denied}
use Rattle.top_jobs.specs.Due.{IsDue}
use Rattle.top_refusals.specs.Lines.{SinkUse, SinkFailed}
use Rattle.top_refusals.specs.Orders.{OperandFile, files_of}
use Rattle.top_jobs.specs.Reads.{ShelfUse, ShelfFailed, AreContentsOf, MayCome, MayStandFor}
use Rattle.bt_top.specs.declared.outcome.Outcome.{Outcome}
use Rattle.bt_top.specs.declared.report.Report.{Report}
use Rattle.bt_top.specs.Outcomes.{ComesTo, bytes_written}

-- ---- what comes of an order

-- `vet` alone ends with a program that is refused, and `verify` with an account that is
abbrev pub MayDeny : Order → Denial → Type 0
MayDeny (Vet script recording) (denial.Code why) = Unit {0}
MayDeny (Verify script recording account) (denial.Account error) = Unit {0}
MayDeny order why = ⊥

-- what may come of an order over files with these contents: the same as of its files, and what it checks refused where nothing is due
abbrev pub MayEnd : Order → List (List ℕ) → (read_failed write_failed : Type 0) → Option Refusal → Type 0
MayEnd order contents read_failed write_failed (Some (Denied why)) = MayDeny order why × IsDue (files_of order) contents None
MayEnd order contents read_failed write_failed refusal = MayCome (files_of order) contents read_failed write_failed refusal

-- what stands for what is due to the files of an order: the same, and what it checks refused where nothing is due
abbrev pub MayEndFor : Order → Option Refusal → Option Refusal → Type 0
MayEndFor order (Some (Denied why)) due = MayDeny order why × (due ≡ None)
MayEndFor order refusal due = MayStandFor (files_of order) refusal due

-- what is due to the files of an order comes, unless something stands for it
abbrev pub EndsAsDue : Order → Option Refusal → List (List ℕ) → Type 0
EndsAsDue order refusal contents = (due : Option Refusal) → IsDue (files_of order) contents due → (refusal ≡ due) ⊎ MayEndFor order refusal due

-- a read failed: there are files, and the shelf's count of faults rose
abbrev pub ReadFailed : List OperandFile → ShelfUse → Type 0
ReadFailed [] shelf = ⊥
ReadFailed (file ∷ files) shelf = ShelfFailed shelf

-- the status of success or of want of memory, of `vet` also that of programs that are refused, and of `verify` that of accounts that are
abbrev pub IsEndStatus : Order → ℕ → Type 0
IsEndStatus (Vet script recording) status = (status ≡ 0) ⊎ ((status ≡ 6) ⊎ (status ≡ 8))
IsEndStatus (Verify script recording account) status = (status ≡ 0) ⊎ ((status ≡ 6) ⊎ (status ≡ 7))
IsEndStatus order status = (status ≡ 0) ⊎ (status ≡ 6)

-- so it ends where nothing is due to the files and nothing failed
abbrev pub IsComplete : Order → (read_failed write_failed : Type 0) → ℕ → List (List ℕ) → Type 0
IsComplete order read_failed write_failed status contents =
    IsDue (files_of order) contents None → ¬ read_failed → ¬ write_failed → IsEndStatus order status

-- ---- what is done

-- what is refused that was checked is told; else nothing is, or a fault of the write
abbrev pub IsTold : Option Denial → Option Refusal → Type 0
IsTold (Some why) refusal = refusal ≡ Some (Denied why)
IsTold None refusal = (refusal ≡ None) ⊎ (refusal ≡ Some WriteFault)

-- the output took the bytes at status 0, a prefix of them after a fault of the write, and else nothing
abbrev pub IsWritten : SinkUse → Option Refusal → List ℕ → Type 0
IsWritten out None bytes = Appends out.taken out.taken_after bytes
IsWritten out (Some WriteFault) bytes = AppendsPart out.taken out.taken_after bytes
IsWritten out (Some refusal) bytes = Keeps out.taken out.taken_after

-- what the order comes to was done: its work and its programs are handed back, and its bytes were written; or what it checks is refused, and
-- that is told
pub record IsDone (order : Order) (contents : List (List ℕ)) (out : SinkUse) (report : Report) : Type 0 where
  pub outcome : Outcome
  pub comes : ComesTo order contents outcome
  pub work : report.work ≡ outcome.work
  pub programs : report.programs ≡ outcome.programs
  pub told : IsTold outcome.refused report.refusal
  pub written : IsWritten out report.refusal (bytes_written outcome)

-- nothing was done, and nothing written
pub record IsNothing (out : SinkUse) (report : Report) : Type 0 where
  pub work : report.work ≡ None
  pub programs : report.programs ≡ []
  pub written : Keeps out.taken out.taken_after

-- all was done at status 0, all but a part of the writing after a fault of the write, all but the writing where what was checked is refused, and
-- else nothing
abbrev pub IsDoneUnlessRefused : Option Refusal → Order → List (List ℕ) → SinkUse → Report → Type 0
IsDoneUnlessRefused None order contents out report = IsDone order contents out report
IsDoneUnlessRefused (Some WriteFault) order contents out report = IsDone order contents out report
IsDoneUnlessRefused (Some (Denied why)) order contents out report = IsDone order contents out report
IsDoneUnlessRefused (Some refusal) order contents out report = IsNothing out report

-- the answer to an order, over files whose contents are what the shelf tells of them
pub record AnswersOrder (order : Order) (shelf : ShelfUse) (out : SinkUse) (report : Report) : Type 0 where
  pub contents : List (List ℕ)
  pub held : AreContentsOf shelf.held (files_of order) contents
  pub came : MayEnd order contents (ShelfFailed shelf) (SinkFailed out) report.refusal
  pub done : IsDoneUnlessRefused report.refusal order contents out report

-- where words give no order, nothing is done
abbrev pub AnswersWords : Option Order → ShelfUse → SinkUse → Report → Type 0
AnswersWords None shelf out report = IsNothing out report
AnswersWords (Some order) shelf out report = AnswersOrder order shelf out report

-- work is there after a whole run, and after one whose text was not wholly written
abbrev pub IsRunOrder : Order → Type 0
IsRunOrder (Run serial stats json script recording) = Unit {0}
IsRunOrder (Check script recording) = ⊥
IsRunOrder (Code script recording) = ⊥
IsRunOrder (Vet script recording) = ⊥
IsRunOrder (Account serial script recording) = Unit {0}
IsRunOrder (Verify script recording account) = ⊥
IsRunOrder (Gen x n) = ⊥
IsRunOrder (Big x n) = Unit {0}

abbrev pub HasWork : Option Refusal → Option Order → Type 0
HasWork None (Some order) = IsRunOrder order
HasWork (Some WriteFault) (Some order) = IsRunOrder order
HasWork refusal order = ⊥
