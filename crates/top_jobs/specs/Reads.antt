-- What comes of the reads of the files of an order, before anything is done.
use Rattle.std.specs.Prelude.{◌≡◌, ◌≢◌, ℕ, Bool, true, false, ◌++◌, ◌≤◌, ◌⊎◌, List, [], ◌∷◌, length, Option, Some, None, IfSome, if◌then◌else◌}
use Rattle.bt_io.specs.Faults.{Rose}
use Rattle.top_refusals.specs.declared.refusal.Operand.{Operand}
use Rattle.top_refusals.specs.declared.refusal.Operand.TheVariants as operand
use Rattle.top_refusals.specs.declared.refusal.RecordingRefusal.TheVariants as recording
use Rattle.top_refusals.specs.declared.refusal.ScriptRefusal.TheVariants as script
use Rattle.top_refusals.specs.declared.refusal.Refusal.{Refusal}
use Rattle.top_refusals.specs.declared.refusal.Refusal.TheVariants.{Script, Recording, ReadFault, WriteFault, Memory, LongAccount}
use Rattle.top_jobs.specs.Due.{IsDue}
use Rattle.top_refusals.specs.Orders.{OperandFile, limit_of}
use Rattle.top_refusals.specs.Refusals.{too_long}

-- ---- the files that are asked for

-- what a shelf shows of a call: what it holds under each name, where it tells that, its count of faults, and the names that it was
-- asked for, before and after
pub record ShelfUse : Type 0 where
  pub held : List ℕ → Option (List ℕ)
  pub faults : ℕ
  pub faults_after : ℕ
  pub asked : List (List ℕ)
  pub asked_after : List (List ℕ)

abbrev pub shelf_use : {Self : Type 0} → (Self → List ℕ → Option (List ℕ)) → (Self → ℕ) → (Self → List (List ℕ)) → Self → Self → ShelfUse
shelf_use held faults asked old new = record { held = held old; faults = faults old; faults_after = faults new; asked = asked old; asked_after = asked new }

-- the shelf's count of faults rose in the call
abbrev pub ShelfFailed : ShelfUse → Type 0
ShelfFailed shelf = Rose shelf.faults shelf.faults_after

-- the first so many of the names were asked for
abbrev pub AsksFirst : List (List ℕ) → List (List ℕ) → List (List ℕ) → Type 0
AsksFirst old new [] = new ≡ old
AsksFirst old new (name ∷ names) = (new ≡ old) ⊎ AsksFirst (old ++ name ∷ []) new names

-- the read of this file ends the call
abbrev pub ends_at : Operand → Option Refusal → Bool
ends_at operand.Script (Some (Script script.TooLong)) = true
ends_at operand.Script (Some (ReadFault operand.Script)) = true
ends_at operand.Recording (Some (Recording recording.TooLong)) = true
ends_at operand.Recording (Some (ReadFault operand.Recording)) = true
ends_at operand.Account (Some LongAccount) = true
ends_at operand.Account (Some (ReadFault operand.Account)) = true
ends_at file refusal = false

-- the names of the files that are read before this comes: up to the one whose read ends the call, else all
abbrev pub names_read : List OperandFile → Option Refusal → List (List ℕ)
names_read [] refusal = []
names_read (file ∷ files) refusal = file.name ∷ (if ends_at file.operand refusal then [] else names_read files refusal)

-- exactly the names of these files were asked for; where memory ran out it may have been fewer, but none where there are no files
abbrev pub AsksExactly : List OperandFile → Option Refusal → ShelfUse → Type 0
AsksExactly [] refusal shelf = shelf.asked_after ≡ shelf.asked
AsksExactly (file ∷ files) (Some Memory) shelf = Unit {0}
AsksExactly (file ∷ files) refusal shelf = shelf.asked_after ≡ shelf.asked ++ names_read (file ∷ files) refusal

-- the contents of files are what the shelf tells of them
abbrev pub AreContentsOf : (List ℕ → Option (List ℕ)) → List OperandFile → List (List ℕ) → Type 0
AreContentsOf held [] [] = Unit {0}
AreContentsOf held (file ∷ files) (bytes ∷ contents) = IfSome (held file.name) (λ told. bytes ≡ told) × AreContentsOf held files contents
AreContentsOf held files contents = ⊥

-- a fact on the contents of files, where the shelf tells those of each
abbrev pub OnTold : (List ℕ → Option (List ℕ)) → List OperandFile → (List (List ℕ) → Type 0) → Type 0
OnTold held [] P = P []
OnTold held (file ∷ files) P = IfSome (held file.name) (λ bytes. OnTold held files (λ contents. P (bytes ∷ contents)))

-- ---- what comes of an order

-- the read of a file is reached: none before it is longer than it may be
abbrev pub IsReached : List OperandFile → List (List ℕ) → Operand → Type 0
IsReached (file ∷ files) (bytes ∷ contents) operand = (operand ≡ file.operand) ⊎ ((length bytes ≤ limit_of file.operand) × IsReached files contents operand)
IsReached files contents operand = ⊥

-- what may come of files with these contents: what is due to them; want of memory; a fault of a read that is reached; or a fault of the write
-- where nothing is due; faults only where their counts rose
abbrev pub MayCome : List OperandFile → List (List ℕ) → (read_failed write_failed : Type 0) → Option Refusal → Type 0
MayCome files contents read_failed write_failed (Some Memory) = Unit {0}
MayCome files contents read_failed write_failed (Some (ReadFault operand)) = read_failed × IsReached files contents operand
MayCome files contents read_failed write_failed (Some WriteFault) = write_failed × IsDue files contents None
MayCome files contents read_failed write_failed due = IsDue files contents due

-- a fault of the read of a file stands for what is due, unless that is that a file before it is too long
abbrev pub ReadStandsFor : List OperandFile → Operand → Option Refusal → Type 0
ReadStandsFor [] operand due = ⊥
ReadStandsFor (file ∷ files) operand due = (operand ≡ file.operand) ⊎ ((due ≢ Some (too_long file.operand)) × ReadStandsFor files operand due)

-- want of memory, or a fault of a step before which nothing is due: of a read, and of the write where nothing is refused
abbrev pub MayStandFor : List OperandFile → Option Refusal → Option Refusal → Type 0
MayStandFor files (Some Memory) due = Unit {0}
MayStandFor files (Some (ReadFault operand)) due = ReadStandsFor files operand due
MayStandFor files (Some WriteFault) due = due ≡ None
MayStandFor files refusal due = ⊥

-- what is due to the files comes, unless a fault or want of memory stands for it
abbrev pub ComesIfDue : List OperandFile → Option Refusal → List (List ℕ) → Type 0
ComesIfDue files refusal contents = (due : Option Refusal) → IsDue files contents due → (refusal ≡ due) ⊎ MayStandFor files refusal due
