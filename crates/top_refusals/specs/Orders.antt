-- What an order says of its files, in the order in which they are read, and of the form of what it writes.
use Rattle.std.specs.Prelude.{ℕ, Bool, true, false, List, [], ◌∷◌, map, Option, Some, None, if◌then◌else◌}
use Rattle.bt_core.specs.declared.limits.TheConstants.{SCRIPT_BYTES, RECORDING_BYTES}
use Rattle.bt_words.specs.declared.order.Order.{Order}
use Rattle.bt_words.specs.declared.order.Order.TheVariants.{Run, Check, Code, Vet, Account, Verify, Gen, Big}
use Rattle.top_refusals.specs.declared.refusal.Operand.{Operand}
use Rattle.top_refusals.specs.declared.limits.TheConstants.{ACCOUNT_BYTES}
use Rattle.top_refusals.specs.declared.refusal.Operand.TheVariants as operand

-- a file that an order names: which of its operands it is, and its name
pub record OperandFile : Type 0 where
  pub operand : Operand
  pub name : List ℕ

abbrev pub file_of : Operand → List ℕ → OperandFile
file_of one name = record { operand = one; name = name }

abbrev pub on_script : List ℕ → List ℕ → List OperandFile
on_script script recording = file_of operand.Script script ∷ file_of operand.Recording recording ∷ []

abbrev pub on_account : List ℕ → List ℕ → List ℕ → List OperandFile
on_account script recording account = file_of operand.Script script ∷ file_of operand.Recording recording ∷ file_of operand.Account account ∷ []

abbrev pub files_of : Order → List OperandFile
files_of (Run serial stats json script recording) = on_script script recording
files_of (Check script recording) = on_script script recording
files_of (Code script recording) = on_script script recording
files_of (Vet script recording) = on_script script recording
files_of (Account serial script recording) = on_script script recording
files_of (Verify script recording account) = on_account script recording account
files_of (Gen x n) = []
files_of (Big x n) = []

-- none are read where words give no order
abbrev pub files_in : Option Order → List OperandFile
files_in None = []
files_in (Some order) = files_of order

abbrev pub names_of : List OperandFile → List (List ℕ)
names_of files = map (λ (file : OperandFile). file.name) files

-- how many bytes a file may have
abbrev pub limit_of : Operand → ℕ
limit_of operand.Script = SCRIPT_BYTES
limit_of operand.Recording = RECORDING_BYTES
limit_of operand.Account = ACCOUNT_BYTES

abbrev pub is_same : Operand → Operand → Bool
is_same operand.Script operand.Script = true
is_same operand.Recording operand.Recording = true
is_same operand.Account operand.Account = true
is_same one other = false

-- the name of an operand
abbrev pub operand_name : List OperandFile → Operand → List ℕ
operand_name [] one = []
operand_name (file ∷ files) one = if is_same file.operand one then file.name else operand_name files one
