-- Where bytes are wrong as an account.
use Rattle.std.specs.Prelude.{◌≡◌, ℕ, zero, suc, ◌<◌, ◌^◌, codes, List, length}
use Rattle.std.specs.Int.{w64, to_le_bytes}
use Rattle.bt_core.specs.declared.step.Step.{Step}
use Rattle.bt_core.specs.Ports.{Setting}
use Rattle.account_format.specs.Entries.{entry_bytes, IsEntry}
use Rattle.account_format.specs.Forms.{Form, IsWrongAt}

-- the parts of an account
pub data Part : Type 0 where
  Magic : Part
  Count : (number : ℕ) → Part
  Entry : (step : Step) → Part
  Size : (number : ℕ) → Part
  Text : (text : List ℕ) → Part

-- what is due behind them: an entry, where so many are left, or else the text's length
pub data Due : Type 0 where
  AtMagic : Due
  AtCount : Due
  AtEntries : (left : ℕ) → Due
  AtText : (size : ℕ) → Due
  AtEnd : Due

abbrev pub IsDuePart : Setting → Due → Part → Type 0
IsDuePart setting AtMagic Magic = Unit {0}
IsDuePart setting AtCount (Count number) = number < 2 ^ 64
IsDuePart setting (AtEntries (suc left)) (Entry s) = IsEntry setting s
IsDuePart setting (AtEntries zero) (Size number) = number < 2 ^ 64
IsDuePart setting (AtText size) (Text text) = length text ≡ size
IsDuePart setting due part = ⊥

abbrev pub due_after : Due → Part → Due
due_after due Magic = AtCount
due_after due (Count number) = AtEntries number
due_after (AtEntries (suc left)) (Entry s) = AtEntries left
due_after due (Entry s) = due
due_after due (Size number) = AtText number
due_after due (Text text) = AtEnd

abbrev pub part_bytes : Part → List ℕ
part_bytes Magic = codes "BACCT001"
part_bytes (Count number) = to_le_bytes w64 number
part_bytes (Entry s) = entry_bytes s
part_bytes (Size number) = to_le_bytes w64 number
part_bytes (Text text) = text

abbrev pub IsEndOf : Due → Type 0
IsEndOf AtEnd = Unit {0}
IsEndOf due = ⊥

abbrev pub account_form : Setting → Form Due Part
account_form setting = record { IsDue = IsDuePart setting; after = due_after; spelling = part_bytes; IsEnd = IsEndOf }

-- The bytes have not the form of an account, and here begins the first part that is wrong: the magic, the number of entries, an entry, the
-- text's length or the text. Where none of them is, it is the first byte that is left over.
abbrev pub IsWrongAccount : Setting → List ℕ → ℕ → Type 0
IsWrongAccount setting bytes offset = IsWrongAt (account_form setting) AtMagic bytes offset
