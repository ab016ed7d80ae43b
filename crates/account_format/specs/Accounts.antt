-- Accounts: how a list of steps and a text are spelled.
use Rattle.std.specs.Prelude.{◌≡◌, ℕ, ◌<◌, ◌^◌, codes, List, ◌++◌, length}
use Rattle.std.specs.Int.{w64, to_le_bytes}
use Rattle.std.specs.List.{flat_map, AllByRecursion}
use Rattle.bt_core.specs.declared.step.Step.{Step}
use Rattle.bt_core.specs.Ports.{Setting}
use Rattle.account_format.specs.Entries.{entry_bytes, IsEntry}

abbrev pub entries_bytes : List Step → List ℕ
entries_bytes steps = flat_map entry_bytes steps

-- the account of a list of steps and a text
abbrev pub account_bytes : List Step → List ℕ → List ℕ
account_bytes steps text =
    codes "BACCT001" ++ (to_le_bytes w64 (length steps) ++ (entries_bytes steps ++ (to_le_bytes w64 (length text) ++ text)))

-- the bytes are the account of these steps, as entries tell them, and this text
pub record IsAccount (setting : Setting) (bytes : List ℕ) (steps : List Step) (text : List ℕ) : Type 0 where
  pub each : AllByRecursion (IsEntry setting) steps
  pub few : length steps < 2 ^ 64
  pub short : length text < 2 ^ 64
  pub spelled : bytes ≡ account_bytes steps text
