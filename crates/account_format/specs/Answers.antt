-- What a fault tells of bytes.
use Rattle.std.specs.Prelude.{ℕ, List}
use Rattle.bt_core.specs.Ports.{Setting}
use Rattle.account_format.specs.declared.error.AccountFault.{AccountFault}
use Rattle.account_format.specs.declared.error.AccountFault.TheVariants.{BadAccount, Memory}
use Rattle.account_format.specs.Wrong.{IsWrongAccount}

-- bad bytes are wrong at the offset; want of memory tells nothing
abbrev pub IsFault : Setting → List ℕ → AccountFault → Type 0
IsFault setting bytes (BadAccount offset) = IsWrongAccount setting bytes offset
IsFault setting bytes (Memory _) = Unit {0}
