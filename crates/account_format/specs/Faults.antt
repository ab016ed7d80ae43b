-- What is told of an account whose bytes are not read.
use Rattle.account_format.specs.declared.error.AccountFault.{AccountFault}
use Rattle.account_format.specs.declared.error.AccountFault.TheVariants as faults
use Rattle.account_format.specs.declared.error.AccountError.{AccountError}
use Rattle.account_format.specs.declared.error.AccountError.TheVariants.{BadAccount, Memory}

-- the same fault, as one of an account
abbrev pub error_of : AccountFault → AccountError
error_of (faults.BadAccount offset) = BadAccount offset
error_of (faults.Memory m) = Memory m
