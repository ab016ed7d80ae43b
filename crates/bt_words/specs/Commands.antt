-- What clap is told of the commands.
use Rattle.std.specs.Prelude.{◌≡◌, ◌||◌, List, length, true, codes, Some}
use Rattle.std.specs.Str.{bytes_eq}
use Rattle.std.specs.List.{list_all}
use Rattle.clap.specs.Words.{App, Rule, Text, new_app, new_rule, with_rule}
use Rattle.clap.specs.Simple.{on_top}
use Rattle.clap.specs.declared.builder.action.ArgAction.TheVariants.{SetTrue}
use Rattle.bt_words.specs.Words.{is_operand}

-- an option that is there or not, with its long name alone
abbrev pub flag_rule : Text → Rule
flag_rule name = record (new_rule name) { long = Some name; action = Some SetTrue }

abbrev pub operand_rule : Text → Rule
operand_rule name = record (new_rule name) { required = true }

-- no flag for help, and none for the version
abbrev pub plain_app : Text → App
plain_app name = on_top (λ s. record s { disable_help_flag = true; disable_version_flag = true }) (new_app name)

abbrev pub with_operands : App → Text → Text → App
with_operands app first second = with_rule (with_rule app (operand_rule first)) (operand_rule second)

-- a command of two operands alone
abbrev pub two_app : Text → App
two_app name = with_operands (plain_app name) (codes "first") (codes "second")

abbrev pub run_app : App
run_app =
    with_operands (with_rule (with_rule (with_rule (plain_app (codes "run")) (flag_rule (codes "serial"))) (flag_rule (codes "stats")))
    (flag_rule (codes "json"))) (codes "script") (codes "recording")

abbrev pub account_app : App
account_app = with_operands (with_rule (plain_app (codes "account")) (flag_rule (codes "serial"))) (codes "script") (codes "recording")

abbrev pub verify_app : App
verify_app = with_rule (with_operands (plain_app (codes "verify")) (codes "script") (codes "recording")) (operand_rule (codes "account"))

-- what a command of two operands takes
abbrev pub AreTwoOperands : List Text → Type 0
AreTwoOperands words = (list_all is_operand words ≡ true) × (length words ≡ 2)

-- what a command of three operands takes
abbrev pub AreThreeOperands : List Text → Type 0
AreThreeOperands words = (list_all is_operand words ≡ true) × (length words ≡ 3)

-- the commands of two files and no options
abbrev pub IsFileCommand : Text → Type 0
IsFileCommand command = (bytes_eq command (codes "check") || (bytes_eq command (codes "code") || bytes_eq command (codes "vet"))) ≡ true

-- the commands of two numbers
abbrev pub IsNumberCommand : Text → Type 0
IsNumberCommand command = (bytes_eq command (codes "gen") || bytes_eq command (codes "big")) ≡ true
