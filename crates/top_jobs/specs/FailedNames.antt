-- Of which file it is told that its read failed.
use Rattle.std.specs.Prelude.{◌≡◌, ℕ, List, [], ◌∷◌, ◌++◌, Option, Some}
use Rattle.top_refusals.specs.declared.refusal.Refusal.{Refusal}
use Rattle.top_refusals.specs.declared.refusal.Refusal.TheVariants.{ReadFault}
use Rattle.top_refusals.specs.Orders.{OperandFile, operand_name}

-- The shelf noted one name more as failed, that of the file whose read is told to have failed; where no such fault is told it noted none.
abbrev pub FailsNamed : List OperandFile → Option Refusal → (failed failed_after : List (List ℕ)) → Type 0
FailsNamed files (Some (ReadFault operand)) failed failed_after = failed_after ≡ failed ++ operand_name files operand ∷ []
FailsNamed files refusal failed failed_after = failed_after ≡ failed
