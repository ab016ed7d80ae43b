-- Of which file it is told that its read failed.
use Rattle.std.proofs.Common.{◌≡◌, ℕ, ◌⊎◌, List, [], ◌∷◌, ◌++◌, refl, sym, ap, subst, inl, inr, ◌∙◌}
use Rattle.std.specs.Prelude.{Some, Result, Ok, Err, IfErr, IsErrOf}
use Rattle.bt_io.specs.declared.shelf.ShelfError.{ShelfError}
use Rattle.bt_io.specs.declared.shelf.ShelfError.TheVariants as shelf
use Rattle.top_refusals.specs.declared.refusal.Operand.{Operand}
use Rattle.top_refusals.specs.declared.refusal.Operand.TheVariants as operand
use Rattle.top_refusals.specs.declared.refusal.Refusal.{Refusal}
use Rattle.top_refusals.specs.declared.refusal.Refusal.TheVariants.{Usage, Script, Recording, ReadFault, WriteFault, Memory, LongAccount, Denied}
use Rattle.top_jobs.specs.Doing.{IsFaultRefusal, IsUnread, refusal_in}
use Rattle.top_jobs.specs.Due.{IsFirstRefusal}
use Rattle.top_jobs.specs.FailedNames.{FailsNamed}
use Rattle.top_refusals.specs.Orders.{OperandFile, file_of, operand_name}
use Rattle.top_refusals.specs.Refusals.{read_refusal, too_long}
use Rattle.top_jobs.specs.Reads.{ShelfUse}

-- a read that succeeded noted no name as failed
pub none_failed_ok : {A : Type 0} {P : Type 0} (a : A) → IsErrOf {T = A} {E = ShelfError} (Ok a) shelf.Failed ⊎ P → P
none_failed_ok a (inl e) = absurd (let none : ⊥ = cc in none)
none_failed_ok a (inr p) = p

none_failed : {A : Type 0} {P : Type 0} (error : ShelfError) → (error ≡ shelf.Failed → ⊥) → IsErrOf {T = A} (Err error) shelf.Failed ⊎ P → P
none_failed error other (inl e) = absurd (other (err_is e))
  where
    err_is : {T : Type 0} → ◌≡◌ {A = Result T ShelfError} (Err error) (Err shelf.Failed) → error ≡ shelf.Failed
    err_is e = cc
none_failed error other (inr p) = p

-- the file that is not read is told
pub unread_failed : {A : Type 0} (files : List OperandFile) (file : Operand) (name : List ℕ) (failed after : List (List ℕ)) (error : ShelfError)
    → operand_name files file ≡ name → (error ≡ shelf.Failed → after ≡ failed ++ name ∷ [])
    → IsErrOf {T = A} (Err error) shelf.Failed ⊎ (after ≡ failed) → FailsNamed files (Some (read_refusal file error)) failed after
unread_failed files file name failed after shelf.Failed named noted none =
    noted refl ∙ ap (λ (n : List ℕ). failed ++ n ∷ []) (sym named)
unread_failed files operand.Script name failed after shelf.TooLong named noted none = none_failed shelf.TooLong (λ e. cc) none
unread_failed files operand.Recording name failed after shelf.TooLong named noted none = none_failed shelf.TooLong (λ e. cc) none
unread_failed files operand.Account name failed after shelf.TooLong named noted none = none_failed shelf.TooLong (λ e. cc) none
unread_failed files file name failed after shelf.Memory named noted none = none_failed shelf.Memory (λ e. cc) none

pub named_alone : (one : Operand) (name : List ℕ) → operand_name (file_of one name ∷ []) one ≡ name
named_alone operand.Script name = refl
named_alone operand.Recording name = refl
named_alone operand.Account name = refl

-- what is told of the read of one file is told of it among others
long_failed : (files : List OperandFile) (one : Operand) (failed after : List (List ℕ)) → FailsNamed [] (Some (too_long one)) failed after
    → FailsNamed files (Some (too_long one)) failed after
long_failed files operand.Script failed after same = same
long_failed files operand.Recording failed after same = same
long_failed files operand.Account failed after same = same

long_alone : (file : OperandFile) (one : Operand) (failed after : List (List ℕ)) → FailsNamed (file ∷ []) (Some (too_long one)) failed after
    → FailsNamed [] (Some (too_long one)) failed after
long_alone file operand.Script failed after same = same
long_alone file operand.Recording failed after same = same
long_alone file operand.Account failed after same = same

pub failed_among : (files : List OperandFile) (file : OperandFile) (seen : ShelfUse) (refusal : Refusal) (failed after : List (List ℕ))
    → operand_name (file ∷ []) file.operand ≡ operand_name files file.operand → IsUnread file seen refusal
    → FailsNamed (file ∷ []) (Some refusal) failed after → FailsNamed files (Some refusal) failed after
failed_among files file seen refusal failed after named (inl memory) told =
    subst (λ (r : Refusal). FailsNamed files (Some r) failed after) (sym memory)
    (subst (λ (r : Refusal). FailsNamed (file ∷ []) (Some r) failed after) memory told)
failed_among files file seen refusal failed after named (inr (inl e)) told =
    subst (λ (r : Refusal). FailsNamed files (Some r) failed after) (sym e.0)
    (subst (λ (r : Refusal). FailsNamed (file ∷ []) (Some r) failed after) e.0 told ∙ ap (λ (n : List ℕ). failed ++ n ∷ []) named)
failed_among files file seen refusal failed after named (inr (inr e)) told =
    subst (λ (r : Refusal). FailsNamed files (Some r) failed after) (sym e.0)
    (long_failed files file.operand failed after
    (long_alone file file.operand failed after (subst (λ (r : Refusal). FailsNamed (file ∷ []) (Some r) failed after) e.0 told)))

-- names that were noted as failed before stand
pub failed_later : (files : List OperandFile) (failed between after : List (List ℕ)) (refusal : Refusal) → between ≡ failed
    → FailsNamed files (Some refusal) between after → FailsNamed files (Some refusal) failed after
failed_later files failed between after refusal same told = subst (λ (l : List (List ℕ)). FailsNamed files (Some refusal) l after) same told

-- what is found of the contents is no fault of a read
first_failed : (files : List OperandFile) (text bytes : List ℕ) (failed after : List (List ℕ)) (refusal : Refusal) → IsFirstRefusal text bytes refusal
    → after ≡ failed → FailsNamed files (Some refusal) failed after
first_failed files text bytes failed after Usage first same = absurd first
first_failed files text bytes failed after (Script why) first same = same
first_failed files text bytes failed after (Recording why) first same = same
first_failed files text bytes failed after (ReadFault file) first same = absurd first
first_failed files text bytes failed after WriteFault first same = absurd first
first_failed files text bytes failed after Memory first same = absurd first
first_failed files text bytes failed after LongAccount first same = absurd first
first_failed files text bytes failed after (Denied why) first same = absurd first

pub judged_failed : {A : Type 0} (files : List OperandFile) (text bytes : List ℕ) (failed after : List (List ℕ)) (answer : Result A Refusal)
    → IfErr answer (IsFaultRefusal text bytes) → after ≡ failed → FailsNamed files (refusal_in answer) failed after
judged_failed files text bytes failed after (Ok a) refused same = same
judged_failed files text bytes failed after (Err refusal) (inl memory) same =
    subst (λ (r : Refusal). FailsNamed files (Some r) failed after) (sym memory) same
judged_failed files text bytes failed after (Err refusal) (inr first) same = first_failed files text bytes failed after refusal first same
