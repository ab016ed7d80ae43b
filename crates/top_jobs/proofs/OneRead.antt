-- The read of one file, and reads behind others.
use Rattle.std.proofs.Common.{◌≡◌, ℕ, ◌<◌, ◌≤◌, ◌⊎◌, List, [], ◌∷◌, ◌++◌, length, refl, sym, ap, subst, inl, inr, ◌∙◌, append_assoc, append-nil}
use Rattle.std.specs.Prelude.{Option, Some, Result, Ok, Err, IfErr, IfOk, IfSome, IsErrOf}
use Rattle.bt_io.specs.Faults.{Rose}
use Rattle.bt_io.specs.declared.shelf.ShelfError.{ShelfError}
use Rattle.bt_io.specs.declared.shelf.ShelfError.TheVariants as shelf
use Rattle.run_output.specs.declared.job.Job.{Job}
use Rattle.top_refusals.specs.declared.refusal.Operand.{Operand}
use Rattle.top_refusals.specs.declared.refusal.Operand.TheVariants as operand
use Rattle.top_refusals.specs.declared.refusal.Refusal.{Refusal}
use Rattle.top_refusals.specs.declared.refusal.Refusal.TheVariants.{Memory}
use Rattle.top_jobs.specs.Doing.{IsFaultRefusal, IsRead, IsUnread}
use Rattle.top_jobs.specs.Due.{AreShort, IsFinding}
use Rattle.top_jobs.specs.Jobs.{IsJobFor, IsJobOf}
use Rattle.top_refusals.specs.Orders.{OperandFile, limit_of}
use Rattle.top_refusals.specs.Refusals.{read_refusal}
use Rattle.top_jobs.specs.Reads.{ShelfUse, ShelfFailed}
use Rattle.top_jobs.proofs.Reading.{rose_from}

-- why a file is not read
pub unread_by : (file : OperandFile) (seen : ShelfUse) (error : ShelfError) → (error ≡ shelf.Failed → ShelfFailed seen)
    → (error ≡ shelf.TooLong → IfSome (seen.held file.name) (λ bytes. limit_of file.operand < length bytes))
    → IsUnread file seen (read_refusal file.operand error)
unread_by file seen shelf.Failed failed long = inr (inl (refl, failed refl))
unread_by file seen shelf.TooLong failed long = inr (inr (refl, long refl))
unread_by file seen shelf.Memory failed long = inl refl

-- what was noted where memory did not run out
noted : {A : Type 0} {P : Type 0} (error : ShelfError) → (error ≡ shelf.Memory → ⊥) → IsErrOf {T = A} (Err error) shelf.Memory ⊎ P → P
noted error other (inl e) = absurd (other (err_is e))
  where
    err_is : {T : Type 0} → ◌≡◌ {A = Result T ShelfError} (Err error) (Err shelf.Memory) → error ≡ shelf.Memory
    err_is e = cc
noted error other (inr p) = p

pub noted_ok : {A : Type 0} {P : Type 0} (a : A) → IsErrOf {T = A} {E = ShelfError} (Ok a) shelf.Memory ⊎ P → P
noted_ok a (inl e) = absurd (let none : ⊥ = cc in none)
noted_ok a (inr p) = p

pub noted_unless : {A : Type 0} {P : Type 0} (one : Operand) (error : ShelfError) → IsErrOf {T = A} (Err error) shelf.Memory ⊎ P
    → (read_refusal one error ≡ Memory → ⊥) → P
noted_unless one shelf.Failed named known = noted shelf.Failed (λ e. cc) named
noted_unless one shelf.TooLong named known = noted shelf.TooLong (λ e. cc) named
noted_unless one shelf.Memory named known = absurd (known refl)

-- what a later read of a call tells of the whole call
pub read_from : (held between : List ℕ → Option (List ℕ)) (file : OperandFile) (bytes : List ℕ) → ((name : List ℕ) → between name ≡ held name)
    → IsRead between file bytes → IsRead held file bytes
read_from held between file bytes same read =
    record { fits = read.fits; told = subst (λ (o : Option (List ℕ)). IfSome o (λ told. bytes ≡ told)) (same file.name) read.told }

pub unread_from : (seen between : ShelfUse) (file : OperandFile) (refusal : Refusal) → ((name : List ℕ) → between.held name ≡ seen.held name)
    → seen.faults ≤ between.faults → between.faults_after ≡ seen.faults_after → IsUnread file between refusal → IsUnread file seen refusal
unread_from seen between file refusal same later after (inl memory) = inl memory
unread_from seen between file refusal same later after (inr (inl e)) =
    inr (inl (e.0, subst (λ (n : ℕ). Rose seen.faults n) after (rose_from seen.faults between.faults between.faults_after later e.1)))
unread_from seen between file refusal same later after (inr (inr e)) =
    inr (inr (e.0, subst (λ (o : Option (List ℕ)). IfSome o (λ bytes. limit_of file.operand < length bytes)) (same file.name) e.1))

-- names that are asked for one behind the other
pub two_asked : (old between new names : List (List ℕ)) (name : List ℕ) → between ≡ old ++ names → new ≡ between ++ name ∷ [] → new ≡ old ++ (names ++ name ∷ [])
two_asked old between new names name first second = second ∙ ap (λ (l : List (List ℕ)). l ++ name ∷ []) first ∙ append_assoc old names (name ∷ [])

-- where a read came first, its name or none was asked for
pub named_first : (old new : List (List ℕ)) (name : List ℕ) → (new ≡ old ++ name ∷ []) ⊎ (new ≡ old) → (new ≡ old ++ name ∷ []) ⊎ (new ≡ old ++ [])
named_first old new name (inl e) = inl e
named_first old new name (inr e) = inr (e ∙ sym (append-nil old))

-- where it came behind others, theirs and its own were, or theirs alone
pub named_next : (old between new names : List (List ℕ)) (name : List ℕ) → between ≡ old ++ names
    → (new ≡ between ++ name ∷ []) ⊎ (new ≡ between) → (new ≡ old ++ (names ++ name ∷ [])) ⊎ (new ≡ old ++ names)
named_next old between new names name first (inl e) = inl (two_asked old between new names name first e)
named_next old between new names name first (inr e) = inr (e ∙ first)

-- what refuses a script and a recording is found of contents that begin with them
pub found_of : {A : Type 0} (text bytes : List ℕ) (more : List (List ℕ)) (answer : Result A Refusal) → IfErr answer (IsFaultRefusal text bytes)
    → IfErr answer (λ refusal. (refusal ≡ Memory) ⊎ IsFinding (text ∷ bytes ∷ more) (Some refusal))
found_of text bytes more (Ok a) wrong = tt
found_of text bytes more (Err refusal) wrong = wrong

-- what a script and a recording ask for is what files ask for that begin with them
pub both_jobs : (files : List OperandFile) (text bytes : List ℕ) (more : List (List ℕ)) (answer : Result Job Refusal) → AreShort files (text ∷ bytes ∷ more)
    → IfOk answer (IsJobOf text bytes) → IfOk answer (IsJobFor files (text ∷ bytes ∷ more))
both_jobs files text bytes more (Ok job) short of = record { short = short; of = of }
both_jobs files text bytes more (Err refusal) short of = tt
