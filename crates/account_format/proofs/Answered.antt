-- What is answered of bytes is the one answer that there is.
use Rattle.std.proofs.Common.{◌≡◌, ℕ, ◌⊎◌, inl, inr, List, Result, Ok, Err, refl, ap, subst}
use Rattle.std.specs.Prelude.{IfOk, IfErr, IsOkAnd}
use Rattle.bt_core.specs.declared.step.Step.{Step}
use Rattle.bt_core.specs.Ports.{Setting}
use Rattle.bt_core.specs.Want.{out_of_memory}
use Rattle.account_format.specs.declared.error.AccountFault.{AccountFault}
use Rattle.account_format.specs.declared.error.AccountFault.TheVariants.{BadAccount, Memory}
use Rattle.account_format.specs.declared.reading.Account.{Account}
use Rattle.account_format.specs.Accounts.{IsAccount}
use Rattle.account_format.specs.Answers.{IsFault}
use Rattle.account_format.specs.Wrong.{IsWrongAccount}
use Rattle.account_format.proofs.AccountLaws.{one_account, account_not_wrong, one_wrong_place}

pub only_read : (setting : Setting) (bytes : List ℕ) (r : Result Account AccountFault) (steps : List Step) (text : List ℕ) → IfOk r (λ (a : Account). IsAccount setting bytes a.entries a.text.now) → IfErr r (IsFault setting bytes)
    → IsAccount setting bytes steps text → IsOkAnd r (λ (a : Account). (a.entries ≡ steps) × (a.text.now ≡ text)) ⊎ (r ≡ Err (Memory out_of_memory))
only_read setting bytes (Ok a) steps text ok err h = inl (one_account setting bytes a.entries steps a.text.now text ok h)
only_read setting bytes (Err (BadAccount offset)) steps text ok err h = absurd (account_not_wrong setting bytes steps text offset h err)
only_read setting bytes (Err (Memory m)) steps text ok err h = inr refl

pub wrong_there : (setting : Setting) (bytes : List ℕ) (r : Result Account AccountFault) (offset : ℕ) → IfErr r (IsFault setting bytes) → r ≡ Err (BadAccount offset) → IsWrongAccount setting bytes offset
wrong_there setting bytes r offset err e = subst (λ (x : Result Account AccountFault). IfErr x (IsFault setting bytes)) e err

pub refused_there : (setting : Setting) (bytes : List ℕ) (r : Result Account AccountFault) (offset : ℕ) → IfOk r (λ (a : Account). IsAccount setting bytes a.entries a.text.now) → IfErr r (IsFault setting bytes)
    → IsWrongAccount setting bytes offset → (r ≡ Err (BadAccount offset)) ⊎ (r ≡ Err (Memory out_of_memory))
refused_there setting bytes (Ok a) offset ok err w = absurd (account_not_wrong setting bytes a.entries a.text.now offset ok w)
refused_there setting bytes (Err (BadAccount other)) offset ok err w = inl (ap (λ (n : ℕ). Err (BadAccount n)) (one_wrong_place setting bytes other offset err w))
refused_there setting bytes (Err (Memory m)) offset ok err w = inr refl
