use Rattle.std.proofs.Common.{refl}
use Rattle.bt_words.specs.declared.order.Order.TheVariants.{Gen}
use Rattle.bt_top.specs.Outcomes.{ComesTo}
use Rattle.bt_top.proofs.Performing.{made}
use Rattle.bt_top.proofs.tasks.outcome_of.Goals as goal

pub returns-in-Run-clause-performs : goal.returns-in-Run-clause-performs
returns-in-Run-clause-performs g c = rw c.in-Run.is c.run_files.ensures.performs

pub returns-in-Run-clause-fault_named : goal.returns-in-Run-clause-fault_named
returns-in-Run-clause-fault_named g c = rw c.in-Run.is c.run_files.ensures.fault_named

pub returns-in-Check-clause-performs : goal.returns-in-Check-clause-performs
returns-in-Check-clause-performs g c = rw c.in-Check.is c.check_files.ensures.performs

pub returns-in-Check-clause-fault_named : goal.returns-in-Check-clause-fault_named
returns-in-Check-clause-fault_named g c = rw c.in-Check.is c.check_files.ensures.fault_named

pub returns-in-Code-clause-performs : goal.returns-in-Code-clause-performs
returns-in-Code-clause-performs g c = rw c.in-Code.is c.code_files.ensures.performs

pub returns-in-Code-clause-fault_named : goal.returns-in-Code-clause-fault_named
returns-in-Code-clause-fault_named g c = rw c.in-Code.is c.code_files.ensures.fault_named

pub returns-in-Vet-clause-performs : goal.returns-in-Vet-clause-performs
returns-in-Vet-clause-performs g c = rw c.in-Vet.is c.vet_files.ensures.performs

pub returns-in-Vet-clause-fault_named : goal.returns-in-Vet-clause-fault_named
returns-in-Vet-clause-fault_named g c = rw c.in-Vet.is c.vet_files.ensures.fault_named

pub returns-in-Account-clause-performs : goal.returns-in-Account-clause-performs
returns-in-Account-clause-performs g c = rw c.in-Account.is c.account_files.ensures.performs

pub returns-in-Account-clause-fault_named : goal.returns-in-Account-clause-fault_named
returns-in-Account-clause-fault_named g c = rw c.in-Account.is c.account_files.ensures.fault_named

pub returns-in-Verify-clause-performs : goal.returns-in-Verify-clause-performs
returns-in-Verify-clause-performs g c = rw c.in-Verify.is c.verify_files.ensures.performs

pub returns-in-Verify-clause-fault_named : goal.returns-in-Verify-clause-fault_named
returns-in-Verify-clause-fault_named g c = rw c.in-Verify.is c.verify_files.ensures.fault_named

pub returns-in_ok-gen_outcome-in-Gen-clause-performs : goal.returns-in_ok-gen_outcome-in-Gen-clause-performs
returns-in_ok-gen_outcome-in-Gen-clause-performs g c =
    rw c.in-Gen.is (made (ComesTo (Gen c.in-Gen.x c.in-Gen.n)) _ refl c.in_ok-gen_outcome-in-Gen.field-0 c.in_ok-gen_outcome-in-Gen.ensures)
