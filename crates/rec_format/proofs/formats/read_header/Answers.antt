use Rattle.std.proofs.Common.{◌≡◌, Some, sym, arith, inl, inr}
use Rattle.rec_format.specs.Heads.{header_part}
use Rattle.recordings.specs.Checks.{header_fault}
use Rattle.recordings.proofs.Fields.{IsBytes}
use Rattle.rec_format.proofs.HeadLaws.{header_reads, cut_short, refused}
use Rattle.rec_format.proofs.formats.read_header.Goals as goal

pub returns-in_default : goal.returns-in_default
returns-in_default c = λ _. inl (cut_short header_reads _ c.args.bytes.now (sym c.in_default.ensures))

pub returns-in-Some-header_fault : goal.returns-in-Some-header_fault
returns-in-Some-header_fault c =
    let fits : IsBytes c.args.bytes.now = λ i. omega (arith, c.type_inv.bytes i) in
    λ _. inr (refused header_reads (λ h e. header_fault h ≡ Some e) c.args.bytes.now (header_part c.in-Some.header) c.in-Some.rest.now c.in-Some-header_fault.fault fits (sym c.in-Some.ensures) (sym c.in-Some-header_fault.ensures))

pub returns-in-None : goal.returns-in-None
returns-in-None c =
    let fits : IsBytes c.args.bytes.now = λ i. omega (arith, c.type_inv.bytes i) in
    let taken = header_reads.takes c.args.bytes.now (header_part c.in-Some.header) c.in-Some.rest.now fits (sym c.in-Some.ensures) in
    record { spelled = taken.0.parts; is_whole = taken.1; passes = sym c.in-None.ensures }
