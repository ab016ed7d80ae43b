use Rattle.std.proofs.Common.{ap, inl}
use Rattle.std.specs.Prelude.{Err}
use Rattle.bpf_encode.specs.declared.decode.DecodeError.{DecodeError}
use Rattle.bpf_encode.proofs.Decoding.{found_code, complete_at, whole_of_code}
use Rattle.bpf_encode.proofs.Refusing.{fault_is, only_memory}
use Rattle.bpf_encode.proofs.Reaching.{only_length, fault_answered}
use Rattle.bpf_encode.proofs.Loop.{either, same_code}
use Rattle.bpf_encode.proofs.decode.decode.Goals as goal

pub returns-then-bytes-ne0-clause-only : goal.returns-then-bytes-ne0-clause-only
returns-then-bytes-ne0-clause-only c = λ code is. absurd (c.if-bytes-ne0.true (whole_of_code code c.args.bytes.now is))

pub returns-then-bytes-ne0-clause-refused : goal.returns-then-bytes-ne0-clause-refused
returns-then-bytes-ne0-clause-refused c = λ e f. inl (ap (λ (x : DecodeError). Err x) (only_length c.args.bytes.now e c.if-bytes-ne0.true f))

pub returns-clause-code : goal.returns-clause-code
returns-clause-code c =
    either c.decode_slots.result _ _ _ _ (λ code d. found_code c.args.bytes.now code.items (λ i. (c.type_inv.bytes i).fits) c.if-bytes-ne0.false d)
    (λ e f. tt) c.decode_slots.ensures

pub returns-clause-only : goal.returns-clause-only
returns-clause-only c = λ code is.
    either c.decode_slots.result _ _ _ _ (λ answer d. same_code _ answer.items code d (complete_at code c.args.bytes.now is))
    (λ e f. only_memory c.args.bytes.now e code is f) c.decode_slots.ensures

pub returns-clause-fault : goal.returns-clause-fault
returns-clause-fault c =
    either c.decode_slots.result _ _ _ _ (λ code d. tt) (λ e f known. fault_is c.args.bytes.now e
    (λ i. (c.type_inv.bytes i).fits) c.if-bytes-ne0.false f known) c.decode_slots.ensures

pub returns-clause-refused : goal.returns-clause-refused
returns-clause-refused c = λ e f. fault_answered (λ code. code.items) c.args.bytes.now c.decode_slots.result e
    (λ i. (c.type_inv.bytes i).fits) c.if-bytes-ne0.false c.decode_slots.ensures f
