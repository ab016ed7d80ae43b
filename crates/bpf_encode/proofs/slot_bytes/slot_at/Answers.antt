use Rattle.bpf_encode.specs.Decoding.{slot_in}
use Rattle.bpf_encode.proofs.Bytes.{offset_read, imm_read}
use Rattle.bpf_encode.proofs.slot_bytes.slot_at.Goals as goal

pub returns : goal.returns
returns c =
    let bs = c.args.bytes.now in
    let o = offset_read bs c.read_i16.result (λ i. (c.type_inv.bytes i).fits) c.read_i16.ensures in
    let n = imm_read bs c.read_i32.result (λ i. (c.type_inv.bytes i).fits) c.read_i32.ensures in
    λ k. record { opcode = (slot_in bs).opcode; dst = (slot_in bs).dst; src = (slot_in bs).src; offset = o k; imm = n k }
