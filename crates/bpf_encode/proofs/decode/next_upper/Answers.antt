use Rattle.bpf_encode.proofs.Bytes.{next_read}
use Rattle.bpf_encode.proofs.decode.next_upper.Goals as goal

pub returns-then-bytes-ge16 : goal.returns-then-bytes-ge16
returns-then-bytes-ge16 c = next_read c.args.bytes.now c.slot_at.result c.cast_unsigned.result
    (λ i. (c.type_inv.bytes i).fits) c.if-bytes-ge16.true c.slot_at.ensures c.cast_unsigned.ensures
