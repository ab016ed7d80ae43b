use Rattle.std.proofs.Common.{◌≡◌, ◌*◌, ◌-◌, drop, false}
use Rattle.bpf_encode.specs.Slots.{decoded, after_code}
use Rattle.bpf_encode.proofs.decode.decode_slots.Given as goal

abbrev pub invariant-loop-place : goal.invariant-loop-place
invariant-loop-place l = decoded 0 false l.slots l.bytes ≡ after_code l.code.items (decoded l.place l.owed (l.slots - l.place) (drop (8 * l.place) l.bytes))
