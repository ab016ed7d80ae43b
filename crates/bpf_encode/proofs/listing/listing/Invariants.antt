use Rattle.std.proofs.Common.{◌≡◌, ◌*◌, ◌-◌, ◌++◌, drop}
use Rattle.bpf_encode.specs.Listing.{lines_from, slots_in}
use Rattle.bpf_encode.proofs.listing.listing.Given as goal

abbrev pub invariant-loop-number : goal.invariant-loop-number
invariant-loop-number l = lines_from 0 (slots_in l.slots l.bytes) ≡ l.text.items ++ lines_from l.number
    (slots_in (l.slots - l.number) (drop (8 * l.number) l.bytes))
