use Rattle.std.proofs.Common.{◌≡◌, ◌++◌, drop}
use Rattle.bpf_encode.specs.Listing.{spaced}
use Rattle.bpf_encode.proofs.listing.push_bytes.Given as goal

abbrev pub invariant-loop-byte : goal.invariant-loop-byte
invariant-loop-byte l = l.fn.text.items ++ spaced l.bytes ≡ l.text.items ++ spaced (drop l.byte-index l.bytes)
