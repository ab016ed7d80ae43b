use Rattle.std.proofs.Common.{◌≡◌, ◌++◌, drop, take}
use Rattle.std.specs.List.{AllByRecursion}
use Rattle.bpf_insn.specs.Encoding.{code_bytes, bytes_after}
use Rattle.bpf_encode.specs.Decoding.{Fits}
use Rattle.bpf_encode.proofs.encode.encode.Given as goal

abbrev pub invariant-loop-insn : goal.invariant-loop-insn
invariant-loop-insn l = (code_bytes l.code ≡ l.bytes.items ++ bytes_after l.upper (drop l.insn-index l.code)) × AllByRecursion Fits (take l.insn-index l.code)
