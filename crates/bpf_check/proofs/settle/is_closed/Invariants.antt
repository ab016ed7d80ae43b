use Rattle.bpf_check.specs.Sheet.{sheet_of}
use Rattle.bpf_check.specs.Tables.{IsSettled, work}
use Rattle.bpf_check.proofs.settle.is_closed.Given as goal

abbrev pub invariant-loop-at : goal.invariant-loop-at
invariant-loop-at l = IsSettled (sheet_of l.typed l.payload) l.code l.table l.at

abbrev pub decreases-loop-at : goal.decreases-loop-at
decreases-loop-at l = work l.table l.at
