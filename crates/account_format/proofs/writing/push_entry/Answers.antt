use Rattle.std.proofs.Common.{ℕ, List, ◌++◌, ap, ◌∙◌, append_assoc}
use Rattle.std.specs.Int.{w32, w64, to_le_bytes}
use Rattle.account_format.specs.Entries.{call_bytes}
use Rattle.account_format.proofs.PushLaws.{pushed_behind}
use Rattle.account_format.proofs.writing.push_entry.Goals as goal

pub returns-clause-bytes : goal.returns-clause-bytes
returns-clause-bytes c =
    let old = c.args.bytes.now.items in let step = c.args.step.now in
    let actor = to_le_bytes w32 step.actor in let stamp = to_le_bytes w64 step.stamp in
    pushed_behind c.push_call.result old actor stamp (call_bytes step.object step.op) c.push_u64.new.bytes.items c.push_call.new.bytes.items
    (c.in_ok-push_u64.ensures ∙ ap (λ (l : List ℕ). l ++ stamp) c.in_ok-push_u32.ensures ∙ append_assoc old actor stamp) c.push_call.ensures
