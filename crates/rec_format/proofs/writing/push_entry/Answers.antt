use Rattle.std.proofs.Common.{[], ◌∷◌}
use Rattle.std.specs.Int.{w64, to_le_bytes}
use Rattle.rec_format.proofs.WriteLaws.{written3, lost_bytes}
use Rattle.rec_format.proofs.writing.push_entry.Goals as goal

pub returns-in_ok-push_u64-in-Lost : goal.returns-in_ok-push_u64-in-Lost
returns-in_ok-push_u64-in-Lost c =
    rw (c.in-Lost.is, lost_bytes c.args.marks c.in-Lost.time c.in-Lost.count)
    (written3 c.push_u64-in-Lost.result c.args.bytes.now.items c.push.new.self.items c.push_u64.new.bytes.items c.push_u64-in-Lost.new.bytes.items (1 ∷ []) (to_le_bytes w64 c.in-Lost.time) (to_le_bytes w64 c.in-Lost.count)
    c.in_ok-push-in-Lost.ensures.items c.in_ok-push_u64-in-Lost.ensures c.push_u64-in-Lost.ensures)
