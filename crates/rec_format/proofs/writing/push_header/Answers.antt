use Rattle.std.proofs.Common.{ℕ, List, length, ◌++◌, ap, ◌∙◌}
use Rattle.std.specs.Int.{w32, w64, to_le_bytes}
use Rattle.recordings.specs.declared.recording.Recording.{Recording}
use Rattle.recordings.specs.Checks.{magic_of}
use Rattle.rec_format.proofs.WriteLaws.{written5}
use Rattle.rec_format.proofs.writing.push_header.Goals as goal

pub returns : goal.returns
returns c =
    let r : Recording = c.args.recording.now in
    written5 c.push_u64-2.result c.args.bytes.now.items c.extend_from_slice.new.self.items c.push_u32.new.bytes.items c.push_u32-2.new.bytes.items c.push_u64.new.bytes.items c.push_u64-2.new.bytes.items
    (magic_of r.version) (to_le_bytes w32 (length r.cpus)) (to_le_bytes w32 (length r.formats)) (to_le_bytes w64 r.start) (to_le_bytes w64 r.end)
    (c.in_ok-extend_from_slice.ensures.items ∙ ap (λ (m : List ℕ). c.args.bytes.now.items ++ m) c.magic_of.ensures) (c.in_ok-push_u32.ensures ∙ ap (λ (n : ℕ). c.extend_from_slice.new.self.items ++ to_le_bytes w32 n) c.len.ensures) (c.in_ok-push_u32-2.ensures ∙ ap (λ (n : ℕ). c.push_u32.new.bytes.items ++ to_le_bytes w32 n) c.len-2.ensures) c.in_ok-push_u64.ensures c.push_u64-2.ensures
