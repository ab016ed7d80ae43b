use Rattle.std.proofs.Common.{◌≤◌, take}
use Rattle.std.specs.Io.KnownBytes.{Appends}
use Rattle.top_refusals.proofs.LineLaws.{all_bytes}
use Rattle.top_refusals.proofs.line.write_pieces.Given as goal

abbrev pub invariant-loop-piece : goal.invariant-loop-piece
invariant-loop-piece g l = record {
  written : Appends (g.E.Sink.taken l.fn.err) (g.E.Sink.taken l.err) (all_bytes (take l.piece-index l.pieces));
  later : g.E.Sink.faults l.fn.err ≤ g.E.Sink.faults l.err;
}
