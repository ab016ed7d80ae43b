use Rattle.std.proofs.Common.{◌≡◌, ◌++◌, take}
use Rattle.recordings.specs.Recordings.{formats_bytes}
use Rattle.rec_format.proofs.writing.push_formats.Given as goal

abbrev pub invariant-loop-format : goal.invariant-loop-format
invariant-loop-format l = l.bytes.items ≡ l.initial.bytes.items ++ formats_bytes (take l.format-index l.formats)
