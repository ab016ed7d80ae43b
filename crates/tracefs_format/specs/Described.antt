-- What a line of a format text said, as the reader keeps it. No public contract cites this.
use Rattle.tracefs_format.specs.declared.line.FieldLine.{FieldLine}
use Rattle.event_layout.specs.FieldLines.{Description}

abbrev pub described_by : FieldLine → Description
described_by f = record { name = f.name.now; offset = f.offset; size = f.size; signed = f.signed; kind = f.kind }
