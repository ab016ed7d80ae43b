use Rattle.std.proofs.Common.{◌≡◌, ◌<◌, length, drop}
use Rattle.event_layout.specs.ByName.{field_called}
use Rattle.event_layout.proofs.layout.Layout.field.Given as goal

-- the field is not among those that were passed
abbrev pub invariant-loop-field : goal.invariant-loop-field
invariant-loop-field l = record {
  some : 0 < length l.name;
  left : field_called l.name (drop l.field-index l.field-items) ≡ field_called l.name l.field-items;
}
