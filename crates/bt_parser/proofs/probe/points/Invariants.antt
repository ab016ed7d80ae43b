use Rattle.std.proofs.Common.{◌≡◌, ◌<◌, length}
use Rattle.bt_grammar.specs.Form.{Points}
use Rattle.bt_parser.specs.Probes.{points_on}
use Rattle.bt_grammar.specs.Reading.{reads}
use Rattle.bt_grammar.specs.Tokens.{items}
use Rattle.bt_parser.proofs.probe.points.Given as goal

-- the points so far, with what is read of the others, are the points
abbrev pub invariant-loop-alloc : goal.invariant-loop-alloc
invariant-loop-alloc l = record {
  read : points_on l.points (items l.tokens) ≡ reads Points (items l.fn.tokens);
  shorter : length l.tokens < length l.fn.tokens;
  some : 0 < length l.points;
}

abbrev pub decreases-loop-alloc : goal.decreases-loop-alloc
decreases-loop-alloc l = length l.tokens
