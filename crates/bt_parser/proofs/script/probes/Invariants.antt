use Rattle.std.proofs.Common.{◌≡◌, ◌≤◌, length}
use Rattle.bt_core.specs.declared.limits.TheConstants.{PROBES}
use Rattle.bt_grammar.specs.Counts.{probes_read}
use Rattle.bt_grammar.specs.Reading.{Done}
use Rattle.bt_grammar.specs.Tokens.{items}
use Rattle.bt_parser.proofs.script.probes.Given as goal

-- the probes so far stand at the front
abbrev pub invariant-loop-alloc : goal.invariant-loop-alloc
invariant-loop-alloc l = record {
  read : probes_read (length l.probes) (items l.fn.tokens) ≡ Done l.probes (items l.tokens);
  few : length l.probes ≤ PROBES;
  no_longer : length l.tokens ≤ length l.fn.tokens;
}

abbrev pub decreases-loop-alloc : goal.decreases-loop-alloc
decreases-loop-alloc l = length l.tokens
