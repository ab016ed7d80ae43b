use Rattle.std.proofs.Common.{◌≡◌, ◌+◌, drop}
use Rattle.expr_types.specs.Known.{has_name, place_of}
use Rattle.expr_types.proofs.known.place_of.Given as goal

-- what is left to see decides
abbrev pub invariant-loop-i : goal.invariant-loop-i
invariant-loop-i l = record {
  there : has_name l.name (drop l.i l.names) ≡ has_name l.name l.names;
  placed : place_of l.name (drop l.i l.names) + l.i ≡ place_of l.name l.names;
}
