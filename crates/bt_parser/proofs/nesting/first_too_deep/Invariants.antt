use Rattle.std.proofs.Common.{◌≡◌, ◌≤◌, [], ◌∷◌, drop}
use Rattle.bt_core.specs.declared.limits.TheConstants.{NESTING}
use Rattle.bt_parser.specs.Levels.{IsWeighed, deep_from, levels_of}
use Rattle.bt_parser.proofs.nesting.first_too_deep.Given as goal

abbrev pub invariant-loop-i : goal.invariant-loop-i
invariant-loop-i l = record {
  deep : deep_from l.i (levels_of l.levels) (drop l.i l.classes) ≡ deep_from 0 (0 ∷ []) l.classes;
  weighed : IsWeighed l.levels;
  light : l.levels.weight ≤ NESTING;
}
