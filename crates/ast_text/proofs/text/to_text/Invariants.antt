use Rattle.std.proofs.Common.{◌≡◌, ◌++◌, map, drop}
use Rattle.ast_text.specs.Stmts.{joined}
use Rattle.ast_text.specs.Scripts.{probe_text}
use Rattle.ast_text.proofs.text.to_text.Given as goal

-- what is written, with what is left to write, is the whole
abbrev pub invariant-loop-probe : goal.invariant-loop-probe
invariant-loop-probe l = l.out.items ++ joined (map probe_text (drop l.probe-index l.probe-items)) ≡ joined (map probe_text l.probe-items)
