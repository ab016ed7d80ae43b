use Rattle.std.proofs.Common.{◌≡◌, false, take}
use Rattle.std.specs.List.{list_any}
use Rattle.bt_ast.specs.declared.probe.Probe.{Probe}
use Rattle.bt_types.specs.Exits.{block_exits}
use Rattle.bt_types.proofs.exits.script_exits.Given as goal

-- it stands in none so far
abbrev pub invariant-loop-probe : goal.invariant-loop-probe
invariant-loop-probe l = list_any (λ (p : Probe). block_exits p.block) (take l.probe-index l.probe-items) ≡ false
