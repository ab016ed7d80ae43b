use Rattle.std.proofs.Common.{◌≡◌, ◌∙◌, List, true, false, sym, subst}
use Rattle.std.specs.List.{list_any}
use Rattle.bt_ast.specs.declared.probe.Probe.{Probe}
use Rattle.bt_types.specs.Exits.{block_exits}
use Rattle.bt_types.proofs.ExitLaws.{any_here, none_more, none_all}
use Rattle.bt_types.proofs.exits.script_exits.Goals as goal

pub loop-probe-preserved : goal.loop-probe-preserved
loop-probe-preserved c =
    none_more (λ (p : Probe). block_exits p.block) c.as_slice-probe-items.result.now c.loop-probe.probe-index c.probe-item.result c.loop-probe-test.true c.probe-item.is c.loop-probe.invariant (sym c.block_exits.ensures ∙ c.if-block_exits.false)

pub returns-then-block_exits : goal.returns-then-block_exits
returns-then-block_exits c =
    let found = any_here (λ (p : Probe). block_exits p.block) c.as_slice-probe-items.result.now c.loop-probe.probe-index c.probe-item.result c.loop-probe-test.true c.probe-item.is (sym c.block_exits.ensures ∙ c.if-block_exits.true) in
    sym (subst (λ (l : List Probe). list_any (λ (p : Probe). block_exits p.block) l ≡ true) c.as_slice-probe-items.ensures found)

pub returns : goal.returns
returns c =
    let none = none_all (λ (p : Probe). block_exits p.block) c.as_slice-probe-items.result.now c.loop-probe.probe-index c.loop-probe-test.false c.loop-probe.invariant in
    sym (subst (λ (l : List Probe). list_any (λ (p : Probe). block_exits p.block) l ≡ false) c.as_slice-probe-items.ensures none)
