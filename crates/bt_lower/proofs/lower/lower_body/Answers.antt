use Rattle.std.proofs.Common.{refl, ap, ◌∙◌, arith}
use Rattle.bt_lower.specs.Needs.{Need}
use Rattle.bt_lower.proofs.Placed.{placed-leads, placed-typed-at, placed-runs-at, placed-reads}
use Rattle.bt_lower.proofs.lower.lower_body.Goals as goal

pub invariant_of-result : goal.invariant_of-result
invariant_of-result c = record { led = placed-leads c.args.script.now.maps c.args.script.now.formats c.args.body.now c.requires.here c.in_ok-list.list c.in_ok-list.ensures }

pub invariant_of-result-2 : goal.invariant_of-result-2
invariant_of-result-2 c =
    let code = ap (λ (n : Need). n.code) c.in_ok-need.ensures.need in
    record {
      typed = placed-typed-at c.args.script.now.maps c.args.script.now.formats c.args.body.now c.requires.here c.in_ok-list.list c.in_ok-list.ensures _ _ _ _ c.in_ok-variables.ensures c.in_ok-maps.ensures (c.in_ok-formats.ensures ∙ c.requires.shapes) (ap (λ (n : Need). n.frame) c.in_ok-need.ensures.need);
      covered = omega (arith, c.in_ok-list.ensures.slots, code);
    }

pub returns : goal.returns
returns c = record {
  runs = placed-runs-at c.args.script.now.maps c.args.script.now.formats c.args.body.now c.requires.here c.in_ok-list.list c.in_ok-list.ensures _ refl c.in_ok-variables.ensures c.in_ok-maps.ensures;
  variables = c.in_ok-variables.ensures;
  maps_are = c.in_ok-maps.ensures;
  formats_are = c.in_ok-formats.ensures ∙ c.requires.shapes;
  reads = placed-reads c.args.script.now.maps c.args.script.now.formats c.args.body.now c.requires.here c.in_ok-list.list c.in_ok-list.ensures;
  frame = ap (λ (n : Need). n.frame) c.in_ok-need.ensures.need;
  code = ap (λ (n : Need). n.code) c.in_ok-need.ensures.need;
}
