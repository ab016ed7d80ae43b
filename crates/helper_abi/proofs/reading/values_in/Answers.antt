use Rattle.std.proofs.Common.{◌∙◌, ◌++◌, ◌+◌, List, get_or, drop, ap}
use Rattle.std.proofs.lemmas.List.{at_drop_more}
use Rattle.bt_core.specs.declared.map.Shape.{Shape}
use Rattle.bt_core.specs.declared.map.Shape.TheVariants.{Int}
use Rattle.helper_abi.specs.Reading.{values_in}
use Rattle.helper_abi.proofs.ReadingLemmas.{one_more, bytes_further}
use Rattle.helper_abi.proofs.reading.values_in.Goals as goal

pub loop-shape-preserved : goal.loop-shape-preserved
loop-shape-preserved c =
    let shape = get_or c.args.shapes.now c.loop-shape.shape-index Int in
    let is = at_drop_more (λ (hs : List Shape). hs) c.args.shapes.now c.loop-shape.shape-index Int c.loop-shape-test.true in
    let parts = c.split_at-parts.ensures in
    record {
      same = ap (λ l. l ++ values_in (drop (c.loop-shape.shape-index + 1) c.args.shapes.now) c.split_at-parts.result.1.now) c.in_ok-push.ensures.ok
          ∙ one_more c.loop-shape.values _ (drop c.loop-shape.shape-index c.args.shapes.now) _ shape c.shape_bytes.result c.split_at-parts.result.0.now c.loop-shape.rest.now _ c.value_in.result is c.shape_bytes.ensures.value parts.front parts.back c.value_in.ensures.value c.loop-shape.invariant.same;
      long = bytes_further (drop c.loop-shape.shape-index c.args.shapes.now) _ shape c.shape_bytes.result _ _ is c.shape_bytes.ensures.value c.loop-shape.invariant.long parts.back_len;
    }
