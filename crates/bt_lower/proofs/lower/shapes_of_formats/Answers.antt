use Rattle.std.proofs.Common.{◌∙◌, ◌++◌, ◌∷◌, [], List, map, take, ap, sym}
use Rattle.std.proofs.lemmas.List.{map_more, take_all}
use Rattle.bt_core.specs.declared.map.Shape.{Shape}
use Rattle.fmt_text.specs.Arguments.{argument_shapes}
use Rattle.bt_lower.proofs.lower.shapes_of_formats.Goals as goal

pub loop-pieces-preserved : goal.loop-pieces-preserved
loop-pieces-preserved c =
    let seen = ap (λ (l : List (List Shape)). l ++ c.in_ok-argument_shapes.field-0 ∷ []) c.loop-pieces.invariant in
    let here = ap (λ (s : List Shape). map argument_shapes (take c.loop-pieces.pieces-index c.args.formats.now) ++ s ∷ []) (c.in_ok-argument_shapes.ensures ∙ (ap argument_shapes c.as_slice.ensures ∙ ap argument_shapes c.pieces-item.is)) in
    c.in_ok-push.ensures.ok ∙ (seen ∙ (here ∙ sym (map_more argument_shapes c.args.formats.now c.loop-pieces.pieces-index c.pieces-item.result c.loop-pieces-test.true)))

pub returns : goal.returns
returns c = c.loop-pieces.invariant ∙ ap (map argument_shapes) (take_all c.loop-pieces.pieces-index c.args.formats.now c.loop-pieces-test.false)
