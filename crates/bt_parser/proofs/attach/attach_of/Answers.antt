use Rattle.std.proofs.Common.{◌∙◌, ◌∷◌, ap}
use Rattle.bt_grammar.specs.Attach.{point_of_parts}
use Rattle.bt_parser.proofs.Parts.{fourth_part}
use Rattle.bt_parser.proofs.attach.attach_of.Goals as goal

pub returns-in-Some-cut-2 : goal.returns-in-Some-cut-2
returns-in-Some-cut-2 c place =
    ap (λ ps. point_of_parts ps place)
    (c.in-Some.ensures.some ∙ ap (λ z. c.in-Some.word.now ∷ z) (c.in-Some-cut.ensures.some ∙ ap (λ z. c.in-Some-cut.first.now ∷ z) (c.in-Some-cut-2.ensures.some)))
    ∙ fourth_part c.in-Some.word.now c.in-Some-cut.first.now c.in-Some-cut-2.field-0-0.now c.in-Some-cut-2.field-0-1.now place
