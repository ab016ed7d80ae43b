-- Two operands with something between them: inner words, by which the checker's own calls speak of all such constructs at once.
use Rattle.std.specs.Prelude.{List, ◌∷◌, ◌++◌, Option}
use Rattle.bt_core.specs.declared.map.Shape.{Shape}
use Rattle.bt_core.specs.declared.place.Place.{Place}
use Rattle.typed_tree.specs.Parts.{TreePart, Joined, Both, Either}
use Rattle.expr_types.specs.declared.fault.Rule.{Rule}
use Rattle.expr_types.specs.declared.leaf.Joint.{Joint}
use Rattle.expr_types.specs.declared.leaf.Joint.TheVariants.{Operator, And, Or}
use Rattle.expr_types.specs.Join.{joined_breaks, both_break}
use Rattle.expr_types.specs.Mentions.{Sort, Whole, Point, Word, BinaryWord, AndWord, OrWord}
use Rattle.expr_types.specs.Walk.{Seen, seen, operands, both_whole}

abbrev pub joint_part : Joint → TreePart
joint_part (Operator op) = Joined op
joint_part And = Both
joint_part Or = Either

abbrev pub joint_word : Joint → Word
joint_word (Operator op) = BinaryWord op
joint_word And = AndWord
joint_word Or = OrWord

-- what is asked of the operands, and what two types of operands break
abbrev pub joint_points : Joint → Place → Sort → Sort → List Point
joint_points (Operator op) place left right = operands op place left right
joint_points And place left right = both_whole place left right
joint_points Or place left right = both_whole place left right

abbrev pub joint_breaks : Joint → Shape → Shape → Option Rule
joint_breaks (Operator op) left right = joined_breaks op left right
joint_breaks And left right = both_break left right
joint_breaks Or left right = both_break left right

abbrev pub joint_seen : Joint → Place → Seen → Seen → Seen
joint_seen joint place left right =
    seen (left.points ++ (right.points ++ joint_points joint place left.sort right.sort)) Whole (joint_word joint ∷ (left.words ++ right.words))
