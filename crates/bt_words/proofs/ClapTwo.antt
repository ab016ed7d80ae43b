-- What clap reads in two operands.
use Rattle.std.proofs.Common.{◌≡◌, ◌∙◌, ◌&&◌, true, List, [], ◌∷◌, Some, ap, ap₂, codes, drop, refl, arith}
use Rattle.clap.specs.Words.{Rule, Text, built, first_of, matches_of, takes}
use Rattle.clap.specs.Simple.{Shape, filled, with_index}
use Rattle.clap.specs.Takes.{turn_passes, walk_passes}
use Rattle.clap.specs.Walk.{Held, Walk, finished, nothing_held, walk, walk_from, walked}
use Rattle.clap.proofs.WalkLemmas.{both}
use Rattle.bt_words.specs.Words.{is_operand}
use Rattle.bt_words.specs.Commands.{AreTwoOperands, operand_rule, two_app}
use Rattle.bt_words.proofs.ClapSteps.{IsOne, at, operand_held, operand_passes, takes_by, walked_operand}

abbrev pub ReadsTwo : Text → List Text → Text → Text → Type 0
ReadsTwo name words first second =
    (takes (two_app name) words ≡ true) × (first_of (codes "first") (matches_of (two_app name) words) ≡ Some first)
    × (first_of (codes "second") (matches_of (two_app name) words) ≡ Some second)

abbrev first_rule : Rule
first_rule = with_index 1 (filled (operand_rule (codes "first")))

abbrev second_rule : Rule
second_rule = with_index 2 (filled (operand_rule (codes "second")))

first_one : IsOne first_rule
first_one = record { multiple = refl; several = refl; trailing = refl }

second_one : IsOne second_rule
second_one = record { multiple = refl; several = refl; trailing = refl }

module _ (name a b : Text) (ha : is_operand a ≡ true) (hb : is_operand b ≡ true) where
  abbrev shape : Shape
  shape = (built (two_app name)).top

  abbrev after_first : Held
  after_first = operand_held shape.rules first_rule a nothing_held

  abbrev after_second : Held
  after_second = operand_held shape.rules second_rule b after_first

  first_step : walked shape.rules [] (at nothing_held 1) a ≡ at after_first 2
  first_step = walked_operand shape nothing_held 1 a ha first_rule refl first_one

  second_step : walked shape.rules [] (at after_first 2) b ≡ at after_second 3
  second_step = walked_operand shape after_first 2 b hb second_rule refl second_one

  end : walk shape.rules [] nothing_held (a ∷ b ∷ []) ≡ at after_second 3
  end = ap (λ (w : Walk). walked shape.rules [] w b) first_step ∙ second_step

  passes : walk_passes shape [] (walk_from nothing_held) (a ∷ b ∷ []) ≡ true
  unfolding walk_passes
  passes =
      ap₂ (λ x (w : Walk). x && (turn_passes shape [] w b && true)) (operand_passes shape nothing_held 1 a ha first_rule refl refl) first_step
      ∙ ap (λ x. x && true) (operand_passes shape after_first 2 b hb second_rule refl refl)

  reads : (command : Text) → ReadsTwo name (command ∷ a ∷ b ∷ []) a b
  reads command = (
    takes_by shape (a ∷ b ∷ []) after_second 3 end passes refl refl refl,
    ap (λ (w : Walk). first_of (codes "first") (finished shape.rules w.held)) end ∙ refl,
    ap (λ (w : Walk). first_of (codes "second") (finished shape.rules w.held)) end ∙ refl,
  )

-- a command of two operands takes any two, and gives them back
pub reads_two : (name : Text) (words : List Text) → AreTwoOperands (drop 1 words)
    → (first : Text) × (second : Text) × (drop 1 words ≡ first ∷ second ∷ []) × ReadsTwo name words first second
reads_two name [] h = absurd (omega (arith, h.1))
reads_two name (command ∷ []) h = absurd (omega (arith, h.1))
reads_two name (command ∷ a ∷ []) h = absurd (omega (arith, h.1))
reads_two name (command ∷ a ∷ b ∷ []) h =
    let ha = both _ _ h.0 in
    (a, b, refl, reads name a b ha.0 (both _ _ ha.1).0 command)
reads_two name (command ∷ a ∷ b ∷ c ∷ more) h = absurd (omega (arith, h.1))
