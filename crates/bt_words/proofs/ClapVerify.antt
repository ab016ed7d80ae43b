-- What clap reads behind `verify`.
use Rattle.std.proofs.Common.{◌≡◌, ◌∙◌, ◌&&◌, true, List, [], ◌∷◌, Some, ap, ap₂, codes, drop, refl, arith}
use Rattle.clap.specs.Words.{Rule, Text, built, first_of, matches_of, takes}
use Rattle.clap.specs.Simple.{Shape, filled, with_index}
use Rattle.clap.specs.Takes.{turn_passes, walk_passes}
use Rattle.clap.specs.Walk.{Held, Walk, finished, nothing_held, walk, walk_from, walked}
use Rattle.clap.proofs.WalkLemmas.{both}
use Rattle.bt_words.specs.Words.{is_operand}
use Rattle.bt_words.specs.Commands.{AreThreeOperands, operand_rule, verify_app}
use Rattle.bt_words.proofs.ClapSteps.{IsOne, at, operand_held, operand_passes, takes_by, walked_operand}
use Rattle.bt_words.proofs.ClapRun.{recording_one, recording_rule, script_one, script_rule}

-- clap takes the words, and gives each operand back
pub record ReadsVerify (words : List Text) (script recording account : Text) : Type 0 where
  pub takes_them : takes verify_app words ≡ true
  pub script_text : first_of (codes "script") (matches_of verify_app words) ≡ Some script
  pub recording_text : first_of (codes "recording") (matches_of verify_app words) ≡ Some recording
  pub account_text : first_of (codes "account") (matches_of verify_app words) ≡ Some account

abbrev account_rule : Rule
account_rule = with_index 3 (filled (operand_rule (codes "account")))

account_one : IsOne account_rule
account_one = record { multiple = refl; several = refl; trailing = refl }

abbrev shape : Shape
shape = (built verify_app).top

module _ (a b c : Text) (ha : is_operand a ≡ true) (hb : is_operand b ≡ true) (hc : is_operand c ≡ true) where
  abbrev after_first : Held
  after_first = operand_held shape.rules script_rule a nothing_held

  abbrev after_second : Held
  after_second = operand_held shape.rules recording_rule b after_first

  abbrev after_third : Held
  after_third = operand_held shape.rules account_rule c after_second

  first_step : walked shape.rules [] (at nothing_held 1) a ≡ at after_first 2
  first_step = walked_operand shape nothing_held 1 a ha script_rule refl script_one

  second_step : walked shape.rules [] (at after_first 2) b ≡ at after_second 3
  second_step = walked_operand shape after_first 2 b hb recording_rule refl recording_one

  third_step : walked shape.rules [] (at after_second 3) c ≡ at after_third 4
  third_step = walked_operand shape after_second 3 c hc account_rule refl account_one

  after_two : walked shape.rules [] (walked shape.rules [] (at nothing_held 1) a) b ≡ at after_second 3
  after_two = ap (λ (w : Walk). walked shape.rules [] w b) first_step ∙ second_step

  end : walk shape.rules [] nothing_held (a ∷ b ∷ c ∷ []) ≡ at after_third 4
  end = ap (λ (w : Walk). walked shape.rules [] w c) after_two ∙ third_step

  second_passes : turn_passes shape [] (walked shape.rules [] (at nothing_held 1) a) b ≡ true
  second_passes = ap (λ (w : Walk). turn_passes shape [] w b) first_step ∙ operand_passes shape after_first 2 b hb recording_rule refl refl

  third_passes : turn_passes shape [] (walked shape.rules [] (walked shape.rules [] (at nothing_held 1) a) b) c ≡ true
  third_passes = ap (λ (w : Walk). turn_passes shape [] w c) after_two ∙ operand_passes shape after_second 3 c hc account_rule refl refl

  passes : walk_passes shape [] (walk_from nothing_held) (a ∷ b ∷ c ∷ []) ≡ true
  unfolding walk_passes
  passes =
      ap₂ (λ x y. x && y) (operand_passes shape nothing_held 1 a ha script_rule refl refl) (ap₂ (λ x y. x && (y && true)) second_passes third_passes)

  reads : (command : Text) → ReadsVerify (command ∷ a ∷ b ∷ c ∷ []) a b c
  reads command = record {
    takes_them = takes_by shape (a ∷ b ∷ c ∷ []) after_third 4 end passes refl refl refl;
    script_text = ap (λ (w : Walk). first_of (codes "script") (finished shape.rules w.held)) end ∙ refl;
    recording_text = ap (λ (w : Walk). first_of (codes "recording") (finished shape.rules w.held)) end ∙ refl;
    account_text = ap (λ (w : Walk). first_of (codes "account") (finished shape.rules w.held)) end ∙ refl;
  }

-- `verify` takes any three operands, and gives them back
pub reads_verify : (words : List Text) → AreThreeOperands (drop 1 words)
    → (script : Text) × (recording : Text) × (account : Text) × (drop 1 words ≡ script ∷ recording ∷ account ∷ []) × ReadsVerify words script recording account
reads_verify [] h = absurd (omega (arith, h.1))
reads_verify (command ∷ []) h = absurd (omega (arith, h.1))
reads_verify (command ∷ a ∷ []) h = absurd (omega (arith, h.1))
reads_verify (command ∷ a ∷ b ∷ []) h = absurd (omega (arith, h.1))
reads_verify (command ∷ a ∷ b ∷ c ∷ []) h =
    let ha = both _ _ h.0 in
    let hb = both _ _ ha.1 in
    (a, b, c, refl, reads a b c ha.0 hb.0 (both _ _ hb.1).0 command)
reads_verify (command ∷ a ∷ b ∷ c ∷ d ∷ more) h = absurd (omega (arith, h.1))
