-- The stamps of a woven list that tells of a mark between two counts.
use Rattle.std.proofs.Common.{◌≡◌, ℕ, suc, max, List, [], ◌∷◌, map, refl, ap, ◌∙◌, subst}
use Rattle.bt_core.specs.declared.step.Step.{Step}
use Rattle.weave.specs.Lists.{stamp_of}
use Rattle.weave.specs.Woven.{StampsFollow}
use Rattle.bt_meaning.specs.Serial.{unstamped}
use Rattle.meaning_tests.specs.Marks.{tells, told_between}
use Rattle.meaning_tests.specs.Written.{adds}

abbrev with_stamp : ℕ → Step → Step
with_stamp stamp s = record { actor = s.actor; object = s.object; stamp = stamp; op = s.op; reply = s.reply }

is_stamped : (s t : Step) → unstamped s ≡ t → s ≡ with_stamp s.stamp t
is_stamped s t e = ap (with_stamp s.stamp) e

abbrev stamped_list : ℕ → ℕ → ℕ → List Step
stamped_list p q r = with_stamp p (adds 0) ∷ with_stamp q (tells 0 0 5) ∷ with_stamp r (adds 0) ∷ []

stamps_are : (p q r : ℕ) → StampsFollow 1 0 (stamped_list p q r) → p ∷ q ∷ r ∷ [] ≡ 1 ∷ 2 ∷ 3 ∷ []
stamps_are p q r follow =
    let a = with_stamp p (adds 0) in
    let b = with_stamp q (tells 0 0 5) in
    let c = with_stamp r (adds 0) in
    let first : p ≡ 1 = follow [] a (b ∷ c ∷ []) refl in
    let second : q ≡ 2 = follow (a ∷ []) b (c ∷ []) refl ∙ ap (λ n. suc (max (max 0 (max n 0)) 0)) first in
    let third : r ≡ 3 = follow (a ∷ b ∷ []) c [] refl ∙ (λ i. suc (max (max 0 (max (first i) (max (second i) 0))) (max (first i) 0))) in
    (λ i. first i ∷ second i ∷ third i ∷ [])

pub stamps_rise : (steps : List Step) → map unstamped steps ≡ told_between → StampsFollow 1 0 steps → map stamp_of steps ≡ 1 ∷ 2 ∷ 3 ∷ []
stamps_rise [] e follow = absurd cc
stamps_rise (a ∷ []) e follow = absurd cc
stamps_rise (a ∷ b ∷ []) e follow = absurd cc
stamps_rise (a ∷ b ∷ c ∷ []) e follow =
    let first : unstamped a ≡ adds 0 = cc in
    let second : unstamped b ≡ tells 0 0 5 = cc in
    let third : unstamped c ≡ adds 0 = cc in
    stamps_are a.stamp b.stamp c.stamp
    (subst (StampsFollow 1 0) (λ i. is_stamped a (adds 0) first i ∷ is_stamped b (tells 0 0 5) second i ∷ is_stamped c (adds 0) third i ∷ []) follow)
stamps_rise (a ∷ b ∷ c ∷ d ∷ ds) e follow = absurd cc
