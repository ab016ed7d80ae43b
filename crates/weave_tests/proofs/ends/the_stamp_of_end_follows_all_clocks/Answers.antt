use Rattle.std.proofs.Common.{◌≡◌, zero, suc, false, [], ◌∷◌, refl, inl, inr, arith}
use Rattle.bt_core.specs.declared.step.Step.{Step}
use Rattle.weave.specs.Order.{comes_before, InOrder}
use Rattle.weave.proofs.Growth.{stamps_none, stamps_snoc}
use Rattle.weave_tests.specs.EndSteps.{begin_step, cpu_step, late_end, early_end, steps_with}
use Rattle.weave_tests.proofs.ends.the_stamp_of_end_follows_all_clocks.Goals as goal

three : (x y z : Step) → comes_before y x ≡ false → comes_before z y ≡ false → InOrder (x ∷ y ∷ z ∷ [])
three x y z a b zero d low less = a
three x y z a b (suc zero) d low less = b
three x y z a b (suc (suc k)) d low less = absurd (let none : ⊥ = omega arith in none)

pub returns-clause-woven : goal.returns-clause-woven
returns-clause-woven c = record {
  order = three begin_step cpu_step late_end refl refl;
  stamps = stamps_snoc 1 1 (begin_step ∷ cpu_step ∷ []) late_end
      (stamps_snoc 1 1 (begin_step ∷ []) cpu_step (stamps_snoc 1 1 [] begin_step (stamps_none 1 1) refl (inr tt)) refl (inl (omega arith))) refl (inl (omega arith));
}

pub returns-clause-in_order : goal.returns-clause-in_order
returns-clause-in_order c = three begin_step cpu_step early_end refl refl

pub returns-clause-not_woven : goal.returns-clause-not_woven
returns-clause-not_woven c w = let early : 2 ≡ 3 = w.stamps (begin_step ∷ cpu_step ∷ []) early_end [] refl in absurd (let none : ⊥ = omega (arith, early) in none)
