use Rattle.std.proofs.Common.{rules, ◌≡◌, ℤ, List, ◌+◌, ◌%◌, ◌^◌, ◌∷◌, ◌++◌, [], ap, ◌∙◌, subst, w64, FitsSigned, to_z, of_z}
use Rattle.bt_core.specs.declared.step.Op.{Op}
use Rattle.bt_core.specs.declared.step.Reply.TheVariants.{Value}
use Rattle.bt_core.specs.declared.value.Value.TheVariants.{Int}
use Rattle.turn_lock.specs.Sums.{number_of, total}
use Rattle.turn_lock.proofs.SumLemmas.{total-snoc, total-kept}
use Rattle.turn_lock.proofs.tally.TallySeqObject.apply.Goals as goal

-- one number more
added : (sum n : ℤ) (before : List Op) (op : Op) → sum ≡ total before → n ≡ number_of op → FitsSigned w64 n
    → to_z w64 ((of_z w64 sum + of_z w64 n) % 2 ^ 64) ≡ total (before ++ op ∷ [])
added sum n before op stands is fits =
    (λ i. to_z w64 ((of_z w64 (stands i) + of_z w64 (is i)) % 2 ^ 64)) ∙ total-snoc before op (subst (FitsSigned w64) is fits)

pub returns-clause-replies : goal.returns-clause-replies
returns-clause-replies c before stands = let fits : FitsSigned w64 c.number.result = search rules in
    ap (λ (z : ℤ). Value (Int (to_z w64 (of_z w64 z)))) (added c.args.self.now.sum c.number.result before c.args.op.now stands c.number.ensures fits)
    ∙ ap (λ (z : ℤ). Value (Int z)) (total-kept (before ++ c.args.op.now ∷ []))

pub returns-clause-taken : goal.returns-clause-taken
returns-clause-taken c before stands = let fits : FitsSigned w64 c.number.result = search rules in
    added c.args.self.now.sum c.number.result before c.args.op.now stands c.number.ensures fits
