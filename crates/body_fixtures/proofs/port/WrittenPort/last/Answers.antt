use Rattle.std.proofs.Common.{arith, ◌≡◌, ℕ, suc, ◌-◌, ◌<◌, List, [], ◌∷◌, length, get_or, ap, sym, ◌∙◌, refl}
use Rattle.bt_core.specs.declared.step.Step.{Step}
use Rattle.bt_core.specs.Interaction.{last_reply}
use Rattle.body_fixtures.proofs.port.WrittenPort.last.Goals as goal

last-is : (xs : List Step) (n : ℕ) (d : Step) → length xs ≡ suc n → (get_or xs n d).reply ≡ last_reply xs
last-is [] n d e = absurd (omega arith)
last-is (s ∷ []) n d e = let z : n ≡ 0 = omega arith in ap (λ k. (get_or (s ∷ []) k d).reply) z
last-is (s ∷ t ∷ xs) n d e =
    let z : n ≡ suc (n - 1) = omega arith in
    ap (λ k. (get_or (s ∷ t ∷ xs) k d).reply) z ∙ last-is (t ∷ xs) (n - 1) d (omega arith)

pub returns : goal.returns
returns c =
    let e : c.as_slice-steps.result.now ≡ c.args.self.now.steps = c.as_slice-steps.ensures in
    let n : length c.as_slice-steps.result.now ≡ suc (length c.as_slice-steps.result.now - 1) = omega (arith, ap length e) in
    last-is _ _ _ n ∙ ap last_reply e
