use Rattle.std.proofs.Common.{◌≡◌, ℕ, zero, suc, ◌≤◌, List, [], ◌∷◌, None, Some, length, refl, sym, ap, ◌∙◌, subst, arith}
use Rattle.std.proofs.lemmas.Option.{slice_get-get_or}
use Rattle.std.specs.Prelude.{slice_get}
use Rattle.bt_core.specs.Interaction.{Performed, Whole}
use Rattle.bt_core.proofs.InteractionLaws.{Whole-Ended}
use Rattle.code_runs.specs.Coding.{coded}
use Rattle.code_runs.proofs.code_bodies.CodeBodiesBodies.run.Goals as goal

beyond : {X : Type 0} (xs : List X) (n : ℕ) → length xs ≤ n → slice_get xs n ≡ None
beyond [] n high = refl
beyond (x ∷ xs) zero high = absurd (omega arith)
beyond (x ∷ xs) (suc n) high = beyond xs n (omega arith)

pub returns-in-None-clause-performed : goal.returns-in-None-clause-performed
returns-in-None-clause-performed g c = let b = c.args.self.now in
    let there : slice_get c.args.self.now.codes.now c.args.body ≡ None = beyond c.args.self.now.codes.now c.args.body c.in-None.ensures.lookup.3 in
    subst (λ o. Whole (coded b.script.now b.actor b.actors o c.args.context.now c.args.payload.now) (g.P.Port.steps c.args.port.now) (g.P.Port.steps c.args.port.now) 0) (sym there)
    (Whole-Ended 0 0 (g.P.Port.steps c.args.port.now) refl)

pub returns-in-Some-clause-performed : goal.returns-in-Some-clause-performed
returns-in-Some-clause-performed g c = let b = c.args.self.now in
    let there : slice_get c.args.self.now.codes.now c.args.body ≡ Some c.in-Some.code.now =
    slice_get-get_or c.args.self.now.codes.now c.args.body c.in-Some.code.now c.in-Some.ensures.lookup.3.0 ∙ ap Some (sym c.in-Some.ensures.lookup.1) in
    subst (λ o. Performed (coded b.script.now b.actor b.actors o c.args.context.now c.args.payload.now) (g.P.Port.steps c.args.port.now) (g.P.Port.steps c.run_body.new.port) c.run_body.result) (sym there)
    c.run_body.ensures.performed
