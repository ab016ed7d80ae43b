use Rattle.std.proofs.Common.{◌≡◌, ℤ, List, Result, Ok, Err, SFits, w64, refl, sym, ap, ◌∙◌, subst, rules}
use Rattle.std.specs.Prelude.{OnOk}
use Rattle.std.proofs.lemmas.Int.{to_z-of_z}
use Rattle.std.proofs.lemmas.Result.{err_from_is_err_and}
use Rattle.bt_core.specs.declared.memory.Memory.{Memory}
use Rattle.bt_core.specs.declared.step.Step.{Step}
use Rattle.bt_core.specs.declared.value.Value.{Value}
use Rattle.bt_core.specs.declared.value.Value.TheVariants.{Int}
use Rattle.bt_core.specs.Interaction.{Interaction, Ended, and_then, Part, Whole}
use Rattle.bt_core.proofs.InteractionLaws.{Part-and_then, Part-after, Performed-none, Whole-and_then, Whole-Ended}
use Rattle.ir_code.specs.declared.state.State.{State}
use Rattle.ir_code.specs.Meaning.{key_on, put, unkeyed, with_stack}
use Rattle.map_ops.specs.Asking.{summed}
use Rattle.bt_ir.specs.Running.{Did}
use Rattle.bt_ir.proofs.step.sum_on.Goals as goal

-- the number that was asked for is put on what is left of the stack
put_after : (t : Interaction ℤ) (s : State) (stack left : List Value) (old new : List Step) (n : ℤ) (r : Result (Unit {0}) Memory) (after : State) → stack ≡ left → Whole t old new n
    → OnOk r (after ≡ put (Int n) (with_stack s stack)) → Did (and_then t (λ n. Ended (put (Int n) (with_stack s left)))) old new r after
put_after t s stack left old new n (Ok u) after same whole is =
    Whole-and_then t (λ n. Ended (put (Int n) (with_stack s left))) old new new n after whole
    (Whole-Ended (put (Int n) (with_stack s left)) after new (ap (λ (l : List Value). put (Int n) (with_stack s l)) (sym same) ∙ sym is))
put_after t s stack left old new n (Err e) after same whole is = Part-after t (λ n. Ended (put (Int n) (with_stack s left))) old new new n whole (Performed-none _ new new refl)

pub returns-in_err-number-clause-performed : goal.returns-in_err-number-clause-performed
returns-in_err-number-clause-performed g c =
    let p = err_from_is_err_and c.from_residual-in_err-number.result c.from_residual-in_err-number.ensures.1 in
    let keyed = c.of.ensures ∙ c.in_ok-parts.ensures.key in
    rw p.1 (Part-and_then (summed c.args.map (key_on c.args.key.now c.args.state.now) c.args.view.now.actors) (λ n. Ended (put (Int n) (unkeyed c.args.key.now c.args.state.now))) _ _
    (subst (λ (k : List Value). Part (summed c.args.map k c.args.view.now.actors) (g.P.Port.steps c.args.port.now) (g.P.Port.steps c.sum-2.new.port)) keyed c.in_err-number.ensures.performed))

pub returns-clause-performed : goal.returns-clause-performed
returns-clause-performed g c =
    let fits : SFits w64 c.in_ok-number.number = search rules in
    let keyed = c.of.ensures ∙ c.in_ok-parts.ensures.key in
    let whole = subst (λ (k : List Value). Whole (summed c.args.map k c.args.view.now.actors) (g.P.Port.steps c.args.port.now) (g.P.Port.steps c.sum-2.new.port) c.in_ok-number.number) keyed c.in_ok-number.ensures.performed in
    put_after (summed c.args.map (key_on c.args.key.now c.args.state.now) c.args.view.now.actors) c.args.state.now c.pop_key.new.stack _ _ _ c.in_ok-number.number c.put.result c.put.new.state
    c.in_ok-parts.ensures.rest whole (simp to_z-of_z at c.put.ensures)
