-- Instructions take no turn.
use Rattle.std.proofs.Common.{◌≡◌, ℕ, List, [], ◌∷◌, refl, ◌∙◌, subst}
use Rattle.bt_core.specs.declared.step.Step.{Step}
use Rattle.bt_core.specs.declared.step.Reply.{Reply}
use Rattle.bt_core.specs.declared.value.Value.TheVariants.{Int}
use Rattle.bt_core.specs.Interaction.{Interaction, Ended, Asks, and_then, Runs, Whole}
use Rattle.ir_code.specs.declared.instr.Instr.{Instr}
use Rattle.ir_code.specs.declared.instr.Instr.TheVariants as i
use Rattle.ir_code.specs.declared.state.State.{State}
use Rattle.map_ops.specs.declared.sweep.Sweep.TheVariants.{Clear, Zero}
use Rattle.map_ops.specs.Holders.{kind_of}
use Rattle.map_ops.specs.Asking.{swept, printed, summed}
use Rattle.ir_code.specs.Meaning.{Scene, put, key_on, unkeyed, instr_run, instrs_run}

-- whatever the replies are, this holds of the value
Gives : {A : Type 0} → (A → Type 0) → Interaction A → Type 0
Gives P (Ended a) = P a
Gives P (Asks c f) = (r : Reply) → Gives P (f r)

Gives-then : {A B : Type 0} (P : A → Type 0) (Q : B → Type 0) (t : Interaction A) (k : A → Interaction B) → Gives P t → ((a : A) → P a → Gives Q (k a)) → Gives Q (and_then t k)
unfolding Gives
Gives-then P Q (Ended a) k h f = f a h
Gives-then P Q (Asks c g) k h f = λ r. Gives-then P Q (g r) k (h r) f

Gives-any : {A : Type 0} (t : Interaction A) → Gives (λ a. Unit {0}) t
unfolding Gives
Gives-any (Ended a) = tt
Gives-any (Asks c f) = λ r. Gives-any (f r)

Gives-last : {A B : Type 0} (Q : B → Type 0) (t : Interaction A) (f : A → B) → ((a : A) → Q (f a)) → Gives Q (and_then t (λ a. Ended (f a)))
unfolding Gives
Gives-last Q t f h = Gives-then (λ a. Unit {0}) Q t (λ a. Ended (f a)) (Gives-any t) (λ a u. h a)

Gives-runs : {A : Type 0} (P : A → Type 0) (t : Interaction A) (ss : List Step) (a : A) → Gives P t → Runs t ss a → P a
unfolding Gives
Gives-runs P (Ended x) [] a h r = subst P r h
Gives-runs P (Ended x) (s ∷ ss) a h r = absurd r
Gives-runs P (Asks c f) [] a h r = absurd r
Gives-runs P (Asks c f) (s ∷ ss) a h r = Gives-runs P (f s.reply) ss a (h s.reply) r.1

Same : ℕ → State → Type 0
Same turns s = s.turns ≡ turns

instr_turns : (x : Instr) (scene : Scene) (s : State) → Gives (Same s.turns) (instr_run x scene s)
unfolding Gives Same
instr_turns (i.Put v) scene s = refl
instr_turns (i.Builtin b) scene s = refl
instr_turns i.Comm scene s = refl
instr_turns (i.NumberField f) scene s = refl
instr_turns (i.TextField f) scene s = refl
instr_turns (i.Load x shape) scene s = refl
instr_turns (i.Store x shape) scene s = refl
instr_turns (i.StepVar x plus prefix) scene s = refl
instr_turns (i.UpdateVar x op) scene s = refl
instr_turns (i.Unary op) scene s = refl
instr_turns (i.Binary op) scene s = refl
instr_turns (i.Compare equal) scene s = refl
instr_turns i.Truth scene s = refl
instr_turns (i.Get m key shape) scene s = λ r. refl
instr_turns (i.ReadAgg m key) scene s = Gives-last (Same s.turns) (summed m (key_on key s) scene.actors) (λ n. put (Int n) (unkeyed key s)) (λ a. refl)
instr_turns (i.Set m key shape) scene s = λ r. refl
instr_turns (i.Delete m key) scene s = λ r. refl
instr_turns (i.Update m key op) scene s = λ r q. refl
instr_turns (i.StepMap m key plus prefix) scene s = λ r q. refl
instr_turns (i.Add m key) scene s = λ r. refl
instr_turns (i.Count m key) scene s = λ r. refl
instr_turns (i.Printf format shapes) scene s = λ r. refl
instr_turns (i.Print m top div) scene s = Gives-last (Same s.turns) (printed (kind_of scene.maps m) m top div scene.actors) (λ u. s) (λ a. refl)
instr_turns (i.Clear m) scene s = Gives-last (Same s.turns) (swept Clear (kind_of scene.maps m) m scene.actors) (λ u. s) (λ a. refl)
instr_turns (i.Zero m) scene s = Gives-last (Same s.turns) (swept Zero (kind_of scene.maps m) m scene.actors) (λ u. s) (λ a. refl)
instr_turns (i.Cut line) scene s = λ r. refl
instr_turns i.Stop scene s = λ r. refl
instr_turns i.Pop scene s = refl

instrs_turns : (is : List Instr) (scene : Scene) (s : State) (turns : ℕ) → s.turns ≡ turns → Gives (Same turns) (instrs_run is scene s)
unfolding Gives Same
instrs_turns [] scene s turns e = e
instrs_turns (x ∷ xs) scene s turns e =
    Gives-then (Same s.turns) (Same turns) (instr_run x scene s) (instrs_run xs scene) (instr_turns x scene s) (λ s1 h. instrs_turns xs scene s1 turns (h ∙ e))

pub turns_kept : (is : List Instr) (scene : Scene) (s after : State) (old new : List Step) → Whole (instrs_run is scene s) old new after → after.turns ≡ s.turns
unfolding Same
turns_kept is scene s after old new w = Gives-runs (Same s.turns) (instrs_run is scene s) w.made after (instrs_turns is scene s s.turns refl) w.runs
