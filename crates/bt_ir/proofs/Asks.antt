-- Computations whose calls can all be made, and runs of instructions.
use Rattle.std.proofs.Common.{◌≡◌, ℕ, ◌+◌, ◌<◌, ◌≤◌, List, [], ◌∷◌, length, drop, refl, sym, ap, ◌∙◌, subst}
use Rattle.std.proofs.lemmas.List.{drop_more, drop_all}
use Rattle.std.specs.Prelude.{get_or}
use Rattle.bt_core.specs.declared.step.Step.{Step}
use Rattle.bt_core.specs.Interaction.{Interaction, Ended, Asks, and_then, Runs, Whole, Part, Left}
use Rattle.bt_core.specs.Ports.{Setting}
use Rattle.bt_core.proofs.InteractionLaws.{Left-Whole, Left-Part, Left-is, Left-and_then, Part-and_then, Whole-Ended}
use Rattle.ir_code.specs.declared.instr.Instr.{Instr}
use Rattle.ir_code.specs.declared.state.State.{State}
use Rattle.bt_ir.specs.declared.step.View.{View}
use Rattle.ir_code.specs.Meaning.{Scene, instr_run, instrs_run}
use Rattle.bt_ir.specs.Running.{CanAsk, MayAsk, IsReady, AreReady}

pub Can-first : {A B : Type 0} (setting : Setting) (P : B → Type 0) (t : Interaction A) (k : A → Interaction B) → CanAsk setting P (and_then t k) → MayAsk setting t
Can-first setting P (Ended a) k h = tt
Can-first setting P (Asks c f) k h = (h.0, λ r. Can-first setting P (f r) k (h.1 r))

Can-runs : {A B : Type 0} (setting : Setting) (P : B → Type 0) (t : Interaction A) (k : A → Interaction B) (ss : List Step) (a : A) → Runs t ss a → CanAsk setting P (and_then t k) → CanAsk setting P (k a)
Can-runs setting P (Ended x) k [] a r h = subst (λ y. CanAsk setting P (k y)) r h
Can-runs setting P (Ended x) k (s ∷ ss) a r h = absurd r
Can-runs setting P (Asks c f) k [] a r h = absurd r
Can-runs setting P (Asks c f) k (s ∷ ss) a r h = Can-runs setting P (f s.reply) k ss a r.1 (h.1 s.reply)

pub Can-after : {A B : Type 0} (setting : Setting) (P : B → Type 0) (t : Interaction A) (k : A → Interaction B) (old new : List Step) (a : A) → Whole t old new a → CanAsk setting P (and_then t k) → CanAsk setting P (k a)
Can-after setting P t k old new a w h = Can-runs setting P t k w.made a w.runs h

pub Can-and_then : {A B : Type 0} (setting : Setting) (P : A → Type 0) (Q : B → Type 0) (t : Interaction A) (k : A → Interaction B) → CanAsk setting P t → ((a : A) → P a → CanAsk setting Q (k a)) → CanAsk setting Q (and_then t k)
Can-and_then setting P Q (Ended a) k h f = f a h
Can-and_then setting P Q (Asks c g) k h f = (h.0, λ r. Can-and_then setting P Q (g r) k (h.1 r) f)

-- ---- instructions one after another

cut_at : (is : List Instr) (n : ℕ) (i : Instr) → n < length is → i ≡ get_or is n i → drop n is ≡ i ∷ drop (n + 1) is
cut_at is n i below item = drop_more is n i below ∙ ap (λ y. y ∷ drop (n + 1) is) (sym item)

now_is : (scene : Scene) (is : List Instr) (n : ℕ) (i : Instr) (s : State) → n < length is → i ≡ get_or is n i → instrs_run (drop n is) scene s ≡ and_then (instr_run i scene s) (instrs_run (drop (n + 1) is) scene)
now_is scene is n i s below item = ap (λ (l : List Instr). instrs_run l scene s) (cut_at is n i below item)

pub each-ready : (setting : Setting) (v : View) (is : List Instr) (n : ℕ) (i : Instr) → n < length is → i ≡ get_or is n i → AreReady setting v (drop n is) → IsReady setting v i × AreReady setting v (drop (n + 1) is)
each-ready setting v is n i below item r = subst (λ (l : List Instr). AreReady setting v l) (cut_at is n i below item) r

pub each-can : (setting : Setting) (scene : Scene) (is : List Instr) (n : ℕ) (i : Instr) (s : State) → n < length is → i ≡ get_or is n i → MayAsk setting (instrs_run (drop n is) scene s) → MayAsk setting (instr_run i scene s)
each-can setting scene is n i s below item h = Can-first setting _ (instr_run i scene s) (instrs_run (drop (n + 1) is) scene) (subst (λ (t : Interaction State). MayAsk setting t) (now_is scene is n i s below item) h)

pub each-stops : (whole : Interaction State) (scene : Scene) (is : List Instr) (n : ℕ) (i : Instr) (s : State) (old mid new : List Step) → n < length is → i ≡ get_or is n i →
    Left whole old mid (instrs_run (drop n is) scene s) → Part (instr_run i scene s) mid new → Part whole old new
each-stops whole scene is n i s old mid new below item p q = Left-Part _ _ _ _ _ (Left-is _ _ _ _ _ p (now_is scene is n i s below item)) (Part-and_then _ _ _ _ q)

pub each-left : (whole : Interaction State) (scene : Scene) (is : List Instr) (n : ℕ) (i : Instr) (s after : State) (old mid new : List Step) → n < length is → i ≡ get_or is n i →
    Left whole old mid (instrs_run (drop n is) scene s) → Whole (instr_run i scene s) mid new after → Left whole old new (instrs_run (drop (n + 1) is) scene after)
each-left whole scene is n i s after old mid new below item p q =
    Left-and_then whole (instr_run i scene s) (instrs_run (drop (n + 1) is) scene) old mid new after (Left-is _ _ _ _ _ p (now_is scene is n i s below item)) q

pub each-can-on : (setting : Setting) (scene : Scene) (is : List Instr) (n : ℕ) (i : Instr) (s after : State) (mid new : List Step) → n < length is → i ≡ get_or is n i →
    MayAsk setting (instrs_run (drop n is) scene s) → Whole (instr_run i scene s) mid new after → MayAsk setting (instrs_run (drop (n + 1) is) scene after)
each-can-on setting scene is n i s after mid new below item h q =
    Can-after setting _ (instr_run i scene s) (instrs_run (drop (n + 1) is) scene) mid new after q (subst (λ (t : Interaction State). MayAsk setting t) (now_is scene is n i s below item) h)

pub all-end : (whole : Interaction State) (scene : Scene) (is : List Instr) (n : ℕ) (s : State) (old now : List Step) → length is ≤ n → Left whole old now (instrs_run (drop n is) scene s) → Whole whole old now s
all-end whole scene is n s old now h p = Left-Whole _ _ _ _ _ _ (Left-is _ _ _ _ _ p (ap (λ (l : List Instr). instrs_run l scene s) (drop_all n is h))) (Whole-Ended _ _ _ refl)
