-- How a written list is shown to be an interleaving.
use Rattle.std.proofs.Common.{◌≡◌, ℕ, zero, suc, ◌<◌, true, nat_lt, List, [], ◌∷◌, ◌++◌, sym, subst, arith, append-nil, append_assoc}
use Rattle.std.specs.Prelude.{All}
use Rattle.std.specs.List.{AllByRecursion, list_all}
use Rattle.std.proofs.lemmas.Bool.{and_parts}
use Rattle.std.proofs.lemmas.Bool.Decides.{nat_tests}
use Rattle.std.proofs.lemmas.List.Elements.{All-from_recursion}
use Rattle.bt_core.specs.declared.step.ObjectId.{ObjectId}
use Rattle.bt_core.specs.declared.step.Op.{Op}
use Rattle.bt_core.specs.declared.step.Reply.{Reply}
use Rattle.bt_core.specs.declared.step.Step.{Step}
use Rattle.bt_core.specs.Steps.{on_object, operations, RepliesFollow}
use Rattle.bt_core.proofs.StepLists.{AtEach-none, AtEach-snoc}

-- each reply is the answer after these steps and the earlier ones of the list
abbrev pub Follows : (ObjectId → List Op → Op → Reply) → List Step → List Step → Type 0
Follows answer before [] = Unit {0}
Follows answer before (s ∷ ss) = (s.reply ≡ answer s.object (operations (on_object s.object before)) s.op) × Follows answer (before ++ s ∷ []) ss

follow_on : (answer : ObjectId → List Op → Op → Reply) (before steps : List Step) → RepliesFollow answer before → Follows answer before steps → RepliesFollow answer (before ++ steps)
follow_on answer before [] h g = subst (RepliesFollow answer) (sym (append-nil before)) h
follow_on answer before (s ∷ ss) h g = subst (RepliesFollow answer) (append_assoc before (s ∷ []) ss)
    (follow_on answer (before ++ s ∷ []) ss (AtEach-snoc (λ earlier t. t.reply ≡ answer t.object (operations (on_object t.object earlier)) t.op) before s h g.0) g.1)

pub follow : (answer : ObjectId → List Op → Op → Reply) (steps : List Step) → Follows answer [] steps → RepliesFollow answer steps
follow answer steps g = follow_on answer [] steps (AtEach-none (λ earlier t. t.reply ≡ answer t.object (operations (on_object t.object earlier)) t.op)) g

below : (a n : ℕ) → nat_lt a n ≡ true → a < n
below a n h = grind (arith, nat_tests)

below_each : (n : ℕ) (steps : List Step) → list_all (λ (s : Step). nat_lt s.actor n) steps ≡ true → AllByRecursion (λ (s : Step). s.actor < n) steps
below_each n [] h = tt
below_each n (s ∷ ss) h = let p = and_parts (nat_lt s.actor n) (list_all (λ (t : Step). nat_lt t.actor n) ss) h in (below s.actor n p.0, below_each n ss p.1)

pub by_cpus : (n : ℕ) (steps : List Step) → list_all (λ (s : Step). nat_lt s.actor n) steps ≡ true → All (λ (s : Step). s.actor < n) steps
by_cpus n steps h = All-from_recursion (λ (s : Step). s.actor < n) steps (below_each n steps h)

pub one_case : (P : ℕ → Type 0) → P 0 → (cpu : ℕ) → cpu < 1 → P cpu
one_case P a zero lt = a
one_case P a (suc n) lt = absurd (omega arith)

pub two_cases : (P : ℕ → Type 0) → P 0 → P 1 → (cpu : ℕ) → cpu < 2 → P cpu
two_cases P a b zero lt = a
two_cases P a b (suc zero) lt = b
two_cases P a b (suc (suc n)) lt = absurd (omega arith)
