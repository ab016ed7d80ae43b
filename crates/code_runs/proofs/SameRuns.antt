-- Computations with the same calls: steps that are the whole of the one are the whole of the other.
use Rattle.std.proofs.Common.{List, [], ◌∷◌, refl, sym, ◌∙◌, subst}
use Rattle.std.specs.List.{AllByRecursion}
use Rattle.bt_core.specs.declared.map.MapDecl.{MapDecl}
use Rattle.bt_core.specs.declared.step.ObjectId.{ObjectId}
use Rattle.bt_core.specs.declared.step.Op.{Op}
use Rattle.bt_core.specs.declared.step.Reply.{Reply}
use Rattle.bt_core.specs.declared.step.Step.{Step}
use Rattle.bt_core.specs.Interaction.{Call, Interaction, Ended, Asks, Runs}
use Rattle.bt_core.specs.Ports.{IsReplyOf}
use Rattle.actor_plan.specs.Plans.{AsksOf}
use Rattle.bt_core.specs.Same.{SameTo}
use Rattle.bt_meaning.specs.Interleavings.{IsWhole}
use Rattle.code_runs.specs.Agree.{Comes}

-- the reply of a step is of the kind of its operation
abbrev pub HasKind : (Reply → Type 0) → List MapDecl → Step → Type 0
HasKind holds maps s = IsReplyOf maps s.object s.op s.reply × holds s.reply

-- each call is one of those, as long as each reply comes
abbrev pub AsksWhere : {A : Type 0} → (Reply → Type 0) → (ObjectId → Op → Type 0) → List MapDecl → Interaction A → Type 0
AsksWhere holds calls maps (Ended a) = Unit {0}
AsksWhere holds calls maps (Asks c f) = calls c.object c.op × ((r : Reply) → Comes holds maps c r → AsksWhere holds calls maps (f r))

pub asks_fewer : {A : Type 0} (holds : Reply → Type 0) (calls : ObjectId → Op → Type 0) (maps : List MapDecl) (t : Interaction A) → AsksOf calls maps t → AsksWhere holds calls maps t
asks_fewer holds calls maps (Ended a) asks = tt
asks_fewer holds calls maps (Asks c f) asks = (asks.0, λ reply comes. asks_fewer holds calls maps (f reply) (asks.1 reply comes.0))

module _ {A B : Type 0} (holds : Reply → Type 0) (maps : List MapDecl) (R : A → B → Type 0) where
  pub same_whole : (t : Interaction A) (u : Interaction B) (steps : List Step) (a : A) → SameTo (Comes holds maps) R t u → AllByRecursion (HasKind holds maps) steps → Runs t steps a → IsWhole u steps
  same_whole (Ended x) (Ended y) [] a same kinds runs = record { value = y; runs = refl }
  same_whole (Ended x) (Ended y) (s ∷ ss) a same kinds runs = absurd runs
  same_whole (Ended x) (Asks d g) steps a same kinds runs = absurd same
  same_whole (Asks c f) (Ended y) steps a same kinds runs = absurd same
  same_whole (Asks c f) (Asks d g) [] a same kinds runs = absurd runs
  same_whole (Asks c f) (Asks d g) (s ∷ ss) a same kinds runs =
      let rest = same_whole (f s.reply) (g s.reply) ss a (same.1 s.reply (subst (λ (x : Call). Comes holds maps x s.reply) runs.0 kinds.0)) kinds.1 runs.1 in
      record { value = rest.value; runs = (runs.0 ∙ same.0, rest.runs) }

  -- the other way round
  pub SameTo-sym : (t : Interaction A) (u : Interaction B) → SameTo (Comes holds maps) R t u → SameTo (Comes holds maps) (λ b a. R a b) u t
  SameTo-sym (Ended x) (Ended y) same = same
  SameTo-sym (Ended x) (Asks d g) same = absurd same
  SameTo-sym (Asks c f) (Ended y) same = absurd same
  SameTo-sym (Asks c f) (Asks d g) same =
      (sym same.0, λ reply kind. SameTo-sym (f reply) (g reply) (same.1 reply (subst (λ (x : Call). Comes holds maps x reply) (sym same.0) kind)))

  -- what the one asks, the other asks
  pub same_asks : (own : ObjectId → Op → Type 0) (t : Interaction A) (u : Interaction B) → SameTo (Comes holds maps) R t u → AsksWhere holds own maps t → AsksWhere holds own maps u
  same_asks own (Ended x) (Ended y) same asks = tt
  same_asks own (Ended x) (Asks d g) same asks = absurd same
  same_asks own (Asks c f) (Ended y) same asks = absurd same
  same_asks own (Asks c f) (Asks d g) same asks = (
    subst (λ (x : Call). own x.object x.op) same.0 asks.0,
    λ reply kind. let there = subst (λ (x : Call). Comes holds maps x reply) (sym same.0) kind in
        same_asks own (f reply) (g reply) (same.1 reply there) (asks.1 reply there),
  )
