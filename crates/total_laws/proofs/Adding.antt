-- Computations that only add and print: what they add does not depend on the replies.
use Rattle.std.proofs.Common.{◌≡◌, ℕ, ◌&&◌, Bool, true, false, List, [], ◌∷◌, ◌++◌, refl, sym, ap, ◌∙◌, subst, append_assoc}
use Rattle.std.specs.List.{AllByRecursion}
use Rattle.bt_core.specs.declared.map.MapId.{MapId}
use Rattle.bt_core.specs.declared.step.ObjectId.{ObjectId}
use Rattle.bt_core.specs.declared.step.ObjectId.TheVariants.{Cpu, Clock}
use Rattle.bt_core.specs.declared.step.Op.{Op}
use Rattle.bt_core.specs.declared.step.Op.TheVariants.{ReadAll, Add, Read, Cross, Emit}
use Rattle.bt_core.specs.declared.step.Reply.{Reply}
use Rattle.bt_core.specs.declared.step.Reply.TheVariants.{Done}
use Rattle.bt_core.specs.declared.step.Step.{Step}
use Rattle.bt_core.specs.Interaction.{Call, call_of, Interaction, Ended, Asks, Runs, and_then}
use Rattle.bt_core.specs.Steps.{is_same_object}
use Rattle.agg_core.specs.Answers.{is_cross}
use Rattle.bt_meaning.specs.Ticks.{is_crossing}
use Rattle.bt_meaning.specs.Totals.{Addition, added, adds_of}
use Rattle.total_laws.specs.Ends.{entries_in}

-- the actor adds at its own tables, reads maps and emits, and does nothing else
abbrev pub is_plain : ℕ → ObjectId → Op → Type 0
is_plain actor object (Add n key number) = object ≡ Cpu actor
is_plain actor object (Read n) = Unit {0}
is_plain actor object ReadAll = Unit {0}
is_plain actor object (Emit item) = Unit {0}
is_plain actor object op = ⊥

abbrev pub IsPlain : ℕ → Call → Type 0
IsPlain actor c = is_plain actor c.object c.op

and_false : (b : Bool) → (b && false) ≡ false
and_false true = refl
and_false false = refl

not_cross : (a : ℕ) (object : ObjectId) (op : Op) → is_plain a object op → (k : ℕ) → is_cross k op ≡ false
not_cross a object (Cross j) p k = absurd p
not_cross a object op p k = refl

-- a plain step crosses no tick
pub plain_quiet : (a : ℕ) (s : Step) → IsPlain a (call_of s) → (k : ℕ) → is_crossing k s ≡ false
plain_quiet a s p k = ap (λ (b : Bool). is_same_object s.object Clock && b) (not_cross a s.object s.op p k) ∙ and_false (is_same_object s.object Clock)

module _ (m : MapId) (actor : ℕ) where
  -- whatever is replied, these entries are added to the map in all, each call is plain, and this holds of the value
  abbrev pub Gives : {A : Type 0} → List Addition → (A → Type 0) → Interaction A → Type 0
  Gives es holds (Ended a) = (es ≡ []) × holds a
  Gives es holds (Asks c f) =
      IsPlain actor c × (rest : List Addition) × (es ≡ added m c.op ++ rest) × ((r : Reply) → Gives rest holds (f r))

  pub gives-then : {A B : Type 0} (es fs : List Addition) (holds : A → Type 0) (after : B → Type 0) (t : Interaction A) (k : A → Interaction B)
      → Gives es holds t → ((a : A) → holds a → Gives fs after (k a)) → Gives (es ++ fs) after (and_then t k)
  gives-then es fs holds after (Ended a) k g next = subst (λ (l : List Addition). Gives (l ++ fs) after (k a)) (sym g.0) (next a g.1)
  gives-then es fs holds after (Asks c f) k g next = (
    g.0,
    g.1 ++ fs,
    ap (λ (l : List Addition). l ++ fs) g.2 ∙ append_assoc (added m c.op) g.1 fs,
    λ r. gives-then g.1 fs holds after (f r) k (g.3 r) next,
  )

  pub gives-so : {A : Type 0} (es : List Addition) (holds after : A → Type 0) (t : Interaction A) → ((a : A) → holds a → after a) → Gives es holds t → Gives es after t
  gives-so es holds after (Ended a) so g = (g.0, so a g.1)
  gives-so es holds after (Asks c f) so g = (g.0, g.1, g.2, λ r. gives-so g.1 holds after (f r) so (g.3 r))

  -- these are what it adds where every answer is that it is done
  pub gives_adds : {A : Type 0} (es : List Addition) (holds : A → Type 0) (t : Interaction A) → Gives es holds t → adds_of m t ≡ es
  gives_adds es holds (Ended a) g = sym g.0
  gives_adds es holds (Asks c f) g = ap (λ (l : List Addition). added m c.op ++ l) (gives_adds g.1 holds (f Done) (g.3 Done)) ∙ sym g.2

  -- so it is of its steps, each of which is plain
  pub gives_runs : {A : Type 0} (es : List Addition) (holds : A → Type 0) (t : Interaction A) (steps : List Step) (v : A) → Gives es holds t → Runs t steps v
      → (entries_in m steps ≡ es) × AllByRecursion (λ s. IsPlain actor (call_of s)) steps
  gives_runs es holds (Ended a) [] v g r = (sym g.0, tt)
  gives_runs es holds (Ended a) (s ∷ ss) v g r = absurd r
  gives_runs es holds (Asks c f) [] v g r = absurd r
  gives_runs es holds (Asks c f) (s ∷ ss) v g r =
      let rest = gives_runs g.1 holds (f s.reply) ss v (g.3 s.reply) r.1 in (
        (λ i. added m (r.0 i).op ++ rest.0 i) ∙ sym g.2,
        (subst (IsPlain actor) (sym r.0) g.0, rest.1),
      )

-- entries of lists
pub entries_append : (m : MapId) (xs ys : List Step) → entries_in m (xs ++ ys) ≡ entries_in m xs ++ entries_in m ys
entries_append m [] ys = refl
entries_append m (s ∷ ss) ys = ap (λ (l : List Addition). added m s.op ++ l) (entries_append m ss ys) ∙ sym (append_assoc (added m s.op) (entries_in m ss) (entries_in m ys))
