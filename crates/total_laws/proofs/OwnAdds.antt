-- What is added at an actor's tables is added by the actor itself.
use Rattle.std.proofs.Common.{◌≡◌, ℕ, ◌&&◌, Bool, true, false, cond, eq-eqb, List, [], ◌∷◌, ◌++◌, refl, sym, ap, ◌∙◌, subst}
use Rattle.std.specs.Prelude.{not}
use Rattle.std.specs.List.{AllByRecursion, filter}
use Rattle.bt_core.specs.declared.step.ObjectId.{ObjectId}
use Rattle.bt_core.specs.declared.step.ObjectId.TheVariants.{Cpu}
use Rattle.bt_core.specs.declared.step.Op.{Op}
use Rattle.bt_core.specs.declared.step.Op.TheVariants.{Add, Read}
use Rattle.bt_core.specs.declared.step.Step.{Step}
use Rattle.bt_core.specs.Steps.{is_of, is_on, of_actor, on_object, operations}
use Rattle.bt_core.proofs.StepLists.{is_same_object-true}
use Rattle.bt_meaning.proofs.Eachs.{each_front}
use Rattle.total_laws.specs.Calls.{IsProgramCall, IsProgramStep}
use Rattle.total_laws.specs.Reads.{is_add, is_read, changes_at, add_steps_of}

abbrev stays : Op → Bool
stays op = not (is_read op)

abbrev adds : Step → Bool
adds s = is_add s.op

-- an add is no read
add_stays : (op : Op) (ops : List Op) → filter is_add (cond (stays op) (op ∷ ops) ops) ≡ cond (is_add op) (op ∷ filter is_add ops) (filter is_add ops)
add_stays (Add map key number) ops = refl
add_stays (Read map) ops = refl
add_stays op ops = refl

adds_among : (steps : List Step) → filter is_add (filter stays (operations steps)) ≡ operations (filter adds steps)
adds_among [] = refl
adds_among (s ∷ ss) = add_stays s.op (filter stays (operations ss)) ∙ by (adds_among ss) (is_add s.op)
  where
    by : filter is_add (filter stays (operations ss)) ≡ operations (filter adds ss) → (b : Bool) → cond b (s.op ∷ filter is_add (filter stays (operations ss))) (filter is_add (filter stays (operations ss))) ≡ operations (cond b (s ∷ filter adds ss) (filter adds ss))
    by rest true = ap (λ (ops : List Op). s.op ∷ ops) rest
    by rest false = rest

module _ (actor : ℕ) where
  abbrev own_add : Step → Bool
  own_add s = is_on (Cpu actor) s && is_add s.op

  -- who adds at the tables
  adder : (a : ℕ) (op : Op) → is_add op ≡ true → IsProgramCall a (Cpu actor) op → a ≡ actor
  adder a (Add map key number) is h = sym h
  adder a op is h = absurd (cc)

  added_by : (s : Step) → IsProgramStep s → is_on (Cpu actor) s ≡ true → is_add s.op ≡ true → is_of actor s ≡ true
  added_by s h on is =
      eq-eqb s.actor actor (adder s.actor s.op is (subst (λ (o : ObjectId). IsProgramCall s.actor o s.op) (is_same_object-true s.object (Cpu actor) on) h))

  own_adds : (steps : List Step) → AllByRecursion IsProgramStep steps → filter adds (on_object (Cpu actor) steps) ≡ filter own_add (of_actor actor steps)
  own_adds [] h = refl
  own_adds (s ∷ ss) h = by (own_adds ss h.1) (is_on (Cpu actor) s) (is_add s.op) (is_of actor s) refl refl refl
    where
      by : filter adds (on_object (Cpu actor) ss) ≡ filter own_add (of_actor actor ss) → (on is of : Bool) → is_on (Cpu actor) s ≡ on → is_add s.op ≡ is → is_of actor s ≡ of
          → filter adds (cond on (s ∷ on_object (Cpu actor) ss) (on_object (Cpu actor) ss)) ≡ filter own_add (cond of (s ∷ of_actor actor ss) (of_actor actor ss))
      by rest false is false eo ei ew = rest
      by rest false is true eo ei ew = rest ∙ sym (ap (λ (b : Bool). cond (b && is_add s.op) (s ∷ filter own_add (of_actor actor ss)) (filter own_add (of_actor actor ss))) eo)
      by rest true false false eo ei ew = ap (λ (b : Bool). cond b (s ∷ filter adds (on_object (Cpu actor) ss)) (filter adds (on_object (Cpu actor) ss))) ei ∙ rest
      by rest true false true eo ei ew =
          ap (λ (b : Bool). cond b (s ∷ filter adds (on_object (Cpu actor) ss)) (filter adds (on_object (Cpu actor) ss))) ei ∙ rest
          ∙ sym (ap (λ (b : Bool). cond (b && is_add s.op) (s ∷ filter own_add (of_actor actor ss)) (filter own_add (of_actor actor ss))) eo
          ∙ ap (λ (b : Bool). cond b (s ∷ filter own_add (of_actor actor ss)) (filter own_add (of_actor actor ss))) ei)
      by rest true true false eo ei ew = let it : is_of actor s ≡ true = added_by s h.0 eo ei in absurd (cc)
      by rest true true true eo ei ew =
          ap (λ (b : Bool). cond b (s ∷ filter adds (on_object (Cpu actor) ss)) (filter adds (on_object (Cpu actor) ss))) ei ∙ ap (λ (l : List Step). s ∷ l) rest
          ∙ sym (ap (λ (b : Bool). cond (b && is_add s.op) (s ∷ filter own_add (of_actor actor ss)) (filter own_add (of_actor actor ss))) eo
          ∙ ap (λ (b : Bool). cond b (s ∷ filter own_add (of_actor actor ss)) (filter own_add (of_actor actor ss))) ei)

pub adds_are : (steps : List Step) → AllByRecursion IsProgramStep steps → (actor : ℕ) (before after : List Step) → steps ≡ before ++ after
    → filter is_add (changes_at actor before) ≡ operations (add_steps_of actor before)
adds_are steps h actor before after e =
    adds_among (on_object (Cpu actor) before) ∙ ap operations (own_adds actor before (each_front IsProgramStep before after (subst (AllByRecursion IsProgramStep) e h)))
