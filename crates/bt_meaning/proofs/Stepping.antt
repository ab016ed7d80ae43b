-- The steps that an actor takes after others, each answered by what came before.
use Rattle.std.proofs.Common.{◌≡◌, ◌≢◌, ℕ, Bool, true, false, cond, List, [], ◌∷◌, ◌++◌, map, length, sym, refl, ap, ◌∙◌, subst, arith, append_assoc, append-nil, eq-eqb, ne_eqb}
use Rattle.std.specs.List.{AllByRecursion}
use Rattle.std.proofs.lemmas.List.Elements.{filter-append}
use Rattle.bt_core.specs.declared.step.ObjectId.{ObjectId}
use Rattle.bt_core.specs.declared.step.Step.{Step}
use Rattle.bt_core.specs.Interaction.{Interaction, Ended, Asks, Runs}
use Rattle.bt_core.specs.Steps.{is_of, of_actor, is_on, on_object, operations, RepliesFollow}
use Rattle.bt_core.proofs.StepLists.{AtEach-snoc}
use Rattle.bt_meaning.specs.Replays.{Replay, answers_of}
use Rattle.bt_meaning.specs.Serial.{unstamped, next_step, then_steps, then_value}
use Rattle.bt_meaning.proofs.Eachs.{each_so, filter_all, filter_none}

-- ---- steps of one actor

abbrev pub AreBy : ℕ → List Step → Type 0
AreBy actor steps = AllByRecursion (λ s. s.actor ≡ actor) steps

pub own_part : (a : ℕ) (steps : List Step) → AreBy a steps → of_actor a steps ≡ steps
own_part a steps by = filter_all (is_of a) steps (each_so (λ s. s.actor ≡ a) (λ s. is_of a s ≡ true) (λ s e. eq-eqb s.actor a e) steps by)

pub other_part : (a b : ℕ) (steps : List Step) → b ≢ a → AreBy b steps → of_actor a steps ≡ []
other_part a b steps ne by =
    filter_none (is_of a) steps (each_so (λ s. s.actor ≡ b) (λ s. is_of a s ≡ false) (λ s q. ne_eqb s.actor a (λ e. ne (sym q ∙ e))) steps by)

module _ (p : Replay) where
  -- what is taken comes after what was there, is the actor's, and is the whole
  pub record Taken {A : Type 0} (actor : ℕ) (t : Interaction A) (before : List Step) : Type 0 where
    pub made : List Step
    pub grew : then_steps p actor t before ≡ before ++ made
    pub by : AreBy actor made
    pub runs : Runs t made (then_value p actor t before)

  pub takes_whole : {A : Type 0} (actor : ℕ) (t : Interaction A) (before : List Step) → Taken actor t before
  takes_whole actor (Ended v) before = record { made = []; grew = sym (append-nil before); by = tt; runs = refl }
  takes_whole actor (Asks c f) before =
      let s = next_step p before actor c in
      let r = takes_whole actor (f s.reply) (before ++ s ∷ []) in
      record { made = s ∷ r.made; grew = r.grew ∙ append_assoc before (s ∷ []) r.made; by = (refl, r.by); runs = (refl, r.runs) }

  -- each reply that is taken is the object's answer
  pub replies_taken : {A : Type 0} (actor : ℕ) (t : Interaction A) (before : List Step) → RepliesFollow (answers_of p) before
      → RepliesFollow (answers_of p) (then_steps p actor t before)
  replies_taken actor (Ended v) before h = h
  replies_taken actor (Asks c f) before h =
      let s = next_step p before actor c in
      replies_taken actor (f s.reply) (before ++ s ∷ [])
      (AtEach-snoc (λ earlier t. t.reply ≡ answers_of p t.object (operations (on_object t.object earlier)) t.op) before s h refl)

  -- of the actor's steps there are more, and of the others' as many
  pub taken_own : {A : Type 0} (a : ℕ) (t : Interaction A) (before : List Step)
      → of_actor a (then_steps p a t before) ≡ of_actor a before ++ (takes_whole a t before).made
  taken_own a t before = let r = takes_whole a t before in
      ap (of_actor a) r.grew ∙ filter-append (is_of a) before r.made ∙ ap (λ l. of_actor a before ++ l) (own_part a r.made r.by)

  pub taken_other : {A : Type 0} (a b : ℕ) (t : Interaction A) (before : List Step) → b ≢ a
      → of_actor a (then_steps p b t before) ≡ of_actor a before
  taken_other a b t before ne = let r = takes_whole b t before in
      ap (of_actor a) r.grew ∙ filter-append (is_of a) before r.made ∙ ap (λ l. of_actor a before ++ l) (other_part a b r.made ne r.by)
      ∙ append-nil (of_actor a before)

-- ---- lists without their stamps

pub unstamped_append : (xs ys : List Step) → map unstamped (xs ++ ys) ≡ map unstamped xs ++ map unstamped ys
unstamped_append [] ys = refl
unstamped_append (x ∷ xs) ys = ap (λ l. unstamped x ∷ l) (unstamped_append xs ys)

pub unstamped_length : (steps : List Step) → length (map unstamped steps) ≡ length steps
unstamped_length [] = refl
unstamped_length (s ∷ ss) = let r = unstamped_length ss in omega arith

pub unstamped_operations : (steps : List Step) → operations (map unstamped steps) ≡ operations steps
unstamped_operations [] = refl
unstamped_operations (s ∷ ss) = ap (λ l. s.op ∷ l) (unstamped_operations ss)

kept_by : (b : Bool) (s : Step) (steps : List Step) → cond b (unstamped s ∷ map unstamped steps) (map unstamped steps) ≡ map unstamped (cond b (s ∷ steps) steps)
kept_by true s steps = refl
kept_by false s steps = refl

pub unstamped_of_actor : (a : ℕ) (steps : List Step) → of_actor a (map unstamped steps) ≡ map unstamped (of_actor a steps)
unstamped_of_actor a [] = refl
unstamped_of_actor a (s ∷ ss) = ap (λ l. cond (is_of a s) (unstamped s ∷ l) l) (unstamped_of_actor a ss) ∙ kept_by (is_of a s) s (of_actor a ss)

pub unstamped_on_object : (o : ObjectId) (steps : List Step) → on_object o (map unstamped steps) ≡ map unstamped (on_object o steps)
unstamped_on_object o [] = refl
unstamped_on_object o (s ∷ ss) = ap (λ l. cond (is_on o s) (unstamped s ∷ l) l) (unstamped_on_object o ss) ∙ kept_by (is_on o s) s (on_object o ss)

pub unstamped_runs : {A : Type 0} (t : Interaction A) (steps : List Step) (a : A) → Runs t steps a → Runs t (map unstamped steps) a
unstamped_runs (Ended v) [] a r = r
unstamped_runs (Ended v) (s ∷ ss) a r = absurd r
unstamped_runs (Asks c f) [] a r = absurd r
unstamped_runs (Asks c f) (s ∷ ss) a r = (r.0, unstamped_runs (f s.reply) ss a r.1)

-- ---- a run that follows the answers

module _ (p : Replay) where
  -- Steps that an actor made, and whose replies are the answers, are those that it takes, but for their stamps. So a run from an
  -- empty list, which the answers follow, takes these.
  pub takes_made : {A : Type 0} (actor : ℕ) (t : Interaction A) (before made : List Step) (v : A) → Runs t made v → AreBy actor made
      → RepliesFollow (answers_of p) (before ++ made)
      → (then_steps p actor t (map unstamped before) ≡ map unstamped (before ++ made)) × (then_value p actor t (map unstamped before) ≡ v)
  takes_made actor (Ended u) before [] v r by follow = (sym (ap (map unstamped) (append-nil before)), r)
  takes_made actor (Ended u) before (s ∷ ss) v r by follow = absurd r
  takes_made actor (Asks c f) before [] v r by follow = absurd r
  takes_made actor (Asks c f) before (s ∷ ss) v r by follow =
      let whole : before ++ s ∷ ss ≡ (before ++ s ∷ []) ++ ss = sym (append_assoc before (s ∷ []) ss) in
      let says : s.reply ≡ answers_of p c.object (operations (on_object c.object (map unstamped before))) c.op =
      follow before s ss refl ∙ (λ i. answers_of p (r.0 i).object (operations (on_object (r.0 i).object before)) (r.0 i).op)
      ∙ sym (ap (λ l. answers_of p c.object l c.op) (ap operations (unstamped_on_object c.object before) ∙ unstamped_operations (on_object c.object before))) in
      let same : next_step p (map unstamped before) actor c ≡ unstamped s =
      λ i. record { actor = sym by.0 i; object = (sym r.0 i).object; stamp = 0; op = (sym r.0 i).op; reply = sym says i } in
      let more : map unstamped before ++ next_step p (map unstamped before) actor c ∷ [] ≡ map unstamped (before ++ s ∷ []) =
      ap (λ x. map unstamped before ++ x ∷ []) same ∙ sym (unstamped_append before (s ∷ [])) in
      let rest = takes_made actor (f s.reply) (before ++ s ∷ []) ss v r.1 by.1 (subst (RepliesFollow (answers_of p)) whole follow) in (
        (λ i. then_steps p actor (f (sym says i)) (more i)) ∙ rest.0 ∙ ap (map unstamped) (sym whole),
        (λ i. then_value p actor (f (sym says i)) (more i)) ∙ rest.1,
      )
