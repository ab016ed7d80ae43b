-- Who is the last to cross a tick.
use Rattle.std.proofs.Common.{◌≡◌, ℕ, suc, ◌+◌, ◌<◌, ◌≤◌, ◌==◌, ◌&&◌, Bool, true, false, cond, List, [], ◌∷◌, ◌++◌, refl, sym, ap, ◌∙◌, subst, eq-eqb, ne_eqb, arith, append_assoc}
use Rattle.std.specs.List.{AllByRecursion}
use Rattle.std.proofs.lemmas.List.Elements.{filter-append}
use mathlib.Core.Logic.{dite}
use native.Mathlib.Decide.{ℕ_discrete}
use Rattle.bt_core.specs.declared.step.Reply.TheVariants.{Last}
use Rattle.bt_core.specs.declared.step.Step.{Step}
use Rattle.bt_core.specs.Steps.{is_of, of_actor, AtEach}
use Rattle.actor_plan.specs.Programs.{tells_last}
use Rattle.bt_meaning.specs.Ticks.{is_crossing}
use Rattle.bt_meaning.specs.Totals.{who}
use Rattle.bt_meaning.proofs.Crossings.{mark, marks, marks_append}
use Rattle.bt_meaning.proofs.Eachs.{each_both}

-- what of a list is an actor's, where the list is cut at a step of the actor
of_cut : (w : ℕ) (front : List Step) (s : Step) (back : List Step) → s.actor ≡ w → of_actor w (front ++ s ∷ back) ≡ of_actor w front ++ s ∷ of_actor w back
of_cut w front s back e =
    filter-append (is_of w) front (s ∷ back) ∙ ap (λ (b : Bool). of_actor w front ++ cond b (s ∷ of_actor w back) (of_actor w back)) (eq-eqb s.actor w e)

each_middle : {A : Type 0} (P : A → Type 0) (xs : List A) (z : A) (ys : List A) → AllByRecursion P (xs ++ z ∷ ys) → P z
each_middle P [] z ys e = e.0
each_middle P (x ∷ xs) z ys e = each_middle P xs z ys e.1

module _ (k n : ℕ) where
  -- each crossing is answered by how many came before it
  abbrev pub Counted : ℕ → List Step → Type 0
  Counted c [] = Unit {0}
  Counted c (s ∷ ss) = (is_crossing k s ≡ true → s.reply ≡ Last (suc c == n)) × Counted (c + mark k s) ss

  abbrev pub IsCounted : List Step → Step → Type 0
  IsCounted before s = is_crossing k s ≡ true → s.reply ≡ Last (suc (marks k before) == n)

  counted_from : (front ss : List Step) → AtEach IsCounted (front ++ ss) → Counted (marks k front) ss
  counted_from front [] e = tt
  counted_from front (s ∷ ss) e = (
    e front s ss refl,
    (let rest = counted_from (front ++ s ∷ []) ss (subst (AtEach IsCounted) (sym (append_assoc front (s ∷ []) ss)) e) in
        let c : marks k (front ++ s ∷ []) ≡ marks k front + mark k s = (let p = marks_append k front (s ∷ []) in omega arith) in
        subst (λ (x : ℕ). Counted x ss) c rest),
  )

  -- the one crossing that is answered that it is the last
  pub record Decided (ss : List Step) : Type 0 where
    pub front : List Step
    pub step : Step
    pub back : List Step
    pub whole : ss ≡ front ++ step ∷ back
    pub crosses : is_crossing k step ≡ true
    pub last : step.reply ≡ Last true
    pub others : AllByRecursion (λ s. is_crossing k s ≡ true → s.reply ≡ Last false) front
    pub quiet : marks k back ≡ 0
    pub named : who ss k ≡ step.actor

  mark_is : (s : Step) (b : Bool) → is_crossing k s ≡ b → mark k s ≡ cond b 1 0
  mark_is s b e = ap (λ (t : Bool). cond t 1 0) e

  here : (c : ℕ) (s : Step) (ss : List Step) → is_crossing k s ≡ true → Counted c (s ∷ ss) → suc c ≡ n → marks k ss ≡ 0 → Decided (s ∷ ss)
  here c s ss e told last none =
      let reply : s.reply ≡ Last true = told.0 e ∙ ap Last (eq-eqb (suc c) n last) in
      record {
        front = [];
        step = s;
        back = ss;
        whole = refl;
        crosses = e;
        last = reply;
        others = tt;
        quiet = none;
        named = λ i. cond (e i && tells_last (reply i)) s.actor (who ss k);
      }

  later : (s : Step) (ss : List Step) → (is_crossing k s ≡ true → s.reply ≡ Last false) → (is_crossing k s && tells_last s.reply) ≡ false → Decided ss → Decided (s ∷ ss)
  later s ss other not_it d = record {
    front = s ∷ d.front;
    step = d.step;
    back = d.back;
    whole = ap (λ (l : List Step). s ∷ l) d.whole;
    crosses = d.crosses;
    last = d.last;
    others = (other, d.others);
    quiet = d.quiet;
    named = (λ i. cond (not_it i) s.actor (who ss k)) ∙ d.named;
  }

  decide : (c : ℕ) (ss : List Step) → Counted c ss → c + marks k ss ≡ n → 1 ≤ marks k ss → Decided ss
  decide c [] told all some = absurd (omega arith)
  decide c (s ∷ ss) told all some = elim (is_crossing k s) as (λ t. is_crossing k s ≡ t → Decided (s ∷ ss)) [
    | true ↦ (λ e. let one = mark_is s true e in dite (ℕ_discrete (marks k ss) 0)
        (λ z. here c s ss e told (omega arith) z)
        (λ nz. let false_reply : s.reply ≡ Last false = told.0 e ∙ ap Last (ne_eqb (suc c) n (λ w. nz (omega arith))) in
        later s ss (λ x. false_reply) ((λ i. e i && tells_last (false_reply i))) (decide (c + mark k s) ss told.1 (omega arith) (omega arith))))
    | false ↦ (λ e. let no_mark = mark_is s false e in
        later s ss (λ x. absurd (let q : ⊥ = cc in q)) (λ i. e i && tells_last s.reply) (decide (c + mark k s) ss told.1 (omega arith) (omega arith)))
  ] refl

  abbrev pub Answered : ℕ → Step → Type 0
  Answered w s = is_crossing k s ≡ true → s.reply ≡ Last (w == s.actor)

  -- steps of which none crosses
  none_answered : (w : ℕ) (ss : List Step) → marks k ss ≡ 0 → AllByRecursion (Answered w) ss
  none_answered w [] z = tt
  none_answered w (s ∷ ss) z = ((λ e. absurd (let one = mark_is s true e in omega arith)), none_answered w ss (omega arith))

  -- steps that cross and are not the last are of other actors
  others_answered : (w : ℕ) (ss : List Step) → AllByRecursion (λ s. is_crossing k s ≡ true → s.reply ≡ Last false) ss → marks k (of_actor w ss) ≡ 0 → AllByRecursion (Answered w) ss
  others_answered w [] o z = tt
  others_answered w (s ∷ ss) o z = (
    (λ e. o.0 e ∙ ap Last (sym (ne_eqb w s.actor (λ same. mine e (sym same))))),
    others_answered w ss o.1 (rest (is_of w s) z),
  )
    where
      rest : (b : Bool) → marks k (cond b (s ∷ of_actor w ss) (of_actor w ss)) ≡ 0 → marks k (of_actor w ss) ≡ 0
      rest true z = omega arith
      rest false z = z

      mine : is_crossing k s ≡ true → s.actor ≡ w → ⊥
      mine e same = let one = mark_is s true e in
          let there : marks k (s ∷ of_actor w ss) ≡ 0 = ap (λ (b : Bool). marks k (cond b (s ∷ of_actor w ss) (of_actor w ss))) (sym (eq-eqb s.actor w same)) ∙ z in omega arith

  -- each crossing of a list with one that is the last is answered by who that is
  module _ (steps : List Step) (d : Decided steps) (once : (a : ℕ) → a < n → marks k (of_actor a steps) ≡ 1)
      (below : AllByRecursion (λ s. is_crossing k s ≡ true → s.actor < n) steps) where
    abbrev w : ℕ
    w = d.step.actor

    less : w < n
    less = (each_middle (λ (s : Step). is_crossing k s ≡ true → s.actor < n) d.front d.step d.back
        (subst (AllByRecursion (λ s. is_crossing k s ≡ true → s.actor < n)) d.whole below)) d.crosses

    cut : of_actor w steps ≡ of_actor w d.front ++ d.step ∷ of_actor w d.back
    cut = ap (of_actor w) d.whole ∙ of_cut w d.front d.step d.back refl

    front_none : marks k (of_actor w d.front) ≡ 0
    front_none =
        let one : mark k d.step ≡ 1 = mark_is d.step true d.crosses in
        let whole = ap (marks k) cut in
        let parts = marks_append k (of_actor w d.front) (d.step ∷ of_actor w d.back) in
        let all = once w less in omega arith

    each : AllByRecursion (Answered w) steps
    each = subst (AllByRecursion (Answered w)) (sym d.whole)
        (each_both (Answered w) d.front (d.step ∷ d.back) (others_answered w d.front d.others front_none)
        ((λ e. d.last ∙ ap Last (sym (eq-eqb w w refl))), none_answered w d.back d.quiet))

    by_who : AllByRecursion (Answered (who steps k)) steps × (who steps k < n)
    by_who = (subst (λ (x : ℕ). AllByRecursion (Answered x) steps) (sym d.named) each, subst (λ (x : ℕ). x < n) (sym d.named) less)

  -- each crossing of a whole list is answered by who is the last
  pub answered : (steps : List Step) → AtEach IsCounted steps → marks k steps ≡ n → 0 < n → ((a : ℕ) → a < n → marks k (of_actor a steps) ≡ 1)
      → AllByRecursion (λ s. is_crossing k s ≡ true → s.actor < n) steps → AllByRecursion (Answered (who steps k)) steps × (who steps k < n)
  answered steps told all some once below = by_who steps (decide 0 steps (counted_from [] steps told) (omega arith) (omega arith)) once below
