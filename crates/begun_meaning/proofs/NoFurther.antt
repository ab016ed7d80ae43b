-- Where a list that can be made goes no further, and that no list of entries has two answers.
use Rattle.std.proofs.Common.{◌≡◌, ◌≢◌, ◌⊎◌, inl, inr, ◌+◌, max, ℕ, suc, ◌<◌, ◌≤◌, List, [], ◌∷◌, ◌++◌, length, map, take, drop, sym, refl, ap, ◌∙◌, subst, arith}
use Rattle.std.proofs.lemmas.List.{append_assoc, take-append-drop, length-append, length-map, take-map}
use Rattle.std.proofs.Math.Seq.{take-append_seam, take-append-add}
use mathlib.Core.Logic.{dite}
use native.Mathlib.Decide.{ℕ_discrete}
use Rattle.bt_core.specs.declared.step.Step.{Step}
use Rattle.bt_core.specs.Interaction.{Begins}
use Rattle.bt_core.specs.Steps.{of_actor, on_object}
use Rattle.bt_core.proofs.StepLists.{of_actor-own}
use Rattle.weave.specs.Lists.{greatest}
use Rattle.weave.proofs.Less.{less_or_not}
use Rattle.bt_meaning.specs.Interleavings.{IsWhole}
use Rattle.bt_meaning.specs.Replays.{Replay, cpus_of, begin_of}
use Rattle.step_entries.specs.Blank.{blank}
use Rattle.begun_meaning.specs.Begun.{MayFollow, IsBegun, HasDone, program_of, clock_after, AreAllWhole}
use Rattle.begun_meaning.specs.Parts.{HasParts}
use Rattle.begun_meaning.specs.Wrong.{NoneFollows, IsWrongStep, IsUnfinished}
use Rattle.step_entries.proofs.Computations.{Begins-front}
use Rattle.begun_meaning.proofs.Cuts.{last_apart, take_again}
use Rattle.begun_meaning.proofs.Determined.{only_one, begun_front, begun_last}

module _ (p : Replay) where
  pub no_further : (us : List Step) (n : Step) → IsBegun p us → NoneFollows p us n → (vs : List Step) → IsBegun p vs → map blank vs ≡ map blank us ++ blank n ∷ [] → ⊥
  no_further us n begun none vs other e =
      let r = last_apart blank vs (map blank us) (blank n) e in
      let whole : IsBegun p (r.front ++ r.last ∷ []) = subst (IsBegun p) r.whole other in
      let same : r.front ≡ us = only_one p r.front us (begun_front p r.front (r.last ∷ []) whole) begun r.fronts in
      none r.last r.lasts (subst (λ l. MayFollow p l r.last) same (begun_last p r.front r.last whole))

  -- the reasons: the stamp; a CPU before the end of BEGIN; END before a CPU's end; no such actor
  pub by_stamp : (us : List Step) (n : Step) → n.stamp ≢ suc (max (clock_after (cpus_of p) us n.actor) (greatest (on_object n.object us))) → NoneFollows p us n
  by_stamp us n ne v e may =
      ne (sym (ap (λ (s : Step). s.stamp) e) ∙ may.stamp ∙ (λ i. suc (max (clock_after (cpus_of p) us (e i).actor) (greatest (on_object (e i).object us)))))

  pub by_begin : (us : List Step) (n : Step) → n.actor ≢ cpus_of p → (IsWhole (begin_of p) (of_actor (cpus_of p) us) → ⊥) → NoneFollows p us n
  by_begin us n cpu ne v e may = ne (may.after_begin (λ q. cpu (sym (ap (λ (s : Step). s.actor) e) ∙ q)))

  pub by_end : (us : List Step) (n : Step) → n.actor ≡ cpus_of p → HasDone (begin_of p) (of_actor (cpus_of p) us) → (cpu : ℕ) → cpu < cpus_of p
      → (IsWhole (program_of p cpu) (of_actor cpu us) → ⊥) → NoneFollows p us n
  by_end us n main done cpu lt ne v e may = ne (may.before_end (ap (λ (s : Step). s.actor) e ∙ main) done cpu lt)

  pub by_actor : (us : List Step) (n : Step) → (n.actor ≤ cpus_of p → ⊥) → NoneFollows p us n
  by_actor us n ne v e may = ne (subst (λ a. a ≤ cpus_of p) (ap (λ (s : Step). s.actor) e) may.actor)

  pub parts_begun : (steps : List Step) → HasParts p steps → IsBegun p steps
  parts_begun steps h before s after e = record {
    actor = h.actors before s after e;
    asked = subst (Begins (program_of p s.actor)) (ap (λ l. l ++ s ∷ []) refl) (Begins-front (program_of p s.actor) (of_actor s.actor before ++ s ∷ []) (of_actor s.actor after)
        (subst (Begins (program_of p s.actor)) (ap (of_actor s.actor) e ∙ of_actor-own s.actor before s after refl ∙ sym (append_assoc (of_actor s.actor before) (s ∷ []) (of_actor s.actor after)))
        (h.begins s.actor (h.actors before s after e))));
    reply = h.replies before s after e;
    after_begin = h.after_begin before s after e;
    before_end = h.before_end before s after e;
    stamp = h.stamps before s after e;
    order = h.order before s after e;
  }

  pub wrong_step : (us : List Step) (n : Step) (vs : List Step) → IsBegun p us → NoneFollows p us n → IsWrongStep p (map blank us ++ blank n ∷ vs) (length us)
  wrong_step us n vs begun none = record {
    made = us;
    begun = begun;
    told = sym (ap (λ k. take k (map blank us ++ blank n ∷ vs)) (sym (length-map us blank)) ∙ take-append_seam (map blank us) (blank n ∷ vs));
    within = (let k = length-append (map blank us) (blank n ∷ vs) in let m = length-map us blank in omega arith);
    no_more = λ others other e. no_further us n begun none others other (e ∙ ap (λ k. take k (map blank us ++ blank n ∷ vs)) (let one : suc (length us) ≡ length (map blank us) + 1 = (let m = length-map us blank in omega arith) in one) ∙ take-append-add (map blank us) (blank n ∷ vs) 1);
  }

-- no two of these can be
one_wrong_step : (p : Replay) (entries : List Step) (i j : ℕ) → IsWrongStep p entries i → IsWrongStep p entries j → i < j → ⊥
one_wrong_step p entries i j a b lt =
    let w = take-append-drop (suc i) b.made in
    let front : IsBegun p (take (suc i) b.made) = begun_front p (take (suc i) b.made) (drop (suc i) b.made) (subst (IsBegun p) (sym w) b.begun) in
    a.no_more (take (suc i) b.made) front (sym (take-map blank (suc i) b.made) ∙ ap (take (suc i)) b.told ∙ take_again (suc i) j entries (omega arith))

pub same_wrong_step : (p : Replay) (entries : List Step) (i j : ℕ) → IsWrongStep p entries i → IsWrongStep p entries j → i ≡ j
same_wrong_step p entries i j a b = dite (ℕ_discrete i j) (λ e. e) (λ ne. absurd (apart (less_or_not i j) ne))
  where
    apart : (i < j) ⊎ (j ≤ i) → i ≢ j → ⊥
    apart (inl lt) ne = one_wrong_step p entries i j a b lt
    apart (inr le) ne = one_wrong_step p entries j i b a (let m : j ≢ i = λ e. ne (sym e) in omega arith)

-- where all entries are those of a list that can be made, none is wrong
pub none_wrong : (p : Replay) (made : List Step) (i : ℕ) → IsBegun p made → IsWrongStep p (map blank made) i → ⊥
none_wrong p made i begun w =
    let front : IsBegun p (take (suc i) made) = begun_front p (take (suc i) made) (drop (suc i) made) (subst (IsBegun p) (sym (take-append-drop (suc i) made)) begun) in
    w.no_more (take (suc i) made) front (sym (take-map blank (suc i) made))

-- and it is either unfinished or whole
pub not_both : (p : Replay) (made : List Step) → IsBegun p made → AreAllWhole p made → IsUnfinished p (map blank made) → ⊥
not_both p made begun whole u = u.unfinished (subst (AreAllWhole p) (only_one p made u.made begun u.begun (sym u.told)) whole)
