-- A list whose CPUs' steps stand between the main actor's first and its other steps has three parts: so it is an interleaving
-- where each actor makes the whole of its program in it and each reply follows.
use Rattle.std.proofs.Common.{◌≡◌, ◌≢◌, ℕ, zero, suc, ◌<◌, ◌≤◌, List, [], ◌∷◌, ◌++◌, length, take, drop, refl, sym, ap, ◌∙◌, subst, arith, append-nil}
use Rattle.std.specs.List.{AllByRecursion}
use Rattle.std.proofs.lemmas.List.{drop_at, length-append, take_at}
use Rattle.std.proofs.lemmas.List.Elements.{All-from_recursion, filter-append, recursion_from_All}
use mathlib.Core.Logic.{dite}
use native.Mathlib.Decide.{ℕ_discrete}
use Rattle.bt_core.specs.declared.step.Step.{Step}
use Rattle.bt_core.specs.Steps.{is_of, of_actor, RepliesFollow}
use Rattle.bt_core.proofs.StepLists.{of_actor-other, of_actor-own}
use Rattle.weave.specs.Lists.{SameLimits}
use Rattle.weave.specs.Woven.{StandsBetween, begin_steps, end_steps}
use Rattle.weave.proofs.Among.{Has, has_cut, has_middle}
use Rattle.bt_meaning.specs.Interleavings.{IsInterleaving, IsWhole}
use Rattle.bt_meaning.specs.Replays.{Replay, answers_of, begin_of, cpu_of, cpus_of, end_of}
use Rattle.bt_meaning.proofs.Eachs.{each_back, each_both, each_from, each_front, each_has, each_so}
use Rattle.bt_meaning.proofs.Stepping.{AreBy, other_part, own_part}

-- ---- the three parts

module _ (main : ℕ) where
  abbrev pub AreOthers : List Step → Type 0
  AreOthers steps = AllByRecursion (λ s. s.actor ≢ main) steps

  pub record Parted (begun : ℕ) (steps : List Step) : Type 0 where
    pub first : List Step
    pub middle : List Step
    pub last : List Step
    pub whole : steps ≡ first ++ (middle ++ last)
    pub count : length first ≡ begun
    pub begins : AreBy main first
    pub between : AreOthers middle
    pub ends : AreBy main last

  -- behind the first part
  first_main : (s : Step) (ss : List Step) → StandsBetween main 0 (s ∷ ss) → s.actor ≡ main → AreBy main ss
  first_main s ss stands own = each_from _ ss (λ t h. dite (ℕ_discrete t.actor main) (λ e. e) (λ ne.
      let c = has_cut ss t h in
      let n = stands (s ∷ c.0) t c.1 (ap (λ l. s ∷ l) c.2) ne in
      let m = ap length (of_actor-own main [] s c.0 own) in absurd (omega arith)))

  other_first : (s : Step) (ss : List Step) → StandsBetween main 0 (s ∷ ss) → s.actor ≢ main → StandsBetween main 0 ss
  other_first s ss stands ne before t after e by =
      ap length (sym (of_actor-other main [] s before ne)) ∙ stands (s ∷ before) t after (ap (λ l. s ∷ l) e) by

  rest_parted : (steps : List Step) → StandsBetween main 0 steps → Parted 0 steps
  rest_parted [] stands = record { first = []; middle = []; last = []; whole = refl; count = refl; begins = tt; between = tt; ends = tt }
  rest_parted (s ∷ ss) stands = dite (ℕ_discrete s.actor main)
      (λ own. record { first = []; middle = []; last = s ∷ ss; whole = refl; count = refl; begins = tt; between = tt; ends = (own, first_main s ss stands own) })
      (λ ne. let r = rest_parted ss (other_first s ss stands ne) in
      let none : r.first ≡ [] = no_first r.first r.count in
      record { first = []; middle = s ∷ r.middle; last = r.last; whole = ap (λ l. s ∷ l) (r.whole ∙ ap (λ l. l ++ (r.middle ++ r.last)) none); count = refl; begins = tt; between = (ne, r.between); ends = r.ends })
    where
      no_first : (l : List Step) → length l ≡ 0 → l ≡ []
      no_first [] e = refl
      no_first (x ∷ xs) e = absurd (omega arith)

  pub parted : (begun : ℕ) (steps : List Step) → StandsBetween main begun steps → begun ≤ length (of_actor main steps) → Parted begun steps
  parted zero steps stands enough = rest_parted steps stands
  parted (suc begun) [] stands enough = absurd (omega arith)
  parted (suc begun) (s ∷ ss) stands enough = dite (ℕ_discrete s.actor main)
      (λ own. let n = ap length (of_actor-own main [] s ss own) in
      let r = parted begun ss (λ before t after e by.
      let m = ap length (of_actor-own main [] s before own) in
      let k = stands (s ∷ before) t after (ap (λ l. s ∷ l) e) by in omega arith) (omega arith) in
      record {
        first = s ∷ r.first;
        middle = r.middle;
        last = r.last;
        whole = ap (λ l. s ∷ l) r.whole;
        count = ap suc r.count;
        begins = (own, r.begins);
        between = r.between;
        ends = r.ends;
      })
      (λ ne. absurd (let k = stands [] s ss refl ne in omega arith))

-- ---- interleavings

-- what each actor makes, and what the objects answer
pub record HasLimits (p : Replay) (begun : ℕ) (steps : List Step) : Type 0 where
  pub actors : AllByRecursion (λ s. s.actor ≤ cpus_of p) steps
  pub enough : begun ≤ length (of_actor (cpus_of p) steps)
  pub begin : IsWhole (begin_of p) (begin_steps (cpus_of p) begun steps)
  pub each_cpu : (cpu : ℕ) → cpu < cpus_of p → IsWhole (cpu_of p cpu) (of_actor cpu steps)
  pub end : IsWhole (end_of p) (end_steps (cpus_of p) begun steps)
  pub between : StandsBetween (cpus_of p) begun steps
  pub replies : RepliesFollow (answers_of p) steps

module _ (p : Replay) (begun : ℕ) (steps : List Step) (has : HasLimits p begun steps) where
  abbrev n : ℕ
  n = cpus_of p

  abbrev parts : Parted n begun steps
  parts = parted n begun steps has.between has.enough

  none_between : of_actor n parts.middle ≡ []
  none_between = by_list parts.middle parts.between
    where
      by_list : (l : List Step) → AreOthers n l → of_actor n l ≡ []
      by_list [] h = refl
      by_list (s ∷ ss) h = of_actor-other n [] s ss h.0 ∙ by_list ss h.1

  mains : of_actor n steps ≡ parts.first ++ parts.last
  mains =
      ap (of_actor n) parts.whole ∙ filter-append (is_of n) parts.first (parts.middle ++ parts.last)
      ∙ (λ i. own_part n parts.first parts.begins i ++ filter-append (is_of n) parts.middle parts.last i)
      ∙ (λ i. parts.first ++ (none_between i ++ own_part n parts.last parts.ends i))

  begins_are : begin_steps n begun steps ≡ parts.first
  begins_are = ap (take begun) mains ∙ take_at parts.first parts.last begun parts.count

  ends_are : end_steps n begun steps ≡ parts.last
  ends_are = ap (drop begun) mains ∙ drop_at parts.first parts.last begun parts.count

  owns : (cpu : ℕ) → cpu < n → of_actor cpu steps ≡ of_actor cpu parts.middle
  owns cpu lt =
      let ne : n ≢ cpu = (λ e. omega arith) in
      ap (of_actor cpu) parts.whole ∙ filter-append (is_of cpu) parts.first (parts.middle ++ parts.last)
      ∙ (λ i. other_part cpu n parts.first ne parts.begins i ++ filter-append (is_of cpu) parts.middle parts.last i)
      ∙ (λ i. of_actor cpu parts.middle ++ other_part cpu n parts.last ne parts.ends i)
      ∙ append-nil (of_actor cpu parts.middle)

  low_middle : AllByRecursion (λ s. s.actor < n) parts.middle
  low_middle =
      let all = subst (AllByRecursion (λ s. s.actor ≤ n)) parts.whole has.actors in
      let own = each_front (λ s. s.actor ≤ n) parts.middle parts.last (each_back (λ s. s.actor ≤ n) parts.first (parts.middle ++ parts.last) all) in
      by_list parts.middle own parts.between
    where
      by_list : (l : List Step) → AllByRecursion (λ s. s.actor ≤ n) l → AreOthers n l → AllByRecursion (λ s. s.actor < n) l
      by_list [] h g = tt
      by_list (s ∷ ss) h g = (low s h.0 g.0, by_list ss h.1 g.1)
        where
          low : (t : Step) → t.actor ≤ n → t.actor ≢ n → t.actor < n
          low t le ne = dite (ℕ_discrete t.actor n) (λ e. absurd (ne e)) (λ k. omega arith)

  pub interleaves : IsInterleaving p steps
  interleaves = record {
    first = parts.first;
    middle = parts.middle;
    last = parts.last;
    parts = parts.whole;
    begin_is_main = All-from_recursion (λ (s : Step). s.actor ≡ n) parts.first parts.begins;
    begin = subst (λ (l : List Step). IsWhole (begin_of p) l) begins_are has.begin;
    middle_is_cpus = All-from_recursion (λ (s : Step). s.actor < n) parts.middle low_middle;
    each_cpu = λ cpu lt. subst (λ (l : List Step). IsWhole (cpu_of p cpu) l) (owns cpu lt) (has.each_cpu cpu lt);
    end_is_main = All-from_recursion (λ (s : Step). s.actor ≡ n) parts.last parts.ends;
    end = subst (λ (l : List Step). IsWhole (end_of p) l) ends_are has.end;
    replies = has.replies;
  }

-- ---- and back

module _ (p : Replay) (steps : List Step) (it : IsInterleaving p steps) where
  abbrev m : ℕ
  m = cpus_of p

  firsts : AreBy m it.first
  firsts = recursion_from_All (λ (s : Step). s.actor ≡ m) it.first it.begin_is_main

  lows : AllByRecursion (λ (s : Step). s.actor < m) it.middle
  lows = recursion_from_All (λ (s : Step). s.actor < m) it.middle it.middle_is_cpus

  lasts : AreBy m it.last
  lasts = recursion_from_All (λ (s : Step). s.actor ≡ m) it.last it.end_is_main

  middle_none : of_actor m it.middle ≡ []
  middle_none = by_list it.middle lows
    where
      by_list : (l : List Step) → AllByRecursion (λ (s : Step). s.actor < m) l → of_actor m l ≡ []
      by_list [] h = refl
      by_list (s ∷ ss) h = of_actor-other m [] s ss (λ e. let lt = h.0 in omega arith) ∙ by_list ss h.1

  all_mains : of_actor m steps ≡ it.first ++ it.last
  all_mains =
      ap (of_actor m) it.parts ∙ filter-append (is_of m) it.first (it.middle ++ it.last)
      ∙ (λ i. own_part m it.first firsts i ++ filter-append (is_of m) it.middle it.last i)
      ∙ (λ i. it.first ++ (middle_none i ++ own_part m it.last lasts i))

  all_owns : (cpu : ℕ) → cpu < m → of_actor cpu steps ≡ of_actor cpu it.middle
  all_owns cpu lt =
      let ne : m ≢ cpu = (λ e. omega arith) in
      ap (of_actor cpu) it.parts ∙ filter-append (is_of cpu) it.first (it.middle ++ it.last)
      ∙ (λ i. other_part cpu m it.first ne firsts i ++ filter-append (is_of cpu) it.middle it.last i)
      ∙ (λ i. of_actor cpu it.middle ++ other_part cpu m it.last ne lasts i)
      ∙ append-nil (of_actor cpu it.middle)

  -- a step of a CPU behind so many of the main actor
  stands_by : (firsts middle lasts before : List Step) (s : Step) (after : List Step) → AreBy m firsts → AllByRecursion (λ (t : Step). t.actor < m) middle → AreBy m lasts
      → firsts ++ (middle ++ lasts) ≡ before ++ s ∷ after → s.actor ≢ m → length (of_actor m before) ≡ length firsts
  stands_by [] [] (l ∷ ls) [] s after f g h e ne = let same : l ≡ s = cc in absurd (ne (ap (λ (t : Step). t.actor) (sym same) ∙ h.0))
  stands_by [] [] (l ∷ ls) (b ∷ bs) s after f g h e ne =
      absurd (ne (each_has (λ (t : Step). t.actor ≡ m) (l ∷ ls) s h (subst (λ (x : List Step). Has x s) (sym e) (has_middle (b ∷ bs) after s))))
  stands_by [] [] [] [] s after f g h e ne = absurd (let t : ⊥ = cc in t)
  stands_by [] [] [] (b ∷ bs) s after f g h e ne = absurd (let t : ⊥ = cc in t)
  stands_by [] (x ∷ xs) ls [] s after f g h e ne = refl
  stands_by [] (x ∷ xs) ls (b ∷ bs) s after f g h e ne =
      let same : x ≡ b = cc in let rest : xs ++ ls ≡ bs ++ s ∷ after = cc in
      let other : b.actor ≢ m = (λ q. let lt = g.0 in let w = ap (λ (t : Step). t.actor) same in omega arith) in
      ap length (of_actor-other m [] b bs other) ∙ stands_by [] xs ls bs s after tt g.1 h rest ne
  stands_by (x ∷ xs) ys ls [] s after f g h e ne = let same : x ≡ s = cc in absurd (ne (ap (λ (t : Step). t.actor) (sym same) ∙ f.0))
  stands_by (x ∷ xs) ys ls (b ∷ bs) s after f g h e ne =
      let same : x ≡ b = cc in let rest : xs ++ (ys ++ ls) ≡ bs ++ s ∷ after = cc in
      ap length (of_actor-own m [] b bs (ap (λ (t : Step). t.actor) (sym same) ∙ f.0)) ∙ ap suc (stands_by xs ys ls bs s after f.1 g h rest ne)

  pub limits_of : HasLimits p (length it.first) steps
  limits_of = record {
    actors = subst (AllByRecursion (λ (s : Step). s.actor ≤ m)) (sym it.parts)
        (each_both (λ (s : Step). s.actor ≤ m) it.first (it.middle ++ it.last)
        (each_so (λ (s : Step). s.actor ≡ m) (λ (s : Step). s.actor ≤ m) (λ s e. omega arith) it.first firsts)
        (each_both (λ (s : Step). s.actor ≤ m) it.middle it.last
        (each_so (λ (s : Step). s.actor < m) (λ (s : Step). s.actor ≤ m) (λ s e. omega arith) it.middle lows)
        (each_so (λ (s : Step). s.actor ≡ m) (λ (s : Step). s.actor ≤ m) (λ s e. omega arith) it.last lasts)));
    enough = (let k = ap length all_mains ∙ length-append it.first it.last in omega arith);
    begin = subst (λ (l : List Step). IsWhole (begin_of p) l) (sym (ap (take (length it.first)) all_mains ∙ take_at it.first it.last (length it.first) refl)) it.begin;
    each_cpu = λ cpu lt. subst (λ (l : List Step). IsWhole (cpu_of p cpu) l) (sym (all_owns cpu lt)) (it.each_cpu cpu lt);
    end = subst (λ (l : List Step). IsWhole (end_of p) l) (sym (ap (drop (length it.first)) all_mains ∙ drop_at it.first it.last (length it.first) refl)) it.end;
    between = λ before s after e ne. stands_by it.first it.middle it.last before s after firsts lows lasts (sym it.parts ∙ e) ne;
    replies = it.replies;
  }

-- another list with the same limits, as one that is put in order
pub limits_kept : (p : Replay) (begun : ℕ) (made steps : List Step) → HasLimits p begun made → SameLimits steps made → AllByRecursion (λ (s : Step). s.actor ≤ cpus_of p) steps
    → StandsBetween (cpus_of p) begun steps → RepliesFollow (answers_of p) steps → HasLimits p begun steps
limits_kept p begun made steps has same low between replies = record {
  actors = low;
  enough = (let k = ap length (same.actors (cpus_of p)) in let e = has.enough in omega arith);
  begin = subst (λ (l : List Step). IsWhole (begin_of p) l) (sym (ap (take begun) (same.actors (cpus_of p)))) has.begin;
  each_cpu = λ cpu lt. subst (λ (l : List Step). IsWhole (cpu_of p cpu) l) (sym (same.actors cpu)) (has.each_cpu cpu lt);
  end = subst (λ (l : List Step). IsWhole (end_of p) l) (sym (ap (drop begun) (same.actors (cpus_of p)))) has.end;
  between = between;
  replies = replies;
}
