-- What all passes over a list find, put together: up to the least limit the list can be made.
use Rattle.std.proofs.Common.{◌≡◌, ◌≢◌, ◌+◌, max, ℕ, suc, ◌<◌, ◌≤◌, Bool, false, List, [], ◌∷◌, ◌++◌, length, take, drop, sym, refl, ap, ◌∙◌, subst, arith, IsTrue}
use Rattle.std.proofs.lemmas.List.{append-nil, append_assoc, take-append-drop, length-append, length-take-le}
use Rattle.std.proofs.Math.Seq.{take-append_seam, take-append-add}
use Rattle.bt_core.specs.declared.step.Step.{Step}
use Rattle.bt_core.specs.Interaction.{Interaction, Begins, Runs}
use Rattle.bt_core.specs.Steps.{of_actor, on_object, AtEach, RepliesFollow}
use Rattle.bt_core.proofs.StepLists.{of_actor-append, of_actor-own}
use Rattle.weave.specs.Lists.{greatest}
use Rattle.weave.specs.Order.{comes_before}
use Rattle.bt_meaning.specs.Interleavings.{IsWhole}
use Rattle.bt_meaning.specs.Replays.{Replay, cpus_of, begin_of, answers_of}
use Rattle.begun_meaning.specs.Begun.{HasDone, program_of, clock_after}
use Rattle.account_follow.specs.Followed.{Followed, IsFollowed}
use Rattle.step_entries.proofs.Computations.{whole_ends}
use Rattle.begun_meaning.proofs.Cuts.{none_own, take_again}
use Rattle.begun_meaning.specs.Parts.{HasParts}
use Rattle.account_steps.proofs.WholeFollowed.{followed_whole}

-- a cut of the front of a list is a cut of the list
pub record CutAt (list before : List Step) (s : Step) : Type 0 where
  pub is : before ≡ take (length before) list
  pub next : before ++ s ∷ [] ≡ take (suc (length before)) list

pub cut_at : (list : List Step) (l : ℕ) (before : List Step) (s : Step) (after : List Step) → take l list ≡ before ++ s ∷ after → l ≤ length list → CutAt list before s
cut_at list l before s after e le =
    let lt : length before < l = (let k = ap length e ∙ length-append before (s ∷ after) in let m = length-take-le l list le in omega arith) in
    record {
      is = sym (take-append_seam before (s ∷ after)) ∙ ap (take (length before)) (sym e) ∙ take_again (length before) l list (omega arith);
      next = sym (take-append-add before (s ∷ after) 1) ∙ ap (λ n. take n (before ++ s ∷ after)) (let q : length before + 1 ≡ suc (length before) = omega arith in q)
          ∙ ap (take (suc (length before))) (sym e) ∙ take_again (suc (length before)) l list (omega arith);
    }

-- the front of a front, and what stands behind it
pub split_front : (a : ℕ) (list : List Step) (i j : ℕ) → i ≤ j → of_actor a (take j list) ≡ of_actor a (take i list) ++ of_actor a (drop i (take j list))
split_front a list i j le =
    ap (of_actor a) (sym (take-append-drop i (take j list))) ∙ of_actor-append a (take i (take j list)) (drop i (take j list))
    ∙ ap (λ l. of_actor a l ++ of_actor a (drop i (take j list))) (take_again i j list le)

pub no_more : {A : Type 0} (t : Interaction A) (xs ys : List Step) → IsWhole t xs → Begins t (xs ++ ys) → ys ≡ []
no_more t xs [] w h = refl
no_more t xs (y ∷ ys) w h = absurd (whole_ends t xs y ys w.value w.runs h)

module _ (p : Replay) (list : List Step) (l : ℕ) (le : l ≤ length list) (at : ℕ → ℕ) (on : ℕ → Bool)
    (followed : (a : ℕ) → a ≤ cpus_of p → IsFollowed (program_of p a) a list (at a) (on a))
    (to : (a : ℕ) → a ≤ cpus_of p → (k : ℕ) → k ≤ l → Begins (program_of p a) (of_actor a (take k list)))
    (low : AtEach (λ before s. s.actor ≤ cpus_of p) (take l list))
    (at_begin : ℕ) (on_begin : Bool) (begin : IsFollowed (begin_of p) (cpus_of p) list at_begin on_begin)
    -- the barriers: a CPU's step stands behind the whole of BEGIN, and where BEGIN is done a step of the main actor behind all CPUs'
    (after : AtEach (λ before s. s.actor ≢ cpus_of p → IsTrue on_begin × (at_begin ≤ length before)) (take l list))
    (behind : AtEach (λ before s. s.actor ≡ cpus_of p → HasDone (begin_of p) (of_actor (cpus_of p) before)
    → (cpu : ℕ) → cpu < cpus_of p → IsTrue (on cpu) × (at cpu ≤ length before)) (take l list)) where
  whole_at : (a : ℕ) → a ≤ cpus_of p → IsTrue (on a) → IsWhole (program_of p a) (of_actor a (take (at a) list))
  whole_at a low t = let f = followed a low in
      followed_whole (program_of p a) (of_actor a (take (at a) list)) (of_actor a (drop (at a) list))
      (subst (λ s. Followed (program_of p a) (of_actor a (take (at a) list)) s (of_actor a (drop (at a) list))) (f.none.0 t) f.followed)

  -- where an actor ended, it has no step behind
  ended : (a : ℕ) → a ≤ cpus_of p → IsTrue (on a) → (k : ℕ) → k ≤ l → at a ≤ k → of_actor a (drop (at a) (take k list)) ≡ []
  ended a low t k kl ak = no_more (program_of p a) (of_actor a (take (at a) list)) (of_actor a (drop (at a) (take k list))) (whole_at a low t)
      (subst (Begins (program_of p a)) (split_front a list (at a) k ak) (to a low k kl))

  whole_by : (a : ℕ) → a ≤ cpus_of p → IsTrue (on a) → (k : ℕ) → k ≤ l → at a ≤ k → IsWhole (program_of p a) (of_actor a (take k list))
  whole_by a low t k kl ak =
      subst (IsWhole (program_of p a)) (sym (split_front a list (at a) k ak ∙ ap (λ ys. of_actor a (take (at a) list) ++ ys) (ended a low t k kl ak) ∙ append-nil (of_actor a (take (at a) list))))
      (whole_at a low t)

  within : (before : List Step) (s : Step) (rest : List Step) → take l list ≡ before ++ s ∷ rest → length before < l
  within before s rest e = let k = ap length e ∙ length-append before (s ∷ rest) in let m = length-take-le l list le in omega arith

  pub before_end : AtEach (λ before s. s.actor ≡ cpus_of p → HasDone (begin_of p) (of_actor (cpus_of p) before)
      → (cpu : ℕ) → cpu < cpus_of p → IsWhole (program_of p cpu) (of_actor cpu before)) (take l list)
  before_end before s rest e main done cpu lt =
      let c = cut_at list l before s rest e le in
      let b = behind before s rest e main done cpu lt in
      subst (λ xs. IsWhole (program_of p cpu) (of_actor cpu xs)) (sym c.is)
      (whole_by cpu (omega arith) b.0 (length before) (let k = within before s rest e in omega arith) b.1)

  begin_whole : IsTrue on_begin → IsWhole (begin_of p) (of_actor (cpus_of p) (take at_begin list))
  begin_whole t =
      followed_whole (begin_of p) (of_actor (cpus_of p) (take at_begin list)) (of_actor (cpus_of p) (drop at_begin list))
      (subst (λ s. Followed (begin_of p) (of_actor (cpus_of p) (take at_begin list)) s (of_actor (cpus_of p) (drop at_begin list))) (begin.none.0 t) begin.followed)

  pub after_begin : AtEach (λ before s. s.actor ≢ cpus_of p → IsWhole (begin_of p) (of_actor (cpus_of p) before)) (take l list)
  after_begin before s rest e ne =
      let c = cut_at list l before s rest e le in
      let b = after before s rest e ne in
      let lt = within before s rest e in
      let front : before ≡ take at_begin list ++ drop at_begin (take (length before) list) =
      c.is ∙ sym (take-append-drop at_begin (take (length before) list)) ∙ ap (λ xs. xs ++ drop at_begin (take (length before) list)) (take_again at_begin (length before) list b.1) in
      let none : of_actor (cpus_of p) (drop at_begin (take (length before) list)) ≡ [] =
      none_own (cpus_of p) (take at_begin list) (drop at_begin (take (length before) list)) (λ bs u cs q long own.
      late before s rest e ne bs u cs (front ∙ q) own b.0
      (begun_by before bs u cs (front ∙ q) long b.1 b.0 c.is (omega arith))) in
      subst (IsWhole (begin_of p)) (sym (ap (of_actor (cpus_of p)) c.is ∙ split_front (cpus_of p) list at_begin (length before) b.1
      ∙ ap (λ ys. of_actor (cpus_of p) (take at_begin list) ++ ys) none ∙ append-nil (of_actor (cpus_of p) (take at_begin list)))) (begin_whole b.0)
    where
      -- behind BEGIN's place, BEGIN is done
      begun_by : (before bs : List Step) (u : Step) (cs : List Step) → before ≡ bs ++ u ∷ cs → length (take at_begin list) ≤ length bs → at_begin ≤ length before → IsTrue on_begin
          → before ≡ take (length before) list → length before ≤ length list → HasDone (begin_of p) (of_actor (cpus_of p) bs)
      begun_by before bs u cs q long room t is short =
          let size : length (take at_begin list) ≡ at_begin = length-take-le at_begin list (omega arith) in
          let less : length bs ≤ length before = (let k = ap length q ∙ length-append bs (u ∷ cs) in omega arith) in
          let front : bs ≡ take (length bs) list = sym (take-append_seam bs (u ∷ cs)) ∙ ap (take (length bs)) (sym q ∙ is) ∙ take_again (length bs) (length before) list less in
          record {
            made = of_actor (cpus_of p) (take at_begin list);
            more = of_actor (cpus_of p) (drop at_begin (take (length bs) list));
            parts = ap (of_actor (cpus_of p)) front ∙ split_front (cpus_of p) list at_begin (length bs) (omega arith);
            whole = begin_whole t;
          }

      -- a step of END between them would stand behind the whole of this CPU's program
      late : (before : List Step) (s : Step) (rest : List Step) → take l list ≡ before ++ s ∷ rest → s.actor ≢ cpus_of p
          → (bs : List Step) (u : Step) (cs : List Step) → before ≡ bs ++ u ∷ cs → u.actor ≡ cpus_of p → IsTrue on_begin → HasDone (begin_of p) (of_actor (cpus_of p) bs) → ⊥
      late before s rest e ne bs u cs q own t done =
          let whole : take l list ≡ bs ++ u ∷ (cs ++ s ∷ rest) = e ∙ ap (λ xs. xs ++ s ∷ rest) q ∙ append_assoc bs (u ∷ cs) (s ∷ rest) in
          let small : s.actor < cpus_of p = (let k = low before s rest e in omega arith) in
          let b = behind bs u (cs ++ s ∷ rest) whole own done s.actor small in
          let lt = within before s rest e in
          let c = cut_at list l before s rest e le in
          let less : length bs ≤ length before = (let k = ap length q ∙ length-append bs (u ∷ cs) in omega arith) in
          let gone = ended s.actor (omega arith) b.0 (suc (length before)) (omega arith) (omega arith) in
          let w = whole_by s.actor (omega arith) b.0 (length before) (omega arith) (omega arith) in
          whole_ends (program_of p s.actor) (of_actor s.actor before) s [] w.value
          (subst (λ xs. Runs (program_of p s.actor) (of_actor s.actor xs) w.value) (sym c.is) w.runs)
          (subst (Begins (program_of p s.actor)) (ap (of_actor s.actor) (sym c.next) ∙ of_actor-own s.actor before s [] refl)
          (to s.actor (omega arith) (suc (length before)) (omega arith)))

  -- all that the passes find of the front
  pub has_parts : RepliesFollow (answers_of p) (take l list)
      → AtEach (λ before s. s.stamp ≡ suc (max (clock_after (cpus_of p) before s.actor) (greatest (on_object s.object before)))) (take l list)
      → AtEach (λ before s. (earlier : List Step) (t : Step) → before ≡ earlier ++ t ∷ [] → comes_before s t ≡ false) (take l list)
      → HasParts p (take l list)
  has_parts replies stamps order = record {
    actors = low;
    begins = λ actor small. to actor small l (omega arith);
    replies = replies;
    after_begin = after_begin;
    before_end = before_end;
    stamps = stamps;
    order = order;
  }
