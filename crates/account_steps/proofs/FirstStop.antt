-- What the first step tells that may not stand where it stands: up to it the list can be made, and no further.
use Rattle.std.proofs.Common.{◌≡◌, ◌≢◌, ◌⊎◌, ℕ, zero, suc, ◌<◌, ◌≤◌, Bool, false, IsTrue, List, [], ◌∷◌, ◌++◌, length, take, drop, get_or, slice_index_or}
use Rattle.std.proofs.Common.{sym, ap, ◌∙◌, subst, arith, inl, inr}
use Rattle.std.proofs.lemmas.List.{append-nil, take-append-drop, length-append, length-take-le, get_or_default, get_or-take, drop-append-le}
use Rattle.std.proofs.Math.Seq.{get_or-append_seam}
use Rattle.std.specs.List.{AllByRecursion}
use Rattle.bt_core.specs.declared.step.Step.{Step}
use Rattle.bt_core.specs.Interaction.{Begins, Interaction}
use Rattle.bt_core.specs.Steps.{of_actor, AtEach, RepliesFollow}
use Rattle.bt_core.proofs.StepLists.{of_actor-append}
use Rattle.weave.proofs.Less.{less_or_not}
use Rattle.bt_meaning.specs.Interleavings.{IsWhole}
use Rattle.bt_meaning.specs.Replays.{Replay, cpus_of, begin_of, answers_of}
use Rattle.step_entries.specs.Blank.{blank}
use Rattle.step_entries.proofs.Computations.{Begins-front}
use Rattle.begun_meaning.specs.Begun.{AreAllWhole, HasDone, IsBegun, MayFollow, program_of}
use Rattle.begun_meaning.specs.Parts.{HasParts, IsStampedAfter, NotBeforeLast}
use Rattle.begun_meaning.proofs.Cuts.{AtEach-front, cuts_of_each, none_own, take_again}
use Rattle.begun_meaning.proofs.NoFurther.{parts_begun}
use Rattle.account_follow.specs.declared.follow.Reached.{Reached}
use Rattle.account_follow.specs.Followed.{Followed, IsFollowed}
use Rattle.account_follow.proofs.FollowedLaws.{followed_begins}
use Rattle.account_steps.specs.Limits.{IsLimit}
use Rattle.account_steps.specs.Stops.{AllMayStand, AreReached, IsPassed, MayStand}
use Rattle.account_steps.proofs.AllActors.{followed_limit, followed_whole_or_not}
use Rattle.account_steps.proofs.Barriers.{cut_at, has_parts, split_front}
use Rattle.account_steps.proofs.Places.{place_passed}
use Rattle.account_steps.proofs.WholeFollowed.{followed_whole}

-- a cut of the front of a list is at the step of its place
step_there : (list : List Step) (l : ℕ) (before : List Step) (s : Step) (rest : List Step) (d : Step) → take l list ≡ before ++ s ∷ rest → l ≤ length list
    → slice_index_or list (length before) d ≡ s
step_there list l before s rest d e le =
    let lt : length before < l = (let k = ap length e ∙ length-append before (s ∷ rest) in let m = length-take-le l list le in omega arith) in
    sym (get_or-take l list (length before) d lt) ∙ ap (λ xs. get_or xs (length before) d) e ∙ get_or-append_seam before s rest d

all_there : (P : Step → Type 0) (list : List Step) (k : ℕ) (d : Step) → AllByRecursion P list → k < length list → P (slice_index_or list k d)
all_there P [] k d h lt = absurd (omega arith)
all_there P (x ∷ xs) zero d h lt = h.0
all_there P (x ∷ xs) (suc k) d h lt = all_there P xs k d h.1 (omega arith)

module _ (p : Replay) (list : List Step) (each : List Reached) (begin cpus : Reached) (reached : AreReached p list each begin cpus)
    (low : AllByRecursion (λ s. s.actor ≤ cpus_of p) list) (l : ℕ) (le : l ≤ length list) (stand : AllMayStand (cpus_of p) each begin cpus l list) where
  abbrev at : ℕ → ℕ
  at a = (slice_index_or each a begin).at

  abbrev on : ℕ → Bool
  on a = (slice_index_or each a begin).on_list

  any_default : (a : ℕ) → a ≤ cpus_of p → (d : Reached) → slice_index_or each a d ≡ slice_index_or each a begin
  any_default a small d = get_or_default each a d begin (let c = reached.count in omega arith)

  -- ---- what each actor made up to a place

  -- behind its place an actor has no step up to the stop
  none_behind : (a : ℕ) (k : ℕ) → k ≤ l → at a ≤ k → of_actor a (drop (at a) (take k list)) ≡ []
  none_behind a k kl ak = none_own a (take (at a) list) (drop (at a) (take k list)) (λ bs u cs q long own. beyond bs u cs (whole ∙ q) long own)
    where
      whole : take k list ≡ take (at a) list ++ drop (at a) (take k list)
      whole = sym (take-append-drop (at a) (take k list)) ∙ ap (λ xs. xs ++ drop (at a) (take k list)) (take_again (at a) k list ak)

      beyond : (bs : List Step) (u : Step) (cs : List Step) → take k list ≡ bs ++ u ∷ cs → length (take (at a) list) ≤ length bs → u.actor ≡ a → ⊥
      beyond bs u cs q long own =
          let size : length (take (at a) list) ≡ at a = length-take-le (at a) list (omega arith) in
          let small : length bs < k = (let n = ap length q ∙ length-append bs (u ∷ cs) in let m = length-take-le k list (omega arith) in omega arith) in
          let there = step_there list k bs u cs u q (omega arith) in
          let f : length bs < at a =
          subst (λ b. length bs < (slice_index_or each b begin).at) (ap (λ (s : Step). s.actor) there ∙ own) ((stand (length bs) u (omega arith)).followed begin) in
          omega arith

  front_is : (a : ℕ) (k : ℕ) → k ≤ l → at a ≤ k → of_actor a (take k list) ≡ of_actor a (take (at a) list)
  front_is a k kl ak =
      split_front a list (at a) k ak ∙ ap (λ xs. of_actor a (take (at a) list) ++ xs) (none_behind a k kl ak) ∙ append-nil (of_actor a (take (at a) list))

  back_is : (a : ℕ) → at a ≤ l → of_actor a (drop l list) ≡ of_actor a (drop (at a) list)
  back_is a al =
      sym (ap (of_actor a) (ap (drop (at a)) (sym (take-append-drop l list)) ∙ drop-append-le (at a) (take l list) (drop l list) (let m = length-take-le l list le in omega arith))
      ∙ of_actor-append a (drop (at a) (take l list)) (drop l list) ∙ ap (λ xs. xs ++ of_actor a (drop l list)) (none_behind a l (omega arith) al))

  to : (a : ℕ) → a ≤ cpus_of p → (k : ℕ) → k ≤ l → Begins (program_of p a) (of_actor a (take k list))
  to a small k kl = by_place (less_or_not k (at a))
    where
      f : IsFollowed (program_of p a) a list (at a) (on a)
      f = reached.followed a begin small

      made : Begins (program_of p a) (of_actor a (take (at a) list))
      made = followed_begins (program_of p a) (of_actor a (take (at a) list)) f.strays (of_actor a (drop (at a) list)) f.followed

      by_place : (k < at a) ⊎ (at a ≤ k) → Begins (program_of p a) (of_actor a (take k list))
      by_place (inl lt) = Begins-front (program_of p a) (of_actor a (take k list)) (of_actor a (drop k (take (at a) list)))
          (subst (Begins (program_of p a)) (split_front a list k (at a) (omega arith)) made)
      by_place (inr ak) = subst (Begins (program_of p a)) (sym (front_is a k kl ak)) made

  -- ---- up to the stop

  actors_low : AtEach (λ before s. s.actor ≤ cpus_of p) (take l list)
  actors_low = AtEach-front (λ before s. s.actor ≤ cpus_of p) (take l list) (drop l list)
      (subst (AtEach (λ before s. s.actor ≤ cpus_of p)) (sym (take-append-drop l list)) (cuts_of_each (λ s. s.actor ≤ cpus_of p) list low))

  here : (before : List Step) (s : Step) (rest : List Step) → take l list ≡ before ++ s ∷ rest → MayStand (cpus_of p) each begin cpus (length before) s
  here before s rest e =
      let lt : length before < l = (let k = ap length e ∙ length-append before (s ∷ rest) in let m = length-take-le l list le in omega arith) in
      subst (MayStand (cpus_of p) each begin cpus (length before)) (step_there list l before s rest s e le) (stand (length before) s lt)

  begin_passed : (k : ℕ) → k ≤ length list → HasDone (begin_of p) (of_actor (cpus_of p) (take k list)) → IsPassed begin k
  begin_passed k kl done =
      place_passed (begin_of p) (cpus_of p) list begin.at begin.on_list reached.begun reached.begun.within reached.begun.last_own k kl done

  after : AtEach (λ before s. s.actor ≢ cpus_of p → IsTrue begin.on_list × (begin.at ≤ length before)) (take l list)
  after before s rest e ne = (here before s rest e).after_begin ne

  behind : AtEach (λ before s. s.actor ≡ cpus_of p → HasDone (begin_of p) (of_actor (cpus_of p) before)
      → (cpu : ℕ) → cpu < cpus_of p → IsTrue (on cpu) × (at cpu ≤ length before)) (take l list)
  behind before s rest e own done cpu lt =
      let c = cut_at list l before s rest e le in
      let short : length before ≤ length list = (let k = ap length e ∙ length-append before (s ∷ rest) in let m = length-take-le l list le in omega arith) in
      let passed = begin_passed (length before) short (subst (λ xs. HasDone (begin_of p) (of_actor (cpus_of p) xs)) c.is done) in
      (reached.together (length before)).0 ((here before s rest e).before_end own passed) cpu begin lt

  -- the list can be made so far, where its replies, stamps and order are right
  front_has_parts : RepliesFollow (answers_of p) (take l list) → AtEach (IsStampedAfter (cpus_of p)) (take l list) → AtEach NotBeforeLast (take l list) → HasParts p (take l list)
  front_has_parts replies stamps order =
      has_parts p list l le at on (λ a small. reached.followed a begin small) to actors_low begin.at begin.on_list reached.begun after behind replies stamps order

  pub front_is_begun : RepliesFollow (answers_of p) (take l list) → AtEach (IsStampedAfter (cpus_of p)) (take l list) → AtEach NotBeforeLast (take l list) → IsBegun p (take l list)
  front_is_begun replies stamps order = parts_begun p (take l list) (front_has_parts replies stamps order)

  -- ---- and no further

  done_by : IsTrue begin.on_list → begin.at ≤ l → HasDone (begin_of p) (of_actor (cpus_of p) (take l list))
  done_by t al =
      let b = reached.begun in record {
        made = of_actor (cpus_of p) (take begin.at list);
        more = of_actor (cpus_of p) (drop begin.at (take l list));
        parts = split_front (cpus_of p) list begin.at l al;
        whole = followed_whole (begin_of p) (of_actor (cpus_of p) (take begin.at list)) (of_actor (cpus_of p) (drop begin.at list))
            (subst (λ ss. Followed (begin_of p) (of_actor (cpus_of p) (take begin.at list)) ss (of_actor (cpus_of p) (drop begin.at list))) (b.none.0 t) b.followed);
      }

  whole_done : {A : Type 0} (t : Interaction A) (xs : List Step) → IsWhole t xs → HasDone t xs
  whole_done t xs w = record { made = xs; more = []; parts = sym (append-nil xs); whole = w }

  -- what can come next may stand there
  module _ (d : Step) (lt : l < length list) (v : Step) (e : blank v ≡ blank (slice_index_or list l d)) (may : MayFollow p (take l list) v) where
    abbrev a : ℕ
    a = (slice_index_or list l d).actor

    small : a ≤ cpus_of p
    small = all_there (λ s. s.actor ≤ cpus_of p) list l d low lt

    actor_is : v.actor ≡ a
    actor_is = ap (λ (s : Step). s.actor) e

    by_place : (l < at a) ⊎ (at a ≤ l) → l < at a
    by_place (inl yet) = yet
    by_place (inr al) = absurd ((followed_limit p list a (at a) l (on a) (reached.followed a begin small) le (front_is a l (omega arith) al) (back_is a al)
        (λ other more. ap (λ (s : Step). s.actor) (get_or_default list l other d lt))).none d lt v e may)

    stands_there : MayStand (cpus_of p) each begin cpus l (slice_index_or list l d)
    stands_there = record {
      followed = λ any. subst (λ (r : Reached). l < r.at) (sym (any_default a small any)) (by_place (less_or_not l (at a)));
      after_begin = λ ne. begin_passed l le (whole_done (begin_of p) (of_actor (cpus_of p) (take l list)) (may.after_begin (λ q. ne (sym actor_is ∙ q))));
      before_end = λ own passed. (reached.together l).1 (λ cpu any small_cpu.
          let f = reached.followed cpu any (omega arith) in
          place_passed (program_of p cpu) cpu list (slice_index_or each cpu any).at (slice_index_or each cpu any).on_list f f.within f.last_own l le
          (whole_done (program_of p cpu) (of_actor cpu (take l list)) (may.before_end (actor_is ∙ own) (done_by passed.0 passed.1) cpu small_cpu)));
    }

  pub stop_is_limit : ((d : Step) → l < length list → MayStand (cpus_of p) each begin cpus l (slice_index_or list l d) → ⊥) → IsLimit p list l
  stop_is_limit stop = record { within = le; none = λ d lt v e may. stop d lt (stands_there d lt v e may) }

  -- ---- the whole list

  module _ (all : l ≡ length list) where
    at_low : (a : ℕ) → a ≤ cpus_of p → at a ≤ l
    at_low a small = let w = (reached.followed a begin small).within in omega arith

    pub all_whole_where_on : ((a : ℕ) (d : Reached) → a < length each → IsTrue (slice_index_or each a d).on_list) → AreAllWhole p list
    all_whole_where_on ons a small =
        (followed_whole_or_not p list a (at a) l (on a) (reached.followed a begin small) le (front_is a l (omega arith) (at_low a small)) (back_is a (at_low a small))
        (λ d lt. absurd (omega arith)) all).0 (ons a begin (let c = reached.count in omega arith))

    pub unfinished_where_off : (a : ℕ) (d : Reached) → a < length each → (slice_index_or each a d).on_list ≡ false → AreAllWhole p list → ⊥
    unfinished_where_off a d lt off whole =
        let small : a ≤ cpus_of p = (let c = reached.count in omega arith) in
        (followed_whole_or_not p list a (at a) l (on a) (reached.followed a begin small) le (front_is a l (omega arith) (at_low a small)) (back_is a (at_low a small))
        (λ e more. absurd (omega arith)) all).1 (ap (λ (r : Reached). r.on_list) (sym (any_default a small d)) ∙ off) (whole a small)
