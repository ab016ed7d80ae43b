-- What is found of entries that were made as steps once more, and then followed for all actors.
use Rattle.std.proofs.Common.{◌≡◌, ◌⊎◌, ◌+◌, ℕ, suc, ◌<◌, ◌≤◌, false, IsTrue, List, [], ◌∷◌, ◌++◌, length, map, take, drop, get_or, slice_index_or, sym, refl, ap, ◌∙◌, subst, arith, inl, inr}
use Rattle.std.proofs.lemmas.List.{get_or_default, length-map, take-append-drop}
use Rattle.std.proofs.Math.Seq.{drop-cons, take-length}
use Rattle.std.proofs.Math.ListN.{get_or-map}
use Rattle.std.specs.List.{AllByRecursion}
use Rattle.bt_core.specs.declared.step.Step.{Step}
use Rattle.bt_core.specs.Steps.{AtEach, RepliesFollow}
use Rattle.weave.proofs.Less.{less_or_not}
use Rattle.bt_meaning.specs.Interleavings.{IsReplayed}
use Rattle.bt_meaning.specs.Replays.{Replay, PlansAreOwn, answers_of, cpus_of}
use Rattle.step_entries.specs.Blank.{blank, without_item}
use Rattle.begun_meaning.specs.Begun.{IsBegun}
use Rattle.begun_meaning.specs.Parts.{IsStampedAfter, NotBeforeLast}
use Rattle.begun_meaning.specs.Wrong.{IsUnfinished, IsWrongStep, NoneFollows}
use Rattle.begun_meaning.proofs.Cuts.{AtEach-front, take_again}
use Rattle.begun_meaning.proofs.NoFurther.{wrong_step}
use Rattle.begun_meaning.proofs.WholeLists.{replayed}
use Rattle.agg_core.specs.Answers.{answer}
use Rattle.run_objects.specs.Worlds.{World}
use Rattle.account_replay.specs.Replaying.{CanBeMade, IsWrongNext}
use Rattle.account_follow.specs.declared.follow.Reached.{Reached}
use Rattle.account_steps.specs.Stops.{AllMayStand, AreReached, MayStand}
use Rattle.account_steps.proofs.AllActors.{wrong_at}
use Rattle.account_steps.proofs.FirstStop.{all_whole_where_on, front_is_begun, stop_is_limit, unfinished_where_off}
use Rattle.account_steps.proofs.Alike.{order_alike, order_too, replies_too, stamp_alike, stamps_too, told_alike}

-- what is wrong with the front of entries is wrong with them
front_wrong : (p : Replay) (entries : List Step) (n i : ℕ) → n ≤ length entries → i < n → IsWrongStep p (take n entries) i → IsWrongStep p entries i
front_wrong p entries n i within lt w = record {
  made = w.made;
  begun = w.begun;
  told = w.told ∙ take_again i n entries (omega arith);
  within = omega arith;
  no_more = λ others begun told. w.no_more others begun (told ∙ sym (take_again (suc i) n entries (omega arith)));
}

module _ (p : Replay) (entries made list : List Step) (all_blank : map blank entries ≡ entries) (short : length made ≤ length entries)
    (told : map blank made ≡ take (length made) (map blank entries)) (alike : map without_item list ≡ map without_item made)
    (replies : RepliesFollow (answers_of p) made) (stamps : AtEach (IsStampedAfter (cpus_of p)) made) (order : AtEach NotBeforeLast made)
    (wrong : (d : Step) → length made < length entries → IsWrongNext (cpus_of p) made (slice_index_or entries (length made) d))
    (each : List Reached) (begin cpus : Reached) (reached : AreReached p list each begin cpus) (low : AllByRecursion (λ s. s.actor ≤ cpus_of p) list)
    (stop : ℕ) (within : stop ≤ length list) (stand : AllMayStand (cpus_of p) each begin cpus stop list)
    (ends : (d : Step) → stop < length list → MayStand (cpus_of p) each begin cpus stop (slice_index_or list stop d) → ⊥) where
  size : length list ≡ length made
  size = sym (length-map list without_item) ∙ ap length alike ∙ length-map made without_item

  list_told : map blank list ≡ take (length made) entries
  list_told = told_alike list made alike ∙ told ∙ ap (take (length made)) all_blank

  front : (P : List Step → Step → Type 0) → AtEach P list → AtEach P (take stop list)
  front P h = AtEach-front P (take stop list) (drop stop list) (subst (AtEach P) (sym (take-append-drop stop list)) h)

  begun : IsBegun p (take stop list)
  begun = front_is_begun p list each begin cpus reached low stop within stand
      (front _ (replies_too made list (sym alike) p.maps (cpus_of p) replies)) (front _ (stamps_too made list (sym alike) (cpus_of p) stamps)) (front _ (order_too made list (sym alike) order))

  -- ---- the entry at the stop is wrong

  -- no step can come behind all that was made, where the next entry's stamp or order is wrong
  module _ (d : Step) (more : length made < length entries) where
    abbrev next : Step
    next = get_or entries (length made) d

    none : NoneFollows p list next
    none v e may = wrong d more
        (stamp_alike (cpus_of p) list made next next alike refl (subst (IsStampedAfter (cpus_of p) list) e may.stamp))
        (order_alike list made next next alike refl (subst (NotBeforeLast list) e may.order))

    blank_next : blank next ≡ next
    blank_next = sym (get_or-map blank entries (length made) d) ∙ ap (λ l. get_or l (length made) (blank d)) all_blank ∙ default
      where
        default : get_or entries (length made) (blank d) ≡ get_or entries (length made) d
        default = other entries (length made) more
          where
            other : (l : List Step) (i : ℕ) → i < length l → get_or l i (blank d) ≡ get_or l i d
            other l i lt = get_or_default l i (blank d) d lt

    wrong_end : IsBegun p list → IsWrongStep p entries (length made)
    wrong_end whole =
        let cut : map blank list ++ blank next ∷ drop (suc (length made)) entries ≡ entries =
        (λ i. list_told i ++ blank_next i ∷ drop (suc (length made)) entries)
        ∙ ap (λ l. take (length made) entries ++ l) (sym (drop-cons entries (length made) d more)) ∙ take-append-drop (length made) entries in
        subst (λ (z : List Step × ℕ). IsWrongStep p z.0 z.1) (λ i. (cut i, size i)) (wrong_step p list next (drop (suc (length made)) entries) whole none)

  pub is_wrong : (d : Step) → stop < length entries → IsWrongStep p entries stop
  is_wrong d lt = by_place (less_or_not stop (length list))
    where
      by_place : (stop < length list) ⊎ (length list ≤ stop) → IsWrongStep p entries stop
      by_place (inl early) = front_wrong p entries (length made) stop short (let n = size in omega arith)
          (subst (λ l. IsWrongStep p l stop) list_told (wrong_at p list stop d (stop_is_limit p list each begin cpus reached low stop within stand ends) begun early))
      by_place (inr late) =
          let all : stop ≡ length list = omega arith in
          let whole : IsBegun p list = subst (IsBegun p) (ap (λ n. take n list) all ∙ take-length list) begun in
          subst (IsWrongStep p entries) (sym (all ∙ size)) (wrong_end d (let n = size in omega arith) whole)

  -- ---- all entries tell a list that can be made

  module _ (every : length entries ≤ stop) where
    all : stop ≡ length list
    all = (let n = size in omega arith)

    whole : IsBegun p list
    whole = subst (IsBegun p) (ap (λ n. take n list) all ∙ take-length list) begun

    pub all_told : map blank list ≡ entries
    all_told = list_told ∙ ap (λ n. take n entries) (let n = size in let e : length made ≡ length entries = omega arith in e) ∙ take-length entries

    pub is_unfinished : (a : ℕ) (d : Reached) → a < length each → (slice_index_or each a d).on_list ≡ false → IsUnfinished p entries
    is_unfinished a d lt off = record { made = list; begun = whole; told = all_told; unfinished = unfinished_where_off p list each begin cpus reached low stop within stand all a d lt off }

    pub is_right : PlansAreOwn p → ((a : ℕ) (d : Reached) → a < length each → IsTrue (slice_index_or each a d).on_list) → IsReplayed p list
    is_right own ons = replayed p own list whole (all_whole_where_on p list each begin cpus reached low stop within stand all ons)

-- ---- as the code finds it

low_alike : (most : ℕ) (xs ys : List Step) → map without_item ys ≡ map without_item xs → AllByRecursion (λ s. s.actor ≤ most) xs → AllByRecursion (λ s. s.actor ≤ most) ys
low_alike most [] [] e h = tt
low_alike most [] (y ∷ ys) e h = absurd (let q : ⊥ = cc in q)
low_alike most (x ∷ xs) [] e h = absurd (let q : ⊥ = cc in q)
low_alike most (x ∷ xs) (y ∷ ys) e h =
    let head : without_item y ≡ without_item x = cc in
    let tail : map without_item ys ≡ map without_item xs = cc in
    (subst (λ a. a ≤ most) (sym (ap (λ (s : Step). s.actor) head)) h.0, low_alike most xs ys tail h.1)

actors_low : (w : World) (xs : List Step) → AllByRecursion (CanBeMade w) xs → AllByRecursion (λ s. s.actor ≤ w.cpus) xs
actors_low w [] h = tt
actors_low w (x ∷ xs) h = (h.0.actor, actors_low w xs h.1)

pub low_by : (w : World) (most : ℕ) (made list : List Step) → w.cpus ≡ most → map without_item list ≡ map without_item made → AllByRecursion (CanBeMade w) made → AllByRecursion (λ s. s.actor ≤ most) list
low_by w most made list is alike can = low_alike most made list alike (subst (λ n. AllByRecursion (λ (s : Step). s.actor ≤ n) made) is (actors_low w made can))

pub below_by : (list : List Step) (most size : ℕ) → size ≡ most + 1 → AllByRecursion (λ s. s.actor ≤ most) list → AllByRecursion (λ s. s.actor < size) list
below_by [] most size e h = tt
below_by (x ∷ xs) most size e h = ((let k = h.0 in omega arith), below_by xs most size e h.1)

module _ (p : Replay) (entries made list : List Step) (n : ℕ) (main : n ≡ cpus_of p) (all_blank : map blank entries ≡ entries) (short : length made ≤ length entries)
    (told : map blank made ≡ take (length made) (map blank entries)) (alike : map without_item list ≡ map without_item made)
    (replies : RepliesFollow (answer p.maps n) made) (stamps : AtEach (IsStampedAfter n) made) (order : AtEach NotBeforeLast made)
    (wrong : (d : Step) → length made < length entries → IsWrongNext n made (slice_index_or entries (length made) d))
    (each : List Reached) (begin cpus : Reached) (reached : AreReached p list each begin cpus) (low : AllByRecursion (λ s. s.actor ≤ cpus_of p) list)
    (l : List Step) (is_l : l ≡ list) (e : List Reached) (is_e : e ≡ each)
    (stop : ℕ) (within : stop ≤ length l) (stand : AllMayStand n e begin cpus stop l)
    (ends : (d : Step) → stop < length l → MayStand n e begin cpus stop (slice_index_or l stop d) → ⊥) where
  here : {P : Type 0} → ((replies : RepliesFollow (answers_of p) made) (stamps : AtEach (IsStampedAfter (cpus_of p)) made)
      (wrong : (d : Step) → length made < length entries → IsWrongNext (cpus_of p) made (slice_index_or entries (length made) d)) (within : stop ≤ length list)
      (stand : AllMayStand (cpus_of p) each begin cpus stop list)
      (ends : (d : Step) → stop < length list → MayStand (cpus_of p) each begin cpus stop (slice_index_or list stop d) → ⊥) → P) → P
  here f = f
      (subst (λ m. RepliesFollow (answer p.maps m) made) main replies)
      (subst (λ m. AtEach (IsStampedAfter m) made) main stamps)
      (λ d lt. subst (λ m. IsWrongNext m made (slice_index_or entries (length made) d)) main (wrong d lt))
      (subst (λ z. stop ≤ length z) is_l within)
      (subst (λ (z : (ℕ × List Step) × List Reached). AllMayStand z.0.0 z.1 begin cpus stop z.0.1) (λ i. ((main i, is_l i), is_e i)) stand)
      (subst (λ (z : (ℕ × List Step) × List Reached). (d : Step) → stop < length z.0.1 → MayStand z.0.0 z.1 begin cpus stop (slice_index_or z.0.1 stop d) → ⊥)
      (λ i. ((main i, is_l i), is_e i)) ends)

  pub found_wrong : (d : Step) → stop < length entries → IsWrongStep p entries stop
  found_wrong d lt = here (λ r s w i a o. is_wrong p entries made list all_blank short told alike r s order w each begin cpus reached low stop i a o d lt)

  pub found_unfinished : length entries ≤ stop → (a : ℕ) (d : Reached) → a < length each → (slice_index_or each a d).on_list ≡ false → IsUnfinished p entries
  found_unfinished every a d lt off = here (λ r s w i st o. is_unfinished p entries made list all_blank short told alike r s order w each begin cpus reached low stop i st o every a d lt off)

  pub found_right : length entries ≤ stop → PlansAreOwn p → ((a : ℕ) (d : Reached) → a < length each → IsTrue (slice_index_or each a d).on_list) → IsReplayed p list × (map blank list ≡ entries)
  found_right every own ons = here (λ r s w i st o. (
    is_right p entries made list all_blank short told alike r s order w each begin cpus reached low stop i st o every own ons,
    all_told p entries made list all_blank short told alike r s order w each begin cpus reached low stop i st o every,
  ))
