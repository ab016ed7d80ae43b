-- The lists that can be made, and in which each actor's program is whole, are those that a run hands back.
use Rattle.std.proofs.Common.{◌≡◌, ◌≢◌, ℕ, suc, max, ◌+◌, ◌<◌, ◌≤◌, ◌||◌, nat_lt, Bool, true, false, cond, List, [], ◌∷◌, ◌++◌, length, take, drop}
use Rattle.std.proofs.Common.{inl, inr, get_or, slice_index_or, sym, refl, ap, ◌∙◌, subst, arith, eq-eqb, ne_eqb}
use Rattle.std.proofs.lemmas.Bool.{ltb-true}
use Rattle.std.proofs.lemmas.List.{append-nil, append_assoc, length-append, take-append-drop, length-take-le, get_or-append-add}
use Rattle.std.proofs.Math.Seq.{take-append_seam, drop-append_seam, drop-cons, take-suc, get_or-append_seam}
use Rattle.std.specs.List.{filter}
use mathlib.Core.Logic.{dite}
use native.Mathlib.Decide.{ℕ_discrete}
use Rattle.bt_core.specs.declared.step.Step.{Step}
use Rattle.bt_core.specs.Interaction.{Interaction, Ended, Asks, Runs, and_then}
use Rattle.bt_core.specs.Steps.{is_of, of_actor, on_object}
use Rattle.bt_core.proofs.StepLists.{of_actor-own, of_actor-append}
use Rattle.bt_core.proofs.InteractionLaws.{Runs-and_then}
use Rattle.weave.specs.Lists.{greatest}
use Rattle.weave.specs.Order.{comes_before}
use Rattle.weave.specs.Woven.{begin_steps, end_steps, main_clock, actor_clock, StampsFollow, StandsBetween}
use Rattle.weave.proofs.Less.{not_less, is_less}
use Rattle.actor_plan.specs.declared.outcome.Outcome.{Outcome}
use Rattle.actor_plan.specs.Programs.{actor_program, main_program}
use Rattle.bt_meaning.specs.Interleavings.{IsWhole, IsInterleaving, IsReplayed}
use Rattle.bt_meaning.specs.Replays.{Replay, PlansAreOwn, cpus_of, begin_of, cpu_of, end_of}
use Rattle.bt_meaning.proofs.ThreeParts.{HasLimits, interleaves, limits_of}
use Rattle.bt_meaning.proofs.CrossingRuns.{runs_split}
use Rattle.begun_meaning.specs.Begun.{IsBegun, HasDone, program_of, clock_after, AreAllWhole}
use Rattle.step_entries.proofs.Computations.{Runs-Begins-all, one_front}
use Rattle.begun_meaning.proofs.Cuts.{each_of_cuts, cuts_of_each, cut_twice, all_own, none_own}
use Rattle.begun_meaning.proofs.NoFurther.{parts_begun}

-- what a value is made of says nothing of the steps
unmapped : {A B : Type 0} (t : Interaction A) (f : A → B) (xs : List Step) (b : B) → Runs (and_then t (λ a. Ended (f a))) xs b → IsWhole t xs
unmapped (Ended a) f [] b h = record { value = a; runs = refl }
unmapped (Ended a) f (s ∷ ss) b h = absurd h
unmapped (Asks c g) f [] b h = absurd h
unmapped (Asks c g) f (s ∷ ss) b h = let r = unmapped (g s.reply) f ss b h.1 in record { value = r.value; runs = (h.0, r.runs) }

-- ---- clocks

pub of_both : (main a : ℕ) (xs : List Step) → greatest (filter (λ s. is_of main s || is_of a s) xs) ≡ max (greatest (of_actor main xs)) (greatest (of_actor a xs))
of_both main a [] = omega arith
of_both main a (x ∷ xs) = by_tests (is_of main x) (is_of a x) (of_both main a xs)
  where
    by_tests : (b c : Bool) → greatest (filter (λ s. is_of main s || is_of a s) xs) ≡ max (greatest (of_actor main xs)) (greatest (of_actor a xs))
        → greatest (cond (b || c) (x ∷ filter (λ s. is_of main s || is_of a s) xs) (filter (λ s. is_of main s || is_of a s) xs))
        ≡ max (greatest (cond b (x ∷ of_actor main xs) (of_actor main xs))) (greatest (cond c (x ∷ of_actor a xs) (of_actor a xs)))
    by_tests true true r = omega arith
    by_tests true false r = omega arith
    by_tests false true r = omega arith
    by_tests false false r = r

module _ (main begun : ℕ) (steps : List Step) (between : StandsBetween main begun steps) (before : List Step) (s : Step) (after : List Step) (e : steps ≡ before ++ s ∷ after) where
  cut_main : of_actor main steps ≡ of_actor main before ++ of_actor main (s ∷ after)
  cut_main = ap (of_actor main) e ∙ of_actor-append main before (s ∷ after)

  -- a CPU's step: BEGIN's are the main actor's before it
  begun_before : s.actor ≢ main → begin_steps main begun steps ≡ of_actor main before
  begun_before ne =
      ap (take begun) cut_main ∙ ap (λ k. take k (of_actor main before ++ of_actor main (s ∷ after))) (sym (between before s after e ne))
      ∙ take-append_seam (of_actor main before) (of_actor main (s ∷ after))

  only_mains : length (of_actor main before) < begun → of_actor main before ≡ before
  only_mains lt = all_own main [] before (λ bs u cs q ne.
      let w : steps ≡ bs ++ u ∷ (cs ++ s ∷ after) = e ∙ ap (λ l. l ++ s ∷ after) q ∙ append_assoc bs (u ∷ cs) (s ∷ after) in
      let k = between bs u (cs ++ s ∷ after) w ne in
      let m = ap length (ap (of_actor main) q ∙ of_actor-append main bs (u ∷ cs)) ∙ length-append (of_actor main bs) (of_actor main (u ∷ cs)) in omega arith)

  pub clocks : clock_after main before s.actor ≡ actor_clock main begun steps before s
  clocks = dite (ℕ_discrete s.actor main)
      (λ own. ap (λ (b : Bool). cond b (greatest before) (greatest (filter (λ u. is_of main u || is_of s.actor u) before))) (eq-eqb s.actor main own)
      ∙ by_begun (nat_lt (length (of_actor main before)) begun) refl
      ∙ sym (ap (λ (b : Bool). cond b (main_clock main begun before) (max (greatest (begin_steps main begun steps)) (greatest (of_actor s.actor before)))) (eq-eqb s.actor main own)))
      (λ ne. ap (λ (b : Bool). cond b (greatest before) (greatest (filter (λ u. is_of main u || is_of s.actor u) before))) (ne_eqb s.actor main ne)
      ∙ of_both main s.actor before ∙ ap (λ l. max (greatest l) (greatest (of_actor s.actor before))) (sym (begun_before ne))
      ∙ sym (ap (λ (b : Bool). cond b (main_clock main begun before) (max (greatest (begin_steps main begun steps)) (greatest (of_actor s.actor before)))) (ne_eqb s.actor main ne)))
    where
      by_begun : (b : Bool) → nat_lt (length (of_actor main before)) begun ≡ b → greatest before ≡ cond b (greatest (of_actor main before)) (greatest before)
      by_begun true q = ap greatest (sym (only_mains (ltb-true (length (of_actor main before)) begun q)))
      by_begun false q = refl

-- ---- programs

module _ (p : Replay) (own : PlansAreOwn p) where
  abbrev main : ℕ
  main = cpus_of p

  cpu_is : (cpu : ℕ) → cpu < main → program_of p cpu ≡ cpu_of p cpu
  unfolding actor_program
  cpu_is cpu lt = ap (λ (b : Bool). cond b (cpu_of p cpu) (main_program (p.plan cpu) p.recording p.attached)) (ap (λ n. nat_lt n main) (own cpu) ∙ is_less cpu main lt)

  main_is : program_of p main ≡ main_program (p.plan main) p.recording p.attached
  unfolding actor_program
  main_is = ap (λ (b : Bool). cond b (cpu_of p main) (main_program (p.plan main) p.recording p.attached)) (ap (λ n. nat_lt n main) (own main) ∙ not_less main main (omega arith))

  -- the main actor's whole steps are those of BEGIN and those of END
  record Halves (steps : List Step) : Type 0 where
    first : List Step
    last : List Step
    parts : steps ≡ first ++ last
    begin : IsWhole (begin_of p) first
    end : IsWhole (end_of p) last

  halves : (steps : List Step) → IsWhole (program_of p main) steps → Halves steps
  halves steps w =
      let r = runs_split (begin_of p) (λ begun. and_then (end_of p) (λ ended. Ended (record { to_end = true; instructions = begun + ended }))) steps w.value
      (subst (λ t. Runs t steps w.value) main_is w.runs) in
      record {
        first = r.front;
        last = r.back;
        parts = r.whole;
        begin = record { value = r.value; runs = r.first };
        end = unmapped (end_of p) (λ ended. record { to_end = true; instructions = r.value + ended }) r.back w.value r.second;
      }

  join : (first last : List Step) → IsWhole (begin_of p) first → IsWhole (end_of p) last → IsWhole (program_of p main) (first ++ last)
  join first last b e = record {
    value = record { to_end = true; instructions = b.value + e.value };
    runs = subst (λ (t : Interaction Outcome). Runs t (first ++ last) (record { to_end = true; instructions = b.value + e.value })) (sym main_is)
        (Runs-and_then (begin_of p) _ first last b.value _ b.runs
        (subst (λ (l : List Step). Runs {A = Outcome} (and_then (end_of p) (λ ended. Ended (record { to_end = true; instructions = b.value + ended }))) l (record { to_end = true; instructions = b.value + e.value })) (append-nil last)
        (Runs-and_then (end_of p) (λ ended. Ended (record { to_end = true; instructions = b.value + ended })) last [] e.value _ e.runs refl)));
  }

  -- ---- from what can be made to interleavings

  module _ (steps : List Step) (begun : IsBegun p steps) (whole : AreAllWhole p steps) where
    h : Halves (of_actor main steps)
    h = halves (of_actor main steps) (whole main (omega arith))

    firsts : take (length h.first) (of_actor main steps) ≡ h.first
    firsts = ap (take (length h.first)) h.parts ∙ take-append_seam h.first h.last

    lasts : drop (length h.first) (of_actor main steps) ≡ h.last
    lasts = ap (drop (length h.first)) h.parts ∙ drop-append_seam h.first h.last

    between : StandsBetween main (length h.first) steps
    between before s after e ne =
        let w = (begun before s after e).after_begin ne in
        ap length (one_front (begin_of p) (of_actor main before) h.first (of_actor main (s ∷ after)) h.last w.value h.begin.value w.runs h.begin.runs
        (sym (of_actor-append main before (s ∷ after)) ∙ ap (of_actor main) (sym e) ∙ h.parts))

    limits : HasLimits p (length h.first) steps
    limits = record {
      actors = each_of_cuts (λ s. s.actor ≤ main) [] steps (λ before s after e. (begun before s after e).actor);
      enough = (let k = ap length h.parts ∙ length-append h.first h.last in omega arith);
      begin = subst (IsWhole (begin_of p)) (sym firsts) h.begin;
      each_cpu = λ cpu lt. subst (λ t. IsWhole t (of_actor cpu steps)) (cpu_is cpu lt) (whole cpu (omega arith));
      end = subst (IsWhole (end_of p)) (sym lasts) h.end;
      between = between;
      replies = λ before s after e. (begun before s after e).reply;
    }

    pub replayed : IsReplayed p steps
    replayed =
        let it = interleaves p (length h.first) steps limits in
        record {
          interleaving = it;
          woven = record {
            order = λ k d le lt. in_order k d lt;
            stamps = subst (λ n. StampsFollow main n steps) (sym (same it))
                (λ before s after e. (begun before s after e).stamp ∙ ap (λ n. suc (max n (greatest (on_object s.object before)))) (clocks main (length h.first) steps between before s after e));
          };
        }
      where
        same : (it : IsInterleaving p steps) → length it.first ≡ length h.first
        same it =
            let l = limits_of p steps it in
            sym (length-take-le (length it.first) (of_actor main steps) l.enough)
            ∙ ap length (one_front (begin_of p) (begin_steps main (length it.first) steps) h.first (end_steps main (length it.first) steps) h.last l.begin.value h.begin.value l.begin.runs h.begin.runs
            (take-append-drop (length it.first) (of_actor main steps) ∙ h.parts))

        in_order : (k : ℕ) (d : Step) → k + 1 < length steps → comes_before (slice_index_or steps (k + 1) d) (slice_index_or steps k d) ≡ false
        in_order k d lt =
            let one : k + 1 ≡ suc k = omega arith in
            let cut : steps ≡ take (suc k) steps ++ get_or steps (suc k) d ∷ drop (suc (suc k)) steps =
            sym (take-append-drop (suc k) steps) ∙ ap (λ l. take (suc k) steps ++ l) (drop-cons steps (suc k) d (omega arith)) in
            ap (λ n. comes_before (slice_index_or steps n d) (slice_index_or steps k d)) one
            ∙ (begun (take (suc k) steps) (get_or steps (suc k) d) (drop (suc (suc k)) steps) cut).order (take k steps) (get_or steps k d) (take-suc steps k d (omega arith))

  -- ---- and back

  module _ (steps : List Step) (r : IsReplayed p steps) where
    abbrev n : ℕ
    n = length r.interleaving.first

    has : HasLimits p n steps
    has = limits_of p steps r.interleaving

    mains : of_actor main steps ≡ begin_steps main n steps ++ end_steps main n steps
    mains = sym (take-append-drop n (of_actor main steps))

    pub all_whole : AreAllWhole p steps
    all_whole actor le = dite (ℕ_discrete actor main)
        (λ e. subst (λ a. IsWhole (program_of p a) (of_actor a steps)) (sym e)
        (subst (IsWhole (program_of p main)) (sym mains) (join (begin_steps main n steps) (end_steps main n steps) has.begin has.end)))
        (λ ne. let lt : actor < main = omega arith in subst (λ t. IsWhole t (of_actor actor steps)) (sym (cpu_is actor lt)) (has.each_cpu actor lt))

    -- where BEGIN is done, no CPU comes behind a step of the main actor
    done_is : (before : List Step) (s : Step) (after : List Step) → steps ≡ before ++ s ∷ after → HasDone (begin_of p) (of_actor main before) → n ≤ length (of_actor main before)
    done_is before s after e d =
        let same : d.made ≡ begin_steps main n steps = one_front (begin_of p) d.made (begin_steps main n steps) (d.more ++ of_actor main (s ∷ after)) (end_steps main n steps) d.whole.value has.begin.value d.whole.runs has.begin.runs
        (sym (append_assoc d.made d.more (of_actor main (s ∷ after))) ∙ ap (λ l. l ++ of_actor main (s ∷ after)) (sym d.parts) ∙ sym (of_actor-append main before (s ∷ after)) ∙ ap (of_actor main) (sym e) ∙ mains) in
        let many : length (begin_steps main n steps) ≡ n = length-take-le n (of_actor main steps) has.enough in
        let k = ap length d.parts ∙ length-append d.made d.more in
        let m = ap length same in omega arith

    pub begun_of_replayed : IsBegun p steps
    begun_of_replayed = parts_begun p steps (record {
      actors = cuts_of_each (λ s. s.actor ≤ main) steps has.actors;
      begins = λ actor le. let w = all_whole actor le in Runs-Begins-all (program_of p actor) (of_actor actor steps) w.value w.runs;
      replies = has.replies;
      after_begin = λ before s after e ne. subst (IsWhole (begin_of p)) (begun_before main n steps has.between before s after e ne) has.begin;
      before_end = λ before s after e own done cpu lt.
          let many = done_is before s after e done in
          let none : of_actor cpu (s ∷ after) ≡ [] = none_own cpu before (s ∷ after) (λ bs u cs q le by.
          dite (ℕ_discrete u.actor main) (λ z. absurd (let t : cpu ≡ main = sym by ∙ z in omega arith))
          (λ other. late before s after e own many bs u cs (e ∙ q) le other)) in
          subst (IsWhole (program_of p cpu)) (ap (of_actor cpu) e ∙ of_actor-append cpu before (s ∷ after) ∙ ap (λ l. of_actor cpu before ++ l) none ∙ append-nil (of_actor cpu before))
          (all_whole cpu (omega arith));
      stamps = λ before s after e. r.woven.stamps before s after e ∙ ap (λ k. suc (max k (greatest (on_object s.object before)))) (sym (clocks main n steps has.between before s after e));
      order = λ before s after e earlier t q. in_order before s after e earlier t q;
    })
      where
        late : (before : List Step) (s : Step) (after : List Step) → steps ≡ before ++ s ∷ after → s.actor ≡ main → n ≤ length (of_actor main before)
            → (bs : List Step) (u : Step) (cs : List Step) → steps ≡ bs ++ u ∷ cs → length before ≤ length bs → u.actor ≢ main → ⊥
        late before s after e own many bs u cs q le other = elim (cut_twice before s after bs u cs (sym e ∙ q) le) [
          | inl z ↦ other (ap (λ (x : Step). x.actor) (sym z) ∙ own)
          | inr z ↦ (let k = has.between bs u cs q other in
              let m = ap length (ap (of_actor main) z.1 ∙ of_actor-own main before s z.0 own) ∙ length-append (of_actor main before) (s ∷ of_actor main z.0) in omega arith)
        ]

        in_order : (before : List Step) (s : Step) (after : List Step) → steps ≡ before ++ s ∷ after → (earlier : List Step) (t : Step) → before ≡ earlier ++ t ∷ [] → comes_before s t ≡ false
        in_order before s after e earlier t q =
            let w : steps ≡ earlier ++ t ∷ (s ∷ after) = e ∙ ap (λ l. l ++ s ∷ after) q ∙ append_assoc earlier (t ∷ []) (s ∷ after) in
            let lt : length earlier + 1 < length steps = (let k = ap length w ∙ length-append earlier (t ∷ (s ∷ after)) in omega arith) in
            let one : slice_index_or steps (length earlier + 1) s ≡ s = ap (λ l. slice_index_or l (length earlier + 1) s) w ∙ get_or-append-add earlier (t ∷ (s ∷ after)) 1 s in
            let two : slice_index_or steps (length earlier) s ≡ t = ap (λ l. slice_index_or l (length earlier) s) w ∙ get_or-append_seam earlier t (s ∷ after) s in
            (λ i. comes_before (sym one i) (sym two i)) ∙ r.woven.order (length earlier) s (omega arith) lt
