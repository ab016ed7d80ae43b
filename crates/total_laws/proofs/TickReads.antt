-- What a read after the last crossing of a tick sees.
use Rattle.std.proofs.Common.{◌≡◌, ◌⊎◌, ℕ, ◌<◌, ◌≤◌, ◌&&◌, Bool, true, false, cond, List, [], ◌∷◌, ◌++◌, length, refl, sym, ap, ◌∙◌, subst, inl, inr, eq-eqb, eqb-true, append_assoc, arith}
use Rattle.std.specs.Prelude.{slice_get, Option, Some, None, IsSomeAnd}
use Rattle.std.specs.List.{AllByRecursion, filter}
use Rattle.std.proofs.lemmas.List.Elements.{filter-append}
use Rattle.std.proofs.lemmas.Option.{slice_get_within}
use Rattle.bt_ast.specs.declared.attached.Attached.{Attached}
use Rattle.bt_core.specs.declared.limits.TheConstants.{KEYS}
use Rattle.bt_core.specs.declared.map.AggKind.{AggKind}
use Rattle.bt_core.specs.declared.map.MapDecl.{MapDecl}
use Rattle.bt_core.specs.declared.map.MapId.{MapId}
use Rattle.bt_core.specs.declared.step.ObjectId.{ObjectId}
use Rattle.bt_core.specs.declared.step.ObjectId.TheVariants.{Cpu}
use Rattle.bt_core.specs.declared.step.Op.{Op}
use Rattle.bt_core.specs.declared.step.Op.TheVariants.{Add, Read}
use Rattle.bt_core.specs.declared.step.Reply.TheVariants.{Aggs}
use Rattle.bt_core.specs.declared.step.Step.{Step}
use Rattle.bt_core.specs.Ports.{CanStep}
use Rattle.bt_core.specs.Steps.{is_of, of_actor, is_on, is_same_object, on_object, operations}
use Rattle.recordings.specs.declared.recording.Recording.{Recording}
use Rattle.typed_tree.specs.declared.script.Typed.{Typed}
use Rattle.agg_core.specs.Answers.{agg_kind_in, back, table_change}
use Rattle.bt_meaning.specs.OwnSteps.{setting_of, IsOwnStep}
use Rattle.bt_meaning.specs.Replays.{Replay, answers_of}
use Rattle.bt_meaning.specs.Ticks.{HasDoneBefore}
use Rattle.bt_meaning.specs.Totals.{Addition, added, addition_keys}
use Rattle.bt_meaning.specs.Walks.{replay_of}
use Rattle.bt_meaning.proofs.Eachs.{each_front, each_back}
use Rattle.bt_meaning.proofs.Stepping.{own_part}
use Rattle.bt_meaning.proofs.TicksAfter.{ticks_after}
use Rattle.bt_meaning.proofs.Walked.{walks_stop}
use Rattle.total_laws.specs.Reads.{BeginsWith, add_steps_of, is_add}
use Rattle.total_laws.specs.Ends.{IsAddingRun, aggregate_rows, entries_in, ReadsSeeAllBefore}
use Rattle.total_laws.proofs.Adding.{entries_append}
use Rattle.total_laws.proofs.Exact.{fits, given, given_few}
use Rattle.total_laws.proofs.MapEnds.{few}
use Rattle.total_laws.proofs.PutLaws.{few_keys}
use Rattle.total_laws.proofs.Spans.{few_front}
use Rattle.total_laws.proofs.Tables.{FitsStep, table_puts}

-- a step that is there is one of a served map
served_low : (maps : List MapDecl) (i : ℕ) (o : Option MapDecl) (P : MapDecl → Type 0) → slice_get maps i ≡ o → IsSomeAnd o P → i < length maps
served_low maps i None P e h = absurd h
served_low maps i (Some decl) P e h = slice_get_within maps i decl e

all_own : (a : ℕ) (ss : List Step) → AllByRecursion (λ x. x.actor ≡ a) (of_actor a ss)
all_own a [] = tt
all_own a (s ∷ ss) =
    let rest = all_own a ss in
    elim (is_of a s) as (λ t. is_of a s ≡ t → AllByRecursion (λ x. x.actor ≡ a) (cond t (s ∷ of_actor a ss) (of_actor a ss)))
    [ true ↦ (λ q. (eqb-true s.actor a q, rest)) | false ↦ (λ q. rest) ] refl

-- ---- the steps that add

module _ (m : MapId) where
  of_fits : (a : ℕ) (ss : List Step) → AllByRecursion (λ s. FitsStep m s.actor s) ss → AllByRecursion (FitsStep m a) (of_actor a ss)
  of_fits a [] h = tt
  of_fits a (s ∷ ss) h =
      let rest = of_fits a ss h.1 in
      elim (is_of a s) as (λ t. is_of a s ≡ t → AllByRecursion (FitsStep m a) (cond t (s ∷ of_actor a ss) (of_actor a ss)))
      [ true ↦ (λ q. (subst (λ (b : ℕ). FitsStep m b s) (eqb-true s.actor a q) h.0, rest)) | false ↦ (λ q. rest) ] refl

  no_add : (op : Op) → is_add op ≡ false → added m op ≡ []
  no_add (Add number key value) e = cc
  no_add op e = refl

  -- a step that is not kept adds nothing
  not_kept : (a : ℕ) (s : Step) → FitsStep m a s → (is_on (Cpu a) s && is_add s.op) ≡ false → added m s.op ≡ []
  not_kept a s fit e = by_side fit.1
    where
      by_side : (added m s.op ≡ []) ⊎ (s.object ≡ Cpu a) → added m s.op ≡ []
      by_side (inl nothing) = nothing
      by_side (inr home) =
          let here : is_on (Cpu a) s ≡ true = ap (λ (o : ObjectId). is_same_object o (Cpu a)) home ∙ eq-eqb a a refl in
          no_add s.op (sym (λ i. here i && is_add s.op) ∙ e)

  kept_adds : (a : ℕ) (ss : List Step) → AllByRecursion (FitsStep m a) ss → entries_in m (filter (λ s. is_on (Cpu a) s && is_add s.op) ss) ≡ entries_in m ss
  kept_adds a [] h = refl
  kept_adds a (s ∷ ss) h = by (kept_adds a ss h.1) (is_on (Cpu a) s && is_add s.op) refl
    where
      kept : List Step
      kept = filter (λ s. is_on (Cpu a) s && is_add s.op) ss

      by : entries_in m kept ≡ entries_in m ss → (b : Bool) → (is_on (Cpu a) s && is_add s.op) ≡ b
          → entries_in m (cond b (s ∷ kept) kept) ≡ added m s.op ++ entries_in m ss
      by rest true e = ap (λ (l : List Addition). added m s.op ++ l) rest
      by rest false e = rest ∙ ap (λ (l : List Addition). l ++ entries_in m ss) (sym (not_kept a s h.0 e))

module _ (script : Typed) (attached : Attached) (r : Recording) (steps : List Step) (run : IsAddingRun script attached r steps)
    (own : AllByRecursion (IsOwnStep script attached r) steps) where
  abbrev p : Replay
  p = replay_of script attached r

  abbrev n : ℕ
  n = length r.cpus

  module _ (cpu : ℕ) (lt : cpu < n) (m : MapId) (before : List Step) (s : Step) (after : List Step) (e : steps ≡ before ++ s ∷ after)
      (object : s.object ≡ Cpu cpu) (op : s.op ≡ Read m) where
    abbrev kind : AggKind
    kind = agg_kind_in script.maps m

    -- the map is one of the script
    low : m.0 < length script.maps
    low =
        let mine : IsOwnStep script attached r s = (each_back (IsOwnStep script attached r) before (s ∷ after) (subst (AllByRecursion (IsOwnStep script attached r)) e own)).0 in
        let can : CanStep (setting_of script attached r 0) (Cpu cpu) (Read m) = subst (λ (o : ObjectId). CanStep (setting_of script attached r 0) o (Read m)) object
        (subst (λ (q : Op). CanStep (setting_of script attached r 0) s.object q) op mine.0.0) in
        served_low script.maps m.0 (slice_get script.maps m.0) _ refl can.1

    before_fits : AllByRecursion (λ s. FitsStep m s.actor s) before
    before_fits = each_front (λ s. FitsStep m s.actor s) before (s ∷ after)
        (subst (AllByRecursion (λ s. FitsStep m s.actor s)) e (fits script attached r run.job run.only_adds m steps run.interleaving))

    parted : of_actor cpu steps ≡ of_actor cpu before ++ of_actor cpu (s ∷ after)
    parted = ap (of_actor cpu) e ∙ filter-append (is_of cpu) before (s ∷ after)

    before_few : length (addition_keys (entries_in m (of_actor cpu before))) ≤ KEYS
    before_few =
        let all = given_few script attached r run.job run.only_adds m steps run.interleaving kind (few script attached r steps run m low) cpu (omega arith) in
        let cut : given script attached r run.job run.only_adds m steps run.interleaving cpu ≡ entries_in m (of_actor cpu before) ++ entries_in m (of_actor cpu (s ∷ after)) =
        ap (entries_in m) parted ∙ entries_append m (of_actor cpu before) (of_actor cpu (s ∷ after)) in
        let fewer = few_front (entries_in m (of_actor cpu before)) (entries_in m (of_actor cpu (s ∷ after))) in
        let whole = subst (λ (l : List Addition). length (addition_keys l) ≤ KEYS) cut all in omega arith

    reply_is : s.reply ≡ Aggs (aggregate_rows kind (entries_in m (add_steps_of cpu before)))
    reply_is =
        let puts = table_puts m cpu before before_fits in
        let rows = few_keys kind (back (table_change m) (operations (on_object (Cpu cpu) before))) puts.0
        (subst (λ (g : List Addition). length (addition_keys g) ≤ KEYS) (sym puts.1) before_few) in
        let kept = kept_adds m cpu (of_actor cpu before) (of_fits m cpu before before_fits) in
        run.interleaving.replies before s after e ∙ (λ i. answers_of p (object i) (operations (on_object (object i) before)) (op i))
        ∙ ap Aggs (rows.0 ∙ ap (aggregate_rows kind) (puts.1 ∙ sym kept))

    begins : BeginsWith (add_steps_of cpu steps) (add_steps_of cpu before)
    begins = let test : Step → Bool = λ x. is_on (Cpu cpu) x && is_add x.op in
        (filter test (of_actor cpu (s ∷ after)), ap (filter test) parted ∙ filter-append test (of_actor cpu before) (of_actor cpu (s ∷ after)))

  done_later : (tick cpu : ℕ) (earlier more : List Step) → HasDoneBefore p tick cpu earlier → HasDoneBefore p tick cpu (earlier ++ more)
  done_later tick cpu earlier more has = record {
    earlier = has.earlier;
    later = has.later;
    stands = has.stands;
    done = record {
      track = has.done.track;
      there = has.done.there;
      made = has.done.made;
      more = has.done.more ++ of_actor cpu more;
      begins = filter-append (is_of cpu) earlier more ∙ ap (λ (l : List Step). l ++ of_actor cpu more) has.done.begins
          ∙ append_assoc has.done.made has.done.more (of_actor cpu more);
      outcome = has.done.outcome;
      goes_on = has.done.goes_on;
      whole = has.done.whole;
    };
    entries = has.entries;
  }

  held : (tick cpu : ℕ) (before : List Step) (has : HasDoneBefore p tick cpu before) → BeginsWith (add_steps_of cpu before) (add_steps_of cpu has.done.made)
  held tick cpu before has =
      let test : Step → Bool = λ x. is_on (Cpu cpu) x && is_add x.op in
      let own_made : of_actor cpu has.done.made ≡ has.done.made =
      own_part cpu has.done.made (each_front (λ x. x.actor ≡ cpu) has.done.made has.done.more (subst (AllByRecursion (λ x. x.actor ≡ cpu)) has.done.begins (all_own cpu before))) in (
        filter test has.done.more,
        ap (filter test) has.done.begins ∙ filter-append test has.done.made has.done.more
            ∙ ap (λ (l : List Step). filter test l ++ filter test has.done.more) (sym own_made),
      )

  pub reads_see : ReadsSeeAllBefore p steps
  reads_see tick cpu m earlier between after crossing s lt e last object op =
      let cut : steps ≡ earlier ++ crossing ∷ (between ++ s ∷ after) = e ∙ append_assoc earlier (crossing ∷ between) (s ∷ after) in
      let ticks = ticks_after p run.job.valid run.job.in_turn (λ actor. refl) (walks_stop script attached r) steps run.interleaving in
      let done = done_later tick cpu earlier (crossing ∷ between) (ticks.all_before earlier crossing (between ++ s ∷ after) tick cut last cpu lt) in
      record {
        beginning = begins cpu lt m (earlier ++ crossing ∷ between) s after e object op;
        events = done;
        holds = held tick cpu (earlier ++ crossing ∷ between) done;
        reply = reply_is cpu lt m (earlier ++ crossing ∷ between) s after e object op;
      }
