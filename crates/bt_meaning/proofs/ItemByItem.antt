-- Items taken one after the other: what each CPU does of them is the program of its own items.
use Rattle.std.proofs.Common.{◌≡◌, ◌≢◌, ℕ, zero, suc, ◌<◌, ◌==◌, Bool, true, false, cond, if◌then◌else◌, List, [], ◌∷◌, ◌++◌, map, filter, length, slice_index_or, slice_set, sym, refl, ap, ◌∙◌, subst, arith, append_assoc, append-nil, eq-eqb, ne_eqb}
use Rattle.std.specs.Prelude.{slice_get, Some}
use Rattle.std.specs.List.{AllByRecursion}
use Rattle.std.proofs.lemmas.List.{get_or-set_same, get_or-set_other, length-set}
use mathlib.Core.Logic.{dite}
use native.Mathlib.Decide.{ℕ_discrete}
use Rattle.bt_core.specs.declared.step.Step.{Step}
use Rattle.bt_core.specs.Interaction.{Interaction, Ended, and_then, Runs}
use Rattle.bt_core.specs.Steps.{of_actor, RepliesFollow}
use Rattle.bt_core.proofs.InteractionLaws.{Runs-and_then}
use Rattle.recordings.specs.declared.recording.CpuTrack.{CpuTrack}
use Rattle.actor_plan.specs.declared.agenda.AgendaItem.{AgendaItem}
use Rattle.actor_plan.specs.declared.outcome.Outcome.{Outcome}
use Rattle.actor_plan.specs.Programs.{after_count, item_work, items_program, then_program}
use Rattle.actor_plan.proofs.ProgramLaws.{join}
use Rattle.bt_meaning.specs.declared.schedule.Scheduled.{Scheduled}
use Rattle.bt_meaning.specs.Replays.{Replay, answers_of}
use Rattle.bt_meaning.specs.Schedules.{cpu_of_due, item_of_due}
use Rattle.bt_meaning.specs.Serial.{alone, alone_on, taken, then_steps, then_value}
use Rattle.bt_meaning.proofs.Eachs.{each_so, each_both}
use Rattle.bt_meaning.proofs.Stepping.{takes_whole, taken_own, taken_other, replies_taken}

-- whose item it is
abbrev pub is_own : ℕ → Scheduled → Bool
is_own cpu s = cpu_of_due s.due == cpu

abbrev pub item_of : Scheduled → AgendaItem
item_of s = item_of_due s.due

-- the items of one CPU
abbrev pub items_for : ℕ → List Scheduled → List AgendaItem
items_for cpu ss = map item_of (filter (is_own cpu) ss)

by_bool : {A : Type 0} (b : Bool) → (b ≡ true → A) → (b ≡ false → A) → A
by_bool true f g = f refl
by_bool false f g = g refl

-- where a place reads otherwise than beyond the end, it is one of the list
within : (going : List Bool) (cpu : ℕ) → slice_index_or going cpu false ≡ true → cpu < length going
within [] cpu e = absurd (let q : ⊥ = cc in q)
within (b ∷ bs) zero e = omega arith
within (b ∷ bs) (suc cpu) e = let r = within bs cpu e in omega arith

module _ {I : Type 0} (checks : Bool) (work : I → Interaction ℕ) where
  abbrev pub program : List I → Interaction Outcome
  program = items_program checks work

  goes_further : (rest : Interaction Outcome) (o v : Outcome) (ys : List Step) → o.to_end ≡ true → Runs rest ys v → Runs (then_program rest o) ys (after_count o.instructions v)
  goes_further rest o v ys on r =
      let run : Runs (and_then rest (λ q. Ended (after_count o.instructions q))) (ys ++ []) (after_count o.instructions v) =
      Runs-and_then rest (λ q. Ended (after_count o.instructions q)) ys [] v (after_count o.instructions v) r refl in
      subst (λ (z : List Step). Runs (then_program rest o) z (after_count o.instructions v)) (append-nil ys)
      (subst (λ (b : Bool). Runs (if b then and_then rest (λ q. Ended (after_count o.instructions q)) else Ended o) (ys ++ []) (after_count o.instructions v)) (sym on) run)

  has_ended : (rest : Interaction Outcome) (o : Outcome) → o.to_end ≡ false → Runs (then_program rest o) [] o
  has_ended rest o off = subst (λ (b : Bool). Runs (if b then and_then rest (λ q. Ended (after_count o.instructions q)) else Ended o) [] o) (sym off) refl

  -- one more item
  pub one_more : (front : List I) (i : I) (xs ys : List Step) (o v : Outcome) → o.to_end ≡ true → Runs (program front) xs o → Runs (program (i ∷ [])) ys v
      → Runs (program (front ++ i ∷ [])) (xs ++ ys) (after_count o.instructions v)
  one_more front i xs ys o v on r q = subst (λ (t : Interaction Outcome). Runs t (xs ++ ys) (after_count o.instructions v)) (sym (join checks work front (i ∷ [])))
      (Runs-and_then (program front) (then_program (program (i ∷ []))) xs ys o (after_count o.instructions v) r (goes_further (program (i ∷ [])) o v ys on q))

  -- an item behind the end
  pub passed_over : (front : List I) (i : I) (xs : List Step) (o : Outcome) → o.to_end ≡ false → Runs (program front) xs o → Runs (program (front ++ i ∷ [])) xs o
  passed_over front i xs o off r = subst (λ (t : Interaction Outcome). Runs t xs o) (sym (join checks work front (i ∷ [])))
      (subst (λ (l : List Step). Runs (and_then (program front) (then_program (program (i ∷ [])))) l o) (append-nil xs)
      (Runs-and_then (program front) (then_program (program (i ∷ []))) xs [] o o r (has_ended (program (i ∷ [])) o off)))

module _ (p : Replay) where
  -- ---- what is taken comes after what was there, by CPUs, and the replies follow

  abbrev pub took : Scheduled → List Step → List Step
  took s before = then_steps p (cpu_of_due s.due) (alone p (cpu_of_due s.due) (item_of s)) before

  abbrev pub next_going : Scheduled → List Bool → List Step → List Bool
  next_going s going before = slice_set going (cpu_of_due s.due) (then_value p (cpu_of_due s.due) (alone p (cpu_of_due s.due) (item_of s)) before).to_end

  pub is_taken : (s : Scheduled) (ss : List Scheduled) (going : List Bool) (before : List Step) → slice_index_or going (cpu_of_due s.due) false ≡ true
      → taken p (s ∷ ss) going before ≡ taken p ss (next_going s going before) (took s before)
  is_taken s ss going before e = ap (λ (b : Bool). if b then taken p ss (next_going s going before) (took s before) else taken p ss going before) e

  pub is_passed : (s : Scheduled) (ss : List Scheduled) (going : List Bool) (before : List Step) → slice_index_or going (cpu_of_due s.due) false ≡ false
      → taken p (s ∷ ss) going before ≡ taken p ss going before
  is_passed s ss going before e = ap (λ (b : Bool). if b then taken p ss (next_going s going before) (took s before) else taken p ss going before) e

  pub record TakenAll (ss : List Scheduled) (going : List Bool) (before : List Step) : Type 0 where
    pub made : List Step
    pub grew : taken p ss going before ≡ before ++ made
    pub by : AllByRecursion (λ s. s.actor < length going) made

  pub takes_all : (ss : List Scheduled) (going : List Bool) (before : List Step) → TakenAll ss going before
  takes_all [] going before = record { made = []; grew = sym (append-nil before); by = tt }
  takes_all (s ∷ ss) going before = by_bool (slice_index_or going (cpu_of_due s.due) false)
      (λ on. let cpu = cpu_of_due s.due in
      let one = takes_whole p cpu (alone p cpu (item_of s)) before in
      let rest = takes_all ss (next_going s going before) (took s before) in
      let long = length-set going cpu (then_value p cpu (alone p cpu (item_of s)) before).to_end in
      let low : cpu < length going = within going cpu on in
      record {
        made = one.made ++ rest.made;
        grew = is_taken s ss going before on ∙ rest.grew ∙ ap (λ l. l ++ rest.made) one.grew ∙ append_assoc before one.made rest.made;
        by = each_both (λ (z : Step). z.actor < length going) one.made rest.made
            (each_so (λ (z : Step). z.actor ≡ cpu) (λ (z : Step). z.actor < length going) (λ z e. subst (λ (n : ℕ). n < length going) (sym e) low) one.made one.by)
            (subst (λ (n : ℕ). AllByRecursion (λ (z : Step). z.actor < n) rest.made) long rest.by);
      })
      (λ off. let rest = takes_all ss going before in
      record { made = rest.made; grew = is_passed s ss going before off ∙ rest.grew; by = rest.by })

  pub replies_all : (ss : List Scheduled) (going : List Bool) (before : List Step) → RepliesFollow (answers_of p) before → RepliesFollow (answers_of p) (taken p ss going before)
  replies_all [] going before h = h
  replies_all (s ∷ ss) going before h = by_bool (slice_index_or going (cpu_of_due s.due) false)
      (λ on. subst (RepliesFollow (answers_of p)) (sym (is_taken s ss going before on)) (replies_all ss (next_going s going before) (took s before)
      (replies_taken p (cpu_of_due s.due) (alone p (cpu_of_due s.due) (item_of s)) before h)))
      (λ off. subst (RepliesFollow (answers_of p)) (sym (is_passed s ss going before off)) (replies_all ss going before h))

  -- ---- what one CPU does

  module _ (a : ℕ) (track : CpuTrack) (there : slice_get p.recording.cpus a ≡ Some track) where
    abbrev pub work_of : AgendaItem → Interaction ℕ
    work_of = item_work (p.plan a) p.recording p.attached track

    abbrev pub program_of : List AgendaItem → Interaction Outcome
    program_of = items_program p.exits work_of

    -- the CPU's program so far: it did these items, and goes on or not as the list says
    pub record SoFar (front : List AgendaItem) (going : List Bool) (before : List Step) : Type 0 where
      pub outcome : Outcome
      pub goes : outcome.to_end ≡ slice_index_or going a false
      pub runs : Runs (program_of front) (of_actor a before) outcome

    -- the CPU's program over more items is what the list has of the CPU
    pub record Goes (front : List AgendaItem) (ss : List Scheduled) (going : List Bool) (before : List Step) : Type 0 where
      pub outcome : Outcome
      pub runs : Runs (program_of (front ++ items_for a ss)) (of_actor a (taken p ss going before)) outcome

    module _ (s : Scheduled) (ss : List Scheduled) (front : List AgendaItem) (going : List Bool) (before : List Step) (lt : a < length going) (so : SoFar front going before) where
      abbrev cpu : ℕ
      cpu = cpu_of_due s.due

      abbrev i : AgendaItem
      i = item_of s

      its_items : cpu ≡ a → front ++ items_for a (s ∷ ss) ≡ (front ++ i ∷ []) ++ items_for a ss
      its_items e = ap (λ (b : Bool). front ++ map item_of (cond b (s ∷ filter (is_own a) ss) (filter (is_own a) ss))) (eq-eqb cpu a e)
          ∙ sym (append_assoc front (i ∷ []) (items_for a ss))

      not_its : cpu ≢ a → front ++ items_for a (s ∷ ss) ≡ front ++ items_for a ss
      not_its ne = ap (λ (b : Bool). front ++ map item_of (cond b (s ∷ filter (is_own a) ss) (filter (is_own a) ss))) (ne_eqb cpu a ne)

      to_goal : (further : List AgendaItem) (after : List Bool) (now : List Step) → front ++ items_for a (s ∷ ss) ≡ further ++ items_for a ss
          → taken p (s ∷ ss) going before ≡ taken p ss after now → Goes further ss after now → Goes front (s ∷ ss) going before
      to_goal further after now e f h = record {
        outcome = h.outcome;
        runs = subst (λ (z : List AgendaItem × List Step). Runs (program_of z.0) (of_actor a z.1) h.outcome) (λ k. (sym e k, sym f k)) h.runs;
      }

      alone_is : cpu ≡ a → alone p cpu i ≡ program_of (i ∷ [])
      alone_is e = ap (λ (n : ℕ). alone p n i) e ∙ ap (alone_on p a i) there

      own_taken : cpu ≡ a → slice_index_or going cpu false ≡ true → SoFar (front ++ i ∷ []) (next_going s going before) (took s before)
      own_taken e on =
          let t = takes_whole p cpu (alone p cpu i) before in
          let v = then_value p cpu (alone p cpu i) before in
          let was : so.outcome.to_end ≡ true = so.goes ∙ ap (λ (n : ℕ). slice_index_or going n false) (sym e) ∙ on in
          let run : Runs (program_of (i ∷ [])) t.made v = subst (λ (z : Interaction Outcome). Runs z t.made v) (alone_is e) t.runs in
          let got : of_actor a (took s before) ≡ of_actor a before ++ t.made =
          ap (λ (n : ℕ). of_actor n (took s before)) (sym e) ∙ taken_own p cpu (alone p cpu i) before ∙ ap (λ (n : ℕ). of_actor n before ++ t.made) e in
          let says : slice_index_or (next_going s going before) a false ≡ v.to_end =
          ap (λ (n : ℕ). slice_index_or (next_going s going before) n false) (sym e)
          ∙ get_or-set_same going cpu v.to_end false (subst (λ (n : ℕ). n < length going) (sym e) lt) in
          record {
            outcome = after_count so.outcome.instructions v;
            goes = sym says;
            runs = subst (λ (z : List Step). Runs (program_of (front ++ i ∷ [])) z (after_count so.outcome.instructions v)) (sym got)
                (one_more p.exits work_of front i (of_actor a before) t.made so.outcome v was so.runs run);
          }

      other_taken : cpu ≢ a → SoFar front (next_going s going before) (took s before)
      other_taken ne =
          let got = taken_other p a cpu (alone p cpu i) before ne in
          let v = then_value p cpu (alone p cpu i) before in
          let says : slice_index_or (next_going s going before) a false ≡ slice_index_or going a false = get_or-set_other going cpu a v.to_end false (λ e. ne (sym e)) in
          record { outcome = so.outcome; goes = so.goes ∙ sym says; runs = subst (λ (z : List Step). Runs (program_of front) z so.outcome) (sym got) so.runs }

      own_passed : cpu ≡ a → slice_index_or going cpu false ≡ false → SoFar (front ++ i ∷ []) going before
      own_passed e off =
          let ended : so.outcome.to_end ≡ false = so.goes ∙ ap (λ (n : ℕ). slice_index_or going n false) (sym e) ∙ off in
          record { outcome = so.outcome; goes = so.goes; runs = passed_over p.exits work_of front i (of_actor a before) so.outcome ended so.runs }

      long : a < length (next_going s going before)
      long = let e = length-set going cpu (then_value p cpu (alone p cpu i) before).to_end in omega arith

      item_goes : ((further : List AgendaItem) (after : List Bool) (now : List Step) → a < length after → SoFar further after now → Goes further ss after now)
          → Goes front (s ∷ ss) going before
      item_goes ih = dite (ℕ_discrete cpu a)
          (λ e. by_bool (slice_index_or going cpu false)
          (λ on. to_goal (front ++ i ∷ []) (next_going s going before) (took s before) (its_items e) (is_taken s ss going before on)
          (ih (front ++ i ∷ []) (next_going s going before) (took s before) long (own_taken e on)))
          (λ off. to_goal (front ++ i ∷ []) going before (its_items e) (is_passed s ss going before off)
          (ih (front ++ i ∷ []) going before lt (own_passed e off))))
          (λ ne. by_bool (slice_index_or going cpu false)
          (λ on. to_goal front (next_going s going before) (took s before) (not_its ne) (is_taken s ss going before on)
          (ih front (next_going s going before) (took s before) long (other_taken ne)))
          (λ off. to_goal front going before (not_its ne) (is_passed s ss going before off) (ih front going before lt so)))

    pub all_items : (ss : List Scheduled) (front : List AgendaItem) (going : List Bool) (before : List Step) → a < length going → SoFar front going before → Goes front ss going before
    all_items [] front going before lt so = record {
      outcome = so.outcome;
      runs = subst (λ (l : List AgendaItem). Runs (program_of l) (of_actor a before) so.outcome) (sym (append-nil front)) so.runs;
    }
    all_items (s ∷ ss) front going before lt so = item_goes s ss front going before lt so (all_items ss)
