-- Each step keeps the rule of the table.
use Rattle.std.proofs.Common.{◌≡◌, ◌≢◌, ℕ, zero, suc, ◌+◌, ◌-◌, ◌%◌, ◌^◌, ◌<◌, Bool, true, false, List, [], ◌∷◌, ◌++◌, length, get_or, set, Option, Some, sym, refl, ap, ◌∙◌, subst, inl, inr, ⊎_elim, arith}
use Rattle.std.proofs.lemmas.List.{append-nil}
use Rattle.std.proofs.Math.Nat.{mod-add-mod}
use mathlib.Core.Logic.{dite}
use mathlib.Core.Option.{some, none, some-injective, some-ne-none}
use mathlib.Core.Option as maybe
use native.Mathlib.Decide.{ℕ_discrete}
use lib.ListN.{get_elem?}
use lib.Seq.{set-get_or}
use Rattle.atomic_table.specs.Table.{State, Me, Act, Valid, keeps, takes, gives, stepped, homes_after, carried_after, put_back, rest, Allows, Splits, Joins, opening}
use Rattle.atomic_table.proofs.Lists.{at_set, set_else, set_again, one_turn}
use Rattle.bt_core.specs.declared.step.Op.{Op}
use Rattle.turn_lock.specs.declared.entry.Entry.{Entry}
use Rattle.turn_lock.specs.declared.view.Stage.{Stage}
use Rattle.turn_lock.specs.declared.view.Stage.TheVariants.{Idle, Waits, Holds}
use Rattle.turn_lock.specs.declared.view.Past.{Past}
use Rattle.turn_lock.specs.declared.view.View.{View}
use Rattle.turn_lock.specs.declared.view.Desk.{Desk}
use Rattle.turn_lock.specs.History.{Law, made_by, StartsWith, Each}
use Rattle.turn_lock.specs.Turns.{Part, part_of, nobody, newcomer, first_view, dealer_after, past_of, taking, keepsake, at_stage, busy, waiting, StageOk, CallerOk, KnowsPast, Knows, DeskOk, IsOut, IsHome, words_of, Kept, after, drew, left, looked, noted, Finds}
use Rattle.turn_lock.proofs.Parts.{put, put_here, put_else, at_snoc_place, waiting-le, waiting_put}
use Rattle.turn_lock.proofs.HistoryLemmas.{Each-weaken, Each-snoc, starts_with_itself, starts_with_nothing, starts_with_start, made_by_own, made_by_others, made_by_append}

abbrev W64 : ℕ
W64 = 2 ^ 64

-- what the rule knows of the seats, after the caller of one of them moved on
moved : (log log' : List Entry) (callers : ℕ → Part) (seat : ℕ → ℕ) (made id : ℕ) (views : List View) (v w : View) (p : Part)
    → StartsWith log' log → v.live ≡ true → get_elem? views id ≡ some v
    → w.live ≡ v.live → w.caller ≡ v.caller → w.made ≡ v.made → w.taken ≡ v.taken → part_of w ≡ p → StartsWith log' w.seen
    → ((j : ℕ) (x : View) → get_elem? views j ≡ some x → Knows log callers seat made j x)
    → (j : ℕ) (x : View) → get_elem? (set views id w) j ≡ some x → Knows log' (put callers v.caller p) seat made j x
moved log log' callers seat made id views v w p longer live at w_live w_caller w_made w_taken is seen all j x there = ⊎_elim
    (λ (t : (j ≡ id) × (w ≡ x)). subst (λ (z : ℕ × View). Knows log' callers' seat made z.0 z.1) (λ i. (sym t.0 i, t.1 i)) here)
    (λ (t : (j ≢ id) × (get_elem? views j ≡ some x)). let k = all j x t.1 in record {
      live = λ l. let a = k.live l in (a.0, a.1, put_else callers v.caller p x.caller (apart j x.caller t.0 a.1) ∙ a.2);
      deals = k.deals;
      taken = Each-weaken (KnowsPast log callers seat made j x.live x.caller) (KnowsPast log' callers' seat made j x.live x.caller)
          (λ q a. (a.0, a.1, put_else callers v.caller p q.caller (apart j q.caller t.0 a.1) ∙ a.2, a.3)) x.taken k.taken;
      seen = starts_with_start log' log x.seen longer k.seen;
    })
    (at_set views id j w x there)
  where
    mine : Knows log callers seat made id v
    mine = all id v at

    callers' : ℕ → Part
    callers' = put callers v.caller p

    apart : (j c : ℕ) → j ≢ id → seat c ≡ j → c ≢ v.caller
    apart j c ne e q = ne (sym e ∙ ap seat q ∙ (mine.live live).1)

    here : Knows log' callers' seat made id w
    here = record {
      live = λ _. let a = mine.live live in (
        subst (λ (c : ℕ). c < made) (sym w_caller) a.0,
        ap seat w_caller ∙ a.1,
        ap callers' w_caller
            ∙ put_here callers v.caller p ∙ sym is,
      );
      deals = λ h. let d = mine.deals (subst (λ (m : ℕ). 0 < m) w_made h) in (w_made ∙ d.0, d.1);
      taken = subst (λ (z : Bool × ℕ × List Past). Each (KnowsPast log' callers' seat made id z.0 z.1) z.2) (λ i. (sym w_live i, sym w_caller i, sym w_taken i))
          (Each-weaken (KnowsPast log callers seat made id v.live v.caller) (KnowsPast log' callers' seat made id v.live v.caller)
          (λ q a. (a.0, a.1, put_else callers v.caller p q.caller (a.3 live) ∙ a.2, a.3)) v.taken mine.taken);
      seen = seen;
    }

module _ {O : Type 0} (l : Law) (fits : O → List Op → Type 0) where
  abbrev S : Type 0
  S = Option (Desk O)

  abbrev St : Type 0
  St = State S View

  abbrev M : Type 0
  M = Me S View

  abbrev Rule : St → Type 0
  Rule = Kept l fits

  abbrev Homes : Type 0
  Homes = List (maybe.Option S)

  -- the state as it is, after a load that changes no view
  unmoved : (s : St) (i id : ℕ) (v : View) → get_elem? s.views id ≡ some v → Rule s
      → Rule record { words = set s.words i (get_or s.words i 0); homes = s.homes; views = set s.views id v }
  unmoved s i id v at r = subst (λ (z : List ℕ × List View). Rule record { words = z.0; homes = s.homes; views = z.1 })
      (λ k. (sym (set-get_or s.words i 0) k, sym (set_again s.views id v at) k)) r

  -- one more caller waits
  stage_more : (log : List Entry) (who : ℕ → ℕ) (base count x : ℕ) (homes : Homes) (c : ℕ) (st : Stage) → StageOk log who base count homes c st
      → StageOk log (put who count x) base (count + 1) homes c st
  stage_more log who base count x homes c Idle h = tt
  stage_more log who base count x homes c (Waits t) h = (h.0, omega arith, put_else who count x h.0 (λ e. omega arith) ∙ h.2, h.3)
  stage_more log who base count x homes c (Holds g) h = (omega arith, put_else who count x 0 (λ e. omega arith) ∙ h.1, h.2, h.3)

  not_idle_holds : (h : List Entry) → Idle ≡ Holds h → ⊥
  not_idle_holds h e = cc

  pub draws : (slots id : ℕ) (m : M) → m.0.live ≡ true → m.0.stage ≡ Idle → Allows Rule slots id m 8 (λ n. (n + 1) % 2 ^ 64) (λ n m'. drew m n m')
  draws slots id m live idle s r _ at _ = (w, keeps, tt, kept, refl)
    where
      v : View
      v = m.0

      c : ℕ
      c = v.caller

      n : ℕ
      n = get_or s.words 8 0

      w : View
      w = at_stage v (Waits n)

      p : Part
      p = part_of w

      mine : Knows r.log r.callers r.seat r.made id v
      mine = r.seats id v at

      inside : c < r.made
      inside = (mine.live live).0

      is : r.callers c ≡ part_of v
      is = (mine.live live).2

      n_is : n ≡ (r.base + r.count) % 2 ^ 64
      n_is = ap (λ ws. get_or ws 8 0) r.words

      callers' : ℕ → Part
      callers' = put r.callers c p

      who' : ℕ → ℕ
      who' = put r.who r.count c

      was : busy (r.callers c).stage ≡ 0
      was = ap (λ (q : Part). busy q.stage) is ∙ ap busy idle

      kept : Rule (stepped s 8 ((n + 1) % 2 ^ 64) id m.1 w keeps)
      kept = record {
        log = r.log;
        callers = callers';
        seat = r.seat;
        who = who';
        base = r.base;
        count = r.count + 1;
        made = r.made;
        legal = r.legal;
        words = ap (λ ws. set ws 8 ((n + 1) % 2 ^ 64)) r.words ∙ (λ k. words_of (word k) (r.base % 2 ^ 64));
        few = (let a = waiting_put l.callers r.callers c p (omega (arith, inside, r.made_fits)) in let b = r.few in let d = was in omega arith);
        small = r.small;
        made_fits = r.made_fits;
        each = λ d lt. dite (ℕ_discrete d c)
            (λ e. subst (λ (z : ℕ). CallerOk r.log who' r.base (r.count + 1) s.homes z (callers' z)) (sym e) own)
            (λ ne. let old = r.each d lt in subst (CallerOk r.log who' r.base (r.count + 1) s.homes d) (sym (put_else r.callers c p d ne))
            record { mine = old.mine; seen = old.seen; stage = stage_more r.log r.who r.base r.count c s.homes d (r.callers d).stage old.stage });
        others = λ d le. let old = r.others d le in (old.0, ap (λ (q : Part). q.stage) (put_else r.callers c p d (λ e. omega (arith, inside))) ∙ old.1);
        slot = ⊎_elim (λ (t : IsOut l fits s.homes r.callers r.made r.log). inl (
          t.0,
          (
            t.1.0,
            t.1.1,
            (
              t.1.2.0,
              ap (λ (q : Part). q.stage)
                  (put_else r.callers c p t.1.0 (λ e. not_idle_holds t.1.2.0 (sym idle ∙ ap (λ (q : Part). q.stage) (sym is)
                  ∙ ap (λ (k : ℕ). (r.callers k).stage) (sym e) ∙ t.1.2.1))) ∙ t.1.2.1,
            ),
          ),
        )) inr r.slot;
        seats = moved r.log r.log r.callers r.seat r.made id s.views v w p (starts_with_itself r.log) live at refl refl refl refl refl mine.seen r.seats;
      }
        where
          word : (n + 1) % 2 ^ 64 ≡ (r.base + (r.count + 1)) % 2 ^ 64
          word = ap (λ (k : ℕ). (k + 1) % 2 ^ 64) n_is ∙ mod-add-mod (r.base + r.count) (2 ^ 64) 1
              ∙ ap (λ (k : ℕ). k % 2 ^ 64) (let a : r.base + r.count + 1 ≡ r.base + (r.count + 1) = omega arith in a)

          own : CallerOk r.log who' r.base (r.count + 1) s.homes c (callers' c)
          own = subst (CallerOk r.log who' r.base (r.count + 1) s.homes c) (sym (put_here r.callers c p)) record {
            mine = (r.each c inside).mine ∙ ap (λ (q : Part). q.mine) is;
            seen = mine.seen;
            stage = (r.count, omega arith, put_here r.who r.count c, n_is);
          }

  waits_is : (t u : ℕ) → Waits t ≡ Waits u → t ≡ u
  waits_is t u e = cc

  not_waits_holds : (t : ℕ) (h : List Entry) → Waits t ≡ Holds h → ⊥
  not_waits_holds t h e = cc

  holds_is : (h g : List Entry) → Holds h ≡ Holds g → h ≡ g
  holds_is h g e = cc

  -- the object is taken out: no other caller had it
  stage_out : (log : List Entry) (who : ℕ → ℕ) (base count : ℕ) (homes : Homes) (c : ℕ) (st : Stage) → StageOk {O = O} log who base count homes c st
      → StageOk {O = O} log who base count (none ∷ []) c st
  stage_out log who base count homes c Idle h = tt
  stage_out log who base count homes c (Waits t) h = h
  stage_out log who base count homes c (Holds g) h = (h.0, h.1, h.2, refl)

  pub looks : (W : Desk O → ℕ → List Entry → Type 0) (slots id : ℕ) (m : M) (t : ℕ) → ((d : Desk O) (k : ℕ) (h : List Entry) → Finds l fits d k h → W d k h)
      → m.0.live ≡ true → m.1 ≡ [] → m.0.stage ≡ Waits t → Allows Rule slots id m 16 (λ n. n) (λ n m'. looked W m n m')
  looks W slots id m t tells live empty waits s r _ at _ = dite (ℕ_discrete n t) comes
      (λ ne. (m.0, keeps, tt, unmoved s 16 id m.0 at r, λ u e. ((λ q. absurd (ne (q ∙ waits_is u t (sym e ∙ waits)))), λ _. refl)))
    where
      v : View
      v = m.0

      c : ℕ
      c = v.caller

      n : ℕ
      n = get_or s.words 16 0

      mine : Knows r.log r.callers r.seat r.made id v
      mine = r.seats id v at

      inside : c < r.made
      inside = (mine.live live).0

      is : r.callers c ≡ part_of v
      is = (mine.live live).2

      n_is : n ≡ r.base % 2 ^ 64
      n_is = ap (λ ws. get_or ws 16 0) r.words

      stage_is : (r.callers c).stage ≡ Waits t
      stage_is = ap (λ (q : Part). q.stage) is ∙ waits

      queued : (k : ℕ) × (k < r.count) × (r.who k ≡ c) × (t ≡ (r.base + k) % 2 ^ 64)
      queued = subst (StageOk r.log r.who r.base r.count s.homes c) stage_is (r.each c inside).stage

      few : r.count < 2 ^ 64
      few = let a = waiting-le l.callers r.callers in let b = r.few in let d = r.small in let e : 2 ^ 32 < 2 ^ 64 = omega arith in omega arith

      comes : n ≡ t → (w : View) × (a : Act S) × Valid s.homes m.1 a × Rule (stepped s 16 n id m.1 w a) × looked W m n (w, carried_after m.1 a)
      comes now = ⊎_elim (λ (o : IsOut l fits s.homes r.callers r.made r.log). absurd (out o)) home r.slot
        where
          first : queued.0 ≡ 0
          first = let e = one_turn r.base (r.base + queued.0) (2 ^ 64) (omega arith) (let a = queued.1 in let b = few in omega arith) (sym n_is ∙ now
              ∙ queued.3) in omega (arith, e)

          head_is : r.who 0 ≡ c
          head_is = ap r.who (sym first) ∙ queued.2

          some_wait : 0 < r.count
          some_wait = let a = queued.1 in omega arith

          out : IsOut l fits s.homes r.callers r.made r.log → ⊥
          out o = let other = subst (StageOk r.log r.who r.base r.count s.homes o.1.0) o.1.2.1 (r.each o.1.0 o.1.1).stage in
              let same : c ≡ o.1.0 = sym head_is ∙ other.1 in
              not_waits_holds t o.1.2.0 (sym stage_is ∙ ap (λ (k : ℕ). (r.callers k).stage) same ∙ o.1.2.1)

          home : IsHome l fits s.homes r.log → (w : View) × (a : Act S) × Valid s.homes m.1 a × Rule (stepped s 16 n id m.1 w a)
              × looked W m n (w, carried_after m.1 a)
          home (d, there, ok) = (w, takes 0 (Some d), ap (λ (hs : Homes). get_elem? hs 0) there, kept, tells_so)
            where
              w : View
              w = at_stage v (Holds r.log)

              p : Part
              p = part_of w

              callers' : ℕ → Part
              callers' = put r.callers c p

              homes_are : set s.homes 0 none ≡ none ∷ []
              homes_are = ap (λ (hs : Homes). set hs 0 none) there

              own : CallerOk {O = O} r.log r.who r.base r.count (none ∷ []) c (callers' c)
              own = subst (CallerOk {O = O} r.log r.who r.base r.count (none ∷ []) c) (sym (put_here r.callers c p)) record {
                mine = (r.each c inside).mine ∙ ap (λ (q : Part). q.mine) is;
                seen = mine.seen;
                stage = (some_wait, head_is, refl, refl);
              }

              there_out : Rule record { words = s.words; homes = none ∷ []; views = set s.views id w }
              there_out = record {
                log = r.log;
                callers = callers';
                seat = r.seat;
                who = r.who;
                base = r.base;
                count = r.count;
                made = r.made;
                legal = r.legal;
                words = r.words;
                few = (let a = waiting_put l.callers r.callers c p (omega (arith, inside, r.made_fits)) in let b = r.few in
                    let e : busy (r.callers c).stage ≡ 1 = ap busy stage_is in omega arith);
                small = r.small;
                made_fits = r.made_fits;
                each = λ e lt. dite (ℕ_discrete e c)
                    (λ q. subst (λ (z : ℕ). CallerOk {O = O} r.log r.who r.base r.count (none ∷ []) z (callers' z)) (sym q) own)
                    (λ ne. let old = r.each e lt in subst (CallerOk {O = O} r.log r.who r.base r.count (none ∷ []) e) (sym (put_else r.callers c p e ne))
                    record { mine = old.mine; seen = old.seen; stage = stage_out r.log r.who r.base r.count s.homes e (r.callers e).stage old.stage });
                others = λ e le. let old = r.others e le in (old.0, ap (λ (q : Part). q.stage) (put_else r.callers c p e (λ q. omega (arith, inside))) ∙ old.1);
                slot = inl (refl, (c, inside, (r.log, ap (λ (q : Part). q.stage) (put_here r.callers c p))));
                seats = moved r.log r.log r.callers r.seat r.made id s.views v w p
                    (starts_with_itself r.log) live at refl refl refl refl refl mine.seen r.seats;
              }

              kept : Rule (stepped s 16 n id m.1 w (takes 0 (Some d)))
              kept = subst (λ (z : List ℕ × Homes). Rule record { words = z.0; homes = z.1; views = set s.views id w })
                  (λ k. (sym (set-get_or s.words 16 0) k, sym homes_are k)) there_out

              tells_so : looked W m n (w, (0, Some d) ∷ m.1)
              tells_so u e = (
                (λ _. (
                  r.log,
                  d,
                  (λ k. (w, (0, Some d) ∷ empty k)),
                  tells d c r.log (ok, omega (arith, inside, r.made_fits)),
                  mine.seen,
                  (r.each c inside).mine ∙ ap (λ (q : Part). q.mine) is,
                )),
                λ ne. absurd (ne (now ∙ waits_is t u (sym waits ∙ e))),
              )

  -- the first of those that wait is done
  stage_less : (log log' : List Entry) (who : ℕ → ℕ) (base count : ℕ) (homes homes' : Homes) (c d : ℕ) (st : Stage) → d ≢ c → who 0 ≡ c
      → StageOk log who base count homes d st → StageOk log' (λ k. who (k + 1)) (base + 1) (count - 1) homes' d st
  stage_less log log' who base count homes homes' c d Idle ne first h = tt
  stage_less log log' who base count homes homes' c d (Waits t) ne first h = let later : h.0 ≢ 0 = λ e. ne (sym h.2 ∙ ap who e ∙ first) in let k : ℕ = h.0 in
      let same : k - 1 + 1 ≡ k = omega arith in
      (k - 1, (let a = h.1 in omega arith), ap who same ∙ h.2, h.3 ∙ ap (λ (z : ℕ). z % 2 ^ 64) (let a : base + k ≡ base + 1 + (k - 1) = omega arith in a))
  stage_less log log' who base count homes homes' c d (Holds g) ne first h = absurd (ne (sym h.1 ∙ first))

  pub leaves : (slots id : ℕ) (m : M) (h made : List Entry) (d : Desk O) → DeskOk l fits d (h ++ made) → Each (λ e. e.caller ≡ m.0.caller) made
      → m.0.live ≡ true → m ≡ (m.0, (0, Some d) ∷ []) → m.0.stage ≡ Holds h → Allows Rule slots id m 16 (λ n. (n + 1) % 2 ^ 64) (λ n m'. left made m m')
  leaves slots id m h made d ok by live has holds s r _ at _ =
      (w, gives, tt, kept, λ g e. (λ k. (after made v (holds_is h g (sym holds ∙ e) k), rest (has k).1)))
    where
      v : View
      v = m.0

      c : ℕ
      c = v.caller

      n : ℕ
      n = get_or s.words 16 0

      log' : List Entry
      log' = h ++ made

      w : View
      w = after made v h

      p : Part
      p = part_of w

      mine : Knows r.log r.callers r.seat r.made id v
      mine = r.seats id v at

      inside : c < r.made
      inside = (mine.live live).0

      is : r.callers c ≡ part_of v
      is = (mine.live live).2

      n_is : n ≡ r.base % 2 ^ 64
      n_is = ap (λ ws. get_or ws 16 0) r.words

      stage_is : (r.callers c).stage ≡ Holds h
      stage_is = ap (λ (q : Part). q.stage) is ∙ holds

      turn : (0 < r.count) × (r.who 0 ≡ c) × (h ≡ r.log) × (s.homes ≡ none ∷ [])
      turn = subst (StageOk r.log r.who r.base r.count s.homes c) stage_is (r.each c inside).stage

      longer : StartsWith log' r.log
      longer = (made, ap (λ (z : List Entry). z ++ made) turn.2)

      callers' : ℕ → Part
      callers' = put r.callers c p

      who' : ℕ → ℕ
      who' k = r.who (k + 1)

      homes' : Homes
      homes' = some (Some d) ∷ []

      homes_are : homes_after s.homes m.1 gives ≡ homes'
      homes_are = ap (λ (z : M). put_back s.homes z.1) has ∙ ap (λ (hs : Homes). set hs 0 (some (Some d))) turn.3

      words_are : set s.words 16 ((n + 1) % 2 ^ 64) ≡ words_of ((r.base + 1 + (r.count - 1)) % 2 ^ 64) ((r.base + 1) % 2 ^ 64)
      words_are = ap (λ ws. set ws 16 ((n + 1) % 2 ^ 64)) r.words ∙ (λ k. words_of (ticket k) (serving k))
        where
          ticket : (r.base + r.count) % 2 ^ 64 ≡ (r.base + 1 + (r.count - 1)) % 2 ^ 64
          ticket = ap (λ (k : ℕ). k % 2 ^ 64) (let a = turn.0 in let e : r.base + r.count ≡ r.base + 1 + (r.count - 1) = omega arith in e)

          serving : (n + 1) % 2 ^ 64 ≡ (r.base + 1) % 2 ^ 64
          serving = ap (λ (k : ℕ). (k + 1) % 2 ^ 64) n_is ∙ mod-add-mod r.base (2 ^ 64) 1

      own : CallerOk log' who' (r.base + 1) (r.count - 1) homes' c (callers' c)
      own = subst (CallerOk log' who' (r.base + 1) (r.count - 1) homes' c) (sym (put_here r.callers c p)) record {
        mine = made_by_append c h made ∙ (λ k. made_by c (turn.2 k) ++ made_by_own c made by k)
            ∙ ap (λ (z : List Entry). z ++ made) ((r.each c inside).mine ∙ ap (λ (q : Part). q.mine) is);
        seen = starts_with_itself log';
        stage = tt;
      }

      none_of : (e : ℕ) → e ≢ c → made_by e log' ≡ made_by e r.log
      none_of e ne = made_by_append e h made ∙ (λ k. made_by e (turn.2 k) ++ made_by_others c e made ne by k) ∙ append-nil (made_by e r.log)

      kept_so : Rule record { words = words_of ((r.base + 1 + (r.count - 1)) % 2 ^ 64) ((r.base + 1) % 2 ^ 64); homes = homes'; views = set s.views id w }
      kept_so = record {
        log = log';
        callers = callers';
        seat = r.seat;
        who = who';
        base = r.base + 1;
        count = r.count - 1;
        made = r.made;
        legal = ok.legal;
        words = refl;
        few = (let a = waiting_put l.callers r.callers c p (omega (arith, inside, r.made_fits)) in let b = r.few in
            let e : busy (r.callers c).stage ≡ 1 = ap busy stage_is in omega arith);
        small = r.small;
        made_fits = r.made_fits;
        each = λ e lt. dite (ℕ_discrete e c)
            (λ q. subst (λ (z : ℕ). CallerOk log' who' (r.base + 1) (r.count - 1) homes' z (callers' z)) (sym q) own)
            (λ ne. let old = r.each e lt in subst (CallerOk log' who' (r.base + 1) (r.count - 1) homes' e) (sym (put_else r.callers c p e ne))
            record {
              mine = none_of e ne ∙ old.mine;
              seen = starts_with_start log' r.log (r.callers e).seen longer old.seen;
              stage = stage_less r.log log' r.who r.base r.count s.homes homes' c e (r.callers e).stage ne turn.1 old.stage;
            });
        others = λ e le. let old = r.others e le in let ne : e ≢ c = λ q. omega (arith, inside) in
            (none_of e ne ∙ old.0, ap (λ (q : Part). q.stage) (put_else r.callers c p e ne) ∙ old.1);
        slot = inr (d, refl, ok);
        seats = moved r.log log' r.callers r.seat r.made id s.views v w p longer live at refl refl refl refl refl (starts_with_itself log') r.seats;
      }

      kept : Rule (stepped s 16 ((n + 1) % 2 ^ 64) id m.1 w gives)
      kept = subst (λ (z : List ℕ × Homes). Rule record { words = z.0; homes = z.1; views = set s.views id w })
          (λ k. (sym words_are k, sym homes_are k)) kept_so

  pub notes : (slots id : ℕ) (m : M) → m.0.live ≡ true → Allows Rule slots id m 16 (λ n. n) (λ n m'. noted m m')
  notes slots id m live s r _ at _ = (w, keeps, tt, kept, ((r.log, refl, made_by_mine, past, mine.seen), refl))
    where
      v : View
      v = m.0

      c : ℕ
      c = v.caller

      w : View
      w = record v { seen = r.log }

      p : Part
      p = part_of w

      mine : Knows r.log r.callers r.seat r.made id v
      mine = r.seats id v at

      inside : c < r.made
      inside = (mine.live live).0

      is : r.callers c ≡ part_of v
      is = (mine.live live).2

      made_by_mine : made_by c r.log ≡ v.mine
      made_by_mine = (r.each c inside).mine ∙ ap (λ (q : Part). q.mine) is

      past : Each (λ (q : Past). made_by q.caller r.log ≡ q.mine) v.taken
      past = Each-weaken (KnowsPast r.log r.callers r.seat r.made id v.live c) (λ q. made_by q.caller r.log ≡ q.mine) (λ q a. (r.each q.caller a.0).mine
          ∙ ap (λ (z : Part). z.mine) a.2) v.taken mine.taken

      callers' : ℕ → Part
      callers' = put r.callers c p

      own : CallerOk r.log r.who r.base r.count s.homes c (callers' c)
      own = let old = r.each c inside in subst (CallerOk r.log r.who r.base r.count s.homes c) (sym (put_here r.callers c p)) record {
        mine = made_by_mine;
        seen = starts_with_itself r.log;
        stage = subst (StageOk r.log r.who r.base r.count s.homes c) (ap (λ (q : Part). q.stage) is) old.stage;
      }

      same_stage : (e : ℕ) → (callers' e).stage ≡ (r.callers e).stage
      same_stage e = dite (ℕ_discrete e c)
          (λ q. ap (λ (k : ℕ). (callers' k).stage) q ∙ ap (λ (z : Part). z.stage) (put_here r.callers c p
          ∙ let x : p ≡ record (r.callers c) { seen = r.log } = (λ k. let z : Part = record (sym is k) { seen = r.log } in z) in x)
          ∙ ap (λ (k : ℕ). (r.callers k).stage) (sym q))
          (λ ne. ap (λ (z : Part). z.stage) (put_else r.callers c p e ne))

      kept_so : Rule record { words = s.words; homes = s.homes; views = set s.views id w }
      kept_so = record {
        log = r.log;
        callers = callers';
        seat = r.seat;
        who = r.who;
        base = r.base;
        count = r.count;
        made = r.made;
        legal = r.legal;
        words = r.words;
        few = (let a = waiting_put l.callers r.callers c p (omega (arith, inside, r.made_fits)) in let b = r.few in
            let e : busy (r.callers c).stage ≡ busy p.stage = ap (λ (q : Part). busy q.stage) is in omega arith);
        small = r.small;
        made_fits = r.made_fits;
        each = λ e lt. dite (ℕ_discrete e c)
            (λ q. subst (λ (z : ℕ). CallerOk r.log r.who r.base r.count s.homes z (callers' z)) (sym q) own)
            (λ ne. subst (CallerOk r.log r.who r.base r.count s.homes e) (sym (put_else r.callers c p e ne)) (r.each e lt));
        others = λ e le. let old = r.others e le in (old.0, same_stage e ∙ old.1);
        slot = ⊎_elim (λ (t : IsOut l fits s.homes r.callers r.made r.log). inl (t.0, (t.1.0, t.1.1, (t.1.2.0, same_stage t.1.0 ∙ t.1.2.1)))) inr r.slot;
        seats = moved r.log r.log r.callers r.seat r.made id s.views v w p (starts_with_itself r.log) live at refl refl refl refl refl
            (starts_with_itself r.log) r.seats;
      }

      kept : Rule (stepped s 16 (get_or s.words 16 0) id m.1 w keeps)
      kept = subst (λ (z : List ℕ). Rule record { words = z; homes = s.homes; views = set s.views id w }) (sym (set-get_or s.words 16 0)) kept_so

  -- one more caller is made
  pub splits : (id : ℕ) (v : View) → v.live ≡ true → 0 < v.made → v.made < l.callers → Splits Rule id v (dealer_after v) (newcomer v.made)
  splits id v live deals room s r at = record {
    log = r.log;
    callers = callers';
    seat = seat';
    who = r.who;
    base = r.base;
    count = r.count;
    made = r.made + 1;
    legal = r.legal;
    words = r.words;
    few = (let a = waiting_put l.callers r.callers n blank (omega (arith, n_is, room)) in let b = r.few in
        let e : busy (r.callers n).stage ≡ 0 = ap busy fresh.1 in omega arith);
    small = r.small;
    made_fits = omega (arith, n_is, room);
    each = λ e lt. dite (ℕ_discrete e n)
        (λ q. subst (λ (z : ℕ). CallerOk r.log r.who r.base r.count s.homes z (callers' z)) (sym q) own)
        (λ ne. subst (CallerOk r.log r.who r.base r.count s.homes e) (sym (put_else r.callers n blank e ne)) (r.each e (omega (arith, n_is))));
    others = λ e le. let old = r.others e (omega arith) in (
      old.0,
      ap (λ (z : Part). z.stage) (put_else r.callers n blank e (λ q. omega (arith, n_is)))
          ∙ old.1,
    );
    slot = ⊎_elim (λ (t : IsOut l fits s.homes r.callers r.made r.log). inl (
      t.0,
      (
        t.1.0,
        (let a = t.1.1 in omega arith),
        (
          t.1.2.0,
          ap (λ (z : Part). z.stage) (put_else r.callers n blank t.1.0 (λ q. let a = t.1.1 in omega (arith, n_is))) ∙ t.1.2.1,
        ),
      ),
    )) inr r.slot;
    seats = λ j x there. ⊎_elim (λ e. ⊎_elim
        (λ (t : (j ≡ id) × (dealer_after v ≡ x)). subst (λ (z : ℕ × View). Knows r.log callers' seat' (r.made + 1) z.0 z.1) (λ i. (sym t.0 i, t.1 i)) here)
        (λ (t : (j ≢ id) × (get_elem? s.views j ≡ some x)). elsewhere j x (λ h. absurd (t.0 (((r.seats j x t.1).deals h).1 ∙ sym (mine.deals deals).1))) t.1)
        (at_set s.views id j (dealer_after v) x e))
        (λ (t : (j ≡ length (set s.views id (dealer_after v))) × (newcomer n ≡ x)). subst (λ (z : ℕ × View). Knows r.log callers' seat' (r.made + 1) z.0 z.1)
        (λ i. (sym t.0 i, t.1 i)) new)
        (at_snoc_place (set s.views id (dealer_after v)) (newcomer n) x j there);
  }
    where
      n : ℕ
      n = v.made

      blank : Part
      blank = part_of (newcomer n)

      last : ℕ
      last = length (set s.views id (dealer_after v))

      callers' : ℕ → Part
      callers' = put r.callers n blank

      seat' : ℕ → ℕ
      seat' = put r.seat n last

      mine : Knows r.log r.callers r.seat r.made id v
      mine = r.seats id v at

      n_is : n ≡ r.made
      n_is = (mine.deals deals).0

      fresh : (made_by n r.log ≡ []) × ((r.callers n).stage ≡ Idle)
      fresh = r.others n (omega (arith, n_is))

      own : CallerOk r.log r.who r.base r.count s.homes n (callers' n)
      own = subst (CallerOk r.log r.who r.base r.count s.homes n) (sym (put_here r.callers n blank)) record {
        mine = fresh.0;
        seen = starts_with_nothing r.log;
        stage = tt;
      }

      older : (c : ℕ) → c < r.made → (callers' c ≡ r.callers c) × (seat' c ≡ r.seat c)
      older c lt = (put_else r.callers n blank c (λ q. omega (arith, n_is)), put_else r.seat n last c (λ q. omega (arith, n_is)))

      pasts : (j c : ℕ) (live : Bool) (ps : List Past) → Each (KnowsPast r.log r.callers r.seat r.made j live c) ps
          → Each (KnowsPast r.log callers' seat' (r.made + 1) j live c) ps
      pasts j c live ps h = Each-weaken (KnowsPast r.log r.callers r.seat r.made j live c) (KnowsPast r.log callers' seat' (r.made + 1) j live c)
          (λ q a. let o = older q.caller a.0 in ((let b = a.0 in omega arith), o.1 ∙ a.1, o.0 ∙ a.2, a.3)) ps h

      elsewhere : (j : ℕ) (x : View) → (0 < x.made → (x.made ≡ r.made + 1) × (j ≡ 0)) → get_elem? s.views j ≡ some x
          → Knows r.log callers' seat' (r.made + 1) j x
      elsewhere j x d e = let k = r.seats j x e in record {
        live = λ h. let a = k.live h in let o = older x.caller a.0 in ((let b = a.0 in omega arith), o.1 ∙ a.1, o.0 ∙ a.2);
        deals = d;
        taken = pasts j x.caller x.live x.taken k.taken;
        seen = k.seen;
      }

      here : Knows r.log callers' seat' (r.made + 1) id (dealer_after v)
      here = record {
        live = λ h. let a = mine.live h in let o = older v.caller a.0 in ((let b = a.0 in omega arith), o.1 ∙ a.1, o.0 ∙ a.2);
        deals = λ h. (ap (λ (k : ℕ). k + 1) n_is, (mine.deals deals).1);
        taken = pasts id v.caller v.live v.taken mine.taken;
        seen = mine.seen;
      }

      new : Knows r.log callers' seat' (r.made + 1) last (newcomer n)
      new = record {
        live = λ _. (omega (arith, n_is), put_here r.seat n last, put_here r.callers n blank);
        deals = λ h. absurd (omega arith);
        taken = tt;
        seen = starts_with_nothing r.log;
      }

  -- a caller is taken in
  pub joins : (id : ℕ) (v : View) (other : ℕ) (w : View) → v.live ≡ true → w.live ≡ true → w.stage ≡ Idle → Joins Rule id v other w (taking v w) nobody
  joins id v other w live w_live idle s r at apart there = record {
    log = r.log;
    callers = r.callers;
    seat = seat';
    who = r.who;
    base = r.base;
    count = r.count;
    made = r.made;
    legal = r.legal;
    words = r.words;
    few = r.few;
    small = r.small;
    made_fits = r.made_fits;
    each = r.each;
    others = r.others;
    slot = r.slot;
    seats = λ j x e. ⊎_elim
        (λ (t : (j ≡ other) × (nobody ≡ x)). subst (λ (z : ℕ × View). Knows r.log r.callers seat' r.made z.0 z.1) (λ i. (sym t.0 i, t.1 i)) spent)
        (λ (t : (j ≢ other) × (get_elem? (set s.views id (taking v w)) j ≡ some x)). ⊎_elim
        (λ (u : (j ≡ id) × (taking v w ≡ x)). subst (λ (z : ℕ × View). Knows r.log r.callers seat' r.made z.0 z.1) (λ i. (sym u.0 i, u.1 i)) here)
        (λ (u : (j ≢ id) × (get_elem? s.views j ≡ some x)). elsewhere j x t.0 u.1)
        (at_set s.views id j (taking v w) x t.1))
        (at_set (set s.views id (taking v w)) other j nobody x e);
  }
    where
      c : ℕ
      c = w.caller

      seat' : ℕ → ℕ
      seat' = put r.seat c id

      mine : Knows r.log r.callers r.seat r.made id v
      mine = r.seats id v at

      theirs : Knows r.log r.callers r.seat r.made other w
      theirs = r.seats other w (sym (set_else s.views id other (taking v w) apart) ∙ there)

      seat_is : r.seat c ≡ other
      seat_is = (theirs.live w_live).1

      elsewhere : (j : ℕ) (x : View) → j ≢ other → get_elem? s.views j ≡ some x → Knows r.log r.callers seat' r.made j x
      elsewhere j x ne e = let k = r.seats j x e in record {
        live = λ h. let a = k.live h in (a.0, put_else r.seat c id x.caller (λ q. ne (sym a.1 ∙ ap r.seat q ∙ seat_is)) ∙ a.1, a.2);
        deals = k.deals;
        taken = Each-weaken (KnowsPast r.log r.callers r.seat r.made j x.live x.caller) (KnowsPast r.log r.callers seat' r.made j x.live x.caller)
            (λ p a. (a.0, put_else r.seat c id p.caller (λ q. ne (sym a.1 ∙ ap r.seat q ∙ seat_is)) ∙ a.1, a.2, a.3)) x.taken k.taken;
        seen = k.seen;
      }

      mine' : Knows r.log r.callers seat' r.made id v
      mine' = elsewhere id v (λ e. apart (sym e)) at

      here : Knows r.log r.callers seat' r.made id (taking v w)
      here = record {
        live = mine'.live;
        deals = mine'.deals;
        taken = Each-snoc (KnowsPast r.log r.callers seat' r.made id v.live v.caller) v.taken (past_of w) mine'.taken (
          (theirs.live w_live).0,
          put_here r.seat c id,
          (theirs.live w_live).2
              ∙ (λ i. let z : Part = record { stage = idle i; mine = w.mine; seen = w.seen } in z),
          λ _ q. apart (sym seat_is ∙ ap r.seat q
              ∙ (mine.live live).1),
        );
        seen = mine.seen;
      }

      spent : Knows r.log r.callers seat' r.made other nobody
      spent = record {
        live = λ h. absurd (not_live h);
        deals = λ h. absurd (omega arith);
        taken = tt;
        seen = starts_with_nothing r.log;
      }
        where
          not_live : false ≡ true → ⊥
          not_live h = cc

  -- a seat that only remembers the history
  pub keepsakes : (id : ℕ) (v : View) → Splits Rule id v v (keepsake v)
  keepsakes id v s r at = record {
    log = r.log;
    callers = r.callers;
    seat = r.seat;
    who = r.who;
    base = r.base;
    count = r.count;
    made = r.made;
    legal = r.legal;
    words = r.words;
    few = r.few;
    small = r.small;
    made_fits = r.made_fits;
    each = r.each;
    others = r.others;
    slot = r.slot;
    seats = λ j x there. ⊎_elim (λ e. r.seats j x (subst (λ (z : List View). get_elem? z j ≡ some x) (set_again s.views id v at) e))
        (λ (t : (j ≡ length (set s.views id v)) × (keepsake v ≡ x)). subst (Knows r.log r.callers r.seat r.made j) t.1 (new j))
        (at_snoc_place (set s.views id v) (keepsake v) x j there);
  }
    where
      not_live : false ≡ true → ⊥
      not_live h = cc

      new : (j : ℕ) → Knows r.log r.callers r.seat r.made j (keepsake v)
      new j = record {
        live = λ h. absurd (not_live h);
        deals = λ h. absurd (omega arith);
        taken = tt;
        seen = (r.seats id v at).seen;
      }

  -- a new table
  pub starts : (d : Desk O) → 0 < l.callers → l.callers < 2 ^ 32 → d.stamp ≡ 0 → fits d.object [] → Rule (opening (words_of 0 0) (Some d ∷ []) first_view)
  starts d some_callers small stamp fit = record {
    log = [];
    callers = callers;
    seat = λ _. 0;
    who = λ _. 0;
    base = 0;
    count = 0;
    made = 1;
    legal = tt;
    words = refl;
    few = sym (none_wait l.callers);
    small = small;
    made_fits = omega arith;
    each = λ c lt. record { mine = refl; seen = starts_with_nothing []; stage = tt };
    others = λ c le. (refl, refl);
    slot = inr (d, refl, record { legal = tt; stamp = stamp; object = fit });
    seats = one;
  }
    where
      callers : ℕ → Part
      callers c = part_of (newcomer c)

      none_wait : (n : ℕ) → waiting n callers ≡ 0
      none_wait zero = refl
      none_wait (suc n) = let a = none_wait n in omega arith

      first : Knows [] callers (λ _. 0) 1 0 first_view
      first = record { live = λ _. (omega arith, refl, refl); deals = λ _. (refl, refl); taken = tt; seen = starts_with_nothing [] }

      one : (j : ℕ) (x : View) → get_elem? (first_view ∷ []) j ≡ some x → Knows [] callers (λ _. 0) 1 j x
      one zero x e = subst (Knows [] callers (λ _. 0) 1 0) (some-injective first_view x e) first
      one (suc j) x e = absurd (some-ne-none x (sym e))
