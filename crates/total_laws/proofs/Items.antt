-- The run of a CPU's program, item by item.
use Rattle.std.proofs.Common.{◌≡◌, ℕ, ◌<◌, ◌==◌, ◌&&◌, Bool, true, false, cond, if◌then◌else◌, List, [], ◌∷◌, ◌++◌, refl, sym, ap, ◌∙◌, subst, inl, inr, eq-eqb, append_assoc, arith}
use Rattle.std.specs.List.{AllByRecursion, filter_map, flat_map}
use Rattle.bt_core.specs.declared.map.MapId.{MapId}
use Rattle.bt_core.specs.declared.step.ObjectId.TheVariants.{Clock}
use Rattle.bt_core.specs.declared.step.Op.TheVariants.{Cross}
use Rattle.bt_core.specs.declared.step.Step.{Step}
use Rattle.bt_core.specs.Interaction.{Call, call_of, Interaction, Ended, Asks, Runs, and_then}
use Rattle.bt_core.specs.Steps.{is_same_object}
use Rattle.agg_core.specs.Answers.{is_cross}
use Rattle.actor_plan.specs.declared.agenda.AgendaItem.{AgendaItem}
use Rattle.actor_plan.specs.declared.agenda.AgendaItem.TheVariants as item
use Rattle.actor_plan.specs.declared.outcome.Outcome.{Outcome}
use Rattle.actor_plan.specs.Agendas.{tick_place, entry_place}
use Rattle.actor_plan.specs.Programs.{after_count, items_program, tells_last}
use Rattle.bt_meaning.specs.Ticks.{is_crossing}
use Rattle.bt_meaning.specs.Totals.{Addition, added}
use Rattle.bt_meaning.proofs.CrossingRuns.{runs_split, times}
use Rattle.bt_meaning.proofs.Crossings.{marks, marks_append}
use Rattle.bt_meaning.proofs.Eachs.{each_back, each_both, each_so}
use Rattle.total_laws.specs.Ends.{entries_in}
use Rattle.total_laws.proofs.Adding.{IsPlain, plain_quiet, Gives, gives_runs, entries_append}
use Rattle.total_laws.proofs.Alike.{Alike, alike_same, alike_trans, alike_append, alike_flip}
use Rattle.total_laws.proofs.Tables.{IsOwn}

-- the run of the one, where its value is changed behind it
pub runs_mapped : {A B : Type 0} (t : Interaction A) (f : A → B) (steps : List Step) (v : B) → Runs (and_then t (λ x. Ended (f x))) steps v → (w : A) × Runs t steps w
runs_mapped (Ended x) f [] v r = (x, refl)
runs_mapped (Ended x) f (s ∷ ss) v r = absurd r
runs_mapped (Asks c g) f [] v r = absurd r
runs_mapped (Asks c g) f (s ∷ ss) v r = let q = runs_mapped (g s.reply) f ss v r.1 in (q.0, (r.0, q.1))

none_marks : (k : ℕ) (steps : List Step) → AllByRecursion (λ s. (j : ℕ) → is_crossing j s ≡ false) steps → marks k steps ≡ 0
none_marks k [] e = refl
none_marks k (s ∷ ss) e =
    let one : cond {A = ℕ} (is_crossing k s) 1 0 ≡ 0 = ap (λ (b : Bool). cond b 1 0) (e.0 k) in let rest = none_marks k ss e.1 in omega arith

crossing : (k : ℕ) (s : Step) → call_of s ≡ record { object = Clock; op = Cross k } → (j : ℕ) → is_crossing j s ≡ (k == j)
crossing k s e j = ap (λ (c : Call). is_same_object c.object Clock && is_cross j c.op) e

module _ (a : ℕ) where
  pub plain_marks : (k : ℕ) (steps : List Step) → AllByRecursion (λ s. IsPlain a (call_of s)) steps → marks k steps ≡ 0
  plain_marks k steps p = none_marks k steps (each_so (λ s. IsPlain a (call_of s)) (λ s. (j : ℕ) → is_crossing j s ≡ false) (plain_quiet a) steps p)

  pub plain_own : (steps : List Step) → AllByRecursion (λ s. IsPlain a (call_of s)) steps → AllByRecursion (IsOwn a) steps
  plain_own steps p = each_so (λ s. IsPlain a (call_of s)) (IsOwn a) (λ s q. inl q) steps p

-- a tick of this many
abbrev pub IsTickBelow : ℕ → AgendaItem → Type 0
IsTickBelow n (item.Tick place) = place < n
IsTickBelow n (item.Event place) = Unit {0}
IsTickBelow n (item.Lost place) = Unit {0}

-- What a CPU does for its items: for a tick it crosses, and where it is told that it is the last it does more.
module _ (m : MapId) (a ticks : ℕ) (work : AgendaItem → Interaction ℕ) (body : ℕ → Interaction ℕ) (by_entry by_tick : ℕ → List Addition)
    (crosses : (place : ℕ) → place < ticks
    → work (item.Tick place) ≡ Asks (record { object = Clock; op = Cross place }) (λ reply. if tells_last reply then body place else Ended 0))
    (event : (place : ℕ) → Gives m a (by_entry place) (λ count. Unit {0}) (work (item.Event place)))
    (lost : (place : ℕ) → Gives m a (by_entry place) (λ count. Unit {0}) (work (item.Lost place)))
    (tick : (place : ℕ) → place < ticks → Gives m a (by_tick place) (λ count. Unit {0}) (body place)) where
  abbrev program : List AgendaItem → Interaction Outcome
  program items = items_program false work items

  -- a first item and then the others
  record Cut (i : AgendaItem) (is : List AgendaItem) (steps : List Step) : Type 0 where
    count : ℕ
    outcome : Outcome
    here : List Step
    others : List Step
    whole : steps ≡ here ++ others
    first : Runs (work i) here count
    second : Runs (program is) others outcome

  cut : (i : AgendaItem) (is : List AgendaItem) (steps : List Step) (v : Outcome) → Runs (program (i ∷ is)) steps v → Cut i is steps
  cut i is steps v r =
      let p = runs_split (work i) (λ count. and_then (program is) (λ rest. Ended (after_count count rest))) steps v r in
      let q = runs_mapped (program is) (after_count p.value) p.back v p.second in
      record { count = p.value; outcome = q.0; here = p.front; others = p.back; whole = p.whole; first = p.first; second = q.1 }

  -- what a crossing leads to
  last_gives : (place : ℕ) → place < ticks → (b : Bool) (steps : List Step) (v : ℕ) → Runs (if b then body place else Ended 0) steps v
      → (entries_in m steps ≡ cond b (by_tick place) []) × AllByRecursion (λ s. IsPlain a (call_of s)) steps
  last_gives place lt true steps v r = gives_runs m a (by_tick place) (λ count. Unit {0}) (body place) steps v (tick place lt) r
  last_gives place lt false [] v r = (refl, tt)
  last_gives place lt false (s ∷ ss) v r = absurd r

  record TickRun (place : ℕ) (steps : List Step) : Type 0 where
    cross : Step
    made : List Step
    whole : steps ≡ cross ∷ made
    call : call_of cross ≡ record { object = Clock; op = Cross place }
    adds : entries_in m made ≡ cond (tells_last cross.reply) (by_tick place) []
    plain : AllByRecursion (λ s. IsPlain a (call_of s)) made

  tick_run : (place : ℕ) → place < ticks → (steps : List Step) (v : ℕ) → Runs (work (item.Tick place)) steps v → TickRun place steps
  tick_run place lt steps v r = by_steps steps (subst (λ (t : Interaction ℕ). Runs t steps v) (crosses place lt) r)
    where
      by_steps : (steps : List Step)
          → Runs (Asks (record { object = Clock; op = Cross place }) (λ reply. if tells_last reply then body place else Ended 0)) steps v → TickRun place steps
      by_steps [] q = absurd q
      by_steps (s ∷ ss) q = let g = last_gives place lt (tells_last s.reply) ss v q.1 in
          record { cross = s; made = ss; whole = refl; call = q.0; adds = g.0; plain = g.1 }

  -- the steps of a program: each is plain or crosses, and each tick is crossed as often as the items have it
  pub record AreOwn (items : List AgendaItem) (steps : List Step) : Type 0 where
    pub own : AllByRecursion (IsOwn a) steps
    pub crossed : (k : ℕ) → marks k steps ≡ times k items

  -- an item that crosses nothing, before others
  entry_own : (i : AgendaItem) (is : List AgendaItem) (es : List Addition) → Gives m a es (λ count. Unit {0}) (work i) → ((k : ℕ) → times k (i ∷ is) ≡ times k is)
      → ((others : List Step) (v : Outcome) → Runs (program is) others v → AreOwn is others) → (steps : List Step) (v : Outcome) → Runs (program (i ∷ is)) steps v → AreOwn (i ∷ is) steps
  entry_own i is es gives none later steps v r =
      let c = cut i is steps v r in
      let rest = later c.others c.outcome c.second in
      let plain = (gives_runs m a es (λ count. Unit {0}) (work i) c.here c.count gives c.first).1 in
      record {
        own = subst (AllByRecursion (IsOwn a)) (sym c.whole) (each_both (IsOwn a) c.here c.others (plain_own a c.here plain) rest.own);
        crossed = λ k. (let w = ap (marks k) c.whole ∙ marks_append k c.here c.others in let z = plain_marks a k c.here plain in let x = rest.crossed k in
            let n = none k in omega arith);
      }

  pub program_own : (items : List AgendaItem) → AllByRecursion (IsTickBelow ticks) items → (steps : List Step) (v : Outcome) → Runs (program items) steps v
      → AreOwn items steps
  program_own [] below [] v r = record { own = tt; crossed = λ k. refl }
  program_own [] below (s ∷ ss) v r = absurd r
  program_own (item.Event place ∷ is) below steps v r = entry_own (item.Event place) is (by_entry place) (event place) (λ k. refl) (program_own is below.1) steps v r
  program_own (item.Lost place ∷ is) below steps v r = entry_own (item.Lost place) is (by_entry place) (lost place) (λ k. refl) (program_own is below.1) steps v r
  program_own (item.Tick place ∷ is) below steps v r =
      let c = cut (item.Tick place) is steps v r in
      let rest = program_own is below.1 c.others c.outcome c.second in
      let t = tick_run place below.0 c.here c.count c.first in
      record {
        own = subst (AllByRecursion (IsOwn a)) (sym (c.whole ∙ ap (λ (l : List Step). l ++ c.others) t.whole))
            (inr (place, t.call), each_both (IsOwn a) t.made c.others (plain_own a t.made t.plain) rest.own);
        crossed = λ k. (let w = ap (marks k) (c.whole ∙ ap (λ (l : List Step). l ++ c.others) t.whole) in
            let y = marks_append k t.made c.others in let z = plain_marks a k t.made t.plain in let x = rest.crossed k in
            let one : cond {A = ℕ} (is_crossing k t.cross) 1 0 ≡ cond (place == k) 1 0 = ap (λ (b : Bool). cond b 1 0) (crossing place t.cross t.call k) in omega arith);
      }

  -- what a CPU adds: by its entries, and by the ticks that it is named for
  abbrev pub share : (ℕ → ℕ) → List AgendaItem → List Addition
  share named [] = []
  share named (item.Event place ∷ is) = by_entry place ++ share named is
  share named (item.Lost place ∷ is) = by_entry place ++ share named is
  share named (item.Tick place ∷ is) = cond (named place == a) (by_tick place) [] ++ share named is

  -- each crossing is told by who is named
  abbrev pub IsTold : (ℕ → ℕ) → Step → Type 0
  IsTold named s = (k : ℕ) → is_crossing k s ≡ true → tells_last s.reply ≡ (named k == a)

  -- an item that adds these, before others
  entry_adds : (named : ℕ → ℕ) (i : AgendaItem) (is : List AgendaItem) (es : List Addition) → Gives m a es (λ count. Unit {0}) (work i)
      → ((others : List Step) (v : Outcome) → Runs (program is) others v → AllByRecursion (IsTold named) others → entries_in m others ≡ share named is)
      → (steps : List Step) (v : Outcome) → Runs (program (i ∷ is)) steps v → AllByRecursion (IsTold named) steps → entries_in m steps ≡ es ++ share named is
  entry_adds named i is es gives later steps v r told =
      let c = cut i is steps v r in
      let rest = later c.others c.outcome c.second (each_back (IsTold named) c.here c.others (subst (AllByRecursion (IsTold named)) c.whole told)) in
      let first = (gives_runs m a es (λ count. Unit {0}) (work i) c.here c.count gives c.first).0 in
      ap (entries_in m) c.whole ∙ entries_append m c.here c.others ∙ (λ i. first i ++ rest i)

  pub program_adds : (named : ℕ → ℕ) (items : List AgendaItem) → AllByRecursion (IsTickBelow ticks) items → (steps : List Step) (v : Outcome)
      → Runs (program items) steps v → AllByRecursion (IsTold named) steps → entries_in m steps ≡ share named items
  program_adds named [] below [] v r told = refl
  program_adds named [] below (s ∷ ss) v r told = absurd r
  program_adds named (item.Event place ∷ is) below steps v r told = entry_adds named (item.Event place) is (by_entry place) (event place) (program_adds named is below.1) steps v r told
  program_adds named (item.Lost place ∷ is) below steps v r told = entry_adds named (item.Lost place) is (by_entry place) (lost place) (program_adds named is below.1) steps v r told
  program_adds named (item.Tick place ∷ is) below steps v r told =
      let c = cut (item.Tick place) is steps v r in
      let t = tick_run place below.0 c.here c.count c.first in
      let whole : steps ≡ (t.cross ∷ t.made) ++ c.others = c.whole ∙ ap (λ (l : List Step). l ++ c.others) t.whole in
      let all = subst (AllByRecursion (IsTold named)) whole told in
      let rest = program_adds named is below.1 c.others c.outcome c.second (each_back (IsTold named) (t.cross ∷ t.made) c.others all) in
      let here : tells_last t.cross.reply ≡ (named place == a) = all.0 place (crossing place t.cross t.call place ∙ eq-eqb place place refl) in
      let nothing : added m t.cross.op ≡ [] = ap (λ (d : Call). added m d.op) t.call in
      let first : entries_in m (t.cross ∷ t.made) ≡ cond (named place == a) (by_tick place) [] =
      ap (λ (l : List Addition). l ++ entries_in m t.made) nothing ∙ t.adds ∙ ap (λ (b : Bool). cond b (by_tick place) []) here in
      ap (entries_in m) whole ∙ entries_append m (t.cross ∷ t.made) c.others ∙ (λ i. first i ++ rest i)

  -- more before the first of two
  before_both : (x s e t : List Addition) → Alike s (e ++ t) → Alike (x ++ s) ((x ++ e) ++ t)
  before_both x s e t h = alike_trans (x ++ s) (x ++ (e ++ t)) ((x ++ e) ++ t)
      (alike_append x s x (e ++ t) (alike_same x x refl) h)
      (alike_same (x ++ (e ++ t)) ((x ++ e) ++ t) (sym (append_assoc x e t)))

  -- the share is that of the entries and that of the ticks
  pub share_alike : (named : ℕ → ℕ) (items : List AgendaItem)
      → Alike (share named items) (flat_map by_entry (filter_map entry_place items) ++ flat_map (λ k. cond (named k == a) (by_tick k) []) (filter_map tick_place items))
  share_alike named [] = alike_same [] [] refl
  share_alike named (item.Event place ∷ is) = before_both (by_entry place) (share named is) (flat_map by_entry (filter_map entry_place is))
      (flat_map (λ k. cond (named k == a) (by_tick k) []) (filter_map tick_place is)) (share_alike named is)
  share_alike named (item.Lost place ∷ is) = before_both (by_entry place) (share named is) (flat_map by_entry (filter_map entry_place is))
      (flat_map (λ k. cond (named k == a) (by_tick k) []) (filter_map tick_place is)) (share_alike named is)
  share_alike named (item.Tick place ∷ is) =
      let x : List Addition = cond (named place == a) (by_tick place) [] in let s = share named is in let e = flat_map by_entry (filter_map entry_place is) in
      let t = flat_map (λ k. cond (named k == a) (by_tick k) []) (filter_map tick_place is) in
      alike_trans (x ++ s) (x ++ (e ++ t)) (e ++ (x ++ t))
      (alike_append x s x (e ++ t) (alike_same x x refl) (share_alike named is))
      (alike_trans (x ++ (e ++ t)) ((e ++ x) ++ t) (e ++ (x ++ t))
      (alike_trans (x ++ (e ++ t)) ((x ++ e) ++ t) ((e ++ x) ++ t)
      (alike_same (x ++ (e ++ t)) ((x ++ e) ++ t) (sym (append_assoc x e t)))
      (alike_append (x ++ e) t (e ++ x) t (alike_flip x e) (alike_same t t refl)))
      (alike_same ((e ++ x) ++ t) (e ++ (x ++ t)) (append_assoc e x t)))
