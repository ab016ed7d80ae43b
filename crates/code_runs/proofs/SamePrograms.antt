-- Where the bodies ask the same, so do the programs of the actors.
use Rattle.std.proofs.Common.{◌≡◌, ℕ, ◌+◌, Bool, true, false, if◌then◌else◌, List, [], ◌∷◌, refl, subst}
use Rattle.std.specs.Prelude.{Option, Some, None, slice_get}
use Rattle.std.specs.List.{AllByRecursion}
use Rattle.bt_ast.specs.declared.attached.Attached.{Attached}
use Rattle.bt_ast.specs.declared.attached.Tick.{Tick}
use Rattle.bt_core.specs.declared.map.MapDecl.{MapDecl}
use Rattle.bt_core.specs.declared.step.Reply.{Reply}
use Rattle.bt_core.specs.Interaction.{Interaction, Ended, and_then}
use Rattle.recordings.specs.declared.recording.CpuTrack.{CpuTrack}
use Rattle.recordings.specs.declared.recording.Entry.{Entry}
use Rattle.recordings.specs.declared.recording.Entry.TheVariants as entry
use Rattle.recordings.specs.declared.recording.Event.{Event}
use Rattle.recordings.specs.declared.recording.Recording.{Recording}
use Rattle.actor_plan.specs.declared.agenda.AgendaItem.{AgendaItem}
use Rattle.actor_plan.specs.declared.agenda.AgendaItem.TheVariants as item
use Rattle.actor_plan.specs.declared.outcome.Outcome.{Outcome}
use Rattle.actor_plan.specs.Contexts.{event_context, tick_context}
use Rattle.actor_plan.specs.Plans.{Plan}
use Rattle.actor_plan.specs.Programs.{after_count, bodies_at, crosses_last, entry_work, event_work, goes_on, in_turn, item_work, items_program, mark_work, tick_work, where_some}
use Rattle.bt_core.specs.Same.{SameTo}
use Rattle.bt_core.proofs.SameLaws.{SameTo-self, SameTo-and_then}
use Rattle.code_runs.specs.Agree.{Comes, AskSame, AskSameOn}

-- programs that both went on to their end, or both did not
abbrev pub EndAlike : Outcome → Outcome → Type 0
EndAlike one other = one.to_end ≡ other.to_end

module _ (holds : Reply → Type 0) (maps : List MapDecl) where
  abbrev Any : {A B : Type 0} → A → B → Type 0
  Any a b = Unit {0}

  -- one computation by both, and then others by its value
  then_same : {A B C : Type 0} (S : B → C → Type 0) (t : Interaction A) (k : A → Interaction B) (l : A → Interaction C) → ((a : A) → SameTo (Comes holds maps) S (k a) (l a))
      → SameTo (Comes holds maps) S (and_then t k) (and_then t l)
  then_same S t k l same = SameTo-and_then (Comes holds maps) (λ a b. a ≡ b) S t t k l (SameTo-self (Comes holds maps) (λ a b. a ≡ b) (λ a. refl) t)
      (λ a b e. subst (λ x. SameTo (Comes holds maps) S (k a) (l x)) e (same a))

  -- after what asks the same, whatever its values
  after_same : {A B C D : Type 0} (S : C → D → Type 0) (t : Interaction A) (u : Interaction B) (k : A → Interaction C) (l : B → Interaction D) → AskSame holds maps t u
      → ((a : A) (b : B) → SameTo (Comes holds maps) S (k a) (l b)) → SameTo (Comes holds maps) S (and_then t k) (and_then u l)
  after_same S t u k l one two = SameTo-and_then (Comes holds maps) (λ a b. Unit {0}) S t u k l one (λ a b h. two a b)

  pub turn_same : (f g : ℕ → Interaction ℕ) (which : List ℕ) → AllByRecursion (λ body. AskSame holds maps (f body) (g body)) which → AskSame holds maps (in_turn f which) (in_turn g which)
  turn_same f g [] same = tt
  turn_same f g (b ∷ bs) same =
      after_same (λ m n. Unit {0}) (f b) (g b) (λ count. and_then (in_turn f bs) (λ rest. Ended (count + rest))) (λ count. and_then (in_turn g bs) (λ rest. Ended (count + rest))) same.0
      (λ m n. after_same (λ k l. Unit {0}) (in_turn f bs) (in_turn g bs) (λ rest. Ended (m + rest)) (λ rest. Ended (n + rest)) (turn_same f g bs same.1) (λ k l. tt))

  pub where_same : {X : Type 0} (f g : X → Interaction ℕ) (o : Option X) → ((x : X) → o ≡ Some x → AskSame holds maps (f x) (g x)) → AskSame holds maps (where_some f o) (where_some g o)
  where_same f g None same = tt
  where_same f g (Some x) same = same x refl

  -- ---- items

  module _ {I : Type 0} (checks : Bool) (f g : I → Interaction ℕ) (same : (i : I) → AskSame holds maps (f i) (g i)) where
    abbrev going : (I → Interaction ℕ) → I → List I → Bool → Interaction Outcome
    going work i is on =
        if on then and_then (work i) (λ count. and_then (items_program checks work is) (λ rest. Ended (after_count count rest)))
        else Ended (record { to_end = false; instructions = 0 })

    going_same : (i : I) (is : List I) → SameTo (Comes holds maps) EndAlike (items_program checks f is) (items_program checks g is) → (on : Bool)
        → SameTo (Comes holds maps) EndAlike (going f i is on) (going g i is on)
    going_same i is rest true = after_same EndAlike (f i) (g i) (λ count. and_then (items_program checks f is) (λ rest. Ended (after_count count rest)))
        (λ count. and_then (items_program checks g is) (λ rest. Ended (after_count count rest))) (same i)
        (λ m n. SameTo-and_then (Comes holds maps) EndAlike EndAlike (items_program checks f is) (items_program checks g is)
        (λ rest. Ended (after_count m rest)) (λ rest. Ended (after_count n rest)) rest (λ a b e. e))
    going_same i is rest false = refl

    pub items_same : (is : List I) → SameTo (Comes holds maps) EndAlike (items_program checks f is) (items_program checks g is)
    items_same [] = refl
    items_same (i ∷ is) = then_same EndAlike (goes_on checks) (going f i is) (going g i is) (going_same i is (items_same is))

  -- ---- a CPU

  module _ (one other : Plan) (r : Recording) (attached : Attached) (track : CpuTrack) (agree : AskSameOn holds maps one other r attached track) where
    event_same : (place : ℕ) (e : Event) → slice_get track.entries place ≡ Some (entry.Event e) → AskSame holds maps (event_work one r attached track e) (event_work other r attached track e)
    event_same place e there =
        turn_same (λ body. one.run body (event_context r track e) e.payload) (λ body. other.run body (event_context r track e) e.payload) (bodies_at one r attached e) (agree.events place e there)

    -- what is asked at a mark is the same, whoever runs bodies
    entry_same : (place : ℕ) (e : Entry) → slice_get track.entries place ≡ Some e → AskSame holds maps (entry_work one r attached track e) (entry_work other r attached track e)
    entry_same place (entry.Event e) there = event_same place e there
    entry_same place (entry.Lost time count) there = SameTo-self (Comes holds maps) (λ m n. Unit {0}) (λ m. tt) (mark_work track.number count)

    abbrev at_last : Tick → Plan → Bool → Interaction ℕ
    at_last t plan last = if last then plan.run t.body (tick_context r track t) [] else Ended 0

    tick_same : (place : ℕ) (t : Tick) → slice_get attached.ticks place ≡ Some t → AskSame holds maps (tick_work one r attached track place t) (tick_work other r attached track place t)
    tick_same place t there = then_same (λ m n. Unit {0}) (crosses_last place) (at_last t one) (at_last t other) by
      where
        by : (last : Bool) → AskSame holds maps (at_last t one last) (at_last t other last)
        by true = agree.ticks place t there
        by false = tt

    pub item_same : (i : AgendaItem) → AskSame holds maps (item_work one r attached track i) (item_work other r attached track i)
    item_same (item.Tick place) = where_same (tick_work one r attached track place) (tick_work other r attached track place) (slice_get attached.ticks place) (tick_same place)
    item_same (item.Event place) = where_same (entry_work one r attached track) (entry_work other r attached track) (slice_get track.entries place) (entry_same place)
    item_same (item.Lost place) = where_same (entry_work one r attached track) (entry_work other r attached track) (slice_get track.entries place) (entry_same place)
