-- The rule of the table, and what each step tells.
use Rattle.std.specs.Prelude.{◌≡◌, ◌≢◌, ◌⊎◌, ℕ, zero, suc, ◌+◌, ◌%◌, ◌^◌, ◌<◌, ◌≤◌, Bool, true, false, List, [], ◌∷◌, ◌++◌, replicate, Option, Some}
use mathlib.Core.Option as maybe
use mathlib.Core.Option.{some, none}
use lib.ListN.{get_elem?}
use Rattle.atomic_table.specs.Table.{State, Me}
use Rattle.bt_core.specs.declared.step.Op.{Op}
use Rattle.bt_core.specs.declared.step.Reply.{Reply}
use Rattle.turn_lock.specs.declared.entry.Entry.{Entry}
use Rattle.turn_lock.specs.declared.view.Stage.{Stage}
use Rattle.turn_lock.specs.declared.view.Stage.TheVariants.{Idle, Waits, Holds}
use Rattle.turn_lock.specs.declared.view.Past.{Past}
use Rattle.turn_lock.specs.declared.view.View.{View}
use Rattle.turn_lock.specs.declared.view.Desk.{Desk}
use Rattle.turn_lock.specs.declared.view.About.{About}
use Rattle.turn_lock.specs.History.{Law, IsLegal, ops, made_by, StartsWith, stamp_after, Each}

-- what the rule knows of a caller
pub record Part : Type 0 where
  pub stage : Stage
  pub mine : List Entry
  pub seen : List Entry

abbrev pub part_of : View → Part
part_of v = record { stage = v.stage; mine = v.mine; seen = v.seen }

abbrev pub past_part : Past → Part
past_part p = record { stage = Idle; mine = p.mine; seen = p.seen }

abbrev pub nobody : View
nobody = record { live = false; caller = 0; stage = Idle; mine = []; seen = []; made = 0; taken = [] }

abbrev pub newcomer : ℕ → View
newcomer c = record { live = true; caller = c; stage = Idle; mine = []; seen = []; made = 0; taken = [] }

abbrev pub first_view : View
first_view = record { live = true; caller = 0; stage = Idle; mine = []; seen = []; made = 1; taken = [] }

abbrev pub dealer_after : View → View
dealer_after v = record v { made = v.made + 1 }

abbrev pub past_of : View → Past
past_of v = record { caller = v.caller; mine = v.mine; seen = v.seen }

abbrev pub taking : View → View → View
taking v w = record v { taken = v.taken ++ past_of w ∷ [] }

abbrev pub keepsake : View → View
keepsake v = record { live = false; caller = 0; stage = Idle; mine = []; seen = v.seen; made = 0; taken = [] }

abbrev pub at_stage : View → Stage → View
at_stage v s = record v { stage = s }

-- the words of a table: word 8 is the ticket that is drawn next, word 16 the one that is served, and the others are 0 and say nothing
abbrev pub words_of : ℕ → ℕ → List ℕ
words_of ticket served = replicate 8 0 ++ ticket ∷ replicate 7 0 ++ served ∷ replicate 7 0

-- 1 where the caller has a ticket
abbrev pub busy : Stage → ℕ
busy Idle = 0
busy (Waits t) = 1
busy (Holds h) = 1

-- how many of the first n callers have a ticket
abbrev pub waiting : ℕ → (ℕ → Part) → ℕ
waiting zero f = 0
waiting (suc n) f = waiting n f + busy (f n).stage

module _ {O : Type 0} (log : List Entry) (who : ℕ → ℕ) (base count : ℕ) (homes : List (maybe.Option (Option (Desk O)))) (c : ℕ) where
  -- a waiting caller has a held ticket of its own; the one that holds the turn has the served one, and the history did not grow since
  abbrev pub StageOk : Stage → Type 0
  StageOk Idle = Unit {0}
  StageOk (Waits t) = (k : ℕ) × (k < count) × (who k ≡ c) × (t ≡ (base + k) % 2 ^ 64)
  StageOk (Holds h) = (0 < count) × (who 0 ≡ c) × (h ≡ log) × (homes ≡ none ∷ [])

  pub record CallerOk (p : Part) : Type 0 where
    pub mine : made_by c log ≡ p.mine
    pub seen : StartsWith log p.seen
    pub stage : StageOk p.stage

module _ (log : List Entry) (callers : ℕ → Part) (seat : ℕ → ℕ) (made j : ℕ) where
  -- a caller that the view has taken in, which is not its own
  abbrev pub KnowsPast : Bool → ℕ → Past → Type 0
  KnowsPast live c p = (p.caller < made) × (seat p.caller ≡ j) × (callers p.caller ≡ past_part p) × (live ≡ true → p.caller ≢ c)

  pub record Knows (v : View) : Type 0 where
    pub live : v.live ≡ true → (v.caller < made) × (seat v.caller ≡ j) × (callers v.caller ≡ part_of v)
    pub deals : 0 < v.made → (v.made ≡ made) × (j ≡ 0)
    pub taken : Each (KnowsPast v.live v.caller) v.taken
    pub seen : StartsWith log v.seen

-- the object fits the history
module _ {O : Type 0} (l : Law) (fits : O → List Op → Type 0) where
  pub record DeskOk (d : Desk O) (log : List Entry) : Type 0 where
    pub legal : IsLegal l log
    pub stamp : d.stamp ≡ stamp_after 0 log
    pub object : fits d.object (ops log)

  -- a seat holds the one slot, with an object that fits the history
  abbrev pub Bears : List (ℕ × Option (Desk O)) → List Entry → Type 0
  Bears slots log = (d : Desk O) × (slots ≡ (0, Some d) ∷ []) × DeskOk d log

  abbrev pub IsOut : List (maybe.Option (Option (Desk O))) → (ℕ → Part) → ℕ → List Entry → Type 0
  IsOut homes callers made log = (homes ≡ none ∷ []) × ((c : ℕ) × (c < made) × ((h : List Entry) × ((callers c).stage ≡ Holds h)))

  abbrev pub IsHome : List (maybe.Option (Option (Desk O))) → List Entry → Type 0
  IsHome homes log = (d : Desk O) × (homes ≡ some (Some d) ∷ []) × DeskOk d log

  -- the rule: two words count tickets, each held ticket is one caller's, the history is legal and has of each caller its own
  -- entries; the object is at home and fits the history, or out with the one caller that holds the turn
  pub record Kept (s : State (Option (Desk O)) View) : Type 0 where
    -- the whole history
    pub log : List Entry
    -- what is known of each caller, and its seat, by its number
    pub callers : ℕ → Part
    pub seat : ℕ → ℕ
    -- whose each held ticket is, counted from the served one
    pub who : ℕ → ℕ
    -- the served ticket, which never wraps, how many tickets are held, and how many callers were made
    pub base : ℕ
    pub count : ℕ
    pub made : ℕ
    pub legal : IsLegal l log
    pub words : s.words ≡ words_of ((base + count) % 2 ^ 64) (base % 2 ^ 64)
    pub few : count ≡ waiting l.callers callers
    pub small : l.callers < 2 ^ 32
    pub made_fits : made ≤ l.callers
    pub each : (c : ℕ) → c < made → CallerOk log who base count s.homes c (callers c)
    pub others : (c : ℕ) → made ≤ c → (made_by c log ≡ []) × ((callers c).stage ≡ Idle)
    pub slot : IsOut s.homes callers made log ⊎ IsHome s.homes log
    pub seats : (j : ℕ) (v : View) → get_elem? s.views j ≡ some v → Knows log callers seat made j v

module _ {O Kind : Type 0} (kind : O → Kind) (is_own : Kind → Op → Type 0) (reply : Kind → List Op → Op → Reply) where
  abbrev pub law : About O → Law
  law about = record { callers = about.callers; is_own = is_own (kind about.first.value); reply = reply (kind about.first.value) }

module _ {O Kind : Type 0} (kind : O → Kind) (stands_for : O → List Op → Type 0) where
  abbrev pub fits : About O → O → List Op → Type 0
  fits about x h = (kind x ≡ kind about.first.value) × stands_for x h

-- the turn is given up, with these entries made
abbrev pub after : List Entry → View → List Entry → View
after made v h = record v { stage = Idle; mine = v.mine ++ made; seen = h ++ made }

-- the view with all of a history, in which its callers' entries are those that it knows
abbrev pub Noted : View → View → Type 0
Noted v w =
    (h : List Entry) × (w ≡ record v { seen = h }) × (made_by v.caller h ≡ v.mine) × Each (λ (p : Past). made_by p.caller h ≡ p.mine) v.taken
    × StartsWith h v.seen

-- the steps
module _ {S : Type 0} where
  abbrev pub drew : Me S View → ℕ → Me S View → Type 0
  drew m n m' = m' ≡ (at_stage m.0 (Waits n), m.1)

  abbrev pub left : List Entry → Me S View → Me S View → Type 0
  left made m m' = (h : List Entry) → m.0.stage ≡ Holds h → m' ≡ (after made m.0 h, [])

  abbrev pub noted : Me S View → Me S View → Type 0
  noted m m' = Noted m.0 m'.0 × (m'.1 ≡ m.1)

module _ {O : Type 0} (fits : Desk O → ℕ → List Entry → Type 0) where
  -- the seat's turn has come: it has the object, and knows the whole history
  abbrev pub Entered : Me (Option (Desk O)) View → Me (Option (Desk O)) View → Type 0
  Entered m m' =
      (h : List Entry) × (d : Desk O) × (m' ≡ (at_stage m.0 (Holds h), (0, Some d) ∷ [])) × fits d m.0.caller h × StartsWith h m.0.seen
      × (made_by m.0.caller h ≡ m.0.mine)

  abbrev pub looked : Me (Option (Desk O)) View → ℕ → Me (Option (Desk O)) View → Type 0
  looked m n m' = (t : ℕ) → m.0.stage ≡ Waits t → (n ≡ t → Entered m m') × (n ≢ t → m' ≡ m)

-- each of the first n callers is the view's own, or one that it has taken in
abbrev pub Covers : ℕ → View → Type 0
Covers n v = (c : ℕ) → c < n → (c ≡ v.caller) ⊎ ((i : ℕ) × (p : Past) × (get_elem? v.taken i ≡ some p) × (p.caller ≡ c))

-- the history that the view knows is whole: it begins with what each caller had seen, and has of each just its own entries
abbrev pub Agrees : List Entry → View → Type 0
Agrees h v = (made_by v.caller h ≡ v.mine) × Each (λ (p : Past). (made_by p.caller h ≡ p.mine) × StartsWith h p.seen) v.taken

-- what a step of a lock finds: an object that fits the history, and a caller of the lock
module _ {O : Type 0} (l : Law) (fits : O → List Op → Type 0) where
  abbrev pub Finds : Desk O → ℕ → List Entry → Type 0
  Finds d c h = DeskOk l fits d h × (c < l.callers)

abbrev pub view_in : List View → View
view_in [] = nobody
view_in (v ∷ vs) = v

-- a seat that rests between two calls
abbrev pub IsResting : ℕ → List View → Type 0
IsResting c vs = (vs ≡ view_in vs ∷ []) × ((view_in vs).live ≡ true) × ((view_in vs).stage ≡ Idle) × ((view_in vs).caller ≡ c)

abbrev pub entry : ℕ → ℕ → ℕ → Op → Reply → Entry
entry caller floor stamp op reply = record { caller = caller; floor = floor; stamp = stamp; op = op; reply = reply }
