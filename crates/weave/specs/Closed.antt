-- Objects whose locks were closed, beside the traces and in the woven list.
use Rattle.std.specs.Prelude.{◌≡◌, ◌||◌, Bool, true, false, if◌then◌else◌, List, [], ◌∷◌, length}
use Rattle.bt_core.specs.declared.step.ObjectId.{ObjectId}
use Rattle.bt_core.specs.declared.step.Op.{Op}
use Rattle.bt_core.specs.declared.step.Reply.{Reply}
use Rattle.bt_core.specs.declared.step.Step.{Step}
use Rattle.bt_core.specs.Steps.{is_same_object, on_object, operations}
use Rattle.turn_lock.specs.declared.entry.Entry.{Entry}
use Rattle.turn_lock.specs.History.{Each}
use Rattle.stamped.specs.declared.trace.Trace.{Trace}
use Rattle.stamped.specs.Rows.{Row}
use Rattle.stamped.specs.SetSteps.{AreOwn}
use Rattle.stamped.specs.Traces.{steps_of}

-- what of each trace is at each of these objects is the own list of its actor's turn there
abbrev pub OwnRows : List ObjectId → List Row → List Trace → Type 0
OwnRows os [] [] = Unit {0}
OwnRows os [] (t ∷ ts) = ⊥
OwnRows os (row ∷ rows) [] = ⊥
OwnRows os (row ∷ rows) (t ∷ ts) = AreOwn os row.1 t × OwnRows os rows ts

-- each actor has a turn at each of these objects
abbrev pub AreFull : List ObjectId → List Row → Type 0
AreFull os rows = Each (λ (row : Row). length row.1 ≡ length os) rows

-- the objects of these kinds answer as this tells of the objects with these identifiers
abbrev pub Answer : {Kind : Type 0} → (Kind → List Op → Op → Reply) → (ObjectId → List Op → Op → Reply) → List ObjectId → List Kind → Type 0
Answer reply_after answer [] [] = Unit {0}
Answer reply_after answer [] (k ∷ ks) = ⊥
Answer reply_after answer (o ∷ os) [] = ⊥
Answer reply_after answer (o ∷ os) (k ∷ ks) = ((before : List Op) (op : Op) → reply_after k before op ≡ answer o before op) × Answer reply_after answer os ks

-- the histories that objects were closed with, by their identifiers
abbrev pub paired : {O : Type 0} → List ObjectId → List (O × List Entry) → List (ObjectId × List Entry)
paired [] cs = []
paired (o ∷ os) [] = []
paired (o ∷ os) (c ∷ cs) = (o, c.1) ∷ paired os cs

abbrev pub id_in : ObjectId × List Entry → ObjectId
id_in p = p.0

-- the history of an object, if it is one of these
abbrev pub history_in : List (ObjectId × List Entry) → ObjectId → List Entry
history_in [] o = []
history_in (p ∷ ps) o = if is_same_object p.0 o then p.1 else history_in ps o

-- whether it is one of these
abbrev pub is_among : List ObjectId → ObjectId → Bool
is_among [] o = false
is_among (p ∷ ps) o = is_same_object p o || is_among ps o

-- each step of the traces is at one of these objects
abbrev pub AreAmong : List ObjectId → List Trace → Type 0
AreAmong os ts = Each (λ (t : Trace). Each (λ (s : Step). is_among os s.object ≡ true) (steps_of t)) ts

module _ {O Kind : Type 0} (kind_of : O → Kind) (stands_for : O → List Op → Type 0) (steps : List Step) where
  -- an object of this kind, which stands for the operations of the list at it
  pub record StandsAt (id : ObjectId) (kind : Kind) (object : O) : Type 0 where
    pub of_kind : kind_of object ≡ kind
    pub stands : stands_for object (operations (on_object id steps))

  -- so is each of these
  abbrev pub AllStand : List ObjectId → List Kind → List (O × List Entry) → Type 0
  AllStand [] [] [] = Unit {0}
  AllStand [] [] (c ∷ cs) = ⊥
  AllStand [] (k ∷ ks) cs = ⊥
  AllStand (o ∷ os) [] cs = ⊥
  AllStand (o ∷ os) (k ∷ ks) [] = ⊥
  AllStand (o ∷ os) (k ∷ ks) (c ∷ cs) = StandsAt o k c.0 × AllStand os ks cs
