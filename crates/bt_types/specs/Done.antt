-- What a checked statement is, or a part of one.
use Rattle.std.specs.Prelude.{◌≡◌, ℕ, Bool, false, List, Result, Ok, MatchResult}
use Rattle.typed_tree.specs.Parts.{TreePart}
use Rattle.expr_types.specs.declared.fault.TypeError.{TypeError}
use Rattle.expr_types.specs.declared.known.Known.{Known}
use Rattle.expr_types.specs.Grows.{Grows}
use Rattle.expr_types.specs.Judge.{judged, SaysFault}
use Rattle.bt_types.specs.Told.{Told, used}
use Rattle.bt_core.specs.declared.map.MapKind.{MapKind}
use Rattle.bt_core.specs.declared.map.Shape.{Shape}
use Rattle.typed_tree.specs.Scope.{is_agg}
use Rattle.expr_types.specs.Typing.{IsDeclared, IsNamed, AllFit, titles_of, words_by}
use Rattle.expr_types.specs.Walk.{MapSeen}

-- no rule is broken, this is known now, which holds what was known before, and what was made fits that and is the script's
pub record Done (t : Told) (before now : Known) (parts : List TreePart) : Type 0 where
  pub whole : judged t.points before ≡ Ok now
  pub grows : Grows before now
  pub fits : AllFit now parts
  pub written : words_by (titles_of now) parts ≡ t.words

-- an answer says what is judged
abbrev pub Does : {A : Type 0} → Told → (A → List TreePart) → Known → Known → Result A TypeError → Type 0
Does t parts before now r = MatchResult r (λ a. Done t before now (parts a)) (λ e. SaysFault (judged t.points before) e)

-- an answer says what is judged, and what was made is that inside a loop and outside
abbrev pub DoesIn : {A : Type 0} → Told → (A → Bool → List TreePart) → Known → Known → Result A TypeError → Type 0
DoesIn t parts before now r = MatchResult r (λ a. (inside : Bool) → Done t before now (parts a inside)) (λ e. SaysFault (judged t.points before) e)

-- a map as a whole: no rule is broken, this is known now, and the number is the map's
pub record UseChecked (m : MapSeen) (before now : Known) (number : ℕ) : Type 0 where
  pub whole : judged (used m) before ≡ Ok now
  pub grows : Grows before now
  pub named : IsNamed now number m.name

-- a map of which a key with parts of these types was deleted: it is no aggregation
pub record Removed (before now : Known) (name : List ℕ) (keys : List Shape) : Type 0 where
  pub grows : Grows before now
  pub kind : MapKind
  pub shared : is_agg kind ≡ false
  pub declared : IsDeclared now name kind keys
