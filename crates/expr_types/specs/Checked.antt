-- What a checked expression is.
use Rattle.std.specs.Prelude.{◌≡◌, ℕ, List, map, Some, Result, Ok, MatchResult}
use Rattle.bt_core.specs.declared.map.Shape.TheVariants.{Int}
use Rattle.expr_types.specs.declared.fault.TypeError.{TypeError}
use Rattle.expr_types.specs.declared.known.Known.{Known}
use Rattle.typed_tree.specs.declared.expr.AnyExpr.{AnyExpr}
use Rattle.typed_tree.specs.declared.expr.NumExpr.{NumExpr}
use Rattle.expr_types.specs.Known.{shape_in}
use Rattle.expr_types.specs.Grows.{Grows}
use Rattle.expr_types.specs.Judge.{judged, SaysFault}
use Rattle.expr_types.specs.Walk.{Seen, MapSeen, points_of}
use Rattle.typed_tree.specs.Parts.{Made, made, made_of, num_parts, parts_in}
use Rattle.expr_types.specs.Typing.{IsNamed, IsTyping, AreTyping, AllFit, titles_of, words_by}

-- no rule is broken, this is known now, which holds what was known before, and the expression that was made is the script's
pub record Checked (s : Seen) (before now : Known) (m : Made) : Type 0 where
  pub whole : judged s.points before ≡ Ok now
  pub grows : Grows before now
  pub typing : IsTyping now s.sort s.words m

-- an answer says what is judged
abbrev pub Checks : Seen → Known → Known → Result AnyExpr TypeError → Type 0
Checks s before now r = MatchResult r (λ e. Checked s before now (made_of e)) (λ e. SaysFault (judged s.points before) e)

-- several expressions
pub record AllChecked (ss : List Seen) (before now : Known) (ms : List Made) : Type 0 where
  pub whole : judged (points_of ss) before ≡ Ok now
  pub grows : Grows before now
  pub typing : AreTyping now ss ms

-- a map and its key
pub record KeyChecked (m : MapSeen) (before now : Known) (number : ℕ) (keys : List Made) : Type 0 where
  pub whole : judged m.points before ≡ Ok now
  pub grows : Grows before now
  pub named : IsNamed now number m.name
  pub sorts : map (shape_in now) m.keys ≡ map (λ k. Some k.shape) keys
  pub fits : AllFit now (parts_in keys)
  pub written : words_by (titles_of now) (parts_in keys) ≡ m.key_words

-- an answer says what is judged: of a whole number, of several expressions, of a map and its key
abbrev pub ChecksNumber : Seen → Known → Known → Result NumExpr TypeError → Type 0
ChecksNumber s before now r = MatchResult r (λ n. Checked s before now (made Int (num_parts n))) (λ e. SaysFault (judged s.points before) e)

abbrev pub ChecksAll : List Seen → Known → Known → Result (List AnyExpr) TypeError → Type 0
ChecksAll ss before now r = MatchResult r (λ all. AllChecked ss before now (map made_of all)) (λ e. SaysFault (judged (points_of ss) before) e)
