-- What is known of types at the end of each body of a script, and that the body's tree is typed under it.
use Rattle.std.specs.Prelude.{◌≡◌, List, [], ◌∷◌, map, Result, Ok, Err}
use Rattle.bt_ast.specs.declared.attached.BodyId.{BodyId}
use Rattle.bt_ast.specs.declared.probe.Script.{Script}
use Rattle.event_layout.specs.declared.format.Format.{Format}
use Rattle.typed_tree.specs.declared.body.TypedTree.{TypedTree}
use Rattle.typed_tree.specs.Bodies.{tree_parts}
use Rattle.expr_types.specs.declared.fault.Fault.{Fault}
use Rattle.expr_types.specs.declared.known.Known.{Known}
use Rattle.expr_types.specs.declared.known.Var.{Var}
use Rattle.expr_types.specs.Judge.{judged}
use Rattle.expr_types.specs.Mentions.{Word}
use Rattle.expr_types.specs.Typing.{AllFit, titles_of, words_by}
use Rattle.bt_types.specs.Bodies.{told_at}

-- what is known behind a body, where no rule is broken in it
abbrev pub known_or : Known → Result Known Fault → Known
known_or before (Ok now) = now
known_or before (Err fault) = before

abbrev pub known_behind : Script → List Format → Known → BodyId → Known
known_behind script formats before id = known_or before (judged (told_at script formats id).points before)

-- A body's tree under what is known at the body's end: it has a variable for each that was set, in their order and with their types, and no
-- other; its parts have the types that were decided; and written back it is these words.
pub record IsUnder (k : Known) (words : List Word) (tree : TypedTree) : Type 0 where
  pub variables : tree.variables ≡ map (λ (v : Var). v.shape) k.vars
  pub fits : AllFit k (tree_parts tree)
  pub written : words_by (titles_of k) (tree_parts tree) ≡ words

-- each of these is so under what is known at the end of its body, where so much is known before the first body
abbrev pub AreBehind : {A : Type 0} → (Known → BodyId → A → Type 0) → Script → List Format → Known → List BodyId → List A → Type 0
AreBehind Is script formats before [] [] = Unit {0}
AreBehind Is script formats before [] (x ∷ xs) = ⊥
AreBehind Is script formats before (id ∷ ids) [] = ⊥
AreBehind Is script formats before (id ∷ ids) (x ∷ xs) =
    Is (known_behind script formats before id) id x × AreBehind Is script formats (known_behind script formats before id) ids xs

-- the trees of these bodies
abbrev pub AreUnder : Script → List Format → Known → List BodyId → List TypedTree → Type 0
AreUnder script formats before ids trees = AreBehind (λ k id tree. IsUnder k (told_at script formats id).words tree) script formats before ids trees
