-- Expressions that are evaluated one after another.
use Rattle.std.proofs.Common.{◌≡◌, ℕ, ◌+◌, ◌<◌, ◌≤◌, ◌++◌, List, [], ◌∷◌, length, take, drop, map, refl, sym, ap, ◌∙◌, subst}
use Rattle.std.proofs.lemmas.List.{drop_more, drop_all, take_all, take_more, map-append}
use Rattle.std.specs.Prelude.{get_or}
use Rattle.bt_core.specs.declared.map.Shape.{Shape}
use Rattle.bt_core.specs.declared.step.Step.{Step}
use Rattle.bt_core.specs.declared.value.Value.{Value}
use Rattle.bt_core.specs.Interaction.{Interaction, Whole, Part, Left}
use Rattle.bt_core.specs.Kinds.{HasShape, IsOfShape}
use Rattle.bt_core.proofs.InteractionLaws.{Left-here, Left-Whole, Left-Part, Left-is, Performed-none}
use Rattle.typed_tree.specs.declared.expr.AnyExpr.{AnyExpr}
use Rattle.typed_tree.specs.Parts.{Made, made_of, key_shapes}
use Rattle.walk_meaning.specs.declared.flow.Frame.{Frame}
use Rattle.walk_meaning.specs.Does.{BodyScene, bind, gathered, in_order}
use Rattle.walk_meaning.specs.Exprs.{value_does, values_do}
use Rattle.walk_meaning.specs.Served.{all_made}
use Rattle.walk_meaning.proofs.Declared.{HasShape-more}
use Rattle.bt_walk.proofs.Binds.{Part-first, Given-done, Left-next}

pub gathers-start : (es : List AnyExpr) (scene : BodyScene) (frame : Frame) (old : List Step) → Left (in_order (values_do es) scene frame) old old (gathered [] (values_do es) scene frame)
gathers-start es scene frame old = Left-here _ _

module _ (whole : Interaction (List Value × Frame)) (es : List AnyExpr) (n : ℕ) (e : AnyExpr) (scene : BodyScene) (frame : Frame) (parts : List Value) (old mid new : List Step) where
  now_is : n < length es → e ≡ get_or es n e → gathered parts (values_do (drop n es)) scene frame ≡ bind (value_does e) (λ value. gathered (parts ++ value ∷ []) (values_do (drop (n + 1) es))) scene frame
  now_is h i = let d : drop n es ≡ e ∷ drop (n + 1) es = drop_more es n e h ∙ ap (λ y. y ∷ drop (n + 1) es) (sym i) in
      ap (λ (l : List AnyExpr). gathered parts (values_do l) scene frame) d

  pub gathers-stop : n < length es → e ≡ get_or es n e → Left whole old mid (gathered parts (values_do (drop n es)) scene frame) → Part (value_does e scene frame) mid new → Part whole old new
  gathers-stop h i p q = Left-Part _ _ _ _ _ (Left-is _ _ _ _ _ p (now_is h i)) (Part-first _ _ _ _ _ _ q)

  module _ (value : Value) (after : Frame) where
    pub gathers-next : n < length es → e ≡ get_or es n e → Left whole old mid (gathered parts (values_do (drop n es)) scene frame) → Whole (value_does e scene frame) mid new (value, after) →
        Left whole old new (gathered (parts ++ value ∷ []) (values_do (drop (n + 1) es)) scene after)
    gathers-next h i p q = Left-next _ _ _ _ _ _ _ _ _ _ (Left-is _ _ _ _ _ p (now_is h i)) q

    pub gathers-drop : n < length es → e ≡ get_or es n e → Left whole old mid (gathered parts (values_do (drop n es)) scene frame) → Whole (value_does e scene frame) mid new (value, after) → Part whole old new
    gathers-drop h i p q = Left-Part _ _ _ _ _ (gathers-next h i p q) (Performed-none _ _ _ refl)

pub gathers-end : (whole : Interaction (List Value × Frame)) (es : List AnyExpr) (n : ℕ) (scene : BodyScene) (frame : Frame) (parts : List Value) (old now : List Step) →
    length es ≤ n → Left whole old now (gathered parts (values_do (drop n es)) scene frame) → Whole whole old now (parts, frame)
gathers-end whole es n scene frame parts old now h p =
    Left-Whole _ _ _ _ _ _ (Left-is _ _ _ _ _ p (ap (λ (l : List AnyExpr). gathered parts (values_do l) scene frame) (drop_all n es h))) (Given-done _ _ _ _ _ _ refl refl)

shapes_more : (es : List AnyExpr) (n : ℕ) (e : AnyExpr) → n < length es → e ≡ get_or es n e → key_shapes (all_made (take (n + 1) es)) ≡ key_shapes (all_made (take n es)) ++ (made_of e).shape ∷ []
shapes_more es n e h i =
    let t : take (n + 1) es ≡ take n es ++ e ∷ [] = take_more es n e h ∙ ap (λ x. take n es ++ x ∷ []) (sym i) in
    ap (λ (l : List AnyExpr). key_shapes (all_made l)) t ∙ (ap key_shapes (map-append made_of (take n es) (e ∷ [])) ∙ map-append (λ (k : Made). k.shape) (map made_of (take n es)) (made_of e ∷ []))

pub shapes-next : (es : List AnyExpr) (n : ℕ) (e : AnyExpr) (parts : List Value) (value : Value) → n < length es → e ≡ get_or es n e → HasShape (key_shapes (all_made (take n es))) parts → IsOfShape (made_of e).shape value →
    HasShape (key_shapes (all_made (take (n + 1) es))) (parts ++ value ∷ [])
shapes-next es n e parts value h i p q = subst (λ (l : List Shape). HasShape l (parts ++ value ∷ [])) (sym (shapes_more es n e h i)) (HasShape-more _ _ _ _ p q)

pub shapes-end : (es : List AnyExpr) (n : ℕ) (parts : List Value) → length es ≤ n → HasShape (key_shapes (all_made (take n es))) parts → HasShape (key_shapes (all_made es)) parts
shapes-end es n parts h p = subst (λ (l : List AnyExpr). HasShape (key_shapes (all_made l)) parts) (take_all n es h) p
