-- What fits of an expression's operands, from the fit of the whole.
use Rattle.std.proofs.Common.{◌≡◌, ◌++◌, ℤ, List, ◌∷◌, Option, Some, None, Bool, true, sym, ap, ◌∙◌, subst}
use Rattle.std.specs.Prelude.{IsSomeAnd, slice_get}
use Rattle.std.proofs.lemmas.Bool.{and_parts}
use Rattle.std.proofs.lemmas.List.Folds.{list_all-append}
use Rattle.bt_core.specs.declared.map.MapDecl.{MapDecl}
use Rattle.bt_core.specs.declared.map.MapId.{MapId}
use Rattle.bt_core.specs.declared.map.MapKind.{MapKind}
use Rattle.bt_core.specs.declared.map.MapKind.TheVariants.{Ints}
use Rattle.bt_core.specs.declared.value.Value.{Value}
use Rattle.bt_core.specs.declared.value.Value.TheVariants.{Int}
use Rattle.bt_core.specs.declared.step.Op.TheVariants.{Get, Set}
use Rattle.bt_core.specs.Kinds.{IsOfKind, IsShared}
use Rattle.bt_core.specs.declared.operator.BinOp.{BinOp}
use Rattle.bt_core.specs.declared.operator.UnOp.{UnOp}
use Rattle.typed_tree.specs.declared.expr.AnyExpr.TheOpen.{NumExpr-F, StrExpr-F}
use Rattle.typed_tree.specs.declared.expr.NumExpr.{NumExpr, fold-roll-NumExpr}
use Rattle.typed_tree.specs.declared.expr.NumExpr.TheVariants as nums
use Rattle.typed_tree.specs.declared.expr.StrExpr.{StrExpr, fold-roll-StrExpr}
use Rattle.typed_tree.specs.declared.expr.StrExpr.TheVariants as strs
use Rattle.typed_tree.specs.Parts.{TreePart, Made, any_layer, num_layer, str_layer, num_parts, str_parts, Prefixed, Joined, Both, Either, Chosen, compared}
use Rattle.typed_tree.specs.Scope.{fits, all_fit}
use Rattle.walk_meaning.specs.declared.view.View.{View}
use Rattle.walk_meaning.specs.Served.{Fits, IsServed, HoldsUnder, scope_in}
use Rattle.bt_core.specs.Ports.{Fixed, Setting, CanStep}
use Rattle.map_ops.specs.Holders.{part}
use Rattle.map_ops.proofs.PartLaws.{part_below}

pub num_same : (v : View) (x y : NumExpr) → x ≡ y → Fits v (num_parts y) → Fits v (num_parts x)
num_same v x y is fit = subst (λ (e : NumExpr). Fits v (num_parts e)) (sym is) fit

pub str_same : (v : View) (x y : StrExpr) → x ≡ y → Fits v (str_parts y) → Fits v (str_parts x)
str_same v x y is fit = subst (λ (e : StrExpr). Fits v (str_parts e)) (sym is) fit

-- what serves a view serves it as long as it stays the same
pub served_still : {H : Type 0} (v : View) (before now : Fixed H) → now ≡ before → IsServed v before.setting → IsServed v now.setting
served_still {H} v before now is served = subst (λ (f : Fixed H). IsServed v f.setting) (sym is) served

-- what holds of a map's declaration gives what else does
some_still : {A : Type 0} (o : Option A) (P Q : A → Type 0) → ((a : A) → P a → Q a) → IsSomeAnd o P → IsSomeAnd o Q
some_still (Some a) P Q f p = f a p
some_still None P Q f p = p

module _ (s : Setting) (m : MapId) (key : List Value) (under : HoldsUnder s m Ints key) where
  pub can_get : CanStep s (part m key) (Get key)
  can_get = (part_below key, some_still (slice_get s.maps m.0) _ _ (λ (decl : MapDecl) p. (subst IsShared (sym p.0) p.1, p.2)) under)

  pub can_set : (n : ℤ) → CanStep s (part m key) (Set key (Int n))
  can_set n =
      (part_below key, some_still (slice_get s.maps m.0) _ _ (λ (decl : MapDecl) p. (subst IsShared (sym p.0) p.1, (p.2, subst (λ (k : MapKind). IsOfKind k (Int n)) (sym p.0) tt))) under)

-- and so does what a map holds a value under, by another name of the key
pub held_still : {H : Type 0} (before now : Fixed H) (m : MapId) (key same : List Value) → now ≡ before → same ≡ key → HoldsUnder before.setting m Ints key → HoldsUnder now.setting m Ints same
held_still {H} before now m key same kept is under = subst (λ (k : List Value). HoldsUnder now.setting m Ints k) (sym is) (subst (λ (f : Fixed H). HoldsUnder f.setting m Ints key) (sym kept) under)

pub behind : (v : View) (p : TreePart) (a all : List TreePart) → all ≡ p ∷ a → Fits v all → Fits v a
behind v p a all is fit = (and_parts (fits (scope_in v) p) (all_fit (scope_in v) a) (subst (λ (l : List TreePart). all_fit (scope_in v) l ≡ true) is fit)).1

pub two : (v : View) (a b : List TreePart) → Fits v (a ++ b) → Fits v a × Fits v b
two v a b fit = and_parts (all_fit (scope_in v) a) (all_fit (scope_in v) b) (sym (list_all-append (fits (scope_in v)) a b) ∙ fit)

module _ (v : View) (e : NumExpr) (fit : Fits v (num_parts e)) where
  pub unary_fits : (op : UnOp) (d d1 : NumExpr) → e ≡ nums.Unary op d → d1 ≡ d → Fits v (num_parts d1)
  unary_fits op d d1 h i =
      let is : num_parts e ≡ Prefixed op ∷ num_parts d = ap num_parts h ∙ (ap num_parts (sym (nums.rolls-Unary op d)) ∙ fold-roll-NumExpr Made (List TreePart) (List TreePart) any_layer num_layer str_layer (NumExpr-F.Unary op d)) in
      subst (λ (x : NumExpr). Fits v (num_parts x)) (sym i) (behind v (Prefixed op) (num_parts d) (num_parts e) is fit)

  pub binary_fits : (op : BinOp) (l r : NumExpr) → e ≡ nums.Binary op l r → Fits v (num_parts l) × Fits v (num_parts r)
  binary_fits op l r h =
      let is : num_parts e ≡ Joined op ∷ (num_parts l ++ num_parts r) = ap num_parts h ∙ (ap num_parts (sym (nums.rolls-Binary op l r)) ∙ fold-roll-NumExpr Made (List TreePart) (List TreePart) any_layer num_layer str_layer (NumExpr-F.Binary op l r)) in
      two v (num_parts l) (num_parts r) (behind v (Joined op) (num_parts l ++ num_parts r) (num_parts e) is fit)

  pub compare_fits : (equal : Bool) (l r : StrExpr) → e ≡ nums.Compare equal l r → Fits v (str_parts l) × Fits v (str_parts r)
  compare_fits equal l r h =
      let is : num_parts e ≡ Joined (compared equal) ∷ (str_parts l ++ str_parts r) = ap num_parts h ∙ (ap num_parts (sym (nums.rolls-Compare equal l r)) ∙ fold-roll-NumExpr Made (List TreePart) (List TreePart) any_layer num_layer str_layer (NumExpr-F.Compare equal l r)) in
      two v (str_parts l) (str_parts r) (behind v (Joined (compared equal)) (str_parts l ++ str_parts r) (num_parts e) is fit)

  pub and_fits : (l r : NumExpr) → e ≡ nums.AndThen l r → Fits v (num_parts l) × Fits v (num_parts r)
  and_fits l r h =
      let is : num_parts e ≡ Both ∷ (num_parts l ++ num_parts r) = ap num_parts h ∙ (ap num_parts (sym (nums.rolls-AndThen l r)) ∙ fold-roll-NumExpr Made (List TreePart) (List TreePart) any_layer num_layer str_layer (NumExpr-F.AndThen l r)) in
      two v (num_parts l) (num_parts r) (behind v Both (num_parts l ++ num_parts r) (num_parts e) is fit)

  pub or_fits : (l r : NumExpr) → e ≡ nums.OrElse l r → Fits v (num_parts l) × Fits v (num_parts r)
  or_fits l r h =
      let is : num_parts e ≡ Either ∷ (num_parts l ++ num_parts r) = ap num_parts h ∙ (ap num_parts (sym (nums.rolls-OrElse l r)) ∙ fold-roll-NumExpr Made (List TreePart) (List TreePart) any_layer num_layer str_layer (NumExpr-F.OrElse l r)) in
      two v (num_parts l) (num_parts r) (behind v Either (num_parts l ++ num_parts r) (num_parts e) is fit)

  pub choose_fits : (t y o : NumExpr) → e ≡ nums.Choose t y o → Fits v (num_parts t) × (Fits v (num_parts y) × Fits v (num_parts o))
  choose_fits t y o h =
      let is : num_parts e ≡ Chosen ∷ (num_parts t ++ (num_parts y ++ num_parts o)) = ap num_parts h ∙ (ap num_parts (sym (nums.rolls-Choose t y o)) ∙ fold-roll-NumExpr Made (List TreePart) (List TreePart) any_layer num_layer str_layer (NumExpr-F.NumExpr::Choose t y o)) in
      let p = two v (num_parts t) (num_parts y ++ num_parts o) (behind v Chosen (num_parts t ++ (num_parts y ++ num_parts o)) (num_parts e) is fit) in
      (p.0, two v (num_parts y) (num_parts o) p.1)

module _ (v : View) (e : StrExpr) (fit : Fits v (str_parts e)) where
  pub choose_text_fits : (t : NumExpr) (y o : StrExpr) → e ≡ strs.Choose t y o → Fits v (num_parts t) × (Fits v (str_parts y) × Fits v (str_parts o))
  choose_text_fits t y o h =
      let is : str_parts e ≡ Chosen ∷ (num_parts t ++ (str_parts y ++ str_parts o)) = ap str_parts h ∙ (ap str_parts (sym (strs.rolls-Choose t y o)) ∙ fold-roll-StrExpr Made (List TreePart) (List TreePart) any_layer num_layer str_layer (StrExpr-F.StrExpr::Choose t y o)) in
      let p = two v (num_parts t) (str_parts y ++ str_parts o) (behind v Chosen (num_parts t ++ (str_parts y ++ str_parts o)) (str_parts e) is fit) in
      (p.0, two v (str_parts y) (str_parts o) p.1)
