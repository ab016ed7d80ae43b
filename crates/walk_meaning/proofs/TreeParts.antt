-- What fits of a tree, from the fit of the whole: the parts that name a field, a map or an operator's own.
use Rattle.std.proofs.Common.{◌≡◌, ◌++◌, ℕ, zero, suc, ◌<◌, ◌≤◌, length, arith, List, [], ◌∷◌, Bool, true, sym, ap, ◌∙◌, subst}
use denote.Param.Weighed.{most}
use Rattle.std.specs.Prelude.{IsTrue, ◌&&◌, get_or, is_none, Option}
use Rattle.std.specs.List.{list_all}
use Rattle.std.proofs.lemmas.Bool.{and_parts}
use Rattle.std.proofs.lemmas.List.Folds.{list_all-append}
use Rattle.bt_core.specs.declared.map.MapId.{MapId}
use Rattle.bt_core.specs.declared.map.MapKind.TheVariants.{Ints, Aggs}
use Rattle.bt_core.specs.declared.map.AggKind.{AggKind}
use Rattle.bt_core.specs.declared.operator.BinOp.{BinOp}
use Rattle.bt_core.specs.declared.map.Shape.TheVariants.{Int, Str}
use Rattle.event_layout.specs.declared.field.Field.{Field}
use Rattle.typed_tree.specs.declared.expr.AnyExpr.{AnyExpr}
use Rattle.typed_tree.specs.declared.expr.AnyExpr.TheOpen.{NumExpr-F, StrExpr-F}
use Rattle.typed_tree.specs.declared.expr.NumExpr.{NumExpr, fold-roll-NumExpr}
use Rattle.typed_tree.specs.declared.expr.NumExpr.TheVariants as nums
use Rattle.typed_tree.specs.declared.expr.StrExpr.{StrExpr, fold-roll-StrExpr}
use Rattle.typed_tree.specs.declared.expr.StrExpr.TheVariants as strs
use Rattle.typed_tree.specs.Parts.{TreePart, Made, made_of, any_layer, num_layer, str_layer, num_parts, str_parts, parts_in, key_shapes, keyed_parts, FieldOf, MapOf, AggOf, Stepped, set_map_parts, update_map_parts, gather_parts, number_parts, delete_parts}
use Rattle.typed_tree.specs.Scope.{fits, all_fit, is_declared, is_shared, is_summed, decl_of, kind_of_shape, same_bool, is_count}
use Rattle.walk_meaning.specs.declared.view.View.{View}
use Rattle.walk_meaning.specs.Served.{Fits, NamesShared, scope_in, all_made}

pub num_field_parts : (v : View) (e : NumExpr) (f : Field) → e ≡ nums.Field f → Fits v (num_parts e) → fits (scope_in v) (FieldOf f Int) ≡ true
num_field_parts v e f h fit =
    let is : num_parts e ≡ FieldOf f Int ∷ [] = ap num_parts h ∙ (ap num_parts (sym (nums.rolls-Field f)) ∙ fold-roll-NumExpr Made (List TreePart) (List TreePart) any_layer num_layer str_layer (NumExpr-F.NumExpr::Field f)) in
    (and_parts (fits (scope_in v) (FieldOf f Int)) true (subst (λ (l : List TreePart). all_fit (scope_in v) l ≡ true) is fit)).0

pub str_field_parts : (v : View) (e : StrExpr) (f : Field) → e ≡ strs.Field f → Fits v (str_parts e) → fits (scope_in v) (FieldOf f Str) ≡ true
str_field_parts v e f h fit =
    let is : str_parts e ≡ FieldOf f Str ∷ [] = ap str_parts h ∙ (ap str_parts (sym (strs.rolls-Field f)) ∙ fold-roll-StrExpr Made (List TreePart) (List TreePart) any_layer num_layer str_layer (StrExpr-F.StrExpr::Field f)) in
    (and_parts (fits (scope_in v) (FieldOf f Str)) true (subst (λ (l : List TreePart). all_fit (scope_in v) l ≡ true) is fit)).0

pub step_map_parts : (v : View) (e : NumExpr) (m : MapId) (keys : List AnyExpr) (plus prefix : Bool) → e ≡ nums.StepMap m keys plus prefix → Fits v (num_parts e) →
    IsTrue (is_declared (decl_of m.0 v.body.now.maps) Ints (key_shapes (all_made keys)))
step_map_parts v e m keys plus prefix h fit =
    let is : num_parts e ≡ Stepped plus prefix ∷ keyed_parts m.0 (all_made keys) Int =
    ap num_parts h ∙ (ap num_parts (sym (nums.rolls-StepMap m keys plus prefix)) ∙ fold-roll-NumExpr Made (List TreePart) (List TreePart) any_layer num_layer str_layer (NumExpr-F.StepMap m keys plus prefix)) in
    (and_parts (fits (scope_in v) (MapOf m.0 (key_shapes (all_made keys)) Int)) (all_fit (scope_in v) (parts_in (all_made keys))) (subst (λ (l : List TreePart). all_fit (scope_in v) l ≡ true) is fit)).0

-- an aggregation that is read, and the parts of its key
pub agg_head : (v : View) (m : MapId) (keys : List Made) → Fits v (AggOf m.0 (key_shapes keys) ∷ parts_in keys) → IsTrue (is_summed (decl_of m.0 v.body.now.maps) (key_shapes keys)) × Fits v (parts_in keys)
agg_head v m keys fit = let p = and_parts (fits (scope_in v) (AggOf m.0 (key_shapes keys))) (all_fit (scope_in v) (parts_in keys)) fit in (p.0, p.1)

-- an expression of several
pub one_fits : (v : View) (es : List AnyExpr) (n : ℕ) (e : AnyExpr) → n < length es → e ≡ get_or es n e → Fits v (parts_in (all_made es)) → Fits v (made_of e).parts
one_fits v [] n e h i fit = absurd (omega (arith, h))
one_fits v (x ∷ xs) zero e h i fit =
    let both : list_all (fits (scope_in v)) ((made_of x).parts ++ parts_in (all_made xs)) ≡ true = fit in
    let p = and_parts (all_fit (scope_in v) (made_of x).parts) (all_fit (scope_in v) (parts_in (all_made xs))) (sym (list_all-append (fits (scope_in v)) (made_of x).parts (parts_in (all_made xs))) ∙ both) in
    subst (λ (y : AnyExpr). Fits v (made_of y).parts) (sym i) p.0
one_fits v (x ∷ xs) (suc n) e h i fit =
    let both : list_all (fits (scope_in v)) ((made_of x).parts ++ parts_in (all_made xs)) ≡ true = fit in
    let p = and_parts (all_fit (scope_in v) (made_of x).parts) (all_fit (scope_in v) (parts_in (all_made xs))) (sym (list_all-append (fits (scope_in v)) (made_of x).parts (parts_in (all_made xs))) ∙ both) in
    one_fits v xs n e (omega (arith, h)) i p.1

-- an expression of several is no larger than the largest
pub one_size : {A : Type 0} (size : A → ℕ) (xs : List A) (n : ℕ) (x : A) → n < length xs → x ≡ get_or xs n x → size x ≤ most size xs
one_size size [] n x h i = absurd (omega (arith, h))
one_size size (y ∷ ys) zero x h i = let e : size x ≡ size y = ap size i in omega (arith, e)
one_size size (y ∷ ys) (suc n) x h i = let below : size x ≤ most size ys = one_size size ys n x (omega (arith, h)) i in omega (arith, below)

-- ---- the maps of statements

module _ (v : View) (m : MapId) (keys : List Made) where
  pub set_head : (value : Made) → Fits v (set_map_parts m.0 keys value) → IsTrue (is_declared (decl_of m.0 v.body.now.maps) (kind_of_shape value.shape) (key_shapes keys))
  set_head value fit = (and_parts (is_declared (decl_of m.0 v.body.now.maps) (kind_of_shape value.shape) (key_shapes keys)) (all_fit (scope_in v) (parts_in keys ++ value.parts)) fit).0

  pub update_head : (op : BinOp) (value : List TreePart) → Fits v (update_map_parts op m.0 keys value) → IsTrue (is_declared (decl_of m.0 v.body.now.maps) (kind_of_shape Int) (key_shapes keys))
  update_head op value fit = (and_parts (is_declared (decl_of m.0 v.body.now.maps) (kind_of_shape Int) (key_shapes keys)) (all_fit (scope_in v) (parts_in keys ++ value)) fit).0

  pub gather_head : (kind : AggKind) (number : Option NumExpr) → Fits v (gather_parts m.0 keys kind number) → IsTrue (is_declared (decl_of m.0 v.body.now.maps) (Aggs kind) (key_shapes keys))
  gather_head kind number fit =
      let p = and_parts (is_declared (decl_of m.0 v.body.now.maps) (Aggs kind) (key_shapes keys) && same_bool (is_none number) (is_count kind)) (all_fit (scope_in v) (parts_in keys ++ number_parts number)) fit in
      (and_parts (is_declared (decl_of m.0 v.body.now.maps) (Aggs kind) (key_shapes keys)) (same_bool (is_none number) (is_count kind)) p.0).0

  pub delete_head : Fits v (delete_parts m.0 keys) → NamesShared v m (key_shapes keys)
  delete_head fit = (and_parts (is_shared (decl_of m.0 v.body.now.maps) (key_shapes keys)) (all_fit (scope_in v) (parts_in keys)) fit).0
