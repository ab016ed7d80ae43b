-- What typed expressions are made of, by what they were made from.
use Rattle.std.proofs.Common.{◌≡◌, List, ◌∷◌, ◌++◌, Bool, map, sym, ap, ◌∙◌}
use Rattle.bt_core.specs.declared.map.MapId.{MapId}
use Rattle.bt_core.specs.declared.map.Shape.TheVariants.{Int, Str}
use Rattle.bt_core.specs.declared.operator.BinOp.{BinOp}
use Rattle.bt_core.specs.declared.operator.UnOp.{UnOp}
use Rattle.typed_tree.specs.declared.expr.AnyExpr.{AnyExpr, fold-roll-AnyExpr}
use Rattle.typed_tree.specs.declared.expr.AnyExpr.TheVariants.{Num, Str as Text, rolls-Num, rolls-Str}
use Rattle.typed_tree.specs.declared.expr.AnyExpr.TheOpen.{NumExpr-F, StrExpr-F, AnyExpr-F}
use Rattle.typed_tree.specs.declared.expr.NumExpr.{NumExpr, fold-roll-NumExpr}
use Rattle.typed_tree.specs.declared.expr.NumExpr.TheVariants as nums
use Rattle.typed_tree.specs.declared.expr.StrExpr.{StrExpr, fold-roll-StrExpr}
use Rattle.typed_tree.specs.declared.expr.StrExpr.TheVariants as strs
use Rattle.typed_tree.specs.Parts.{TreePart, Made, made, made_of, num_parts, str_parts, num_layer, str_layer, any_layer, compared, keyed_parts, AggOf, key_shapes, parts_in}
use Rattle.typed_tree.specs.Parts.{Stepped, Prefixed, Joined, Both, Either, Chosen}

pub any_num : (e : NumExpr) → made_of (Num e) ≡ made Int (num_parts e)
any_num e = ap made_of (sym (rolls-Num e)) ∙ fold-roll-AnyExpr Made (List TreePart) (List TreePart) any_layer num_layer str_layer (AnyExpr-F.Num e)

pub any_str : (e : StrExpr) → made_of (Text e) ≡ made Str (str_parts e)
any_str e = ap made_of (sym (rolls-Str e)) ∙ fold-roll-AnyExpr Made (List TreePart) (List TreePart) any_layer num_layer str_layer (AnyExpr-F.Str e)

pub num_given : (x : AnyExpr) (e : NumExpr) → x ≡ Num e → made_of x ≡ made Int (num_parts e)
num_given x e is = ap made_of is ∙ any_num e

pub str_given : (x : AnyExpr) (e : StrExpr) → x ≡ Text e → made_of x ≡ made Str (str_parts e)
str_given x e is = ap made_of is ∙ any_str e

-- an operator before an operand
pub unary_made : (op : UnOp) (e value : NumExpr) → e ≡ value → made_of (Num (nums.Unary op e)) ≡ made Int (Prefixed op ∷ num_parts value)
unary_made op e value is =
    any_num (nums.Unary op e)
    ∙ ap (made Int) (ap num_parts (sym (nums.rolls-Unary op e)) ∙ fold-roll-NumExpr Made (List TreePart) (List TreePart) any_layer num_layer str_layer (NumExpr-F.Unary op e)
    ∙ ap (λ (x : NumExpr). Prefixed op ∷ num_parts x) is)

-- two operands
pub binary_made : (op : BinOp) (l r left right : NumExpr) → (let p : NumExpr × NumExpr = (l, r) in p) ≡ (left, right)
    → made_of (Num (nums.Binary op l r)) ≡ made Int (Joined op ∷ (num_parts left ++ num_parts right))
binary_made op l r left right is =
    any_num (nums.Binary op l r)
    ∙ ap (made Int) (ap num_parts (sym (nums.rolls-Binary op l r)) ∙ fold-roll-NumExpr Made (List TreePart) (List TreePart) any_layer num_layer str_layer (NumExpr-F.Binary op l r)
    ∙ ap (λ (p : NumExpr × NumExpr). Joined op ∷ (num_parts p.0 ++ num_parts p.1)) is)

pub compare_made : (equal : Bool) (l r left right : StrExpr) → (let p : StrExpr × StrExpr = (l, r) in p) ≡ (left, right)
    → made_of (Num (nums.Compare equal l r)) ≡ made Int (Joined (compared equal) ∷ (str_parts left ++ str_parts right))
compare_made equal l r left right is =
    any_num (nums.Compare equal l r)
    ∙ ap (made Int) (ap num_parts (sym (nums.rolls-Compare equal l r)) ∙ fold-roll-NumExpr Made (List TreePart) (List TreePart) any_layer num_layer str_layer (NumExpr-F.Compare equal l r)
    ∙ ap (λ (p : StrExpr × StrExpr). Joined (compared equal) ∷ (str_parts p.0 ++ str_parts p.1)) is)

pub and_made : (l r left right : NumExpr) → (let p : NumExpr × NumExpr = (l, r) in p) ≡ (left, right)
    → made_of (Num (nums.AndThen l r)) ≡ made Int (Both ∷ (num_parts left ++ num_parts right))
and_made l r left right is =
    any_num (nums.AndThen l r)
    ∙ ap (made Int) (ap num_parts (sym (nums.rolls-AndThen l r)) ∙ fold-roll-NumExpr Made (List TreePart) (List TreePart) any_layer num_layer str_layer (NumExpr-F.AndThen l r)
    ∙ ap (λ (p : NumExpr × NumExpr). Both ∷ (num_parts p.0 ++ num_parts p.1)) is)

pub or_made : (l r left right : NumExpr) → (let p : NumExpr × NumExpr = (l, r) in p) ≡ (left, right)
    → made_of (Num (nums.OrElse l r)) ≡ made Int (Either ∷ (num_parts left ++ num_parts right))
or_made l r left right is =
    any_num (nums.OrElse l r)
    ∙ ap (made Int) (ap num_parts (sym (nums.rolls-OrElse l r)) ∙ fold-roll-NumExpr Made (List TreePart) (List TreePart) any_layer num_layer str_layer (NumExpr-F.OrElse l r)
    ∙ ap (λ (p : NumExpr × NumExpr). Either ∷ (num_parts p.0 ++ num_parts p.1)) is)

-- a choice
pub number_chosen : (t y n test one other : NumExpr) → (let p : NumExpr × (NumExpr × NumExpr) = (t, (y, n)) in p) ≡ (test, (one, other))
    → made_of (Num (nums.Choose t y n)) ≡ made Int (Chosen ∷ (num_parts test ++ (num_parts one ++ num_parts other)))
number_chosen t y n test one other is =
    any_num (nums.Choose t y n)
    ∙ ap (made Int) (ap num_parts (sym (nums.rolls-Choose t y n)) ∙ fold-roll-NumExpr Made (List TreePart) (List TreePart) any_layer num_layer str_layer (NumExpr-F.NumExpr::Choose t y n)
    ∙ ap (λ (p : NumExpr × (NumExpr × NumExpr)). Chosen ∷ (num_parts p.0 ++ (num_parts p.1.0 ++ num_parts p.1.1))) is)

pub string_chosen : (t test : NumExpr) (y n one other : StrExpr) → (let p : NumExpr × (StrExpr × StrExpr) = (t, (y, n)) in p) ≡ (test, (one, other))
    → made_of (Text (strs.Choose t y n)) ≡ made Str (Chosen ∷ (num_parts test ++ (str_parts one ++ str_parts other)))
string_chosen t test y n one other is =
    any_str (strs.Choose t y n)
    ∙ ap (made Str) (ap str_parts (sym (strs.rolls-Choose t y n)) ∙ fold-roll-StrExpr Made (List TreePart) (List TreePart) any_layer num_layer str_layer (StrExpr-F.StrExpr::Choose t y n)
    ∙ ap (λ (p : NumExpr × (StrExpr × StrExpr)). Chosen ∷ (num_parts p.0 ++ (str_parts p.1.0 ++ str_parts p.1.1))) is)

-- a map with its key, by its number
pub map_made : (m : MapId) (keys : List AnyExpr) → made_of (Num (nums.Map m keys)) ≡ made Int (keyed_parts m.0 (map made_of keys) Int)
map_made m keys =
    any_num (nums.Map m keys)
    ∙ ap (made Int) (ap num_parts (sym (nums.rolls-Map m keys)) ∙ fold-roll-NumExpr Made (List TreePart) (List TreePart) any_layer num_layer str_layer (NumExpr-F.NumExpr::Map m keys))

pub text_map_made : (m : MapId) (keys : List AnyExpr) → made_of (Text (strs.Map m keys)) ≡ made Str (keyed_parts m.0 (map made_of keys) Str)
text_map_made m keys =
    any_str (strs.Map m keys)
    ∙ ap (made Str) (ap str_parts (sym (strs.rolls-Map m keys)) ∙ fold-roll-StrExpr Made (List TreePart) (List TreePart) any_layer num_layer str_layer (StrExpr-F.StrExpr::Map m keys))

pub agg_made : (m : MapId) (keys : List AnyExpr) → made_of (Num (nums.Agg m keys)) ≡ made Int (AggOf m.0 (key_shapes (map made_of keys)) ∷ parts_in (map made_of keys))
agg_made m keys =
    any_num (nums.Agg m keys)
    ∙ ap (made Int) (ap num_parts (sym (nums.rolls-Agg m keys)) ∙ fold-roll-NumExpr Made (List TreePart) (List TreePart) any_layer num_layer str_layer (NumExpr-F.Agg m keys))

pub step_map_made : (m : MapId) (keys : List AnyExpr) (plus prefix : Bool) → num_parts (nums.StepMap m keys plus prefix) ≡ Stepped plus prefix ∷ keyed_parts m.0 (map made_of keys) Int
step_map_made m keys plus prefix =
    ap num_parts (sym (nums.rolls-StepMap m keys plus prefix))
    ∙ fold-roll-NumExpr Made (List TreePart) (List TreePart) any_layer num_layer str_layer (NumExpr-F.StepMap m keys plus prefix)
