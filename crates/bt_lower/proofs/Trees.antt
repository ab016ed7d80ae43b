-- What expressions of each kind are made of and need, by their parts.
use Rattle.std.proofs.Common.{◌≡◌, ℕ, ◌+◌, List, [], ◌∷◌, ◌++◌, Bool, sym, ap, ◌∙◌}
use Rattle.std.specs.Prelude.{ℤ, max}
use Rattle.bt_core.specs.declared.map.MapId.{MapId}
use Rattle.bt_core.specs.declared.map.Shape.TheVariants.{Int, Str}
use Rattle.bt_core.specs.declared.operator.BinOp.{BinOp}
use Rattle.bt_core.specs.declared.operator.UnOp.{UnOp}
use Rattle.event_layout.specs.declared.field.Field.{Field}
use Rattle.typed_tree.specs.declared.expr.AnyExpr.{AnyExpr, fold-roll-AnyExpr}
use Rattle.typed_tree.specs.declared.expr.AnyExpr.TheVariants as anys
use Rattle.typed_tree.specs.declared.expr.AnyExpr.TheOpen.{NumExpr-F, StrExpr-F, AnyExpr-F}
use Rattle.typed_tree.specs.declared.expr.NumBuiltin.{NumBuiltin}
use Rattle.typed_tree.specs.declared.expr.NumExpr.{NumExpr, fold-roll-NumExpr}
use Rattle.typed_tree.specs.declared.expr.NumExpr.TheVariants as nums
use Rattle.typed_tree.specs.declared.expr.StrExpr.{StrExpr, fold-roll-StrExpr}
use Rattle.typed_tree.specs.declared.expr.StrExpr.TheVariants as strs
use Rattle.typed_tree.specs.Parts.{TreePart, Made, made, made_of, num_parts, str_parts, num_layer, str_layer, any_layer, compared, keyed_parts, AggOf, key_shapes, parts_in}
use Rattle.typed_tree.specs.Parts.{Constant, Literal, Numeric, Command, FieldOf, VarOf, Stepped, Prefixed, Joined, Both, Either, Chosen}
use Rattle.bt_lower.specs.Lowers.{all_made}
use Rattle.bt_lower.specs.Needs.{Need, Valued, need, valued, more, greater, beside, codes_in, value_need, number_need, text_need, values_need}
use Rattle.bt_lower.specs.Needs.{number_need_by_parts, text_need_by_parts, value_need_by_parts}

pub num-Number-parts : (n : ℤ) → num_parts (nums.Number n) ≡ Constant n ∷ []
num-Number-parts n = ap num_parts (sym (nums.rolls-Number n)) ∙ fold-roll-NumExpr Made (List TreePart) (List TreePart) any_layer num_layer str_layer (NumExpr-F.Number n)

pub num-Number-need : (n : ℤ) → number_need (nums.Number n) ≡ need 8 4
num-Number-need n = ap number_need (sym (nums.rolls-Number n)) ∙ fold-roll-NumExpr Valued Need Need value_need_by_parts number_need_by_parts text_need_by_parts (NumExpr-F.Number n)

pub num-Builtin-parts : (b : NumBuiltin) → num_parts (nums.Builtin b) ≡ Numeric b ∷ []
num-Builtin-parts b = ap num_parts (sym (nums.rolls-Builtin b)) ∙ fold-roll-NumExpr Made (List TreePart) (List TreePart) any_layer num_layer str_layer (NumExpr-F.Builtin b)

pub num-Builtin-need : (b : NumBuiltin) → number_need (nums.Builtin b) ≡ need 8 4
num-Builtin-need b = ap number_need (sym (nums.rolls-Builtin b)) ∙ fold-roll-NumExpr Valued Need Need value_need_by_parts number_need_by_parts text_need_by_parts (NumExpr-F.Builtin b)

pub num-Field-parts : (f : Field) → num_parts (nums.Field f) ≡ FieldOf f Int ∷ []
num-Field-parts f = ap num_parts (sym (nums.rolls-Field f)) ∙ fold-roll-NumExpr Made (List TreePart) (List TreePart) any_layer num_layer str_layer (NumExpr-F.NumExpr::Field f)

pub num-Field-need : (f : Field) → number_need (nums.Field f) ≡ need 8 8
num-Field-need f = ap number_need (sym (nums.rolls-Field f)) ∙ fold-roll-NumExpr Valued Need Need value_need_by_parts number_need_by_parts text_need_by_parts (NumExpr-F.NumExpr::Field f)

pub num-Var-parts : (x : ℕ) → num_parts (nums.Var x) ≡ VarOf x Int ∷ []
num-Var-parts x = ap num_parts (sym (nums.rolls-Var x)) ∙ fold-roll-NumExpr Made (List TreePart) (List TreePart) any_layer num_layer str_layer (NumExpr-F.NumExpr::Var x)

pub num-Var-need : (x : ℕ) → number_need (nums.Var x) ≡ need 8 4
num-Var-need x = ap number_need (sym (nums.rolls-Var x)) ∙ fold-roll-NumExpr Valued Need Need value_need_by_parts number_need_by_parts text_need_by_parts (NumExpr-F.NumExpr::Var x)

pub num-Map-parts : (m : MapId) (keys : List AnyExpr) → num_parts (nums.Map m keys) ≡ keyed_parts m.0 (all_made keys) Int
num-Map-parts m keys = ap num_parts (sym (nums.rolls-Map m keys)) ∙ fold-roll-NumExpr Made (List TreePart) (List TreePart) any_layer num_layer str_layer (NumExpr-F.NumExpr::Map m keys)

pub num-Map-need : (m : MapId) (keys : List AnyExpr) → number_need (nums.Map m keys) ≡ need (beside (values_need keys) 8) (16 + codes_in (values_need keys))
num-Map-need m keys = ap number_need (sym (nums.rolls-Map m keys)) ∙ fold-roll-NumExpr Valued Need Need value_need_by_parts number_need_by_parts text_need_by_parts (NumExpr-F.NumExpr::Map m keys)

pub num-Agg-parts : (m : MapId) (keys : List AnyExpr) → num_parts (nums.Agg m keys) ≡ AggOf m.0 (key_shapes (all_made keys)) ∷ parts_in (all_made keys)
num-Agg-parts m keys = ap num_parts (sym (nums.rolls-Agg m keys)) ∙ fold-roll-NumExpr Made (List TreePart) (List TreePart) any_layer num_layer str_layer (NumExpr-F.Agg m keys)

pub num-Agg-need : (m : MapId) (keys : List AnyExpr) → number_need (nums.Agg m keys) ≡ need (beside (values_need keys) 8) (16 + codes_in (values_need keys))
num-Agg-need m keys = ap number_need (sym (nums.rolls-Agg m keys)) ∙ fold-roll-NumExpr Valued Need Need value_need_by_parts number_need_by_parts text_need_by_parts (NumExpr-F.Agg m keys)

pub num-StepVar-parts : (x : ℕ) (plus : Bool) (prefix : Bool) → num_parts (nums.StepVar x plus prefix) ≡ Stepped plus prefix ∷ VarOf x Int ∷ []
num-StepVar-parts x plus prefix = ap num_parts (sym (nums.rolls-StepVar x plus prefix)) ∙ fold-roll-NumExpr Made (List TreePart) (List TreePart) any_layer num_layer str_layer (NumExpr-F.StepVar x plus prefix)

pub num-StepVar-need : (x : ℕ) (plus : Bool) (prefix : Bool) → number_need (nums.StepVar x plus prefix) ≡ need 8 12
num-StepVar-need x plus prefix = ap number_need (sym (nums.rolls-StepVar x plus prefix)) ∙ fold-roll-NumExpr Valued Need Need value_need_by_parts number_need_by_parts text_need_by_parts (NumExpr-F.StepVar x plus prefix)

pub num-StepMap-parts : (m : MapId) (keys : List AnyExpr) (plus : Bool) (prefix : Bool) → num_parts (nums.StepMap m keys plus prefix) ≡ Stepped plus prefix ∷ keyed_parts m.0 (all_made keys) Int
num-StepMap-parts m keys plus prefix = ap num_parts (sym (nums.rolls-StepMap m keys plus prefix)) ∙ fold-roll-NumExpr Made (List TreePart) (List TreePart) any_layer num_layer str_layer (NumExpr-F.StepMap m keys plus prefix)

pub num-StepMap-need : (m : MapId) (keys : List AnyExpr) (plus : Bool) (prefix : Bool) → number_need (nums.StepMap m keys plus prefix) ≡ need (beside (values_need keys) 16) (32 + codes_in (values_need keys))
num-StepMap-need m keys plus prefix = ap number_need (sym (nums.rolls-StepMap m keys plus prefix)) ∙ fold-roll-NumExpr Valued Need Need value_need_by_parts number_need_by_parts text_need_by_parts (NumExpr-F.StepMap m keys plus prefix)

pub num-Unary-parts : (op : UnOp) (d : NumExpr) → num_parts (nums.Unary op d) ≡ Prefixed op ∷ num_parts d
num-Unary-parts op d = ap num_parts (sym (nums.rolls-Unary op d)) ∙ fold-roll-NumExpr Made (List TreePart) (List TreePart) any_layer num_layer str_layer (NumExpr-F.Unary op d)

pub num-Unary-need : (op : UnOp) (d : NumExpr) → number_need (nums.Unary op d) ≡ more 8 (number_need d)
num-Unary-need op d = ap number_need (sym (nums.rolls-Unary op d)) ∙ fold-roll-NumExpr Valued Need Need value_need_by_parts number_need_by_parts text_need_by_parts (NumExpr-F.Unary op d)

pub num-Binary-parts : (op : BinOp) (l : NumExpr) (r : NumExpr) → num_parts (nums.Binary op l r) ≡ Joined op ∷ (num_parts l ++ num_parts r)
num-Binary-parts op l r = ap num_parts (sym (nums.rolls-Binary op l r)) ∙ fold-roll-NumExpr Made (List TreePart) (List TreePart) any_layer num_layer str_layer (NumExpr-F.Binary op l r)

pub num-Binary-need : (op : BinOp) (l : NumExpr) (r : NumExpr) → number_need (nums.Binary op l r) ≡ need (max (number_need l).frame (8 + (number_need r).frame)) (12 + (number_need l).code + (number_need r).code)
num-Binary-need op l r = ap number_need (sym (nums.rolls-Binary op l r)) ∙ fold-roll-NumExpr Valued Need Need value_need_by_parts number_need_by_parts text_need_by_parts (NumExpr-F.Binary op l r)

pub num-Compare-parts : (equal : Bool) (l : StrExpr) (r : StrExpr) → num_parts (nums.Compare equal l r) ≡ Joined (compared equal) ∷ (str_parts l ++ str_parts r)
num-Compare-parts equal l r = ap num_parts (sym (nums.rolls-Compare equal l r)) ∙ fold-roll-NumExpr Made (List TreePart) (List TreePart) any_layer num_layer str_layer (NumExpr-F.Compare equal l r)

pub num-Compare-need : (equal : Bool) (l : StrExpr) (r : StrExpr) → number_need (nums.Compare equal l r) ≡ need (max (text_need l).frame (64 + (text_need r).frame)) (48 + (text_need l).code + (text_need r).code)
num-Compare-need equal l r = ap number_need (sym (nums.rolls-Compare equal l r)) ∙ fold-roll-NumExpr Valued Need Need value_need_by_parts number_need_by_parts text_need_by_parts (NumExpr-F.Compare equal l r)

pub num-AndThen-parts : (l : NumExpr) (r : NumExpr) → num_parts (nums.AndThen l r) ≡ Both ∷ (num_parts l ++ num_parts r)
num-AndThen-parts l r = ap num_parts (sym (nums.rolls-AndThen l r)) ∙ fold-roll-NumExpr Made (List TreePart) (List TreePart) any_layer num_layer str_layer (NumExpr-F.AndThen l r)

pub num-AndThen-need : (l : NumExpr) (r : NumExpr) → number_need (nums.AndThen l r) ≡ more 16 (greater (number_need l) (number_need r))
num-AndThen-need l r = ap number_need (sym (nums.rolls-AndThen l r)) ∙ fold-roll-NumExpr Valued Need Need value_need_by_parts number_need_by_parts text_need_by_parts (NumExpr-F.AndThen l r)

pub num-OrElse-parts : (l : NumExpr) (r : NumExpr) → num_parts (nums.OrElse l r) ≡ Either ∷ (num_parts l ++ num_parts r)
num-OrElse-parts l r = ap num_parts (sym (nums.rolls-OrElse l r)) ∙ fold-roll-NumExpr Made (List TreePart) (List TreePart) any_layer num_layer str_layer (NumExpr-F.OrElse l r)

pub num-OrElse-need : (l : NumExpr) (r : NumExpr) → number_need (nums.OrElse l r) ≡ more 16 (greater (number_need l) (number_need r))
num-OrElse-need l r = ap number_need (sym (nums.rolls-OrElse l r)) ∙ fold-roll-NumExpr Valued Need Need value_need_by_parts number_need_by_parts text_need_by_parts (NumExpr-F.OrElse l r)

pub num-Choose-parts : (t : NumExpr) (y : NumExpr) (o : NumExpr) → num_parts (nums.Choose t y o) ≡ Chosen ∷ (num_parts t ++ (num_parts y ++ num_parts o))
num-Choose-parts t y o = ap num_parts (sym (nums.rolls-Choose t y o)) ∙ fold-roll-NumExpr Made (List TreePart) (List TreePart) any_layer num_layer str_layer (NumExpr-F.NumExpr::Choose t y o)

pub num-Choose-need : (t : NumExpr) (y : NumExpr) (o : NumExpr) → number_need (nums.Choose t y o) ≡ more 8 (greater (number_need t) (greater (number_need y) (number_need o)))
num-Choose-need t y o = ap number_need (sym (nums.rolls-Choose t y o)) ∙ fold-roll-NumExpr Valued Need Need value_need_by_parts number_need_by_parts text_need_by_parts (NumExpr-F.NumExpr::Choose t y o)

pub str-Text-parts : (s : List ℕ) → str_parts (strs.Text s) ≡ Literal s ∷ []
str-Text-parts s = ap str_parts (sym (strs.rolls-Text s)) ∙ fold-roll-StrExpr Made (List TreePart) (List TreePart) any_layer num_layer str_layer (StrExpr-F.Text s)

pub str-Text-need : (s : List ℕ) → text_need (strs.Text s) ≡ need 64 32
str-Text-need s = ap text_need (sym (strs.rolls-Text s)) ∙ fold-roll-StrExpr Valued Need Need value_need_by_parts number_need_by_parts text_need_by_parts (StrExpr-F.Text s)

pub str-Comm-parts : str_parts strs.Comm ≡ Command ∷ []
str-Comm-parts = ap str_parts (sym (strs.rolls-Comm)) ∙ fold-roll-StrExpr Made (List TreePart) (List TreePart) any_layer num_layer str_layer StrExpr-F.Comm

pub str-Comm-need : text_need strs.Comm ≡ need 64 24
str-Comm-need = ap text_need (sym (strs.rolls-Comm)) ∙ fold-roll-StrExpr Valued Need Need value_need_by_parts number_need_by_parts text_need_by_parts StrExpr-F.Comm

pub str-Field-parts : (f : Field) → str_parts (strs.Field f) ≡ FieldOf f Str ∷ []
str-Field-parts f = ap str_parts (sym (strs.rolls-Field f)) ∙ fold-roll-StrExpr Made (List TreePart) (List TreePart) any_layer num_layer str_layer (StrExpr-F.StrExpr::Field f)

pub str-Field-need : (f : Field) → text_need (strs.Field f) ≡ need 64 24
str-Field-need f = ap text_need (sym (strs.rolls-Field f)) ∙ fold-roll-StrExpr Valued Need Need value_need_by_parts number_need_by_parts text_need_by_parts (StrExpr-F.StrExpr::Field f)

pub str-Var-parts : (x : ℕ) → str_parts (strs.Var x) ≡ VarOf x Str ∷ []
str-Var-parts x = ap str_parts (sym (strs.rolls-Var x)) ∙ fold-roll-StrExpr Made (List TreePart) (List TreePart) any_layer num_layer str_layer (StrExpr-F.StrExpr::Var x)

pub str-Var-need : (x : ℕ) → text_need (strs.Var x) ≡ need 64 24
str-Var-need x = ap text_need (sym (strs.rolls-Var x)) ∙ fold-roll-StrExpr Valued Need Need value_need_by_parts number_need_by_parts text_need_by_parts (StrExpr-F.StrExpr::Var x)

pub str-Map-parts : (m : MapId) (keys : List AnyExpr) → str_parts (strs.Map m keys) ≡ keyed_parts m.0 (all_made keys) Str
str-Map-parts m keys = ap str_parts (sym (strs.rolls-Map m keys)) ∙ fold-roll-StrExpr Made (List TreePart) (List TreePart) any_layer num_layer str_layer (StrExpr-F.StrExpr::Map m keys)

pub str-Map-need : (m : MapId) (keys : List AnyExpr) → text_need (strs.Map m keys) ≡ need (beside (values_need keys) 64) (40 + codes_in (values_need keys))
str-Map-need m keys = ap text_need (sym (strs.rolls-Map m keys)) ∙ fold-roll-StrExpr Valued Need Need value_need_by_parts number_need_by_parts text_need_by_parts (StrExpr-F.StrExpr::Map m keys)

pub str-Choose-parts : (t : NumExpr) (y : StrExpr) (o : StrExpr) → str_parts (strs.Choose t y o) ≡ Chosen ∷ (num_parts t ++ (str_parts y ++ str_parts o))
str-Choose-parts t y o = ap str_parts (sym (strs.rolls-Choose t y o)) ∙ fold-roll-StrExpr Made (List TreePart) (List TreePart) any_layer num_layer str_layer (StrExpr-F.StrExpr::Choose t y o)

pub str-Choose-need : (t : NumExpr) (y : StrExpr) (o : StrExpr) → text_need (strs.Choose t y o) ≡ more 8 (greater (number_need t) (greater (text_need y) (text_need o)))
str-Choose-need t y o = ap text_need (sym (strs.rolls-Choose t y o)) ∙ fold-roll-StrExpr Valued Need Need value_need_by_parts number_need_by_parts text_need_by_parts (StrExpr-F.StrExpr::Choose t y o)

pub any-Num-made : (d : NumExpr) → made_of (anys.Num d) ≡ made Int (num_parts d)
any-Num-made d = ap made_of (sym (anys.rolls-Num d)) ∙ fold-roll-AnyExpr Made (List TreePart) (List TreePart) any_layer num_layer str_layer (AnyExpr-F.Num d)

pub any-Num-need : (d : NumExpr) → value_need (anys.Num d) ≡ valued 8 (number_need d)
any-Num-need d = ap value_need (sym (anys.rolls-Num d)) ∙ fold-roll-AnyExpr Valued Need Need value_need_by_parts number_need_by_parts text_need_by_parts (AnyExpr-F.Num d)

pub any-Str-made : (d : StrExpr) → made_of (anys.Str d) ≡ made Str (str_parts d)
any-Str-made d = ap made_of (sym (anys.rolls-Str d)) ∙ fold-roll-AnyExpr Made (List TreePart) (List TreePart) any_layer num_layer str_layer (AnyExpr-F.Str d)

pub any-Str-need : (d : StrExpr) → value_need (anys.Str d) ≡ valued 64 (text_need d)
any-Str-need d = ap value_need (sym (anys.rolls-Str d)) ∙ fold-roll-AnyExpr Valued Need Need value_need_by_parts number_need_by_parts text_need_by_parts (AnyExpr-F.Str d)
