-- What an expression of each kind does, by what its parts do.
use Rattle.std.proofs.Common.{◌≡◌, ℕ, ℤ, Bool, List, sym, ap, ◌∙◌}
use Rattle.bt_core.specs.declared.map.MapId.{MapId}
use Rattle.bt_core.specs.declared.operator.BinOp.{BinOp}
use Rattle.bt_core.specs.declared.operator.UnOp.{UnOp}
use Rattle.bt_core.specs.declared.value.Value.{Value}
use Rattle.event_layout.specs.declared.field.Field.{Field}
use Rattle.typed_tree.specs.declared.expr.AnyExpr.{AnyExpr, fold-roll-AnyExpr}
use Rattle.typed_tree.specs.declared.expr.AnyExpr.TheVariants as anys
use Rattle.typed_tree.specs.declared.expr.AnyExpr.TheOpen.{NumExpr-F, StrExpr-F, AnyExpr-F}
use Rattle.typed_tree.specs.declared.expr.NumBuiltin.{NumBuiltin}
use Rattle.typed_tree.specs.declared.expr.NumExpr.{NumExpr, fold-roll-NumExpr}
use Rattle.typed_tree.specs.declared.expr.NumExpr.TheVariants as nums
use Rattle.typed_tree.specs.declared.expr.StrExpr.{StrExpr, fold-roll-StrExpr}
use Rattle.typed_tree.specs.declared.expr.StrExpr.TheVariants as strs
use Rattle.walk_meaning.specs.Does.{Does, given, if_holds}
use Rattle.walk_meaning.specs.Exprs.{value_by_parts, number_by_parts, text_by_parts, value_does, number_does, text_does, values_do, builtin, command, number_field, text_field, before, both, texts_compared, and_also, or_else, read_number, read_agg, read_text, step_variable, step_map, number_value, text_value}
use Rattle.walk_meaning.specs.Maps.{number_variable, text_variable}

num_Number : (n : ℤ) → number_does (nums.Number n) ≡ given n
num_Number n = ap number_does (sym (nums.rolls-Number n)) ∙ fold-roll-NumExpr (Does Value) (Does ℤ) (Does (List ℕ)) value_by_parts number_by_parts text_by_parts (NumExpr-F.Number n)

pub number_num : (e : NumExpr) (n : ℤ) → e ≡ (nums.Number n) → number_does e ≡ given n
number_num e n h = ap number_does h ∙ num_Number n

num_Builtin : (b : NumBuiltin) → number_does (nums.Builtin b) ≡ builtin b
num_Builtin b = ap number_does (sym (nums.rolls-Builtin b)) ∙ fold-roll-NumExpr (Does Value) (Does ℤ) (Does (List ℕ)) value_by_parts number_by_parts text_by_parts (NumExpr-F.Builtin b)

pub builtin_num : (e : NumExpr) (b : NumBuiltin) → e ≡ (nums.Builtin b) → number_does e ≡ builtin b
builtin_num e b h = ap number_does h ∙ num_Builtin b

num_Field : (f : Field) → number_does (nums.Field f) ≡ number_field f
num_Field f = ap number_does (sym (nums.rolls-Field f)) ∙ fold-roll-NumExpr (Does Value) (Does ℤ) (Does (List ℕ)) value_by_parts number_by_parts text_by_parts (NumExpr-F.NumExpr::Field f)

pub field_num : (e : NumExpr) (f : Field) → e ≡ (nums.Field f) → number_does e ≡ number_field f
field_num e f h = ap number_does h ∙ num_Field f

num_Var : (x : ℕ) → number_does (nums.Var x) ≡ number_variable x
num_Var x = ap number_does (sym (nums.rolls-Var x)) ∙ fold-roll-NumExpr (Does Value) (Does ℤ) (Does (List ℕ)) value_by_parts number_by_parts text_by_parts (NumExpr-F.NumExpr::Var x)

pub var_num : (e : NumExpr) (x : ℕ) → e ≡ (nums.Var x) → number_does e ≡ number_variable x
var_num e x h = ap number_does h ∙ num_Var x

num_Map : (m : MapId) (keys : List AnyExpr) → number_does (nums.Map m keys) ≡ read_number m (values_do keys)
num_Map m keys = ap number_does (sym (nums.rolls-Map m keys)) ∙ fold-roll-NumExpr (Does Value) (Does ℤ) (Does (List ℕ)) value_by_parts number_by_parts text_by_parts (NumExpr-F.NumExpr::Map m keys)

pub map_num : (e : NumExpr) (m : MapId) (keys : List AnyExpr) (keys1 : List AnyExpr) → e ≡ (nums.Map m keys) → keys1 ≡ keys → number_does e ≡ read_number m (values_do keys1)
map_num e m keys keys1 h p0 = ap number_does h ∙ num_Map m keys ∙ ap (λ (u : List AnyExpr). read_number m (values_do u)) (sym p0)

num_Agg : (m : MapId) (keys : List AnyExpr) → number_does (nums.Agg m keys) ≡ read_agg m (values_do keys)
num_Agg m keys = ap number_does (sym (nums.rolls-Agg m keys)) ∙ fold-roll-NumExpr (Does Value) (Does ℤ) (Does (List ℕ)) value_by_parts number_by_parts text_by_parts (NumExpr-F.Agg m keys)

pub agg_num : (e : NumExpr) (m : MapId) (keys : List AnyExpr) (keys1 : List AnyExpr) → e ≡ (nums.Agg m keys) → keys1 ≡ keys → number_does e ≡ read_agg m (values_do keys1)
agg_num e m keys keys1 h p0 = ap number_does h ∙ num_Agg m keys ∙ ap (λ (u : List AnyExpr). read_agg m (values_do u)) (sym p0)

num_StepVar : (x : ℕ) (plus : Bool) (prefix : Bool) → number_does (nums.StepVar x plus prefix) ≡ step_variable x plus prefix
num_StepVar x plus prefix = ap number_does (sym (nums.rolls-StepVar x plus prefix)) ∙ fold-roll-NumExpr (Does Value) (Does ℤ) (Does (List ℕ)) value_by_parts number_by_parts text_by_parts (NumExpr-F.StepVar x plus prefix)

pub stepvar_num : (e : NumExpr) (x : ℕ) (plus : Bool) (prefix : Bool) → e ≡ (nums.StepVar x plus prefix) → number_does e ≡ step_variable x plus prefix
stepvar_num e x plus prefix h = ap number_does h ∙ num_StepVar x plus prefix

num_StepMap : (m : MapId) (keys : List AnyExpr) (plus : Bool) (prefix : Bool) → number_does (nums.StepMap m keys plus prefix) ≡ step_map m (values_do keys) plus prefix
num_StepMap m keys plus prefix = ap number_does (sym (nums.rolls-StepMap m keys plus prefix)) ∙ fold-roll-NumExpr (Does Value) (Does ℤ) (Does (List ℕ)) value_by_parts number_by_parts text_by_parts (NumExpr-F.StepMap m keys plus prefix)

pub stepmap_num : (e : NumExpr) (m : MapId) (keys : List AnyExpr) (plus : Bool) (prefix : Bool) (keys1 : List AnyExpr) → e ≡ (nums.StepMap m keys plus prefix) → keys1 ≡ keys → number_does e ≡ step_map m (values_do keys1) plus prefix
stepmap_num e m keys plus prefix keys1 h p0 = ap number_does h ∙ num_StepMap m keys plus prefix ∙ ap (λ (u : List AnyExpr). step_map m (values_do u) plus prefix) (sym p0)

num_Unary : (op : UnOp) (d : NumExpr) → number_does (nums.Unary op d) ≡ before op (number_does d)
num_Unary op d = ap number_does (sym (nums.rolls-Unary op d)) ∙ fold-roll-NumExpr (Does Value) (Does ℤ) (Does (List ℕ)) value_by_parts number_by_parts text_by_parts (NumExpr-F.Unary op d)

pub unary_num : (e : NumExpr) (op : UnOp) (d : NumExpr) (d1 : NumExpr) → e ≡ (nums.Unary op d) → d1 ≡ d → number_does e ≡ before op (number_does d1)
unary_num e op d d1 h p0 = ap number_does h ∙ num_Unary op d ∙ ap (λ (u : NumExpr). before op (number_does u)) (sym p0)

num_Binary : (op : BinOp) (l : NumExpr) (r : NumExpr) → number_does (nums.Binary op l r) ≡ both op (number_does l) (number_does r)
num_Binary op l r = ap number_does (sym (nums.rolls-Binary op l r)) ∙ fold-roll-NumExpr (Does Value) (Does ℤ) (Does (List ℕ)) value_by_parts number_by_parts text_by_parts (NumExpr-F.Binary op l r)

pub binary_num : (e : NumExpr) (op : BinOp) (l : NumExpr) (r : NumExpr) (l1 : NumExpr) (r1 : NumExpr) → e ≡ (nums.Binary op l r) → l1 ≡ l → r1 ≡ r → number_does e ≡ both op (number_does l1) (number_does r1)
binary_num e op l r l1 r1 h p0 p1 = ap number_does h ∙ num_Binary op l r ∙ ap (λ (u : NumExpr). both op (number_does u) (number_does r)) (sym p0) ∙ ap (λ (u : NumExpr). both op (number_does l1) (number_does u)) (sym p1)

num_Compare : (equal : Bool) (l : StrExpr) (r : StrExpr) → number_does (nums.Compare equal l r) ≡ texts_compared equal (text_does l) (text_does r)
num_Compare equal l r = ap number_does (sym (nums.rolls-Compare equal l r)) ∙ fold-roll-NumExpr (Does Value) (Does ℤ) (Does (List ℕ)) value_by_parts number_by_parts text_by_parts (NumExpr-F.Compare equal l r)

pub compare_num : (e : NumExpr) (equal : Bool) (l : StrExpr) (r : StrExpr) (l1 : StrExpr) (r1 : StrExpr) → e ≡ (nums.Compare equal l r) → l1 ≡ l → r1 ≡ r → number_does e ≡ texts_compared equal (text_does l1) (text_does r1)
compare_num e equal l r l1 r1 h p0 p1 = ap number_does h ∙ num_Compare equal l r ∙ ap (λ (u : StrExpr). texts_compared equal (text_does u) (text_does r)) (sym p0) ∙ ap (λ (u : StrExpr). texts_compared equal (text_does l1) (text_does u)) (sym p1)

num_AndThen : (l : NumExpr) (r : NumExpr) → number_does (nums.AndThen l r) ≡ and_also (number_does l) (number_does r)
num_AndThen l r = ap number_does (sym (nums.rolls-AndThen l r)) ∙ fold-roll-NumExpr (Does Value) (Does ℤ) (Does (List ℕ)) value_by_parts number_by_parts text_by_parts (NumExpr-F.AndThen l r)

pub andthen_num : (e : NumExpr) (l : NumExpr) (r : NumExpr) (l1 : NumExpr) (r1 : NumExpr) → e ≡ (nums.AndThen l r) → l1 ≡ l → r1 ≡ r → number_does e ≡ and_also (number_does l1) (number_does r1)
andthen_num e l r l1 r1 h p0 p1 = ap number_does h ∙ num_AndThen l r ∙ ap (λ (u : NumExpr). and_also (number_does u) (number_does r)) (sym p0) ∙ ap (λ (u : NumExpr). and_also (number_does l1) (number_does u)) (sym p1)

num_OrElse : (l : NumExpr) (r : NumExpr) → number_does (nums.OrElse l r) ≡ or_else (number_does l) (number_does r)
num_OrElse l r = ap number_does (sym (nums.rolls-OrElse l r)) ∙ fold-roll-NumExpr (Does Value) (Does ℤ) (Does (List ℕ)) value_by_parts number_by_parts text_by_parts (NumExpr-F.OrElse l r)

pub orelse_num : (e : NumExpr) (l : NumExpr) (r : NumExpr) (l1 : NumExpr) (r1 : NumExpr) → e ≡ (nums.OrElse l r) → l1 ≡ l → r1 ≡ r → number_does e ≡ or_else (number_does l1) (number_does r1)
orelse_num e l r l1 r1 h p0 p1 = ap number_does h ∙ num_OrElse l r ∙ ap (λ (u : NumExpr). or_else (number_does u) (number_does r)) (sym p0) ∙ ap (λ (u : NumExpr). or_else (number_does l1) (number_does u)) (sym p1)

num_Choose : (t : NumExpr) (y : NumExpr) (o : NumExpr) → number_does (nums.Choose t y o) ≡ if_holds (number_does t) (number_does y) (number_does o)
num_Choose t y o = ap number_does (sym (nums.rolls-Choose t y o)) ∙ fold-roll-NumExpr (Does Value) (Does ℤ) (Does (List ℕ)) value_by_parts number_by_parts text_by_parts (NumExpr-F.NumExpr::Choose t y o)

pub choose_num : (e : NumExpr) (t : NumExpr) (y : NumExpr) (o : NumExpr) (t1 : NumExpr) (y1 : NumExpr) (o1 : NumExpr) → e ≡ (nums.Choose t y o) → t1 ≡ t → y1 ≡ y → o1 ≡ o → number_does e ≡ if_holds (number_does t1) (number_does y1) (number_does o1)
choose_num e t y o t1 y1 o1 h p0 p1 p2 = ap number_does h ∙ num_Choose t y o ∙ ap (λ (u : NumExpr). if_holds (number_does u) (number_does y) (number_does o)) (sym p0) ∙ ap (λ (u : NumExpr). if_holds (number_does t1) (number_does u) (number_does o)) (sym p1) ∙ ap (λ (u : NumExpr). if_holds (number_does t1) (number_does y1) (number_does u)) (sym p2)

str_Text : (s : List ℕ) → text_does (strs.Text s) ≡ given s
str_Text s = ap text_does (sym (strs.rolls-Text s)) ∙ fold-roll-StrExpr (Does Value) (Does ℤ) (Does (List ℕ)) value_by_parts number_by_parts text_by_parts (StrExpr-F.Text s)

pub text_str : (e : StrExpr) (s : List ℕ) → e ≡ (strs.Text s) → text_does e ≡ given s
text_str e s h = ap text_does h ∙ str_Text s

str_Comm : text_does strs.Comm ≡ command
str_Comm = ap text_does (sym (strs.rolls-Comm)) ∙ fold-roll-StrExpr (Does Value) (Does ℤ) (Does (List ℕ)) value_by_parts number_by_parts text_by_parts StrExpr-F.Comm

pub comm_str : (e : StrExpr) → e ≡ strs.Comm → text_does e ≡ command
comm_str e h = ap text_does h ∙ str_Comm

str_Field : (f : Field) → text_does (strs.Field f) ≡ text_field f
str_Field f = ap text_does (sym (strs.rolls-Field f)) ∙ fold-roll-StrExpr (Does Value) (Does ℤ) (Does (List ℕ)) value_by_parts number_by_parts text_by_parts (StrExpr-F.StrExpr::Field f)

pub field_str : (e : StrExpr) (f : Field) → e ≡ (strs.Field f) → text_does e ≡ text_field f
field_str e f h = ap text_does h ∙ str_Field f

str_Var : (x : ℕ) → text_does (strs.Var x) ≡ text_variable x
str_Var x = ap text_does (sym (strs.rolls-Var x)) ∙ fold-roll-StrExpr (Does Value) (Does ℤ) (Does (List ℕ)) value_by_parts number_by_parts text_by_parts (StrExpr-F.StrExpr::Var x)

pub var_str : (e : StrExpr) (x : ℕ) → e ≡ (strs.Var x) → text_does e ≡ text_variable x
var_str e x h = ap text_does h ∙ str_Var x

str_Map : (m : MapId) (keys : List AnyExpr) → text_does (strs.Map m keys) ≡ read_text m (values_do keys)
str_Map m keys = ap text_does (sym (strs.rolls-Map m keys)) ∙ fold-roll-StrExpr (Does Value) (Does ℤ) (Does (List ℕ)) value_by_parts number_by_parts text_by_parts (StrExpr-F.StrExpr::Map m keys)

pub map_str : (e : StrExpr) (m : MapId) (keys : List AnyExpr) (keys1 : List AnyExpr) → e ≡ (strs.Map m keys) → keys1 ≡ keys → text_does e ≡ read_text m (values_do keys1)
map_str e m keys keys1 h p0 = ap text_does h ∙ str_Map m keys ∙ ap (λ (u : List AnyExpr). read_text m (values_do u)) (sym p0)

str_Choose : (t : NumExpr) (y : StrExpr) (o : StrExpr) → text_does (strs.Choose t y o) ≡ if_holds (number_does t) (text_does y) (text_does o)
str_Choose t y o = ap text_does (sym (strs.rolls-Choose t y o)) ∙ fold-roll-StrExpr (Does Value) (Does ℤ) (Does (List ℕ)) value_by_parts number_by_parts text_by_parts (StrExpr-F.StrExpr::Choose t y o)

pub choose_str : (e : StrExpr) (t : NumExpr) (y : StrExpr) (o : StrExpr) (t1 : NumExpr) (y1 : StrExpr) (o1 : StrExpr) → e ≡ (strs.Choose t y o) → t1 ≡ t → y1 ≡ y → o1 ≡ o → text_does e ≡ if_holds (number_does t1) (text_does y1) (text_does o1)
choose_str e t y o t1 y1 o1 h p0 p1 p2 = ap text_does h ∙ str_Choose t y o ∙ ap (λ (u : NumExpr). if_holds (number_does u) (text_does y) (text_does o)) (sym p0) ∙ ap (λ (u : StrExpr). if_holds (number_does t1) (text_does u) (text_does o)) (sym p1) ∙ ap (λ (u : StrExpr). if_holds (number_does t1) (text_does y1) (text_does u)) (sym p2)

any_Num : (d : NumExpr) → value_does (anys.Num d) ≡ number_value (number_does d)
any_Num d = ap value_does (sym (anys.rolls-Num d)) ∙ fold-roll-AnyExpr (Does Value) (Does ℤ) (Does (List ℕ)) value_by_parts number_by_parts text_by_parts (AnyExpr-F.Num d)

pub num_any : (e : AnyExpr) (d : NumExpr) (d1 : NumExpr) → e ≡ (anys.Num d) → d1 ≡ d → value_does e ≡ number_value (number_does d1)
num_any e d d1 h p0 = ap value_does h ∙ any_Num d ∙ ap (λ (u : NumExpr). number_value (number_does u)) (sym p0)

any_Str : (d : StrExpr) → value_does (anys.Str d) ≡ text_value (text_does d)
any_Str d = ap value_does (sym (anys.rolls-Str d)) ∙ fold-roll-AnyExpr (Does Value) (Does ℤ) (Does (List ℕ)) value_by_parts number_by_parts text_by_parts (AnyExpr-F.Str d)

pub str_any : (e : AnyExpr) (d : StrExpr) (d1 : StrExpr) → e ≡ (anys.Str d) → d1 ≡ d → value_does e ≡ text_value (text_does d1)
str_any e d d1 h p0 = ap value_does h ∙ any_Str d ∙ ap (λ (u : StrExpr). text_value (text_does u)) (sym p0)
