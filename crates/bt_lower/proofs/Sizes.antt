-- The parts of an expression are smaller than the whole, and so is the block of a loop.
use Rattle.std.proofs.Common.{◌≡◌, ◌<◌, ℕ, Bool, List, rules}
use Rattle.bt_core.specs.declared.map.MapId.{MapId}
use Rattle.bt_core.specs.declared.operator.BinOp.{BinOp}
use Rattle.bt_core.specs.declared.operator.UnOp.{UnOp}
use Rattle.typed_tree.specs.declared.expr.AnyExpr.{AnyExpr}
use Rattle.typed_tree.specs.declared.expr.NumExpr as nums
use Rattle.typed_tree.specs.declared.expr.NumExpr.{NumExpr}
use Rattle.typed_tree.specs.declared.expr.NumExpr.TheVariants as exprs
use Rattle.typed_tree.specs.declared.expr.StrExpr as strs
use Rattle.typed_tree.specs.declared.expr.StrExpr.{StrExpr}
use Rattle.typed_tree.specs.declared.expr.StrExpr.TheVariants as texts
use Rattle.typed_tree.proofs.expr.AnyExpr.TheLaws.{the_size as any_size}
use Rattle.typed_tree.proofs.expr.NumExpr.TheLaws.{the_size as num_size}
use Rattle.typed_tree.proofs.expr.StrExpr.TheLaws.{the_size as str_size}
use Rattle.typed_tree.specs.declared.stmt.TypedBlock as blocks
use Rattle.typed_tree.specs.declared.stmt.TypedBlock.{TypedBlock}
use Rattle.typed_tree.specs.declared.stmt.TypedStmt as trees
use Rattle.typed_tree.specs.declared.stmt.TypedStmt.{TypedStmt}
use Rattle.typed_tree.specs.declared.stmt.TypedStmt.TheVariants as stmts
use Rattle.typed_tree.proofs.stmt.TypedBlock.TheLaws.{the_size as block_size}
use Rattle.typed_tree.proofs.stmt.TypedStmt.TheLaws.{the_size as stmt_size}
use denote.Param.Weighed.{most}

pub map_keys : (e : NumExpr) (m : MapId) (ks : List AnyExpr) (part : List AnyExpr) → e ≡ exprs.Map m ks → part ≡ ks → most any_size part < num_size e
map_keys e m ks part is same = search (rules, nums.the_lemmas)

pub agg_keys : (e : NumExpr) (m : MapId) (ks : List AnyExpr) (part : List AnyExpr) → e ≡ exprs.Agg m ks → part ≡ ks → most any_size part < num_size e
agg_keys e m ks part is same = search (rules, nums.the_lemmas)

pub step_map_keys : (e : NumExpr) (m : MapId) (ks : List AnyExpr) (plus : Bool) (prefix : Bool) (part : List AnyExpr) → e ≡ exprs.StepMap m ks plus prefix → part ≡ ks → most any_size part < num_size e
step_map_keys e m ks plus prefix part is same = search (rules, nums.the_lemmas)

pub unary_below : (e : NumExpr) (op : UnOp) (v : NumExpr) (part : NumExpr) → e ≡ exprs.Unary op v → part ≡ v → num_size part < num_size e
unary_below e op v part is same = search (rules, nums.the_lemmas)

pub binary_left : (e : NumExpr) (op : BinOp) (l : NumExpr) (r : NumExpr) (part : NumExpr) → e ≡ exprs.Binary op l r → part ≡ l → num_size part < num_size e
binary_left e op l r part is same = search (rules, nums.the_lemmas)

pub binary_right : (e : NumExpr) (op : BinOp) (l : NumExpr) (r : NumExpr) (part : NumExpr) → e ≡ exprs.Binary op l r → part ≡ r → num_size part < num_size e
binary_right e op l r part is same = search (rules, nums.the_lemmas)

pub compare_left : (e : NumExpr) (equal : Bool) (l : StrExpr) (r : StrExpr) (part : StrExpr) → e ≡ exprs.Compare equal l r → part ≡ l → str_size part < num_size e
compare_left e equal l r part is same = search (rules, nums.the_lemmas)

pub compare_right : (e : NumExpr) (equal : Bool) (l : StrExpr) (r : StrExpr) (part : StrExpr) → e ≡ exprs.Compare equal l r → part ≡ r → str_size part < num_size e
compare_right e equal l r part is same = search (rules, nums.the_lemmas)

pub and_left : (e : NumExpr) (l : NumExpr) (r : NumExpr) (part : NumExpr) → e ≡ exprs.AndThen l r → part ≡ l → num_size part < num_size e
and_left e l r part is same = search (rules, nums.the_lemmas)

pub and_right : (e : NumExpr) (l : NumExpr) (r : NumExpr) (part : NumExpr) → e ≡ exprs.AndThen l r → part ≡ r → num_size part < num_size e
and_right e l r part is same = search (rules, nums.the_lemmas)

pub or_left : (e : NumExpr) (l : NumExpr) (r : NumExpr) (part : NumExpr) → e ≡ exprs.OrElse l r → part ≡ l → num_size part < num_size e
or_left e l r part is same = search (rules, nums.the_lemmas)

pub or_right : (e : NumExpr) (l : NumExpr) (r : NumExpr) (part : NumExpr) → e ≡ exprs.OrElse l r → part ≡ r → num_size part < num_size e
or_right e l r part is same = search (rules, nums.the_lemmas)

pub choose_test : (e : NumExpr) (c : NumExpr) (y : NumExpr) (o : NumExpr) (part : NumExpr) → e ≡ exprs.Choose c y o → part ≡ c → num_size part < num_size e
choose_test e c y o part is same = search (rules, nums.the_lemmas)

pub choose_yes : (e : NumExpr) (c : NumExpr) (y : NumExpr) (o : NumExpr) (part : NumExpr) → e ≡ exprs.Choose c y o → part ≡ y → num_size part < num_size e
choose_yes e c y o part is same = search (rules, nums.the_lemmas)

pub choose_no : (e : NumExpr) (c : NumExpr) (y : NumExpr) (o : NumExpr) (part : NumExpr) → e ≡ exprs.Choose c y o → part ≡ o → num_size part < num_size e
choose_no e c y o part is same = search (rules, nums.the_lemmas)

pub text_map_keys : (e : StrExpr) (m : MapId) (ks : List AnyExpr) (part : List AnyExpr) → e ≡ texts.Map m ks → part ≡ ks → most any_size part < str_size e
text_map_keys e m ks part is same = search (rules, strs.the_lemmas)

pub text_choose_test : (e : StrExpr) (c : NumExpr) (y : StrExpr) (o : StrExpr) (part : NumExpr) → e ≡ texts.Choose c y o → part ≡ c → num_size part < str_size e
text_choose_test e c y o part is same = search (rules, strs.the_lemmas)

pub text_choose_yes : (e : StrExpr) (c : NumExpr) (y : StrExpr) (o : StrExpr) (part : StrExpr) → e ≡ texts.Choose c y o → part ≡ y → str_size part < str_size e
text_choose_yes e c y o part is same = search (rules, strs.the_lemmas)

pub text_choose_no : (e : StrExpr) (c : NumExpr) (y : StrExpr) (o : StrExpr) (part : StrExpr) → e ≡ texts.Choose c y o → part ≡ o → str_size part < str_size e
text_choose_no e c y o part is same = search (rules, strs.the_lemmas)

pub while_block : (s : TypedStmt) (c : NumExpr) (b : TypedBlock) (line : ℕ) → s ≡ stmts.While c b line → block_size b < stmt_size s
while_block s c b line is = search (rules, trees.the_lemmas, blocks.the_lemmas)

pub unroll_block : (s : TypedStmt) (n : ℕ) (b : TypedBlock) (line : ℕ) → s ≡ stmts.Unroll n b line → block_size b < stmt_size s
unroll_block s n b line is = search (rules, trees.the_lemmas, blocks.the_lemmas)
