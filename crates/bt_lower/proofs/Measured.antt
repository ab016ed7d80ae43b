-- What expressions and statements need, once what they are made of is measured; and what is too much already for a part.
use Rattle.std.proofs.Common.{◌≡◌, ◌⊎◌, inl, inr, ℕ, ◌+◌, ◌≤◌, Result, Ok, Err, List, Option, sym, ap, ◌∙◌, subst, arith, Bool}
use Rattle.std.specs.Prelude.{ℤ, IfOk, OnOk, OnErr, IsErrAnd}
use Rattle.std.proofs.Math.Nat.{le-max_left, le-max_right}
use Rattle.bt_core.specs.declared.map.AggKind.{AggKind}
use Rattle.bt_core.specs.declared.map.MapId.{MapId}
use Rattle.bt_core.specs.declared.memory.Memory.{Memory}
use Rattle.bt_core.specs.declared.operator.BinOp.{BinOp}
use Rattle.bt_core.specs.declared.operator.UnOp.{UnOp}
use Rattle.typed_tree.specs.declared.expr.AnyExpr.{AnyExpr}
use Rattle.event_layout.specs.declared.field.Field.{Field}
use Rattle.typed_tree.specs.declared.expr.NumBuiltin.{NumBuiltin}
use Rattle.typed_tree.specs.declared.expr.NumExpr.{NumExpr}
use Rattle.typed_tree.specs.declared.expr.NumExpr.TheVariants as nums
use Rattle.typed_tree.specs.declared.expr.StrExpr.{StrExpr}
use Rattle.typed_tree.specs.declared.expr.StrExpr.TheVariants as strs
use Rattle.typed_tree.specs.declared.stmt.TypedBlock.{TypedBlock}
use Rattle.typed_tree.specs.declared.stmt.TypedStmt.{TypedStmt}
use Rattle.typed_tree.specs.declared.stmt.TypedStmt.TheVariants as stmts
use Rattle.typed_tree.specs.Parts.{made_of}
use Rattle.ir_code.specs.Figures.{by_shape}
use Rattle.bt_lower.specs.Needs.{Need, Valued, IsTooMuch, need, listed, list_frame, sizes_in, then_beside, under, more, greater, beside, codes_in, values_need, value_need, number_need, text_need, stmt_need, block_need, set_map_need, update_map_need, gather_need, taking_need}
use Rattle.bt_lower.specs.declared.need.Listed.{Listed}
use Rattle.bt_lower.proofs.Forms as form
use Rattle.bt_lower.proofs.Trees as tree

-- ---- answers of calls

-- what a call answers, said of an equal need
pub same : (r : Result Need Memory) (a b : Need) → IfOk r (λ n. n ≡ a) → a ≡ b → IfOk r (λ n. n ≡ b)
same (Ok x) a b h e = h ∙ e
same (Err x) a b h e = tt

pub same-beyond : (r : Result Need Memory) (a b : Need) → OnErr r (IsTooMuch a) → a ≡ b → OnErr r (IsTooMuch b)
same-beyond (Ok x) a b h e = tt
same-beyond (Err x) a b h e = subst IsTooMuch e h

pub roomy : (r : Result Need Memory) (a : Need) (bytes : ℕ) → IfOk r (λ n. n ≡ a) → bytes ≤ a.frame → IfOk r (λ n. bytes ≤ n.frame)
roomy (Ok x) a bytes h le = omega (arith, ap (λ (n : Need). n.frame) h, le)
roomy (Err x) a bytes h le = tt

-- what is so is so at Err
pub at-err : {A : Type 0} {P : Type 0} (r : Result A Memory) → P → OnErr r P
at-err (Ok x) p = tt
at-err (Err x) p = p

-- what a `?` answers at Err is so of any Ok
pub failed : {A : Type 0} (P : A → Type 0) (Q : Memory → Type 0) (r : Result A Memory) → IsErrAnd r Q → IfOk r P
failed P Q (Ok x) h = absurd h
failed P Q (Err x) h = tt

pub on-failed : {A : Type 0} (P : Type 0) (Q : Memory → Type 0) (r : Result A Memory) → IsErrAnd r Q → OnOk r P
on-failed P Q (Ok x) h = absurd h
on-failed P Q (Err x) h = tt

-- so many bytes at least
pub at-least : (n a : Need) (bytes : ℕ) → n ≡ a → bytes ≤ a.frame → bytes ≤ n.frame
at-least n a bytes h le = omega (arith, ap (λ (x : Need). x.frame) h, le)

-- ---- what is too much for a part is so for the whole

pub too-much : (a b : Need) → IsTooMuch a → a.frame ≤ b.frame → a.code ≤ b.code → IsTooMuch b
too-much a b h frame code = omega (arith, h, frame, code)

pub part-more : (slots : ℕ) (a whole : Need) → IsTooMuch a → whole ≡ more slots a → IsTooMuch whole
part-more slots a whole h e = subst IsTooMuch (sym e) (too-much a (more slots a) h (omega arith) (omega arith))

pub part-keys : (bytes slots : ℕ) (vs : List Valued) (whole : Need) → IsTooMuch (listed vs).need → whole ≡ need (beside vs bytes) (slots + codes_in vs) → IsTooMuch whole
part-keys bytes slots vs whole h e = subst IsTooMuch (sym e) (too-much (need (list_frame vs) (codes_in vs)) (need (beside vs bytes) (slots + codes_in vs)) h (le-max_left (list_frame vs) (sizes_in vs + bytes)) (omega arith))

pub part-left : (bytes slots : ℕ) (a b whole : Need) → IsTooMuch a → whole ≡ then_beside bytes (more slots a) b → IsTooMuch whole
part-left bytes slots a b whole h e = subst IsTooMuch (sym e) (too-much a (then_beside bytes (more slots a) b) h (le-max_left a.frame (bytes + b.frame)) (omega arith))

pub part-right : (bytes slots : ℕ) (a b whole : Need) → IsTooMuch b → whole ≡ then_beside bytes (more slots a) b → IsTooMuch whole
part-right bytes slots a b whole h e = subst IsTooMuch (sym e) (too-much b (then_beside bytes (more slots a) b) h (omega arith) (omega arith))

pub part-first : (slots : ℕ) (a b whole : Need) → IsTooMuch a → whole ≡ more slots (greater a b) → IsTooMuch whole
part-first slots a b whole h e = subst IsTooMuch (sym e) (too-much a (more slots (greater a b)) h (le-max_left a.frame b.frame) (omega arith))

pub part-second : (slots : ℕ) (a b whole : Need) → IsTooMuch b → whole ≡ more slots (greater a b) → IsTooMuch whole
part-second slots a b whole h e = subst IsTooMuch (sym e) (too-much b (more slots (greater a b)) h (le-max_right a.frame b.frame) (omega arith))

pub part-else : (a b whole : Need) → IsTooMuch b → whole ≡ greater a b → IsTooMuch whole
part-else a b whole h e = subst IsTooMuch (sym e) (too-much b (greater a b) h (le-max_right a.frame b.frame) (omega arith))

abbrev pub one_of : Need → Need → Need → Need
one_of test one other = more 8 (greater test (greater one other))

pub part-test : (a b d whole : Need) → IsTooMuch a → whole ≡ one_of a b d → IsTooMuch whole
part-test a b d whole h e = part-first 8 a (greater b d) whole h e

pub part-one : (a b d whole : Need) → IsTooMuch b → whole ≡ one_of a b d → IsTooMuch whole
part-one a b d whole h e = subst IsTooMuch (sym e) (too-much b (one_of a b d) h (omega arith) (omega arith))

pub part-other : (a b d whole : Need) → IsTooMuch d → whole ≡ one_of a b d → IsTooMuch whole
part-other a b d whole h e = subst IsTooMuch (sym e) (too-much d (one_of a b d) h (omega arith) (omega arith))

pub part-unroll : (a whole : Need) → IsTooMuch a → whole ≡ need (8 + a.frame) (32 + a.code) → IsTooMuch whole
part-unroll a whole h e = subst IsTooMuch (sym e) (too-much a (need (8 + a.frame) (32 + a.code)) h (omega arith) (omega arith))

-- ---- what calls answer, by what was measured before them

pub beside-are : (bytes slots : ℕ) (a b x y : Need) → a ≡ x → b ≡ y → then_beside bytes (more slots a) b ≡ then_beside bytes (more slots x) y
beside-are bytes slots a b x y ha hb = ap (λ (n : Need). then_beside bytes (more slots n) b) ha ∙ ap (then_beside bytes (more slots x)) hb

-- what stands beside a key, and its slots behind
pub keyed-are : (slots frame code frame1 code1 : ℕ) (all : Need) (keys : Listed) (vs : List Valued) → all ≡ under keys frame slots → keys ≡ listed vs → frame ≡ frame1 → code ≡ code1
    → need all.frame (all.code + code) ≡ need (beside vs frame1) (slots + codes_in vs + code1)
keyed-are slots frame code frame1 code1 all keys vs ha hk hf hc =
    ap (λ (n : Need). need n.frame (n.code + code)) ha ∙ ap (λ (k : Listed). need (under k frame slots).frame ((under k frame slots).code + code)) hk
    ∙ ap (λ (f : ℕ). need (beside vs f) (slots + codes_in vs + code)) hf ∙ ap (λ (n : ℕ). need (beside vs frame1) (slots + codes_in vs + n)) hc

pub greater-are : (slots : ℕ) (a b x y : Need) → a ≡ x → b ≡ y → more slots (greater a b) ≡ more slots (greater x y)
greater-are slots a b x y ha hb = ap (λ (n : Need). more slots (greater n b)) ha ∙ ap (λ (n : Need). more slots (greater x n)) hb

pub one-of-are : (a b d x y z : Need) → a ≡ x → b ≡ y → d ≡ z → one_of a b d ≡ one_of x y z
one-of-are a b d x y z ha hb hd = ap (λ (n : Need). one_of n b d) ha ∙ ap (λ (n : Need). one_of x n d) hb ∙ ap (λ (n : Need). one_of x y n) hd

-- the bytes that they have at least
pub under-room : (keys : Listed) (bytes slots least : ℕ) → least ≤ bytes → least ≤ (under keys bytes slots).frame
under-room keys bytes slots least h = omega (arith, h)

pub beside-room : (bytes slots : ℕ) (a b : Need) (least : ℕ) → least ≤ bytes → least ≤ (then_beside bytes (more slots a) b).frame
beside-room bytes slots a b least h = omega (arith, h)

pub test-room : (a b d : Need) (least : ℕ) → least ≤ a.frame → least ≤ (one_of a b d).frame
test-room a b d least h = omega (arith, h)

pub one-room : (a b d : Need) (least : ℕ) → least ≤ b.frame → least ≤ (one_of a b d).frame
one-room a b d least h = omega (arith, h)

pub greater-room : (slots : ℕ) (a b : Need) (least : ℕ) → least ≤ a.frame → least ≤ (more slots (greater a b)).frame
greater-room slots a b least h = omega (arith, h)

-- ---- whole numbers

map-is : (e : NumExpr) (m : MapId) (keys ks : List AnyExpr) → e ≡ nums.Map m keys → ks ≡ keys → number_need e ≡ need (beside (values_need ks) 8) (16 + codes_in (values_need ks))
map-is e m keys ks h k = ap number_need h ∙ tree.num-Map-need m keys ∙ ap (λ (l : List AnyExpr). need (beside (values_need l) 8) (16 + codes_in (values_need l))) (sym k)

agg-is : (e : NumExpr) (m : MapId) (keys ks : List AnyExpr) → e ≡ nums.Agg m keys → ks ≡ keys → number_need e ≡ need (beside (values_need ks) 8) (16 + codes_in (values_need ks))
agg-is e m keys ks h k = ap number_need h ∙ tree.num-Agg-need m keys ∙ ap (λ (l : List AnyExpr). need (beside (values_need l) 8) (16 + codes_in (values_need l))) (sym k)

pub step-map-is : (e : NumExpr) (m : MapId) (keys ks : List AnyExpr) (plus prefix : Bool) → e ≡ nums.StepMap m keys plus prefix → ks ≡ keys → number_need e ≡ need (beside (values_need ks) 16) (32 + codes_in (values_need ks))
step-map-is e m keys ks plus prefix h k = ap number_need h ∙ tree.num-StepMap-need m keys plus prefix ∙ ap (λ (l : List AnyExpr). need (beside (values_need l) 16) (32 + codes_in (values_need l))) (sym k)

pub unary-is : (e : NumExpr) (op : UnOp) (d x : NumExpr) → e ≡ nums.Unary op d → x ≡ d → number_need e ≡ more 8 (number_need x)
unary-is e op d x h hx = ap number_need h ∙ tree.num-Unary-need op d ∙ ap (λ (y : NumExpr). more 8 (number_need y)) (sym hx)

abbrev pub both_numbers : NumExpr → NumExpr → Need
both_numbers l r = then_beside 8 (more 12 (number_need l)) (number_need r)

pub binary-is : (e : NumExpr) (op : BinOp) (l r x y : NumExpr) → e ≡ nums.Binary op l r → x ≡ l → y ≡ r → number_need e ≡ both_numbers x y
binary-is e op l r x y h hx hy = ap number_need h ∙ tree.num-Binary-need op l r ∙ ap (λ (z : NumExpr). both_numbers z r) (sym hx) ∙ ap (both_numbers x) (sym hy)

abbrev pub both_texts : StrExpr → StrExpr → Need
both_texts l r = then_beside 64 (more 48 (text_need l)) (text_need r)

pub compare-is : (e : NumExpr) (equal : Bool) (l r x y : StrExpr) → e ≡ nums.Compare equal l r → x ≡ l → y ≡ r → number_need e ≡ both_texts x y
compare-is e equal l r x y h hx hy = ap number_need h ∙ tree.num-Compare-need equal l r ∙ ap (λ (z : StrExpr). both_texts z r) (sym hx) ∙ ap (both_texts x) (sym hy)

abbrev pub one_or_both : NumExpr → NumExpr → Need
one_or_both l r = more 16 (greater (number_need l) (number_need r))

and-is : (e l r x y : NumExpr) → e ≡ nums.AndThen l r → x ≡ l → y ≡ r → number_need e ≡ one_or_both x y
and-is e l r x y h hx hy = ap number_need h ∙ tree.num-AndThen-need l r ∙ ap (λ (z : NumExpr). one_or_both z r) (sym hx) ∙ ap (one_or_both x) (sym hy)

or-is : (e l r x y : NumExpr) → e ≡ nums.OrElse l r → x ≡ l → y ≡ r → number_need e ≡ one_or_both x y
or-is e l r x y h hx hy = ap number_need h ∙ tree.num-OrElse-need l r ∙ ap (λ (z : NumExpr). one_or_both z r) (sym hx) ∙ ap (one_or_both x) (sym hy)

-- one of two that are measured alike
pub leaf-is : (e : NumExpr) → ((z : ℤ) × (e ≡ nums.Number z)) ⊎ (((b : NumBuiltin) × (e ≡ nums.Builtin b)) ⊎ ((x : ℕ) × (e ≡ nums.Var x))) → number_need e ≡ need 8 4
leaf-is e (inl (z, h)) = ap number_need h ∙ tree.num-Number-need z
leaf-is e (inr (inl (b, h))) = ap number_need h ∙ tree.num-Builtin-need b
leaf-is e (inr (inr (x, h))) = ap number_need h ∙ tree.num-Var-need x

pub text-leaf-is : (e : StrExpr) → (e ≡ strs.Comm) ⊎ (((f : Field) × (e ≡ strs.Field f)) ⊎ ((x : ℕ) × (e ≡ strs.Var x))) → text_need e ≡ need 64 24
text-leaf-is e (inl h) = ap text_need h ∙ tree.str-Comm-need
text-leaf-is e (inr (inl (f, h))) = ap text_need h ∙ tree.str-Field-need f
text-leaf-is e (inr (inr (x, h))) = ap text_need h ∙ tree.str-Var-need x

pub keyed-is : (e : NumExpr) (keys ks : List AnyExpr) → ((m : MapId) × (e ≡ nums.Map m keys)) ⊎ ((m : MapId) × (e ≡ nums.Agg m keys)) → ks ≡ keys → number_need e ≡ need (beside (values_need ks) 8) (16 + codes_in (values_need ks))
keyed-is e keys ks (inl (m, h)) k = map-is e m keys ks h k
keyed-is e keys ks (inr (m, h)) k = agg-is e m keys ks h k

pub either-is : (e l r x y : NumExpr) → (e ≡ nums.AndThen l r) ⊎ (e ≡ nums.OrElse l r) → x ≡ l → y ≡ r → number_need e ≡ one_or_both x y
either-is e l r x y (inl h) hx hy = and-is e l r x y h hx hy
either-is e l r x y (inr h) hx hy = or-is e l r x y h hx hy

pub choose-is : (e t y o a b d : NumExpr) → e ≡ nums.Choose t y o → a ≡ t → b ≡ y → d ≡ o → number_need e ≡ one_of (number_need a) (number_need b) (number_need d)
choose-is e t y o a b d h ha hb hd = ap number_need h ∙ tree.num-Choose-need t y o ∙ ap (λ (z : NumExpr). one_of (number_need z) (number_need y) (number_need o)) (sym ha)
    ∙ ap (λ (z : NumExpr). one_of (number_need a) (number_need z) (number_need o)) (sym hb) ∙ ap (λ (z : NumExpr). one_of (number_need a) (number_need b) (number_need z)) (sym hd)

-- ---- strings

pub text-map-is : (e : StrExpr) (m : MapId) (keys ks : List AnyExpr) → e ≡ strs.Map m keys → ks ≡ keys → text_need e ≡ need (beside (values_need ks) 64) (40 + codes_in (values_need ks))
text-map-is e m keys ks h k = ap text_need h ∙ tree.str-Map-need m keys ∙ ap (λ (l : List AnyExpr). need (beside (values_need l) 64) (40 + codes_in (values_need l))) (sym k)

pub text-choose-is : (e : StrExpr) (t a : NumExpr) (y o b d : StrExpr) → e ≡ strs.Choose t y o → a ≡ t → b ≡ y → d ≡ o → text_need e ≡ one_of (number_need a) (text_need b) (text_need d)
text-choose-is e t a y o b d h ha hb hd = ap text_need h ∙ tree.str-Choose-need t y o ∙ ap (λ (z : NumExpr). one_of (number_need z) (text_need y) (text_need o)) (sym ha)
    ∙ ap (λ (z : StrExpr). one_of (number_need a) (text_need z) (text_need o)) (sym hb) ∙ ap (λ (z : StrExpr). one_of (number_need a) (text_need b) (text_need z)) (sym hd)

-- ---- statements

pub set-var-is : (s : TypedStmt) (x : ℕ) (v : AnyExpr) → s ≡ stmts.SetVar x v → stmt_need s ≡ more (by_shape (made_of v).shape 8 24) (value_need v).need
set-var-is s x v h = ap stmt_need h ∙ form.SetVar-need x v

pub set-map-is : (s : TypedStmt) (m : MapId) (keys : List AnyExpr) (v : AnyExpr) (ks : List AnyExpr) → s ≡ stmts.SetMap m keys v → ks ≡ keys → stmt_need s ≡ set_map_need (values_need ks) (value_need v).need
set-map-is s m keys v ks h k = ap stmt_need h ∙ form.SetMap-need m keys v ∙ ap (λ (l : List AnyExpr). set_map_need (values_need l) (value_need v).need) (sym k)

pub update-var-is : (s : TypedStmt) (x : ℕ) (op : BinOp) (v : NumExpr) → s ≡ stmts.UpdateVar x op v → stmt_need s ≡ more 16 (number_need v)
update-var-is s x op v h = ap stmt_need h ∙ form.UpdateVar-need x op v

pub update-map-is : (s : TypedStmt) (m : MapId) (keys : List AnyExpr) (op : BinOp) (v : NumExpr) (ks : List AnyExpr) → s ≡ stmts.UpdateMap m keys op v → ks ≡ keys → stmt_need s ≡ update_map_need (values_need ks) (number_need v)
update-map-is s m keys op v ks h k = ap stmt_need h ∙ form.UpdateMap-need m keys op v ∙ ap (λ (l : List AnyExpr). update_map_need (values_need l) (number_need v)) (sym k)

pub gather-is : (s : TypedStmt) (m : MapId) (keys : List AnyExpr) (kind : AggKind) (number : Option NumExpr) (ks : List AnyExpr) → s ≡ stmts.Gather m keys kind number → ks ≡ keys → stmt_need s ≡ gather_need (values_need ks) number
gather-is s m keys kind number ks h k = ap stmt_need h ∙ form.Gather-need m keys kind number ∙ ap (λ (l : List AnyExpr). gather_need (values_need l) number) (sym k)

pub step-is : (s : TypedStmt) (v : NumExpr) → s ≡ stmts.Step v → stmt_need s ≡ number_need v
step-is s v h = ap stmt_need h ∙ form.Step-need v

pub printf-is : (s : TypedStmt) (format : ℕ) (values vs : List AnyExpr) → s ≡ stmts.Printf format values → vs ≡ values → stmt_need s ≡ taking_need (values_need vs)
printf-is s format values vs h k = ap stmt_need h ∙ form.Printf-need format values ∙ ap (λ (l : List AnyExpr). taking_need (values_need l)) (sym k)

pub delete-is : (s : TypedStmt) (m : MapId) (keys ks : List AnyExpr) → s ≡ stmts.Delete m keys → ks ≡ keys → stmt_need s ≡ taking_need (values_need ks)
delete-is s m keys ks h k = ap stmt_need h ∙ form.Delete-need m keys ∙ ap (λ (l : List AnyExpr). taking_need (values_need l)) (sym k)

pub while-is : (s : TypedStmt) (t : NumExpr) (block : TypedBlock) (line : ℕ) → s ≡ stmts.While t block line → stmt_need s ≡ more 24 (greater (number_need t) (block_need block))
while-is s t block line h = ap stmt_need h ∙ form.While-need t block line

pub unroll-is : (s : TypedStmt) (turns : ℕ) (block : TypedBlock) (line : ℕ) → s ≡ stmts.Unroll turns block line → stmt_need s ≡ need (8 + (block_need block).frame) (32 + (block_need block).code)
unroll-is s turns block line h = ap stmt_need h ∙ form.Unroll-need turns block line
