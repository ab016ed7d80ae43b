-- Lowering of each kind of expression, by its tree.
use Rattle.std.proofs.Common.{◌≡◌, ℕ, zero, suc, ◌+◌, ◌≤◌, ◌<◌, ◌-◌, Result, Ok, Err, List, [], ◌∷◌, ◌++◌, length, refl, sym, ap, ◌∙◌, subst, arith, Bool, true, false, drop, drop-cons, get_or}
use Rattle.std.specs.Prelude.{ℤ, pos, max, cond, slice_get, IfOk, OnOk}
use Rattle.std.proofs.Math.Nat.{le-max_left, le-max_right, max-le}
use Rattle.std.proofs.lemmas.Bool.{and_parts}
use Rattle.std.proofs.lemmas.List.{drop_all}
use Rattle.bt_core.specs.declared.map.MapId.{MapId}
use Rattle.bt_core.specs.declared.map.Shape.{Shape}
use Rattle.bt_core.specs.declared.memory.Memory.{Memory}
use Rattle.bt_core.specs.declared.map.Shape.TheVariants as shapes
use Rattle.bt_core.specs.declared.operator.BinOp.{BinOp}
use Rattle.bt_core.specs.declared.operator.UnOp.{UnOp}
use Rattle.bt_core.specs.declared.value.Value.{Value}
use Rattle.bt_core.specs.declared.value.Value.TheVariants.{Int, Str}
use Rattle.bt_core.specs.Interaction.{Ended, and_then}
use Rattle.bt_core.proofs.InteractionLaws.{and_then_assoc}
use Rattle.event_layout.specs.declared.field.Field.{Field}
use Rattle.event_layout.specs.Sizes.{end_of}
use Rattle.typed_tree.specs.declared.expr.AnyExpr.{AnyExpr}
use Rattle.typed_tree.specs.declared.expr.AnyExpr.TheVariants as anys
use Rattle.typed_tree.specs.declared.expr.NumBuiltin.{NumBuiltin}
use Rattle.typed_tree.specs.declared.expr.NumExpr.{NumExpr}
use Rattle.typed_tree.specs.declared.expr.NumExpr.TheVariants as nums
use Rattle.typed_tree.specs.declared.expr.StrExpr.{StrExpr}
use Rattle.typed_tree.specs.declared.expr.StrExpr.TheVariants as strs
use Rattle.typed_tree.specs.Parts.{TreePart, Made, made_of, num_parts, str_parts, parts_in, key_shapes, compared}
use Rattle.typed_tree.specs.Parts.{Constant, Literal, Numeric, Command, FieldOf, VarOf, MapOf, Stepped, Joined, Both, Either, Chosen}
use Rattle.typed_tree.specs.Scope.{Scope, all_fit, fits, is_shape, shape_of_field, has_field}
use Rattle.event_record.specs.Fields.{field_number, field_text}
use Rattle.walk_meaning.specs.declared.flow.Frame.{Frame}
use Rattle.walk_meaning.specs.Does.{Does, given, looked_at, changed, bind, choose, if_holds}
use Rattle.map_ops.specs.Values.{holds, next, number_of, text_of, shape_of}
use Rattle.walk_meaning.specs.Does.{BodyScene}
use Rattle.walk_meaning.specs.Exprs.{value_does, values_do, number_does, text_does, number_value, text_value, tested, number_field, text_field, step_variable, step_map}
use Rattle.walk_meaning.specs.Maps.{number_variable, text_variable, with_variable, variable}
use Rattle.walk_meaning.proofs.ExprDoes.{number_num, builtin_num, field_num, var_num, map_num, stepvar_num, stepmap_num, unary_num, binary_num, compare_num, andthen_num, orelse_num, choose_num, text_str, comm_str, field_str, var_str, map_str, choose_str, num_any, str_any, agg_num}
use Rattle.ir_code.specs.declared.blocks.Exit.TheVariants.{Goto, Branch}
use Rattle.ir_code.specs.declared.instr.Instr.TheVariants as i
use Rattle.ir_code.specs.Figures.{size_of, sizes_of}
use Rattle.ir_code.specs.Meaning.{stepped}
use Rattle.bt_lower.specs.declared.code.Code.{Code}
use Rattle.bt_lower.specs.Code.{pushed, begun, closed, untyped}
use Rattle.bt_lower.specs.Lowers.{LowersValue, LowersNumber, LowersText, LowersAny, LowersList, LowersArm, all_made, known_need}
use Rattle.bt_lower.specs.Needs.{Need, need, more, greater, list_frame, codes_in, value_need, values_need, number_need, text_need}
use Rattle.bt_lower.specs.Sound.{Site}
use Rattle.bt_lower.proofs.Opening.{none-read}
use Rattle.bt_lower.proofs.Exprs.{Parts-none, Parts-less, Parts-fit, Parts-append, Parts-put}
use Rattle.bt_lower.proofs.Choices.{Lowers-arm, Lowers-either}
use Rattle.bt_lower.proofs.Blocks.{and_then-same}
use Rattle.bt_lower.proofs.Lists.{fit-parts, fit-head}
use Rattle.bt_lower.proofs.Maps.{map_names, Lowers-read_number, Lowers-read_text, stepped-puts, Lowers-read_agg}
use Rattle.bt_lower.proofs.Trees as tree
use Rattle.bt_lower.proofs.Words.{Lowers-leaf, Lowers-number, Lowers-literal, Lowers-builtin, Lowers-command, Lowers-both, Lowers-unary, Lowers-tested, Lowers-compared}

-- what follows at Ok from what is so at Ok
pub at-ok : {A : Type 0} {P Q : Type 0} (r : Result A Memory) → OnOk r P → (P → Q) → OnOk r Q
at-ok (Ok x) h f = f h
at-ok (Err e) h f = tt

pub with-number : {P : Type 0} (Q R : ℕ → Type 0) (r : Result ℕ Memory) → OnOk r P → IfOk r Q → (P → (n : ℕ) → Q n → R n) → IfOk r R
with-number Q R (Ok n) p q f = f p n q
with-number Q R (Err e) p q f = tt

pub on-number : (Q R : ℕ → Type 0) (r : Result ℕ Memory) → IfOk r Q → ((n : ℕ) → Q n → R n) → IfOk r R
on-number Q R (Ok n) q f = f n q
on-number Q R (Err e) q f = tt

num-is : (e x : NumExpr) (ps : List TreePart) (d : Does ℤ) (n : Need) (c new : Code) → e ≡ x → num_parts x ≡ ps → number_does x ≡ d → number_need x ≡ n → LowersValue ps (number_value d) shapes.Int n c new → LowersNumber e c new
num-is e x ps d n c new he hp hd hn l =
    subst (λ (y : NumExpr). LowersNumber y c new) (sym he)
    (subst (λ (q : List TreePart). LowersValue q (number_value (number_does x)) shapes.Int (number_need x) c new) (sym hp)
    (subst (λ (q : Does ℤ). LowersValue ps (number_value q) shapes.Int (number_need x) c new) (sym hd)
    (subst (λ (q : Need). LowersValue ps (number_value d) shapes.Int q c new) (sym hn) l)))

str-is : (e x : StrExpr) (ps : List TreePart) (d : Does (List ℕ)) (n : Need) (c new : Code) → e ≡ x → str_parts x ≡ ps → text_does x ≡ d → text_need x ≡ n → LowersValue ps (text_value d) shapes.Str n c new → LowersText e c new
str-is e x ps d n c new he hp hd hn l =
    subst (λ (y : StrExpr). LowersText y c new) (sym he)
    (subst (λ (q : List TreePart). LowersValue q (text_value (text_does x)) shapes.Str (text_need x) c new) (sym hp)
    (subst (λ (q : Does (List ℕ)). LowersValue ps (text_value q) shapes.Str (text_need x) c new) (sym hd)
    (subst (λ (q : Need). LowersValue ps (text_value d) shapes.Str q c new) (sym hn) l)))

-- ---- leaves

pub N-Number : (e : NumExpr) (z : ℤ) (c new : Code) → e ≡ nums.Number z → new ≡ pushed (i.Put (Int z)) c → LowersNumber e c new
N-Number e z c new he en = num-is e (nums.Number z) _ _ _ c new he (tree.num-Number-parts z) (number_num (nums.Number z) z refl) (tree.num-Number-need z) (Lowers-number z (Constant z) c new en)

pub N-Builtin : (e : NumExpr) (b : NumBuiltin) (c new : Code) → e ≡ nums.Builtin b → new ≡ pushed (i.Builtin b) c → LowersNumber e c new
N-Builtin e b c new he en = num-is e (nums.Builtin b) _ _ _ c new he (tree.num-Builtin-parts b) (builtin_num (nums.Builtin b) b refl) (tree.num-Builtin-need b) (Lowers-builtin b (Numeric b) c new en)

field-names : (s : Site) (f : Field) (shape : Shape) → fits s.scope (FieldOf f shape) ≡ true → is_shape (shape_of_field f.kind) shape ≡ true
field-names s f shape h = (and_parts (has_field s.scope.layout f) (is_shape (shape_of_field f.kind) shape) h).1

field-reads : (s : Site) (f : Field) (shape : Shape) → fits s.scope (FieldOf f shape) ≡ true → end_of f ≤ s.ground.payload
field-reads s f shape h = s.agrees.fields f (and_parts (has_field s.scope.layout f) (is_shape (shape_of_field f.kind) shape) h).0

number-field : (f : Field) (c new : Code) → new ≡ pushed (i.NumberField f) c → LowersValue (FieldOf f shapes.Int ∷ []) (number_value (number_field f)) shapes.Int (need 8 8) c new
unfolding given bind looked_at
number-field f c new en = Lowers-leaf (i.NumberField f) (FieldOf f shapes.Int) shapes.Int (number_value (number_field f)) (λ w frame. Int (field_number f w.payload)) (λ frame. frame) (need 8 8) c new refl refl (omega arith) (λ w frame. refl) (λ maps w frame values. refl) (λ frame. refl) (λ s h. field-names s f shapes.Int h) (λ s h. field-reads s f shapes.Int h) (omega arith) (omega arith) en

pub N-Field : (e : NumExpr) (f : Field) (c new : Code) → e ≡ nums.Field f → new ≡ pushed (i.NumberField f) c → LowersNumber e c new
N-Field e f c new he en = num-is e (nums.Field f) _ _ _ c new he (tree.num-Field-parts f) (field_num (nums.Field f) f refl) (tree.num-Field-need f) (number-field f c new en)

pub var-names : (s : Site) (x : ℕ) (shape : Shape) → fits s.scope (VarOf x shape) ≡ true → is_shape (slice_get s.ground.variables x) shape ≡ true
var-names s x shape h = ap (λ (l : List Shape). is_shape (slice_get l x) shape) s.agrees.variables ∙ h

number-var : (x : ℕ) (c new : Code) → new ≡ pushed (i.Load x shapes.Int) c → LowersValue (VarOf x shapes.Int ∷ []) (number_value (number_variable x)) shapes.Int (need 8 4) c new
unfolding given bind looked_at
number-var x c new en = Lowers-leaf (i.Load x shapes.Int) (VarOf x shapes.Int) shapes.Int (number_value (number_variable x)) (λ w frame. Int (number_of (variable x frame))) (λ frame. frame) (need 8 4) c new refl refl (omega arith) (λ w frame. refl) (λ maps w frame values. refl) (λ frame. refl) (λ s h. var-names s x shapes.Int h) (λ s f. none-read s.ground.payload) (omega arith) (omega arith) en

pub N-Var : (e : NumExpr) (x : ℕ) (c new : Code) → e ≡ nums.Var x → new ≡ pushed (i.Load x shapes.Int) c → LowersNumber e c new
N-Var e x c new he en = num-is e (nums.Var x) _ _ _ c new he (tree.num-Var-parts x) (var_num (nums.Var x) x refl) (tree.num-Var-need x) (number-var x c new en)

step-var : (x : ℕ) (plus prefix : Bool) (c new : Code) → new ≡ pushed (i.StepVar x plus prefix) c → LowersValue (VarOf x shapes.Int ∷ []) (number_value (step_variable x plus prefix)) shapes.Int (need 8 12) c new
unfolding given bind looked_at changed
step-var x plus prefix c new en =
    Lowers-leaf (i.StepVar x plus prefix) (VarOf x shapes.Int) shapes.Int (number_value (step_variable x plus prefix)) (λ w frame. Int (cond prefix (next plus (number_of (variable x frame))) (number_of (variable x frame)))) (λ frame. with_variable x (Int (next plus (number_of (variable x frame)))) frame) (need 8 12) c new
    refl refl (omega arith) (λ w frame. refl) (λ maps w frame values. refl) (λ frame. refl) (λ s h. var-names s x shapes.Int h) (λ s f. none-read s.ground.payload) (omega arith) (omega arith) en

pub N-StepVar : (e : NumExpr) (x : ℕ) (plus prefix : Bool) (c new : Code) → e ≡ nums.StepVar x plus prefix → new ≡ pushed (i.StepVar x plus prefix) c → LowersNumber e c new
N-StepVar e x plus prefix c new he en =
    num-is e (nums.StepVar x plus prefix) _ _ _ c new he (tree.num-StepVar-parts x plus prefix) (stepvar_num (nums.StepVar x plus prefix) x plus prefix refl) (tree.num-StepVar-need x plus prefix)
    (Parts-fit (VarOf x shapes.Int ∷ []) (Stepped plus prefix ∷ VarOf x shapes.Int ∷ []) _ _ _ c new (λ s h. (fit-head s (Stepped plus prefix) (VarOf x shapes.Int ∷ []) h).1) (step-var x plus prefix c new en))

pub S-Text : (e : StrExpr) (s : List ℕ) (c new : Code) → e ≡ strs.Text s → new ≡ pushed (i.Put (Str s)) c → LowersText e c new
S-Text e s c new he en = str-is e (strs.Text s) _ _ _ c new he (tree.str-Text-parts s) (text_str (strs.Text s) s refl) (tree.str-Text-need s) (Lowers-literal s (Literal s) c new en)

pub S-Comm : (e : StrExpr) (c new : Code) → e ≡ strs.Comm → new ≡ pushed i.Comm c → LowersText e c new
S-Comm e c new he en = str-is e strs.Comm _ _ _ c new he tree.str-Comm-parts (comm_str strs.Comm refl) tree.str-Comm-need (Lowers-command Command c new en)

text-field : (f : Field) (c new : Code) → new ≡ pushed (i.TextField f) c → LowersValue (FieldOf f shapes.Str ∷ []) (text_value (text_field f)) shapes.Str (need 64 24) c new
unfolding given bind looked_at
text-field f c new en = Lowers-leaf (i.TextField f) (FieldOf f shapes.Str) shapes.Str (text_value (text_field f)) (λ w frame. Str (field_text f w.payload)) (λ frame. frame) (need 64 24) c new refl refl (omega arith) (λ w frame. refl) (λ maps w frame values. refl) (λ frame. refl) (λ s h. field-names s f shapes.Str h) (λ s h. field-reads s f shapes.Str h) (omega arith) (omega arith) en

pub S-Field : (e : StrExpr) (f : Field) (c new : Code) → e ≡ strs.Field f → new ≡ pushed (i.TextField f) c → LowersText e c new
S-Field e f c new he en = str-is e (strs.Field f) _ _ _ c new he (tree.str-Field-parts f) (field_str (strs.Field f) f refl) (tree.str-Field-need f) (text-field f c new en)

text-var : (x : ℕ) (c new : Code) → new ≡ pushed (i.Load x shapes.Str) c → LowersValue (VarOf x shapes.Str ∷ []) (text_value (text_variable x)) shapes.Str (need 64 24) c new
unfolding given bind looked_at
text-var x c new en = Lowers-leaf (i.Load x shapes.Str) (VarOf x shapes.Str) shapes.Str (text_value (text_variable x)) (λ w frame. Str (text_of (variable x frame))) (λ frame. frame) (need 64 24) c new refl refl (omega arith) (λ w frame. refl) (λ maps w frame values. refl) (λ frame. refl) (λ s h. var-names s x shapes.Str h) (λ s f. none-read s.ground.payload) (omega arith) (omega arith) en

pub S-Var : (e : StrExpr) (x : ℕ) (c new : Code) → e ≡ strs.Var x → new ≡ pushed (i.Load x shapes.Str) c → LowersText e c new
S-Var e x c new he en = str-is e (strs.Var x) _ _ _ c new he (tree.str-Var-parts x) (var_str (strs.Var x) x refl) (tree.str-Var-need x) (text-var x c new en)

-- ---- operators

pub N-Unary : (e : NumExpr) (op : UnOp) (d x : NumExpr) (c c1 new : Code) → e ≡ nums.Unary op d → x ≡ d → c1 ≡ pushed (i.Unary op) c → LowersNumber x c1 new → LowersNumber e c new
N-Unary e op d x c c1 new he hx e1 l =
    num-is e (nums.Unary op d) _ _ _ c new he (tree.num-Unary-parts op d) (unary_num (nums.Unary op d) op d d refl refl) (tree.num-Unary-need op d)
    (Lowers-unary op (num_parts d) (number_does d) (number_need d) c c1 new e1 (subst (λ (y : NumExpr). LowersNumber y c1 new) hx l))

pub N-Binary : (e : NumExpr) (op : BinOp) (l r x y : NumExpr) (c c1 c2 new : Code) → e ≡ nums.Binary op l r → x ≡ l → y ≡ r → c1 ≡ pushed (i.Binary op) c → LowersNumber y c1 c2 → LowersNumber x c2 new → LowersNumber e c new
N-Binary e op l r x y c c1 c2 new he hx hy e1 lr ll =
    num-is e (nums.Binary op l r) _ _ _ c new he (tree.num-Binary-parts op l r) (binary_num (nums.Binary op l r) op l r l r refl refl refl) (tree.num-Binary-need op l r)
    (Lowers-both op (num_parts l) (num_parts r) (number_does l) (number_does r) (number_need l) (number_need r) c c1 c2 new e1 (subst (λ (z : NumExpr). LowersNumber z c1 c2) hy lr) (subst (λ (z : NumExpr). LowersNumber z c2 new) hx ll))

pub N-Compare : (e : NumExpr) (equal : Bool) (l r x y : StrExpr) (c c1 c2 new : Code) → e ≡ nums.Compare equal l r → x ≡ l → y ≡ r → c1 ≡ pushed (i.Compare equal) c → LowersText y c1 c2 → LowersText x c2 new → LowersNumber e c new
N-Compare e equal l r x y c c1 c2 new he hx hy e1 lr ll =
    num-is e (nums.Compare equal l r) _ _ _ c new he (tree.num-Compare-parts equal l r) (compare_num (nums.Compare equal l r) equal l r l r refl refl refl) (tree.num-Compare-need equal l r)
    (Lowers-compared equal (Joined (compared equal)) (str_parts l) (str_parts r) (text_does l) (text_does r) (text_need l) (text_need r) c c1 c2 new e1 (subst (λ (z : StrExpr). LowersText z c1 c2) hy lr) (subst (λ (z : StrExpr). LowersText z c2 new) hx ll))

-- ---- either type, and lists

pub A-Num : (e : AnyExpr) (d x : NumExpr) (c new : Code) → e ≡ anys.Num d → x ≡ d → LowersNumber x c new → LowersAny e c new
A-Num e d x c new he hx l =
    subst (λ (y : AnyExpr). LowersAny y c new) (sym he) (record {
      lowered = subst (λ (m : Made). LowersValue m.parts (value_does (anys.Num d)) m.shape (value_need (anys.Num d)).need c new) (sym (tree.any-Num-made d))
          (subst (λ (q : Does Value). LowersValue (num_parts d) q shapes.Int (value_need (anys.Num d)).need c new) (sym (num_any (anys.Num d) d d refl refl))
          (subst (λ (q : Need). LowersValue (num_parts d) (number_value (number_does d)) shapes.Int q c new) (sym (ap (λ v. v.need) (tree.any-Num-need d))) (subst (λ (y : NumExpr). LowersNumber y c new) hx l)));
      sized = ap (λ v. v.size) (tree.any-Num-need d) ∙ sym (ap (λ (m : Made). size_of m.shape) (tree.any-Num-made d));
    })

pub A-Str : (e : AnyExpr) (d x : StrExpr) (c new : Code) → e ≡ anys.Str d → x ≡ d → LowersText x c new → LowersAny e c new
A-Str e d x c new he hx l =
    subst (λ (y : AnyExpr). LowersAny y c new) (sym he) (record {
      lowered = subst (λ (m : Made). LowersValue m.parts (value_does (anys.Str d)) m.shape (value_need (anys.Str d)).need c new) (sym (tree.any-Str-made d))
          (subst (λ (q : Does Value). LowersValue (str_parts d) q shapes.Str (value_need (anys.Str d)).need c new) (sym (str_any (anys.Str d) d d refl refl))
          (subst (λ (q : Need). LowersValue (str_parts d) (text_value (text_does d)) shapes.Str q c new) (sym (ap (λ v. v.need) (tree.any-Str-need d))) (subst (λ (y : StrExpr). LowersText y c new) hx l)));
      sized = ap (λ v. v.size) (tree.any-Str-need d) ∙ sym (ap (λ (m : Made). size_of m.shape) (tree.any-Str-made d));
    })

List-none : (c : Code) → LowersList [] c c
List-none c = record { lowered = Parts-none c; sized = refl }

List-more : (e : AnyExpr) (es : List AnyExpr) (c c1 new : Code) → LowersList es c c1 → LowersAny e c1 new → LowersList (e ∷ es) c new
List-more e es c c1 new ls l =
    let size : sizes_of ((made_of e).shape ∷ []) + list_frame (values_need es) ≡ (value_need e).size + list_frame (values_need es) = omega (arith, l.sized) in
    record {
      lowered = Parts-less _ _ _ (need (max (value_need e).need.frame (sizes_of ((made_of e).shape ∷ []) + list_frame (values_need es))) ((value_need e).need.code + codes_in (values_need es))) _ c new
          (omega (arith, ap (λ (n : ℕ). max (value_need e).need.frame n) size)) (omega arith)
          (Parts-append (made_of e).parts (parts_in (all_made es)) (value_does e ∷ []) (values_do es) ((made_of e).shape ∷ []) (key_shapes (all_made es)) (value_need e).need (need (list_frame (values_need es)) (codes_in (values_need es))) c c1 new ls.lowered l.lowered);
      sized = omega (arith, l.sized, ls.sized);
    }

pub List-start : (es : List AnyExpr) (left : ℕ) (c : Code) → left ≡ length es → LowersList (drop left es) c c
List-start es left c e = subst (λ l. LowersList l c c) (sym (drop_all left es (omega arith))) (List-none c)

pub List-next : (es : List AnyExpr) (left : ℕ) (e : AnyExpr) (c c1 new : Code) → 0 < left → left ≤ length es → e ≡ get_or es (left - 1) e → LowersList (drop left es) c c1 → LowersAny e c1 new → LowersList (drop (left - 1) es) c new
List-next es zero e c c1 new some le is ls lv = absurd (omega arith)
List-next es (suc n) e c c1 new some le is ls lv =
    let same : suc n - 1 ≡ n = omega arith in
    let at : e ≡ get_or es n e = is ∙ ap (λ (m : ℕ). get_or es m e) same in
    subst (λ (m : ℕ). LowersList (drop m es) c new) (sym same)
    (subst (λ l. LowersList l c new) (ap (λ x. x ∷ drop (suc n) es) at ∙ sym (drop-cons es n e (omega arith)))
    (List-more e (drop (suc n) es) c c1 new ls lv))

pub List-end : (es : List AnyExpr) (left : ℕ) (c new : Code) → left ≡ 0 → LowersList (drop left es) c new → LowersList es c new
List-end es left c new e ls = subst (λ (n : ℕ). LowersList (drop n es) c new) e ls

-- ---- maps

pub N-Map : (e : NumExpr) (m : MapId) (keys es : List AnyExpr) (shape : List Shape) (c c1 new : Code) → e ≡ nums.Map m keys → es ≡ keys → shape ≡ key_shapes (all_made keys) → c1 ≡ pushed (i.Get m shape shapes.Int) c → LowersList es c1 new → LowersNumber e c new
N-Map e m keys es shape c c1 new he hk hs e1 l0 =
    let l = subst (λ (x : List AnyExpr). LowersList x c1 new) hk l0 in
    num-is e (nums.Map m keys) _ _ _ c new he (tree.num-Map-parts m keys) (map_num (nums.Map m keys) m keys keys refl refl) (tree.num-Map-need m keys)
    (Parts-less _ _ _ (need (max (list_frame (values_need keys)) (sizes_of (key_shapes (all_made keys)) + 8)) (16 + codes_in (values_need keys))) _ c new
    (omega (arith, ap (λ (n : ℕ). max (list_frame (values_need keys)) (n + 8)) l.sized)) (omega arith)
    (Lowers-read_number m (parts_in (all_made keys)) (key_shapes (all_made keys)) (values_do keys) (need (list_frame (values_need keys)) (codes_in (values_need keys))) c c1 new (e1 ∙ ap (λ x. pushed (i.Get m x shapes.Int) c) hs) l.lowered))

pub N-Agg : (e : NumExpr) (m : MapId) (keys es : List AnyExpr) (shape : List Shape) (c c1 new : Code) → e ≡ nums.Agg m keys → es ≡ keys → shape ≡ key_shapes (all_made keys) → c1 ≡ pushed (i.ReadAgg m shape) c → LowersList es c1 new → LowersNumber e c new
N-Agg e m keys es shape c c1 new he hk hs e1 l0 =
    let l = subst (λ (x : List AnyExpr). LowersList x c1 new) hk l0 in
    num-is e (nums.Agg m keys) _ _ _ c new he (tree.num-Agg-parts m keys) (agg_num (nums.Agg m keys) m keys keys refl refl) (tree.num-Agg-need m keys)
    (Parts-less _ _ _ (need (max (list_frame (values_need keys)) (sizes_of (key_shapes (all_made keys)) + 8)) (16 + codes_in (values_need keys))) _ c new
    (omega (arith, ap (λ (n : ℕ). max (list_frame (values_need keys)) (n + 8)) l.sized)) (omega arith)
    (Lowers-read_agg m (parts_in (all_made keys)) (key_shapes (all_made keys)) (values_do keys) (need (list_frame (values_need keys)) (codes_in (values_need keys))) c c1 new (e1 ∙ ap (λ x. pushed (i.ReadAgg m x) c) hs) l.lowered))

pub S-Map : (e : StrExpr) (m : MapId) (keys es : List AnyExpr) (shape : List Shape) (c c1 new : Code) → e ≡ strs.Map m keys → es ≡ keys → shape ≡ key_shapes (all_made keys) → c1 ≡ pushed (i.Get m shape shapes.Str) c → LowersList es c1 new → LowersText e c new
S-Map e m keys es shape c c1 new he hk hs e1 l0 =
    let l = subst (λ (x : List AnyExpr). LowersList x c1 new) hk l0 in
    str-is e (strs.Map m keys) _ _ _ c new he (tree.str-Map-parts m keys) (map_str (strs.Map m keys) m keys keys refl refl) (tree.str-Map-need m keys)
    (Parts-less _ _ _ (need (max (list_frame (values_need keys)) (sizes_of (key_shapes (all_made keys)) + 64)) (40 + codes_in (values_need keys))) _ c new
    (omega (arith, ap (λ (n : ℕ). max (list_frame (values_need keys)) (n + 64)) l.sized)) (omega arith)
    (Lowers-read_text m (parts_in (all_made keys)) (key_shapes (all_made keys)) (values_do keys) (need (list_frame (values_need keys)) (codes_in (values_need keys))) c c1 new (e1 ∙ ap (λ x. pushed (i.Get m x shapes.Str) c) hs) l.lowered))

pub N-StepMap : (e : NumExpr) (m : MapId) (keys es : List AnyExpr) (plus prefix : Bool) (shape : List Shape) (c c1 new : Code) → e ≡ nums.StepMap m keys plus prefix → es ≡ keys → shape ≡ key_shapes (all_made keys) → c1 ≡ pushed (i.StepMap m shape plus prefix) c → LowersList es c1 new → LowersNumber e c new
N-StepMap e m keys es plus prefix shape c c1 new he hk hs e1 l0 =
    let l = subst (λ (x : List AnyExpr). LowersList x c1 new) hk l0 in
    let ks = key_shapes (all_made keys) in
    let ps = parts_in (all_made keys) in
    num-is e (nums.StepMap m keys plus prefix) _ _ _ c new he (tree.num-StepMap-parts m keys plus prefix) (stepmap_num (nums.StepMap m keys plus prefix) m keys plus prefix keys refl refl) (tree.num-StepMap-need m keys plus prefix)
    (Parts-less _ _ _ (need (max (list_frame (values_need keys)) (sizes_of ks + 16)) (32 + codes_in (values_need keys))) _ c new
    (omega (arith, ap (λ (n : ℕ). max (list_frame (values_need keys)) (n + 16)) l.sized)) (omega arith)
    (Parts-fit (MapOf m.0 ks shapes.Int ∷ ps) (Stepped plus prefix ∷ MapOf m.0 ks shapes.Int ∷ ps) _ _ _ c new (λ s h. (fit-head s (Stepped plus prefix) (MapOf m.0 ks shapes.Int ∷ ps) h).1)
    (Parts-put (i.StepMap m ks plus prefix) ps (MapOf m.0 ks shapes.Int) (values_do keys) ks shapes.Int (number_value (step_map m (values_do keys) plus prefix)) (λ w vs frame. stepped m vs plus prefix) (λ w vs frame a. a) (λ vs frame a. frame)
    (need (list_frame (values_need keys)) (codes_in (values_need keys))) c c1 new (stepped-puts m ks (values_do keys) plus prefix)
    (λ s f. let p = fit-head s.scope (MapOf m.0 ks shapes.Int) ps f in (map_names s m ks shapes.Int p.0, p.1)) (λ s f. none-read s.ground.payload) (e1 ∙ ap (λ x. pushed (i.StepMap m x plus prefix) c) hs) l.lowered)))

-- ---- choices

known-size : (v : Value) → size_of (shape_of v) ≤ (known_need v).frame
known-size (Int n) = omega arith
known-size (Str s) = omega arith

pub Lowers-known : (v : Value) (c new : Code) → new ≡ pushed (i.Put v) c → LowersValue [] (given v) (shape_of v) (known_need v) c new
unfolding given
Lowers-known v c new en =
    Parts-fit (Both ∷ []) [] _ _ _ c new (λ s h. h)
    (Lowers-leaf (i.Put v) Both (shape_of v) (given v) (λ w frame. v) (λ frame. frame) (known_need v) c new refl refl (omega arith) (λ w frame. refl) (λ maps w frame values. refl) (λ frame. refl) (λ s f. refl) (λ s f. none-read s.ground.payload) (known-size v) (omega arith) en)

choose-number : (b : Bool) (x y : Does ℤ) (w : BodyScene) (frame : Frame) → and_then (choose b x y w frame) (λ p. Ended (Int p.0, p.1)) ≡ choose b (number_value x) (number_value y) w frame
unfolding choose bind given
choose-number true x y w frame = refl
choose-number false x y w frame = refl

choose-text : (b : Bool) (x y : Does (List ℕ)) (w : BodyScene) (frame : Frame) → and_then (choose b x y w frame) (λ p. Ended (Str p.0, p.1)) ≡ choose b (text_value x) (text_value y) w frame
unfolding choose bind given
choose-text true x y w frame = refl
choose-text false x y w frame = refl

number-if_holds : (t x y : Does ℤ) → if_holds t (number_value x) (number_value y) ≡ number_value (if_holds t x y)
unfolding bind given
number-if_holds t x y = λ j w frame. (sym (and_then_assoc (t w frame) (λ p. choose (holds p.0) x y w p.1) (λ p. Ended (Int p.0, p.1)) ∙ and_then-same (t w frame) _ _ (λ p. choose-number (holds p.0) x y w p.1))) j

text-if_holds : (t : Does ℤ) (x y : Does (List ℕ)) → if_holds t (text_value x) (text_value y) ≡ text_value (if_holds t x y)
unfolding bind given
text-if_holds t x y = λ j w frame. (sym (and_then_assoc (t w frame) (λ p. choose (holds p.0) x y w p.1) (λ p. Ended (Str p.0, p.1)) ∙ and_then-same (t w frame) _ _ (λ p. choose-text (holds p.0) x y w p.1))) j

number-given : (z : ℤ) → given (Int z) ≡ number_value (given z)
unfolding bind given
number-given z = refl

choice-fit : (head : TreePart) (pt px py : List TreePart) (s : Scope) → all_fit s (head ∷ (pt ++ (px ++ py))) ≡ true → (all_fit s pt ≡ true) × ((all_fit s px ≡ true) × (all_fit s py ≡ true))
choice-fit head pt px py s h =
    let p = fit-head s head (pt ++ (px ++ py)) h in
    let q = fit-parts s pt (px ++ py) p.1 in
    let r = fit-parts s px py q.1 in
    (q.0, (r.0, r.1))

pub N-Choose : (e : NumExpr) (t y o t1 y1 o1 : NumExpr) (c c0 c1 c2 c3 c4 new : Code) (after first second : ℕ) → e ≡ nums.Choose t y o → t1 ≡ t → y1 ≡ y → o1 ≡ o →
    c0 ≡ closed c → after ≡ length c.blocks → c1 ≡ untyped c0 → LowersArm (num_parts o1) (number_value (number_does o1)) shapes.Int (more 1 (number_need o1)) after c1 c2 second →
    LowersArm (num_parts y1) (number_value (number_does y1)) shapes.Int (more 1 (number_need y1)) after c2 c3 first → c4 ≡ begun (Branch first second) (shapes.Int ∷ []) c3 → LowersNumber t1 c4 new → LowersNumber e c new
N-Choose e t y o t1 y1 o1 c c0 c1 c2 c3 c4 new after first second he ht hy ho e0 ea e1 lo ly e4 lt =
    let lo' = subst (λ (z : NumExpr). LowersArm (num_parts z) (number_value (number_does z)) shapes.Int (more 1 (number_need z)) after c1 c2 second) ho lo in
    let ly' = subst (λ (z : NumExpr). LowersArm (num_parts z) (number_value (number_does z)) shapes.Int (more 1 (number_need z)) after c2 c3 first) hy ly in
    let lt' = subst (λ (z : NumExpr). LowersNumber z c4 new) ht lt in
    num-is e (nums.Choose t y o) _ _ _ c new he (tree.num-Choose-parts t y o) (choose_num (nums.Choose t y o) t y o t y o refl refl refl refl) (tree.num-Choose-need t y o)
    (subst (λ (d : Does Value). LowersValue (Chosen ∷ (num_parts t ++ (num_parts y ++ num_parts o))) d shapes.Int (more 8 (greater (number_need t) (greater (number_need y) (number_need o)))) c new) (number-if_holds (number_does t) (number_does y) (number_does o))
    (Parts-less _ _ _ _ _ c new (omega arith) (omega arith)
    (Lowers-either (Chosen ∷ (num_parts t ++ (num_parts y ++ num_parts o))) (num_parts t) (num_parts y) (num_parts o) (number_does t) (number_value (number_does y)) (number_value (number_does o)) shapes.Int (number_need t) (more 1 (number_need y)) (more 1 (number_need o))
    c c0 c1 c2 c3 c4 new after first second (choice-fit Chosen (num_parts t) (num_parts y) (num_parts o)) e0 ea e1 lo' ly' e4 lt')))

pub S-Choose : (e : StrExpr) (t t1 : NumExpr) (y o y1 o1 : StrExpr) (c c0 c1 c2 c3 c4 new : Code) (after first second : ℕ) → e ≡ strs.Choose t y o → t1 ≡ t → y1 ≡ y → o1 ≡ o →
    c0 ≡ closed c → after ≡ length c.blocks → c1 ≡ untyped c0 → LowersArm (str_parts o1) (text_value (text_does o1)) shapes.Str (more 1 (text_need o1)) after c1 c2 second →
    LowersArm (str_parts y1) (text_value (text_does y1)) shapes.Str (more 1 (text_need y1)) after c2 c3 first → c4 ≡ begun (Branch first second) (shapes.Int ∷ []) c3 → LowersNumber t1 c4 new → LowersText e c new
S-Choose e t t1 y o y1 o1 c c0 c1 c2 c3 c4 new after first second he ht hy ho e0 ea e1 lo ly e4 lt =
    let lo' = subst (λ (z : StrExpr). LowersArm (str_parts z) (text_value (text_does z)) shapes.Str (more 1 (text_need z)) after c1 c2 second) ho lo in
    let ly' = subst (λ (z : StrExpr). LowersArm (str_parts z) (text_value (text_does z)) shapes.Str (more 1 (text_need z)) after c2 c3 first) hy ly in
    let lt' = subst (λ (z : NumExpr). LowersNumber z c4 new) ht lt in
    str-is e (strs.Choose t y o) _ _ _ c new he (tree.str-Choose-parts t y o) (choose_str (strs.Choose t y o) t y o t y o refl refl refl refl) (tree.str-Choose-need t y o)
    (subst (λ (d : Does Value). LowersValue (Chosen ∷ (num_parts t ++ (str_parts y ++ str_parts o))) d shapes.Str (more 8 (greater (number_need t) (greater (text_need y) (text_need o)))) c new) (text-if_holds (number_does t) (text_does y) (text_does o))
    (Parts-less _ _ _ _ _ c new (omega arith) (omega arith)
    (Lowers-either (Chosen ∷ (num_parts t ++ (str_parts y ++ str_parts o))) (num_parts t) (str_parts y) (str_parts o) (number_does t) (text_value (text_does y)) (text_value (text_does o)) shapes.Str (number_need t) (more 1 (text_need y)) (more 1 (text_need o))
    c c0 c1 c2 c3 c4 new after first second (choice-fit Chosen (num_parts t) (str_parts y) (str_parts o)) e0 ea e1 lo' ly' e4 lt')))

pair-fit : (head : TreePart) (pl pr : List TreePart) (s : Scope) → all_fit s (head ∷ (pl ++ pr)) ≡ true → (all_fit s pl ≡ true) × (all_fit s pr ≡ true)
pair-fit head pl pr s h = let p = fit-head s head (pl ++ pr) h in let q = fit-parts s pl pr p.1 in (q.0, q.1)

pub N-AndThen : (e : NumExpr) (l r l1 r1 : NumExpr) (v : Value) (c c0 c1 c2 c3 c4 new : Code) (after first second : ℕ) → e ≡ nums.AndThen l r → l1 ≡ l → r1 ≡ r → v ≡ Int (pos 0) →
    c0 ≡ closed c → after ≡ length c.blocks → c1 ≡ untyped c0 → LowersArm [] (given v) (shape_of v) (more 1 (known_need v)) after c1 c2 second →
    LowersArm (num_parts r1) (number_value (tested (number_does r1))) shapes.Int (more 5 (number_need r1)) after c2 c3 first → c4 ≡ begun (Branch first second) (shapes.Int ∷ []) c3 → LowersNumber l1 c4 new → LowersNumber e c new
N-AndThen e l r l1 r1 v c c0 c1 c2 c3 c4 new after first second he hl hr hv e0 ea e1 lo lx e4 lt =
    let lo' = subst (λ (z : Value). LowersArm [] (given z) (shape_of z) (more 1 (known_need z)) after c1 c2 second) hv lo in
    let lx' = subst (λ (z : NumExpr). LowersArm (num_parts z) (number_value (tested (number_does z))) shapes.Int (more 5 (number_need z)) after c2 c3 first) hr lx in
    let lt' = subst (λ (z : NumExpr). LowersNumber z c4 new) hl lt in
    let ps = Both ∷ (num_parts l ++ num_parts r) in
    num-is e (nums.AndThen l r) _ _ _ c new he (tree.num-AndThen-parts l r) (andthen_num (nums.AndThen l r) l r l r refl refl refl) (tree.num-AndThen-need l r)
    (subst (λ (d : Does Value). LowersValue ps d shapes.Int (more 16 (greater (number_need l) (number_need r))) c new)
    (ap (λ (d : Does Value). if_holds (number_does l) (number_value (tested (number_does r))) d) (number-given (pos 0)) ∙ number-if_holds (number_does l) (tested (number_does r)) (given (pos 0)))
    (Parts-less _ _ _ (need (max (number_need l).frame (max (number_need r).frame 8)) (3 + (number_need l).code + (5 + (number_need r).code) + 5)) _ c new
    (max-le (le-max_left (number_need l).frame (number_need r).frame) (max-le (le-max_right (number_need l).frame (number_need r).frame) (omega (arith, lx'.sizes, le-max_right (number_need l).frame (number_need r).frame)))) (omega arith)
    (Lowers-either ps (num_parts l) (num_parts r) [] (number_does l) (number_value (tested (number_does r))) (given (Int (pos 0))) shapes.Int (number_need l) (more 5 (number_need r)) (more 1 (known_need (Int (pos 0))))
    c c0 c1 c2 c3 c4 new after first second (λ s h. let p = pair-fit Both (num_parts l) (num_parts r) s h in (p.0, (p.1, refl))) e0 ea e1 lo' lx' e4 lt')))

pub N-OrElse : (e : NumExpr) (l r l1 r1 : NumExpr) (v : Value) (c c0 c1 c2 c3 c4 new : Code) (after first second : ℕ) → e ≡ nums.OrElse l r → l1 ≡ l → r1 ≡ r → v ≡ Int (pos 1) →
    c0 ≡ closed c → after ≡ length c.blocks → c1 ≡ untyped c0 → LowersArm (num_parts r1) (number_value (tested (number_does r1))) shapes.Int (more 5 (number_need r1)) after c1 c2 second →
    LowersArm [] (given v) (shape_of v) (more 1 (known_need v)) after c2 c3 first → c4 ≡ begun (Branch first second) (shapes.Int ∷ []) c3 → LowersNumber l1 c4 new → LowersNumber e c new
N-OrElse e l r l1 r1 v c c0 c1 c2 c3 c4 new after first second he hl hr hv e0 ea e1 ly lx e4 lt =
    let lx' = subst (λ (z : Value). LowersArm [] (given z) (shape_of z) (more 1 (known_need z)) after c2 c3 first) hv lx in
    let ly' = subst (λ (z : NumExpr). LowersArm (num_parts z) (number_value (tested (number_does z))) shapes.Int (more 5 (number_need z)) after c1 c2 second) hr ly in
    let lt' = subst (λ (z : NumExpr). LowersNumber z c4 new) hl lt in
    let ps = Either ∷ (num_parts l ++ num_parts r) in
    num-is e (nums.OrElse l r) _ _ _ c new he (tree.num-OrElse-parts l r) (orelse_num (nums.OrElse l r) l r l r refl refl refl) (tree.num-OrElse-need l r)
    (subst (λ (d : Does Value). LowersValue ps d shapes.Int (more 16 (greater (number_need l) (number_need r))) c new)
    (ap (λ (d : Does Value). if_holds (number_does l) d (number_value (tested (number_does r)))) (number-given (pos 1)) ∙ number-if_holds (number_does l) (given (pos 1)) (tested (number_does r)))
    (Parts-less _ _ _ (need (max (number_need l).frame (max 8 (number_need r).frame)) (3 + (number_need l).code + 5 + (5 + (number_need r).code))) _ c new
    (max-le (le-max_left (number_need l).frame (number_need r).frame) (max-le (omega (arith, ly'.sizes, le-max_right (number_need l).frame (number_need r).frame)) (le-max_right (number_need l).frame (number_need r).frame))) (omega arith)
    (Lowers-either ps (num_parts l) [] (num_parts r) (number_does l) (given (Int (pos 1))) (number_value (tested (number_does r))) shapes.Int (number_need l) (more 1 (known_need (Int (pos 1)))) (more 5 (number_need r))
    c c0 c1 c2 c3 c4 new after first second (λ s h. let p = pair-fit Either (num_parts l) (num_parts r) s h in (p.0, (refl, p.1))) e0 ea e1 ly' lx' e4 lt')))

pub Tested-arm : (e : NumExpr) (after : ℕ) (c c0 c1 c2 new : Code) (b : ℕ) → c0 ≡ begun (Goto after) (shapes.Int ∷ []) c → c1 ≡ pushed i.Truth c0 → LowersNumber e c1 c2 → new ≡ closed c2 → b ≡ length c2.blocks →
    LowersArm (num_parts e) (number_value (tested (number_does e))) shapes.Int (more 5 (number_need e)) after c new b
Tested-arm e after c c0 c1 c2 new b e0 e1 l en eb =
    let sum : 1 + (4 + (number_need e).code) ≡ 5 + (number_need e).code = omega arith in
    subst (λ (n : ℕ). LowersArm (num_parts e) (number_value (tested (number_does e))) shapes.Int (need (number_need e).frame n) after c new b) sum
    (Lowers-arm (num_parts e) (number_value (tested (number_does e))) shapes.Int (more 4 (number_need e)) after c c0 c2 new b e0 (Lowers-tested (num_parts e) (number_does e) (number_need e) c0 c1 c2 e1 l) en eb)
