-- Lowering of each kind of expression.
use Rattle.std.proofs.Common.{◌≡◌, ℕ, ◌+◌, ◌≤◌, List, [], ◌∷◌, ◌++◌, length, refl, sym, ap, ◌∙◌, arith, append_assoc, append-nil, Bool, true}
use Rattle.std.specs.Prelude.{ℤ, pos, max, cond, not}
use Rattle.std.specs.Str.{bytes_eq}
use Rattle.std.proofs.Math.Nat.{le-max_right, max-le}
use Rattle.bt_core.specs.declared.map.Shape.{Shape}
use Rattle.bt_core.specs.declared.map.Shape.TheVariants as shapes
use Rattle.bt_core.specs.declared.operator.BinOp.{BinOp}
use Rattle.bt_core.specs.declared.operator.UnOp.{UnOp}
use Rattle.bt_core.specs.declared.value.Value.{Value}
use Rattle.bt_core.specs.declared.value.Value.TheVariants.{Int, Str}
use Rattle.bt_core.specs.Arithmetic.{binary_value, unary_value, truth}
use Rattle.bt_core.specs.Interaction.{Ended}
use Rattle.bt_core.proofs.InteractionLaws.{and_then_assoc}
use Rattle.typed_tree.specs.declared.expr.NumBuiltin.{NumBuiltin}
use Rattle.typed_tree.specs.Parts.{TreePart, Joined, Prefixed, Both}
use Rattle.typed_tree.specs.Scope.{fits}
use Rattle.walk_meaning.specs.declared.flow.Frame.{Frame}
use Rattle.walk_meaning.specs.Does.{Does, given, looked_at, bind}
use Rattle.map_ops.specs.Values.{holds, number_of, text_of}
use Rattle.walk_meaning.specs.Does.{BodyScene}
use Rattle.walk_meaning.specs.Exprs.{number_value, text_value, before, both, texts_compared, tested, builtin, command}
use Rattle.map_ops.specs.Builtins.{builtin_value}
use Rattle.ir_code.specs.declared.instr.Instr.{Instr}
use Rattle.ir_code.specs.declared.instr.Instr.TheVariants as i
use Rattle.bt_core.specs.declared.map.MapDecl.{MapDecl}
use Rattle.ir_code.specs.Figures.{sizes_of, instr_slots, instr_bytes}
use Rattle.ir_code.specs.Meaning.{instr_run}
use Rattle.ir_code.specs.Serving.{end_read}
use Rattle.ir_code.specs.Typing.{operand_shapes, gives, names}
use Rattle.ir_code.specs.Stacks.{top, below}
use Rattle.bt_lower.specs.declared.code.Code.{Code}
use Rattle.bt_lower.specs.Code.{pushed}
use Rattle.bt_lower.specs.Lowers.{state, seen_by, LowersValue}
use Rattle.bt_lower.specs.Needs.{Need, need, more}
use Rattle.bt_lower.specs.Sound.{ground_in, Site}
use Rattle.bt_lower.proofs.Opening.{none-read}
use Rattle.bt_lower.proofs.Exprs.{Parts-none, Parts-less, Parts-fit, Parts-append, Puts, Parts-put}
use Rattle.bt_lower.proofs.Lists.{top-append, below-append, fit-head}

-- ---- what takes nothing off the stack

no_values : (vs : List Value) → length vs ≡ 0 → vs ≡ []
no_values [] h = refl
no_values (v ∷ vs) h = absurd (omega arith)

Leaf : (x : Instr) (shape : Shape) (d : Does Value) (val : BodyScene → Frame → Value) (fr : Frame → Frame) → operand_shapes x ≡ [] → gives x ≡ shape ∷ [] → sizes_of (shape ∷ []) ≤ instr_bytes x →
    ((w : BodyScene) (frame : Frame) → d w frame ≡ Ended (val w frame, fr frame)) →
    ((maps : List MapDecl) (w : BodyScene) (frame : Frame) (values : List Value) → instr_run x (seen_by maps w) (state frame values) ≡ Ended (state (fr frame) (values ++ val w frame ∷ []))) →
    ((frame : Frame) → (fr frame).turns ≡ frame.turns) →
    Puts x [] [] shape d {A = Unit {0}} (λ w vs frame. Ended tt) (λ w vs frame a. val w frame) (λ vs frame a. fr frame)
unfolding given
Leaf x shape d val fr tk gv ft is runs turns = record {
  takes_them = tk;
  gives_one = gv;
  fits = omega arith;
  is = is;
  runs = λ maps w frame values vs long. ap (λ l. instr_run x (seen_by maps w) (state frame (values ++ l))) (no_values vs long) ∙ ap (λ l. instr_run x (seen_by maps w) (state frame l)) (append-nil values) ∙ runs maps w frame values;
  turns = λ vs frame a. turns frame;
}

pub Lowers-leaf : (x : Instr) (head : TreePart) (shape : Shape) (d : Does Value) (val : BodyScene → Frame → Value) (fr : Frame → Frame) (n : Need) (c new : Code) → operand_shapes x ≡ [] → gives x ≡ shape ∷ [] → sizes_of (shape ∷ []) ≤ instr_bytes x →
    ((w : BodyScene) (frame : Frame) → d w frame ≡ Ended (val w frame, fr frame)) →
    ((maps : List MapDecl) (w : BodyScene) (frame : Frame) (values : List Value) → instr_run x (seen_by maps w) (state frame values) ≡ Ended (state (fr frame) (values ++ val w frame ∷ []))) →
    ((frame : Frame) → (fr frame).turns ≡ frame.turns) → ((s : Site) → fits s.scope head ≡ true → names (ground_in s.ground) x ≡ true) → ((s : Site) → fits s.scope head ≡ true → end_read x ≤ s.ground.payload) → instr_bytes x ≤ n.frame → instr_slots x ≤ n.code → new ≡ pushed x c → LowersValue (head ∷ []) d shape n c new
Lowers-leaf x head shape d val fr n c new tk gv ft is runs turns named reads hf hc e =
    Parts-less (head ∷ []) (d ∷ []) (shape ∷ []) (need (max 0 (0 + instr_bytes x)) (instr_slots x + 0)) n c new (max-le (omega arith) (omega arith)) (omega arith)
    (Parts-put x [] head [] [] shape d (λ w vs frame. Ended tt) (λ w vs frame a. val w frame) (λ vs frame a. fr frame) (need 0 0) c new new
    (Leaf x shape d val fr tk gv ft is runs turns) (λ s f. let p = fit-head s.scope head [] f in (named s p.0, p.1)) (λ s f. reads s (fit-head s.scope head [] f).0) e (Parts-none new))

pub Lowers-number : (z : ℤ) (head : TreePart) (c new : Code) → new ≡ pushed (i.Put (Int z)) c → LowersValue (head ∷ []) (number_value (given z)) shapes.Int (need 8 4) c new
unfolding given bind
Lowers-number z head c new e = Lowers-leaf (i.Put (Int z)) head shapes.Int (number_value (given z)) (λ w frame. Int z) (λ frame. frame) (need 8 4) c new refl refl (omega arith) (λ w frame. refl) (λ maps w frame values. refl) (λ frame. refl) (λ s f. refl) (λ s f. none-read s.ground.payload) (omega arith) (omega arith) e

pub Lowers-literal : (s : List ℕ) (head : TreePart) (c new : Code) → new ≡ pushed (i.Put (Str s)) c → LowersValue (head ∷ []) (text_value (given s)) shapes.Str (need 64 32) c new
unfolding given bind
Lowers-literal s head c new e = Lowers-leaf (i.Put (Str s)) head shapes.Str (text_value (given s)) (λ w frame. Str s) (λ frame. frame) (need 64 32) c new refl refl (omega arith) (λ w frame. refl) (λ maps w frame values. refl) (λ frame. refl) (λ s f. refl) (λ s f. none-read s.ground.payload) (omega arith) (omega arith) e

pub Lowers-builtin : (b : NumBuiltin) (head : TreePart) (c new : Code) → new ≡ pushed (i.Builtin b) c → LowersValue (head ∷ []) (number_value (builtin b)) shapes.Int (need 8 4) c new
unfolding given bind looked_at
Lowers-builtin b head c new e = Lowers-leaf (i.Builtin b) head shapes.Int (number_value (builtin b)) (λ w frame. Int (builtin_value b w.context)) (λ frame. frame) (need 8 4) c new refl refl (omega arith) (λ w frame. refl) (λ maps w frame values. refl) (λ frame. refl) (λ s f. refl) (λ s f. none-read s.ground.payload) (omega arith) (omega arith) e

pub Lowers-command : (head : TreePart) (c new : Code) → new ≡ pushed i.Comm c → LowersValue (head ∷ []) (text_value command) shapes.Str (need 64 24) c new
unfolding given bind looked_at
Lowers-command head c new e = Lowers-leaf i.Comm head shapes.Str (text_value command) (λ w frame. Str w.context.comm) (λ frame. frame) (need 64 24) c new refl refl (omega arith) (λ w frame. refl) (λ maps w frame values. refl) (λ frame. refl) (λ s f. refl) (λ s f. none-read s.ground.payload) (omega arith) (omega arith) e

-- ---- operators

two_values : (vs : List Value) → length vs ≡ 2 → (a : Value) × ((b : Value) × (vs ≡ a ∷ b ∷ []))
two_values [] h = absurd (omega arith)
two_values (a ∷ []) h = absurd (omega arith)
two_values (a ∷ b ∷ []) h = (a, (b, refl))
two_values (a ∷ b ∷ v ∷ vs) h = absurd (omega arith)

one_value : (vs : List Value) → length vs ≡ 1 → (v : Value) × (vs ≡ v ∷ [])
one_value [] h = absurd (omega arith)
one_value (v ∷ []) h = (v, refl)
one_value (v ∷ u ∷ vs) h = absurd (omega arith)

top-two : (values : List Value) (a b : Value) → top (values ++ a ∷ b ∷ []) ≡ b
top-two values a b = ap top (sym (append_assoc values (a ∷ []) (b ∷ []))) ∙ top-append (values ++ a ∷ []) b

below-two : (values : List Value) (a b : Value) → below (values ++ a ∷ b ∷ []) ≡ values ++ a ∷ []
below-two values a b = ap below (sym (append_assoc values (a ∷ []) (b ∷ []))) ∙ below-append (values ++ a ∷ []) b

first : List Value → Value
first [] = Int (pos 0)
first (v ∷ vs) = v

both-puts : (op : BinOp) (l r : Does ℤ) → Puts (i.Binary op) (number_value l ∷ number_value r ∷ []) (shapes.Int ∷ shapes.Int ∷ []) shapes.Int (number_value (both op l r)) {A = Unit {0}} (λ w vs frame. Ended tt) (λ w vs frame a. Int (binary_value op (number_of (first vs)) (number_of (top vs)))) (λ vs frame a. frame)
unfolding given bind first
both-puts op l r = record {
  takes_them = refl;
  gives_one = refl;
  fits = omega arith;
  is = λ w frame. simp and_then_assoc;
  runs = λ maps w frame values vs long. binary maps w frame values vs long;
  turns = λ vs frame a. refl;
}
  where
    binary : (maps : List MapDecl) (w : BodyScene) (frame : Frame) (values vs : List Value) → length vs ≡ 2 → instr_run (i.Binary op) (seen_by maps w) (state frame (values ++ vs)) ≡ Ended (state frame (values ++ Int (binary_value op (number_of (first vs)) (number_of (top vs))) ∷ []))
    binary maps w frame values [] h = absurd (omega arith)
    binary maps w frame values (a ∷ []) h = absurd (omega arith)
    binary maps w frame values (a ∷ b ∷ []) h =
        ap (λ (l : List Value). Ended (state frame (below l ++ Int (binary_value op (number_of (top l)) (number_of (top (values ++ a ∷ b ∷ [])))) ∷ []))) (below-two values a b)
        ∙ ap (λ (l : List Value). Ended (state frame (l ++ Int (binary_value op (number_of (top (values ++ a ∷ []))) (number_of (top (values ++ a ∷ b ∷ [])))) ∷ []))) (below-append values a)
        ∙ ap (λ (x : Value). Ended (state frame (values ++ Int (binary_value op (number_of x) (number_of (top (values ++ a ∷ b ∷ [])))) ∷ []))) (top-append values a)
        ∙ ap (λ (x : Value). Ended (state frame (values ++ Int (binary_value op (number_of a) (number_of x)) ∷ []))) (top-two values a b)
    binary maps w frame values (a ∷ b ∷ v ∷ vs) h = absurd (omega arith)

pub Lowers-both : (op : BinOp) (pl pr : List TreePart) (l r : Does ℤ) (nl nr : Need) (c c1 c2 new : Code) → c1 ≡ pushed (i.Binary op) c → LowersValue pr (number_value r) shapes.Int nr c1 c2 → LowersValue pl (number_value l) shapes.Int nl c2 new →
    LowersValue (Joined op ∷ (pl ++ pr)) (number_value (both op l r)) shapes.Int (need (max nl.frame (8 + nr.frame)) (12 + nl.code + nr.code)) c new
Lowers-both op pl pr l r nl nr c c1 c2 new e1 lr ll =
    Parts-less _ _ _ (need (max (max nl.frame (8 + nr.frame)) 16) (12 + (nl.code + nr.code))) _ c new
    (max-le (omega arith) (omega (arith, lr.sizes, le-max_right nl.frame (8 + nr.frame)))) (omega arith)
    (Parts-put (i.Binary op) (pl ++ pr) (Joined op) (number_value l ∷ number_value r ∷ []) (shapes.Int ∷ shapes.Int ∷ []) shapes.Int (number_value (both op l r)) (λ w vs frame. Ended tt) (λ w vs frame a. Int (binary_value op (number_of (first vs)) (number_of (top vs)))) (λ vs frame a. frame) (need (max nl.frame (8 + nr.frame)) (nl.code + nr.code)) c c1 new
    (both-puts op l r) (λ s f. let p = fit-head s.scope (Joined op) (pl ++ pr) f in (refl, p.1)) (λ s f. none-read s.ground.payload) e1
    (Parts-append pl pr (number_value l ∷ []) (number_value r ∷ []) (shapes.Int ∷ []) (shapes.Int ∷ []) nl nr c1 c2 new lr ll))

unary-puts : (op : UnOp) (d : Does ℤ) → Puts (i.Unary op) (number_value d ∷ []) (shapes.Int ∷ []) shapes.Int (number_value (before op d)) {A = Unit {0}} (λ w vs frame. Ended tt) (λ w vs frame a. Int (unary_value op (number_of (top vs)))) (λ vs frame a. frame)
unfolding given bind
unary-puts op d = record {
  takes_them = refl;
  gives_one = refl;
  fits = omega arith;
  is = λ w frame. simp and_then_assoc;
  runs = λ maps w frame values vs long. unary maps w frame values vs long;
  turns = λ vs frame a. refl;
}
  where
    unary : (maps : List MapDecl) (w : BodyScene) (frame : Frame) (values vs : List Value) → length vs ≡ 1 → instr_run (i.Unary op) (seen_by maps w) (state frame (values ++ vs)) ≡ Ended (state frame (values ++ Int (unary_value op (number_of (top vs))) ∷ []))
    unary maps w frame values [] h = absurd (omega arith)
    unary maps w frame values (a ∷ []) h =
        ap (λ (l : List Value). Ended (state frame (l ++ Int (unary_value op (number_of (top (values ++ a ∷ [])))) ∷ []))) (below-append values a)
        ∙ ap (λ (x : Value). Ended (state frame (values ++ Int (unary_value op (number_of x)) ∷ []))) (top-append values a)
    unary maps w frame values (a ∷ b ∷ vs) h = absurd (omega arith)

pub Lowers-unary : (op : UnOp) (pd : List TreePart) (d : Does ℤ) (n : Need) (c c1 new : Code) → c1 ≡ pushed (i.Unary op) c → LowersValue pd (number_value d) shapes.Int n c1 new → LowersValue (Prefixed op ∷ pd) (number_value (before op d)) shapes.Int (more 8 n) c new
Lowers-unary op pd d n c c1 new e1 ld =
    Parts-less _ _ _ (need (max n.frame 8) (8 + n.code)) _ c new (max-le (omega arith) (omega (arith, ld.sizes))) (omega arith)
    (Parts-put (i.Unary op) pd (Prefixed op) (number_value d ∷ []) (shapes.Int ∷ []) shapes.Int (number_value (before op d)) (λ w vs frame. Ended tt) (λ w vs frame a. Int (unary_value op (number_of (top vs)))) (λ vs frame a. frame) n c c1 new
    (unary-puts op d) (λ s f. let p = fit-head s.scope (Prefixed op) pd f in (refl, p.1)) (λ s f. none-read s.ground.payload) e1 ld)

tested-puts : (d : Does ℤ) → Puts i.Truth (number_value d ∷ []) (shapes.Int ∷ []) shapes.Int (number_value (tested d)) {A = Unit {0}} (λ w vs frame. Ended tt) (λ w vs frame a. Int (truth (holds (number_of (top vs))))) (λ vs frame a. frame)
unfolding given bind
tested-puts d = record {
  takes_them = refl;
  gives_one = refl;
  fits = omega arith;
  is = λ w frame. simp and_then_assoc;
  runs = λ maps w frame values vs long. flagged maps w frame values vs long;
  turns = λ vs frame a. refl;
}
  where
    flagged : (maps : List MapDecl) (w : BodyScene) (frame : Frame) (values vs : List Value) → length vs ≡ 1 → instr_run i.Truth (seen_by maps w) (state frame (values ++ vs)) ≡ Ended (state frame (values ++ Int (truth (holds (number_of (top vs)))) ∷ []))
    flagged maps w frame values [] h = absurd (omega arith)
    flagged maps w frame values (a ∷ []) h =
        ap (λ (l : List Value). Ended (state frame (l ++ Int (truth (holds (number_of (top (values ++ a ∷ []))))) ∷ []))) (below-append values a)
        ∙ ap (λ (x : Value). Ended (state frame (values ++ Int (truth (holds (number_of x))) ∷ []))) (top-append values a)
    flagged maps w frame values (a ∷ b ∷ vs) h = absurd (omega arith)

-- a part that says nothing of its own may stand before others
pub Lowers-tested : (pd : List TreePart) (d : Does ℤ) (n : Need) (c c1 new : Code) → c1 ≡ pushed i.Truth c → LowersValue pd (number_value d) shapes.Int n c1 new → LowersValue pd (number_value (tested d)) shapes.Int (more 4 n) c new
Lowers-tested pd d n c c1 new e1 ld =
    Parts-fit (Both ∷ pd) pd _ _ _ c new (λ s f. f)
    (Parts-less _ _ _ (need (max n.frame 8) (4 + n.code)) _ c new (max-le (omega arith) (omega (arith, ld.sizes))) (omega arith)
    (Parts-put i.Truth pd Both (number_value d ∷ []) (shapes.Int ∷ []) shapes.Int (number_value (tested d)) (λ w vs frame. Ended tt) (λ w vs frame a. Int (truth (holds (number_of (top vs))))) (λ vs frame a. frame) n c c1 new
    (tested-puts d) (λ s f. let p = fit-head s.scope Both pd f in (refl, p.1)) (λ s f. none-read s.ground.payload) e1 ld))

compared-puts : (equal : Bool) (l r : Does (List ℕ)) → Puts (i.Compare equal) (text_value l ∷ text_value r ∷ []) (shapes.Str ∷ shapes.Str ∷ []) shapes.Int (number_value (texts_compared equal l r)) {A = Unit {0}} (λ w vs frame. Ended tt)
    (λ w vs frame a. Int (truth (cond equal (bytes_eq (text_of (first vs)) (text_of (top vs))) (not (bytes_eq (text_of (first vs)) (text_of (top vs))))))) (λ vs frame a. frame)
unfolding given bind first
compared-puts equal l r = record {
  takes_them = refl;
  gives_one = refl;
  fits = omega arith;
  is = λ w frame. simp and_then_assoc;
  runs = λ maps w frame values vs long. comparing maps w frame values vs long;
  turns = λ vs frame a. refl;
}
  where
    answer : Value → Value → Value
    answer a b = Int (truth (cond equal (bytes_eq (text_of a) (text_of b)) (not (bytes_eq (text_of a) (text_of b)))))

    comparing : (maps : List MapDecl) (w : BodyScene) (frame : Frame) (values vs : List Value) → length vs ≡ 2 → instr_run (i.Compare equal) (seen_by maps w) (state frame (values ++ vs)) ≡ Ended (state frame (values ++ Int (truth (cond equal (bytes_eq (text_of (first vs)) (text_of (top vs))) (not (bytes_eq (text_of (first vs)) (text_of (top vs)))))) ∷ []))
    comparing maps w frame values [] h = absurd (omega arith)
    comparing maps w frame values (a ∷ []) h = absurd (omega arith)
    comparing maps w frame values (a ∷ b ∷ []) h =
        ap (λ (l : List Value). Ended (state frame (below l ++ answer (top l) (top (values ++ a ∷ b ∷ [])) ∷ []))) (below-two values a b)
        ∙ ap (λ (l : List Value). Ended (state frame (l ++ answer (top (values ++ a ∷ [])) (top (values ++ a ∷ b ∷ [])) ∷ []))) (below-append values a)
        ∙ ap (λ (x : Value). Ended (state frame (values ++ answer x (top (values ++ a ∷ b ∷ [])) ∷ []))) (top-append values a)
        ∙ ap (λ (x : Value). Ended (state frame (values ++ answer a x ∷ []))) (top-two values a b)
    comparing maps w frame values (a ∷ b ∷ v ∷ vs) h = absurd (omega arith)

pub Lowers-compared : (equal : Bool) (head : TreePart) (pl pr : List TreePart) (l r : Does (List ℕ)) (nl nr : Need) (c c1 c2 new : Code) → c1 ≡ pushed (i.Compare equal) c → LowersValue pr (text_value r) shapes.Str nr c1 c2 → LowersValue pl (text_value l) shapes.Str nl c2 new →
    LowersValue (head ∷ (pl ++ pr)) (number_value (texts_compared equal l r)) shapes.Int (need (max nl.frame (64 + nr.frame)) (48 + nl.code + nr.code)) c new
Lowers-compared equal head pl pr l r nl nr c c1 c2 new e1 lr ll =
    Parts-less _ _ _ (need (max (max nl.frame (64 + nr.frame)) 128) (48 + (nl.code + nr.code))) _ c new
    (max-le (omega arith) (omega (arith, lr.sizes, le-max_right nl.frame (64 + nr.frame)))) (omega arith)
    (Parts-put (i.Compare equal) (pl ++ pr) head (text_value l ∷ text_value r ∷ []) (shapes.Str ∷ shapes.Str ∷ []) shapes.Int (number_value (texts_compared equal l r)) (λ w vs frame. Ended tt)
    (λ w vs frame a. Int (truth (cond equal (bytes_eq (text_of (first vs)) (text_of (top vs))) (not (bytes_eq (text_of (first vs)) (text_of (top vs))))))) (λ vs frame a. frame) (need (max nl.frame (64 + nr.frame)) (nl.code + nr.code)) c c1 new
    (compared-puts equal l r) (λ s f. let p = fit-head s.scope head (pl ++ pr) f in (refl, p.1)) (λ s f. none-read s.ground.payload) e1
    (Parts-append pl pr (text_value l ∷ []) (text_value r ∷ []) (shapes.Str ∷ []) (shapes.Str ∷ []) nl nr c1 c2 new lr ll))
