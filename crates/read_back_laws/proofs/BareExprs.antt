-- The texts of expressions and their trees without places, a lemma a variant.
use Rattle.std.proofs.Common.{◌≡◌, ◌++◌, ℕ, ℤ, Bool, cond, List, codes, map, sym, ap, ◌∙◌}
use Rattle.bt_core.specs.declared.operator.BinOp.{BinOp}
use Rattle.bt_core.specs.declared.operator.UnOp.{UnOp}
use Rattle.bt_core.specs.declared.place.Place.{Place}
use Rattle.bt_ast.specs.declared.expr.Builtin.{Builtin}
use Rattle.bt_ast.specs.declared.expr.Expr.{Expr, fold-roll-Expr}
use Rattle.bt_ast.specs.declared.expr.ExprKind.{ExprKind, fold-roll-ExprKind}
use Rattle.bt_ast.specs.declared.expr.ExprKind.TheVariants as exprs
use Rattle.bt_ast.specs.declared.expr.ExprKind.TheOpen.{ExprKind-F, Target-F}
use Rattle.bt_ast.specs.declared.expr.MapRef.{MapRef, roll-MapRef, fold-roll-MapRef}
use Rattle.bt_ast.specs.declared.expr.VarRef.{VarRef}
use Rattle.bt_ast.specs.declared.expr.IncDec.{IncDec, roll-IncDec, fold-roll-IncDec}
use Rattle.bt_ast.specs.declared.expr.Target.{Target, fold-roll-Target}
use Rattle.bt_ast.specs.declared.expr.Target.TheVariants as targets
use Rattle.ast_text.specs.Words.{token, number_text, quoted_text, builtin_word, unary_mark, binary_mark}
use Rattle.ast_text.specs.Exprs as texts
use Rattle.ast_text.specs.Exprs.{expr_text, kind_text, target_text, step_text, map_text, key_text, step_mark}
use Rattle.bt_grammar.specs.Tokens.{origin}
use Rattle.bt_grammar.specs.Trees.{expr}
use Rattle.read_back_laws.specs.Bare as bares
use Rattle.read_back_laws.specs.Bare.{bare_var, bare_expr, bare_kind, bare_target, bare_step, bare_map}

pub Number_text : (n : ℤ) (p : Place) → expr_text (expr (exprs.Number n) p) ≡ number_text n
Number_text n p = fold-roll-Expr (List ℕ) (List ℕ) (List ℕ) (List ℕ) (List ℕ) texts.kind_layer texts.target_layer texts.expr_layer texts.step_layer texts.map_layer (record { kind = exprs.Number n; place = p })
    ∙ (ap kind_text (sym (exprs.rolls-Number n)) ∙ fold-roll-ExprKind (List ℕ) (List ℕ) (List ℕ) (List ℕ) (List ℕ) texts.kind_layer texts.target_layer texts.expr_layer texts.step_layer texts.map_layer (ExprKind-F.Number n))

pub Number_bare : (n : ℤ) (p : Place) → bare_expr (expr (exprs.Number n) p) ≡ expr (exprs.Number n) origin
Number_bare n p = fold-roll-Expr ExprKind Target Expr IncDec MapRef bares.kind_layer bares.target_layer bares.expr_layer bares.step_layer bares.map_layer (record { kind = exprs.Number n; place = p })
    ∙ ap (λ (k : ExprKind). expr k origin) (ap bare_kind (sym (exprs.rolls-Number n)) ∙ (fold-roll-ExprKind ExprKind Target Expr IncDec MapRef bares.kind_layer bares.target_layer bares.expr_layer bares.step_layer bares.map_layer (ExprKind-F.Number n) ∙ exprs.rolls-Number n))

pub Text_text : (t : List ℕ) (p : Place) → expr_text (expr (exprs.Text t) p) ≡ quoted_text t
Text_text t p = fold-roll-Expr (List ℕ) (List ℕ) (List ℕ) (List ℕ) (List ℕ) texts.kind_layer texts.target_layer texts.expr_layer texts.step_layer texts.map_layer (record { kind = exprs.Text t; place = p })
    ∙ (ap kind_text (sym (exprs.rolls-Text t)) ∙ fold-roll-ExprKind (List ℕ) (List ℕ) (List ℕ) (List ℕ) (List ℕ) texts.kind_layer texts.target_layer texts.expr_layer texts.step_layer texts.map_layer (ExprKind-F.Text t))

pub Text_bare : (t : List ℕ) (p : Place) → bare_expr (expr (exprs.Text t) p) ≡ expr (exprs.Text t) origin
Text_bare t p = fold-roll-Expr ExprKind Target Expr IncDec MapRef bares.kind_layer bares.target_layer bares.expr_layer bares.step_layer bares.map_layer (record { kind = exprs.Text t; place = p })
    ∙ ap (λ (k : ExprKind). expr k origin) (ap bare_kind (sym (exprs.rolls-Text t)) ∙ (fold-roll-ExprKind ExprKind Target Expr IncDec MapRef bares.kind_layer bares.target_layer bares.expr_layer bares.step_layer bares.map_layer (ExprKind-F.Text t) ∙ exprs.rolls-Text t))

pub Builtin_text : (b : Builtin) (p : Place) → expr_text (expr (exprs.Builtin b) p) ≡ token (builtin_word b)
Builtin_text b p = fold-roll-Expr (List ℕ) (List ℕ) (List ℕ) (List ℕ) (List ℕ) texts.kind_layer texts.target_layer texts.expr_layer texts.step_layer texts.map_layer (record { kind = exprs.Builtin b; place = p })
    ∙ (ap kind_text (sym (exprs.rolls-Builtin b)) ∙ fold-roll-ExprKind (List ℕ) (List ℕ) (List ℕ) (List ℕ) (List ℕ) texts.kind_layer texts.target_layer texts.expr_layer texts.step_layer texts.map_layer (ExprKind-F.Builtin b))

pub Builtin_bare : (b : Builtin) (p : Place) → bare_expr (expr (exprs.Builtin b) p) ≡ expr (exprs.Builtin b) origin
Builtin_bare b p = fold-roll-Expr ExprKind Target Expr IncDec MapRef bares.kind_layer bares.target_layer bares.expr_layer bares.step_layer bares.map_layer (record { kind = exprs.Builtin b; place = p })
    ∙ ap (λ (k : ExprKind). expr k origin) (ap bare_kind (sym (exprs.rolls-Builtin b)) ∙ (fold-roll-ExprKind ExprKind Target Expr IncDec MapRef bares.kind_layer bares.target_layer bares.expr_layer bares.step_layer bares.map_layer (ExprKind-F.Builtin b) ∙ exprs.rolls-Builtin b))

pub Field_text : (name : List ℕ) (place : Place) (p : Place) → expr_text (expr (exprs.Field name place) p) ≡ token (codes "args") ++ (token (codes ".") ++ token name)
Field_text name place p = fold-roll-Expr (List ℕ) (List ℕ) (List ℕ) (List ℕ) (List ℕ) texts.kind_layer texts.target_layer texts.expr_layer texts.step_layer texts.map_layer (record { kind = exprs.Field name place; place = p })
    ∙ (ap kind_text (sym (exprs.rolls-Field name place)) ∙ fold-roll-ExprKind (List ℕ) (List ℕ) (List ℕ) (List ℕ) (List ℕ) texts.kind_layer texts.target_layer texts.expr_layer texts.step_layer texts.map_layer (ExprKind-F.Field name place))

pub Field_bare : (name : List ℕ) (place : Place) (p : Place) → bare_expr (expr (exprs.Field name place) p) ≡ expr (exprs.Field name origin) origin
Field_bare name place p = fold-roll-Expr ExprKind Target Expr IncDec MapRef bares.kind_layer bares.target_layer bares.expr_layer bares.step_layer bares.map_layer (record { kind = exprs.Field name place; place = p })
    ∙ ap (λ (k : ExprKind). expr k origin) (ap bare_kind (sym (exprs.rolls-Field name place)) ∙ (fold-roll-ExprKind ExprKind Target Expr IncDec MapRef bares.kind_layer bares.target_layer bares.expr_layer bares.step_layer bares.map_layer (ExprKind-F.Field name place) ∙ exprs.rolls-Field name origin))

pub Var_text : (v : VarRef) (p : Place) → expr_text (expr (exprs.Var v) p) ≡ token v.name
Var_text v p = fold-roll-Expr (List ℕ) (List ℕ) (List ℕ) (List ℕ) (List ℕ) texts.kind_layer texts.target_layer texts.expr_layer texts.step_layer texts.map_layer (record { kind = exprs.Var v; place = p })
    ∙ (ap kind_text (sym (exprs.rolls-Var v)) ∙ fold-roll-ExprKind (List ℕ) (List ℕ) (List ℕ) (List ℕ) (List ℕ) texts.kind_layer texts.target_layer texts.expr_layer texts.step_layer texts.map_layer (ExprKind-F.ExprKind::Var v))

pub Var_bare : (v : VarRef) (p : Place) → bare_expr (expr (exprs.Var v) p) ≡ expr (exprs.Var (bare_var v)) origin
Var_bare v p = fold-roll-Expr ExprKind Target Expr IncDec MapRef bares.kind_layer bares.target_layer bares.expr_layer bares.step_layer bares.map_layer (record { kind = exprs.Var v; place = p })
    ∙ ap (λ (k : ExprKind). expr k origin) (ap bare_kind (sym (exprs.rolls-Var v)) ∙ (fold-roll-ExprKind ExprKind Target Expr IncDec MapRef bares.kind_layer bares.target_layer bares.expr_layer bares.step_layer bares.map_layer (ExprKind-F.ExprKind::Var v) ∙ exprs.rolls-Var (bare_var v)))

pub Map_text : (m : MapRef) (p : Place) → expr_text (expr (exprs.Map m) p) ≡ map_text m
Map_text m p = fold-roll-Expr (List ℕ) (List ℕ) (List ℕ) (List ℕ) (List ℕ) texts.kind_layer texts.target_layer texts.expr_layer texts.step_layer texts.map_layer (record { kind = exprs.Map m; place = p })
    ∙ (ap kind_text (sym (exprs.rolls-Map m)) ∙ fold-roll-ExprKind (List ℕ) (List ℕ) (List ℕ) (List ℕ) (List ℕ) texts.kind_layer texts.target_layer texts.expr_layer texts.step_layer texts.map_layer (ExprKind-F.ExprKind::Map m))

pub Map_bare : (m : MapRef) (p : Place) → bare_expr (expr (exprs.Map m) p) ≡ expr (exprs.Map (bare_map m)) origin
Map_bare m p = fold-roll-Expr ExprKind Target Expr IncDec MapRef bares.kind_layer bares.target_layer bares.expr_layer bares.step_layer bares.map_layer (record { kind = exprs.Map m; place = p })
    ∙ ap (λ (k : ExprKind). expr k origin) (ap bare_kind (sym (exprs.rolls-Map m)) ∙ (fold-roll-ExprKind ExprKind Target Expr IncDec MapRef bares.kind_layer bares.target_layer bares.expr_layer bares.step_layer bares.map_layer (ExprKind-F.ExprKind::Map m) ∙ exprs.rolls-Map (bare_map m)))

pub Step_text : (s : IncDec) (p : Place) → expr_text (expr (exprs.Step s) p) ≡ step_text s
Step_text s p = fold-roll-Expr (List ℕ) (List ℕ) (List ℕ) (List ℕ) (List ℕ) texts.kind_layer texts.target_layer texts.expr_layer texts.step_layer texts.map_layer (record { kind = exprs.Step s; place = p })
    ∙ (ap kind_text (sym (exprs.rolls-Step s)) ∙ fold-roll-ExprKind (List ℕ) (List ℕ) (List ℕ) (List ℕ) (List ℕ) texts.kind_layer texts.target_layer texts.expr_layer texts.step_layer texts.map_layer (ExprKind-F.Step s))

pub Step_bare : (s : IncDec) (p : Place) → bare_expr (expr (exprs.Step s) p) ≡ expr (exprs.Step (bare_step s)) origin
Step_bare s p = fold-roll-Expr ExprKind Target Expr IncDec MapRef bares.kind_layer bares.target_layer bares.expr_layer bares.step_layer bares.map_layer (record { kind = exprs.Step s; place = p })
    ∙ ap (λ (k : ExprKind). expr k origin) (ap bare_kind (sym (exprs.rolls-Step s)) ∙ (fold-roll-ExprKind ExprKind Target Expr IncDec MapRef bares.kind_layer bares.target_layer bares.expr_layer bares.step_layer bares.map_layer (ExprKind-F.Step s) ∙ exprs.rolls-Step (bare_step s)))

pub Paren_text : (e : Expr) (p : Place) → expr_text (expr (exprs.Paren e) p) ≡ token (codes "(") ++ (expr_text e ++ token (codes ")"))
Paren_text e p = fold-roll-Expr (List ℕ) (List ℕ) (List ℕ) (List ℕ) (List ℕ) texts.kind_layer texts.target_layer texts.expr_layer texts.step_layer texts.map_layer (record { kind = exprs.Paren e; place = p })
    ∙ (ap kind_text (sym (exprs.rolls-Paren e)) ∙ fold-roll-ExprKind (List ℕ) (List ℕ) (List ℕ) (List ℕ) (List ℕ) texts.kind_layer texts.target_layer texts.expr_layer texts.step_layer texts.map_layer (ExprKind-F.Paren e))

pub Paren_bare : (e : Expr) (p : Place) → bare_expr (expr (exprs.Paren e) p) ≡ expr (exprs.Paren (bare_expr e)) origin
Paren_bare e p = fold-roll-Expr ExprKind Target Expr IncDec MapRef bares.kind_layer bares.target_layer bares.expr_layer bares.step_layer bares.map_layer (record { kind = exprs.Paren e; place = p })
    ∙ ap (λ (k : ExprKind). expr k origin) (ap bare_kind (sym (exprs.rolls-Paren e)) ∙ (fold-roll-ExprKind ExprKind Target Expr IncDec MapRef bares.kind_layer bares.target_layer bares.expr_layer bares.step_layer bares.map_layer (ExprKind-F.Paren e) ∙ exprs.rolls-Paren (bare_expr e)))

pub Unary_text : (op : UnOp) (e : Expr) (p : Place) → expr_text (expr (exprs.Unary op e) p) ≡ token (unary_mark op) ++ expr_text e
Unary_text op e p = fold-roll-Expr (List ℕ) (List ℕ) (List ℕ) (List ℕ) (List ℕ) texts.kind_layer texts.target_layer texts.expr_layer texts.step_layer texts.map_layer (record { kind = exprs.Unary op e; place = p })
    ∙ (ap kind_text (sym (exprs.rolls-Unary op e)) ∙ fold-roll-ExprKind (List ℕ) (List ℕ) (List ℕ) (List ℕ) (List ℕ) texts.kind_layer texts.target_layer texts.expr_layer texts.step_layer texts.map_layer (ExprKind-F.Unary op e))

pub Unary_bare : (op : UnOp) (e : Expr) (p : Place) → bare_expr (expr (exprs.Unary op e) p) ≡ expr (exprs.Unary op (bare_expr e)) origin
Unary_bare op e p = fold-roll-Expr ExprKind Target Expr IncDec MapRef bares.kind_layer bares.target_layer bares.expr_layer bares.step_layer bares.map_layer (record { kind = exprs.Unary op e; place = p })
    ∙ ap (λ (k : ExprKind). expr k origin) (ap bare_kind (sym (exprs.rolls-Unary op e)) ∙ (fold-roll-ExprKind ExprKind Target Expr IncDec MapRef bares.kind_layer bares.target_layer bares.expr_layer bares.step_layer bares.map_layer (ExprKind-F.Unary op e) ∙ exprs.rolls-Unary op (bare_expr e)))

pub Binary_text : (op : BinOp) (l r : Expr) (p : Place) → expr_text (expr (exprs.Binary op l r) p) ≡ expr_text l ++ (token (binary_mark op) ++ expr_text r)
Binary_text op l r p = fold-roll-Expr (List ℕ) (List ℕ) (List ℕ) (List ℕ) (List ℕ) texts.kind_layer texts.target_layer texts.expr_layer texts.step_layer texts.map_layer (record { kind = exprs.Binary op l r; place = p })
    ∙ (ap kind_text (sym (exprs.rolls-Binary op l r)) ∙ fold-roll-ExprKind (List ℕ) (List ℕ) (List ℕ) (List ℕ) (List ℕ) texts.kind_layer texts.target_layer texts.expr_layer texts.step_layer texts.map_layer (ExprKind-F.Binary op l r))

pub Binary_bare : (op : BinOp) (l r : Expr) (p : Place) → bare_expr (expr (exprs.Binary op l r) p) ≡ expr (exprs.Binary op (bare_expr l) (bare_expr r)) origin
Binary_bare op l r p = fold-roll-Expr ExprKind Target Expr IncDec MapRef bares.kind_layer bares.target_layer bares.expr_layer bares.step_layer bares.map_layer (record { kind = exprs.Binary op l r; place = p })
    ∙ ap (λ (k : ExprKind). expr k origin) (ap bare_kind (sym (exprs.rolls-Binary op l r)) ∙ (fold-roll-ExprKind ExprKind Target Expr IncDec MapRef bares.kind_layer bares.target_layer bares.expr_layer bares.step_layer bares.map_layer (ExprKind-F.Binary op l r) ∙ exprs.rolls-Binary op (bare_expr l) (bare_expr r)))

pub AndThen_text : (l r : Expr) (p : Place) → expr_text (expr (exprs.AndThen l r) p) ≡ expr_text l ++ (token (codes "&&") ++ expr_text r)
AndThen_text l r p = fold-roll-Expr (List ℕ) (List ℕ) (List ℕ) (List ℕ) (List ℕ) texts.kind_layer texts.target_layer texts.expr_layer texts.step_layer texts.map_layer (record { kind = exprs.AndThen l r; place = p })
    ∙ (ap kind_text (sym (exprs.rolls-AndThen l r)) ∙ fold-roll-ExprKind (List ℕ) (List ℕ) (List ℕ) (List ℕ) (List ℕ) texts.kind_layer texts.target_layer texts.expr_layer texts.step_layer texts.map_layer (ExprKind-F.AndThen l r))

pub AndThen_bare : (l r : Expr) (p : Place) → bare_expr (expr (exprs.AndThen l r) p) ≡ expr (exprs.AndThen (bare_expr l) (bare_expr r)) origin
AndThen_bare l r p = fold-roll-Expr ExprKind Target Expr IncDec MapRef bares.kind_layer bares.target_layer bares.expr_layer bares.step_layer bares.map_layer (record { kind = exprs.AndThen l r; place = p })
    ∙ ap (λ (k : ExprKind). expr k origin) (ap bare_kind (sym (exprs.rolls-AndThen l r)) ∙ (fold-roll-ExprKind ExprKind Target Expr IncDec MapRef bares.kind_layer bares.target_layer bares.expr_layer bares.step_layer bares.map_layer (ExprKind-F.AndThen l r) ∙ exprs.rolls-AndThen (bare_expr l) (bare_expr r)))

pub OrElse_text : (l r : Expr) (p : Place) → expr_text (expr (exprs.OrElse l r) p) ≡ expr_text l ++ (token (codes "||") ++ expr_text r)
OrElse_text l r p = fold-roll-Expr (List ℕ) (List ℕ) (List ℕ) (List ℕ) (List ℕ) texts.kind_layer texts.target_layer texts.expr_layer texts.step_layer texts.map_layer (record { kind = exprs.OrElse l r; place = p })
    ∙ (ap kind_text (sym (exprs.rolls-OrElse l r)) ∙ fold-roll-ExprKind (List ℕ) (List ℕ) (List ℕ) (List ℕ) (List ℕ) texts.kind_layer texts.target_layer texts.expr_layer texts.step_layer texts.map_layer (ExprKind-F.OrElse l r))

pub OrElse_bare : (l r : Expr) (p : Place) → bare_expr (expr (exprs.OrElse l r) p) ≡ expr (exprs.OrElse (bare_expr l) (bare_expr r)) origin
OrElse_bare l r p = fold-roll-Expr ExprKind Target Expr IncDec MapRef bares.kind_layer bares.target_layer bares.expr_layer bares.step_layer bares.map_layer (record { kind = exprs.OrElse l r; place = p })
    ∙ ap (λ (k : ExprKind). expr k origin) (ap bare_kind (sym (exprs.rolls-OrElse l r)) ∙ (fold-roll-ExprKind ExprKind Target Expr IncDec MapRef bares.kind_layer bares.target_layer bares.expr_layer bares.step_layer bares.map_layer (ExprKind-F.OrElse l r) ∙ exprs.rolls-OrElse (bare_expr l) (bare_expr r)))

pub Choose_text : (c y n : Expr) (p : Place) → expr_text (expr (exprs.Choose c y n) p) ≡ expr_text c ++ (token (codes "?") ++ (expr_text y ++ (token (codes ":") ++ expr_text n)))
Choose_text c y n p = fold-roll-Expr (List ℕ) (List ℕ) (List ℕ) (List ℕ) (List ℕ) texts.kind_layer texts.target_layer texts.expr_layer texts.step_layer texts.map_layer (record { kind = exprs.Choose c y n; place = p })
    ∙ (ap kind_text (sym (exprs.rolls-Choose c y n)) ∙ fold-roll-ExprKind (List ℕ) (List ℕ) (List ℕ) (List ℕ) (List ℕ) texts.kind_layer texts.target_layer texts.expr_layer texts.step_layer texts.map_layer (ExprKind-F.Choose c y n))

pub Choose_bare : (c y n : Expr) (p : Place) → bare_expr (expr (exprs.Choose c y n) p) ≡ expr (exprs.Choose (bare_expr c) (bare_expr y) (bare_expr n)) origin
Choose_bare c y n p = fold-roll-Expr ExprKind Target Expr IncDec MapRef bares.kind_layer bares.target_layer bares.expr_layer bares.step_layer bares.map_layer (record { kind = exprs.Choose c y n; place = p })
    ∙ ap (λ (k : ExprKind). expr k origin) (ap bare_kind (sym (exprs.rolls-Choose c y n)) ∙ (fold-roll-ExprKind ExprKind Target Expr IncDec MapRef bares.kind_layer bares.target_layer bares.expr_layer bares.step_layer bares.map_layer (ExprKind-F.Choose c y n) ∙ exprs.rolls-Choose (bare_expr c) (bare_expr y) (bare_expr n)))

pub map_target_text : (m : MapRef) → target_text (targets.Map m) ≡ map_text m
map_target_text m = ap target_text (sym (targets.rolls-Map m)) ∙ fold-roll-Target (List ℕ) (List ℕ) (List ℕ) (List ℕ) (List ℕ) texts.kind_layer texts.target_layer texts.expr_layer texts.step_layer texts.map_layer (Target-F.Target::Map m)

pub var_target_text : (v : VarRef) → target_text (targets.Var v) ≡ token v.name
var_target_text v = ap target_text (sym (targets.rolls-Var v)) ∙ fold-roll-Target (List ℕ) (List ℕ) (List ℕ) (List ℕ) (List ℕ) texts.kind_layer texts.target_layer texts.expr_layer texts.step_layer texts.map_layer (Target-F.Target::Var v)

pub map_target_bare : (m : MapRef) → bare_target (targets.Map m) ≡ targets.Map (bare_map m)
map_target_bare m = ap bare_target (sym (targets.rolls-Map m)) ∙ (fold-roll-Target ExprKind Target Expr IncDec MapRef bares.kind_layer bares.target_layer bares.expr_layer bares.step_layer bares.map_layer (Target-F.Target::Map m) ∙ targets.rolls-Map (bare_map m))

pub var_target_bare : (v : VarRef) → bare_target (targets.Var v) ≡ targets.Var (bare_var v)
var_target_bare v = ap bare_target (sym (targets.rolls-Var v)) ∙ (fold-roll-Target ExprKind Target Expr IncDec MapRef bares.kind_layer bares.target_layer bares.expr_layer bares.step_layer bares.map_layer (Target-F.Target::Var v) ∙ targets.rolls-Var (bare_var v))

pub map_ref_text : (name : List ℕ) (keys : List Expr) (p : Place) → map_text (roll-MapRef (record { name = name; keys = keys; place = p })) ≡ token name ++ key_text (map expr_text keys)
map_ref_text name keys p = fold-roll-MapRef (List ℕ) (List ℕ) (List ℕ) (List ℕ) (List ℕ) texts.kind_layer texts.target_layer texts.expr_layer texts.step_layer texts.map_layer (record { name = name; keys = keys; place = p })

pub map_ref_bare : (name : List ℕ) (keys : List Expr) (p : Place) → bare_map (roll-MapRef (record { name = name; keys = keys; place = p })) ≡ roll-MapRef (record { name = name; keys = map bare_expr keys; place = origin })
map_ref_bare name keys p = fold-roll-MapRef ExprKind Target Expr IncDec MapRef bares.kind_layer bares.target_layer bares.expr_layer bares.step_layer bares.map_layer (record { name = name; keys = keys; place = p })

pub step_text_is : (t : Target) (plus before : Bool) (p : Place) → step_text (roll-IncDec (record { target = t; plus = plus; «prefix» = before; place = p })) ≡ cond before (token (step_mark plus) ++ target_text t) (target_text t ++ token (step_mark plus))
step_text_is t plus before p = fold-roll-IncDec (List ℕ) (List ℕ) (List ℕ) (List ℕ) (List ℕ) texts.kind_layer texts.target_layer texts.expr_layer texts.step_layer texts.map_layer (record { target = t; plus = plus; «prefix» = before; place = p })

pub step_bare_is : (t : Target) (plus before : Bool) (p : Place) → bare_step (roll-IncDec (record { target = t; plus = plus; «prefix» = before; place = p })) ≡ roll-IncDec (record { target = bare_target t; plus = plus; «prefix» = before; place = origin })
step_bare_is t plus before p = fold-roll-IncDec ExprKind Target Expr IncDec MapRef bares.kind_layer bares.target_layer bares.expr_layer bares.step_layer bares.map_layer (record { target = t; plus = plus; «prefix» = before; place = p })
