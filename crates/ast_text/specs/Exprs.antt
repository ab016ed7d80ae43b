-- The texts of expressions: the tokens of each, with a blank after each token.
use Rattle.std.specs.Prelude.{ℕ, Bool, cond, ◌++◌, List, [], ◌∷◌, codes}
use Rattle.bt_ast.specs.declared.expr.Expr.{Expr, fold-Expr}
use Rattle.bt_ast.specs.declared.expr.MapRef.{MapRef, fold-MapRef}
use Rattle.bt_ast.specs.declared.expr.IncDec.{IncDec, fold-IncDec}
use Rattle.bt_ast.specs.declared.expr.Target.{Target, fold-Target}
use Rattle.bt_ast.specs.declared.expr.ExprKind.{ExprKind, fold-ExprKind}
use Rattle.bt_ast.specs.declared.expr.ExprKind.TheOpen.{ExprKind-F, Target-F, Expr-F, IncDec-F, MapRef-F}
use Rattle.ast_text.specs.Words.{token, number_text, quoted_text, builtin_word, unary_mark, binary_mark}

-- texts with a mark before the first and a comma before each other
abbrev pub marked : List ℕ → List (List ℕ) → List ℕ
marked mark [] = []
marked mark (text ∷ texts) = token mark ++ (text ++ marked (codes ",") texts)

-- the parts of a key in brackets, where there are any
abbrev pub key_text : List (List ℕ) → List ℕ
key_text [] = []
key_text (text ∷ texts) = marked (codes "[") (text ∷ texts) ++ token (codes "]")

abbrev pub step_mark : Bool → List ℕ
step_mark plus = cond plus (codes "++") (codes "--")

-- one layer, with the texts of its parts
abbrev pub kind_layer : ExprKind-F (List ℕ) (List ℕ) (List ℕ) (List ℕ) (List ℕ) → List ℕ
kind_layer (ExprKind-F.Number n) = number_text n
kind_layer (ExprKind-F.Text text) = quoted_text text
kind_layer (ExprKind-F.Builtin b) = token (builtin_word b)
kind_layer (ExprKind-F.Field name place) = token (codes "args") ++ (token (codes ".") ++ token name)
kind_layer (ExprKind-F.ExprKind::Var v) = token v.name
kind_layer (ExprKind-F.ExprKind::Map m) = m
kind_layer (ExprKind-F.Step s) = s
kind_layer (ExprKind-F.Paren e) = token (codes "(") ++ (e ++ token (codes ")"))
kind_layer (ExprKind-F.Unary op e) = token (unary_mark op) ++ e
kind_layer (ExprKind-F.Binary op left right) = left ++ (token (binary_mark op) ++ right)
kind_layer (ExprKind-F.AndThen left right) = left ++ (token (codes "&&") ++ right)
kind_layer (ExprKind-F.OrElse left right) = left ++ (token (codes "||") ++ right)
kind_layer (ExprKind-F.Choose test first second) = test ++ (token (codes "?") ++ (first ++ (token (codes ":") ++ second)))

abbrev pub target_layer : Target-F (List ℕ) (List ℕ) (List ℕ) (List ℕ) (List ℕ) → List ℕ
target_layer (Target-F.Target::Map m) = m
target_layer (Target-F.Target::Var v) = token v.name

abbrev pub expr_layer : Expr-F (List ℕ) (List ℕ) (List ℕ) (List ℕ) (List ℕ) → List ℕ
expr_layer e = e.kind

abbrev pub step_layer : IncDec-F (List ℕ) (List ℕ) (List ℕ) (List ℕ) (List ℕ) → List ℕ
step_layer s = cond s.prefix (token (step_mark s.plus) ++ s.target) (s.target ++ token (step_mark s.plus))

abbrev pub map_layer : MapRef-F (List ℕ) (List ℕ) (List ℕ) (List ℕ) (List ℕ) → List ℕ
map_layer m = token m.name ++ key_text m.keys

abbrev pub expr_text : Expr → List ℕ
expr_text = fold-Expr (List ℕ) (List ℕ) (List ℕ) (List ℕ) (List ℕ) kind_layer target_layer expr_layer step_layer map_layer

abbrev pub kind_text : ExprKind → List ℕ
kind_text = fold-ExprKind (List ℕ) (List ℕ) (List ℕ) (List ℕ) (List ℕ) kind_layer target_layer expr_layer step_layer map_layer

abbrev pub target_text : Target → List ℕ
target_text = fold-Target (List ℕ) (List ℕ) (List ℕ) (List ℕ) (List ℕ) kind_layer target_layer expr_layer step_layer map_layer

abbrev pub step_text : IncDec → List ℕ
step_text = fold-IncDec (List ℕ) (List ℕ) (List ℕ) (List ℕ) (List ℕ) kind_layer target_layer expr_layer step_layer map_layer

abbrev pub map_text : MapRef → List ℕ
map_text = fold-MapRef (List ℕ) (List ℕ) (List ℕ) (List ℕ) (List ℕ) kind_layer target_layer expr_layer step_layer map_layer
