-- The texts of statements and blocks.
use Rattle.std.specs.Prelude.{ℕ, ℤ, ◌++◌, List, [], ◌∷◌, Option, Some, None, map, codes}
use Rattle.bt_ast.specs.declared.expr.Expr.{Expr}
use Rattle.bt_ast.specs.declared.stmt.AggCall.{AggCall}
use Rattle.bt_ast.specs.declared.stmt.AggCall.TheVariants as agg
use Rattle.bt_ast.specs.declared.stmt.Block.{Block, fold-Block}
use Rattle.bt_ast.specs.declared.stmt.Stmt.{Stmt, fold-Stmt}
use Rattle.bt_ast.specs.declared.stmt.StmtKind.{StmtKind, fold-StmtKind}
use Rattle.bt_ast.specs.declared.stmt.StmtKind.TheOpen.{StmtKind-F, Block-F, Stmt-F}
use Rattle.ast_text.specs.Words.{token, ending, number_text, quoted_text, assign_mark, gathering_word}
use Rattle.ast_text.specs.Exprs.{expr_text, map_text, target_text, step_text, marked}

-- a word and what stands in parentheses behind it
abbrev pub call_text : List ℕ → List ℕ → List ℕ
call_text word arguments = token word ++ (token (codes "(") ++ (arguments ++ token (codes ")")))

abbrev pub agg_text : AggCall → List ℕ
agg_text agg.Count = call_text (codes "count") []
agg_text (agg.Gather function e) = call_text (gathering_word function) (expr_text e)
agg_text (agg.Lhist e least greatest step) =
    call_text (codes "lhist") (expr_text e ++ (token (codes ",") ++ (number_text least ++ (token (codes ",") ++ (number_text greatest ++ (token (codes ",") ++ number_text step))))))

-- a number behind a comma, where there is one
abbrev pub optional_text : Option ℤ → List ℕ
optional_text None = []
optional_text (Some n) = token (codes ",") ++ number_text n

-- a statement that ends in a semicolon
abbrev pub simple : List ℕ → List ℕ
simple text = text ++ ending (codes ";")

-- the arms of a choice, by their conditions and the texts of their blocks, with a word before the first and `else` before each other
abbrev pub arms_after : List ℕ → List (Expr × List ℕ) → List ℕ
arms_after word [] = []
arms_after word (arm ∷ arms) = word ++ (call_text (codes "if") (expr_text arm.0) ++ (arm.1 ++ arms_after (token (codes "else")) arms))

abbrev pub arms_text : List (Expr × List ℕ) → List ℕ
arms_text arms = arms_after [] arms

abbrev pub otherwise_text : Option (List ℕ) → List ℕ
otherwise_text None = []
otherwise_text (Some block) = token (codes "else") ++ block

abbrev pub joined : List (List ℕ) → List ℕ
joined [] = []
joined (text ∷ texts) = text ++ joined texts

-- one layer, with the texts of its parts
abbrev pub kind_layer : StmtKind-F (List ℕ) (List ℕ) (List ℕ) → List ℕ
kind_layer (StmtKind-F.SetAgg m a place) = simple (map_text m ++ (token (codes "=") ++ agg_text a))
kind_layer (StmtKind-F.Assign target op e) = simple (target_text target ++ (token (assign_mark op) ++ expr_text e))
kind_layer (StmtKind-F.Step s) = simple (step_text s)
kind_layer (StmtKind-F.Printf format place values) = simple (call_text (codes "printf") (quoted_text format ++ marked (codes ",") (map expr_text values)))
kind_layer (StmtKind-F.Print m top div) = simple (call_text (codes "print") (map_text m ++ (optional_text top ++ optional_text div)))
kind_layer (StmtKind-F.Clear m) = simple (call_text (codes "clear") (map_text m))
kind_layer (StmtKind-F.Zero m) = simple (call_text (codes "zero") (map_text m))
kind_layer (StmtKind-F.Delete m) = simple (call_text (codes "delete") (map_text m))
kind_layer (StmtKind-F.DeleteKey m key) = simple (call_text (codes "delete") (map_text m ++ (token (codes ",") ++ expr_text key)))
kind_layer StmtKind-F.Exit = simple (call_text (codes "exit") [])
kind_layer StmtKind-F.Break = simple (token (codes "break"))
kind_layer StmtKind-F.Continue = simple (token (codes "continue"))
kind_layer StmtKind-F.Return = simple (token (codes "return"))
kind_layer (StmtKind-F.If arms otherwise) = arms_text arms ++ otherwise_text otherwise
kind_layer (StmtKind-F.While test block) = call_text (codes "while") (expr_text test) ++ block
kind_layer (StmtKind-F.Unroll turns block) = call_text (codes "unroll") (number_text turns) ++ block

abbrev pub block_layer : Block-F (List ℕ) (List ℕ) (List ℕ) → List ℕ
block_layer b = ending (codes "{") ++ (joined b.stmts ++ ending (codes "}"))

abbrev pub stmt_layer : Stmt-F (List ℕ) (List ℕ) (List ℕ) → List ℕ
stmt_layer s = s.kind

abbrev pub kind_text : StmtKind → List ℕ
kind_text = fold-StmtKind (List ℕ) (List ℕ) (List ℕ) kind_layer block_layer stmt_layer

abbrev pub block_text : Block → List ℕ
block_text = fold-Block (List ℕ) (List ℕ) (List ℕ) kind_layer block_layer stmt_layer

abbrev pub stmt_text : Stmt → List ℕ
stmt_text = fold-Stmt (List ℕ) (List ℕ) (List ℕ) kind_layer block_layer stmt_layer

-- an arm with the text of its block
abbrev pub arm_of : Expr × Block → Expr × List ℕ
arm_of arm = (arm.0, block_text arm.1)
