-- The maps and the strings of a script in preorder, and those of its tokens in their order.
use Rattle.std.specs.Prelude.{ℕ, List, [], ◌∷◌, ◌++◌, map, Option, Some, None}
use Rattle.std.specs.List.{filter_map}
use Rattle.bt_core.specs.declared.place.Place.{Place}
use Rattle.bt_ast.specs.declared.expr.Expr.{Expr, fold-Expr}
use Rattle.bt_ast.specs.declared.expr.ExprKind.{ExprKind, fold-ExprKind}
use Rattle.bt_ast.specs.declared.expr.ExprKind.TheOpen.{ExprKind-F, Target-F, Expr-F, IncDec-F, MapRef-F}
use Rattle.bt_ast.specs.declared.expr.IncDec.{IncDec, fold-IncDec}
use Rattle.bt_ast.specs.declared.expr.MapRef.{MapRef, fold-MapRef}
use Rattle.bt_ast.specs.declared.expr.Target.{Target, fold-Target}
use Rattle.bt_ast.specs.declared.stmt.AggCall.{AggCall}
use Rattle.bt_ast.specs.declared.stmt.AggCall.TheVariants as aggs
use Rattle.bt_ast.specs.declared.stmt.Block.{Block, fold-Block}
use Rattle.bt_ast.specs.declared.stmt.Stmt.{Stmt, fold-Stmt}
use Rattle.bt_ast.specs.declared.stmt.StmtKind.{StmtKind, fold-StmtKind}
use Rattle.bt_ast.specs.declared.stmt.StmtKind.TheOpen.{StmtKind-F, Block-F, Stmt-F}
use Rattle.bt_ast.specs.declared.probe.Probe.{Probe}
use Rattle.bt_ast.specs.declared.probe.Script.{Script}
use Rattle.bt_grammar.specs.declared.class.Class.{Class}
use Rattle.bt_grammar.specs.declared.class.Class.TheVariants.{MapName, TextLiteral}
use Rattle.bt_grammar.specs.Form.{Item}
use Rattle.bt_grammar.specs.Trees.{bytes_at}

-- a map by its name, the format of a printf call, or another string, each where its token stands
pub data Mention : Type 0 where
  OfMap : (name : List ℕ) → Place → Mention
  OfFormat : (text : List ℕ) → Place → Mention
  OfText : (text : List ℕ) → Place → Mention

abbrev pub Mentions : Type 0
Mentions = List Mention

abbrev pub joined : List Mentions → Mentions
joined [] = []
joined (first ∷ more) = first ++ joined more

-- ---- expressions, a layer over the mentions of its parts

abbrev pub kind_layer : ExprKind-F (Place → Mentions) Mentions Mentions Mentions Mentions → Place → Mentions
kind_layer (ExprKind-F.Text text) place = OfText text place ∷ []
kind_layer (ExprKind-F.ExprKind::Map m) place = m
kind_layer (ExprKind-F.Step s) place = s
kind_layer (ExprKind-F.Paren e) place = e
kind_layer (ExprKind-F.Unary op e) place = e
kind_layer (ExprKind-F.Binary op left right) place = left ++ right
kind_layer (ExprKind-F.AndThen left right) place = left ++ right
kind_layer (ExprKind-F.OrElse left right) place = left ++ right
kind_layer (ExprKind-F.Choose test first second) place = test ++ (first ++ second)
kind_layer _ place = []

abbrev pub target_layer : Target-F (Place → Mentions) Mentions Mentions Mentions Mentions → Mentions
target_layer (Target-F.Target::Map m) = m
target_layer (Target-F.Target::Var v) = []

abbrev pub expr_layer : Expr-F (Place → Mentions) Mentions Mentions Mentions Mentions → Mentions
expr_layer e = e.kind e.place

abbrev pub step_layer : IncDec-F (Place → Mentions) Mentions Mentions Mentions Mentions → Mentions
step_layer s = s.target

abbrev pub map_layer : MapRef-F (Place → Mentions) Mentions Mentions Mentions Mentions → Mentions
map_layer m = OfMap m.name m.place ∷ joined m.keys

abbrev pub expr_mentions : Expr → Mentions
expr_mentions = fold-Expr (Place → Mentions) Mentions Mentions Mentions Mentions kind_layer target_layer expr_layer step_layer map_layer

abbrev pub expr_kind_mentions : ExprKind → Place → Mentions
expr_kind_mentions = fold-ExprKind (Place → Mentions) Mentions Mentions Mentions Mentions kind_layer target_layer expr_layer step_layer map_layer

abbrev pub target_mentions : Target → Mentions
target_mentions = fold-Target (Place → Mentions) Mentions Mentions Mentions Mentions kind_layer target_layer expr_layer step_layer map_layer

abbrev pub step_mentions : IncDec → Mentions
step_mentions = fold-IncDec (Place → Mentions) Mentions Mentions Mentions Mentions kind_layer target_layer expr_layer step_layer map_layer

abbrev pub map_mentions : MapRef → Mentions
map_mentions = fold-MapRef (Place → Mentions) Mentions Mentions Mentions Mentions kind_layer target_layer expr_layer step_layer map_layer

-- ---- statements

abbrev pub agg_mentions : AggCall → Mentions
agg_mentions aggs.Count = []
agg_mentions (aggs.Gather function e) = expr_mentions e
agg_mentions (aggs.Lhist e least greatest step) = expr_mentions e

abbrev pub arms_mentions : List (Expr × Mentions) → Mentions
arms_mentions [] = []
arms_mentions (arm ∷ arms) = expr_mentions arm.0 ++ (arm.1 ++ arms_mentions arms)

abbrev pub optional_mentions : Option Mentions → Mentions
optional_mentions None = []
optional_mentions (Some mentions) = mentions

abbrev pub statement_layer : StmtKind-F Mentions Mentions Mentions → Mentions
statement_layer (StmtKind-F.SetAgg m a place) = map_mentions m ++ agg_mentions a
statement_layer (StmtKind-F.Assign target op e) = target_mentions target ++ expr_mentions e
statement_layer (StmtKind-F.Step s) = step_mentions s
statement_layer (StmtKind-F.Printf format place values) = OfFormat format place ∷ joined (map expr_mentions values)
statement_layer (StmtKind-F.Print m top div) = map_mentions m
statement_layer (StmtKind-F.Clear m) = map_mentions m
statement_layer (StmtKind-F.Zero m) = map_mentions m
statement_layer (StmtKind-F.Delete m) = map_mentions m
statement_layer (StmtKind-F.DeleteKey m key) = map_mentions m ++ expr_mentions key
statement_layer (StmtKind-F.If arms otherwise) = arms_mentions arms ++ optional_mentions otherwise
statement_layer (StmtKind-F.While test block) = expr_mentions test ++ block
statement_layer (StmtKind-F.Unroll turns block) = block
statement_layer _ = []

abbrev pub block_layer : Block-F Mentions Mentions Mentions → Mentions
block_layer b = joined b.stmts

abbrev pub stmt_layer : Stmt-F Mentions Mentions Mentions → Mentions
stmt_layer s = s.kind

abbrev pub statement_mentions : StmtKind → Mentions
statement_mentions = fold-StmtKind Mentions Mentions Mentions statement_layer block_layer stmt_layer

abbrev pub block_mentions : Block → Mentions
block_mentions = fold-Block Mentions Mentions Mentions statement_layer block_layer stmt_layer

abbrev pub stmt_mentions : Stmt → Mentions
stmt_mentions = fold-Stmt Mentions Mentions Mentions statement_layer block_layer stmt_layer

-- ---- scripts

abbrev pub predicate_mentions : Option Expr → Mentions
predicate_mentions None = []
predicate_mentions (Some e) = expr_mentions e

abbrev pub probe_mentions : Probe → Mentions
probe_mentions p = predicate_mentions p.predicate ++ block_mentions p.block

-- the maps and strings of a script, in preorder
abbrev pub mentions_of : Script → Mentions
mentions_of script = joined (map probe_mentions script.probes)

-- ---- tokens

abbrev pub item_mentions : Class → Item → Mentions
item_mentions MapName t = OfMap (bytes_at t) t.place ∷ []
item_mentions TextLiteral t = OfText (bytes_at t) t.place ∷ []
item_mentions _ t = []

-- the Map and Text tokens, in their order
abbrev pub token_mentions : List Item → Mentions
token_mentions [] = []
token_mentions (t ∷ ts) = item_mentions t.class t ++ token_mentions ts

-- a format as any string
abbrev pub plain : Mention → Mention
plain (OfMap name place) = OfMap name place
plain (OfFormat text place) = OfText text place
plain (OfText text place) = OfText text place

-- ---- what of them is asked for

abbrev pub Named : Type 0
Named = List ℕ × Place

abbrev pub as_map : Mention → Option Named
as_map (OfMap name place) = Some (name, place)
as_map _ = None

abbrev pub as_format : Mention → Option Named
as_format (OfFormat text place) = Some (text, place)
as_format _ = None

abbrev pub as_text : Mention → Option Named
as_text (OfText text place) = Some (text, place)
as_text _ = None

-- the maps of a script in preorder, by name and place, and those of its tokens
abbrev pub maps_of : Script → List Named
maps_of script = filter_map as_map (mentions_of script)

abbrev pub token_maps : List Item → List Named
token_maps ts = filter_map as_map (token_mentions ts)

-- the formats of a script's printf calls in preorder, one a call
abbrev pub formats_of : Script → List Named
formats_of script = filter_map as_format (mentions_of script)

-- the strings of tokens
abbrev pub token_texts : List Item → List Named
token_texts ts = filter_map as_text (token_mentions ts)

-- the first list is the second with some members left out
pub data IsPartOf : List Named → List Named → Type 0 where
  Ended : IsPartOf [] []
  Kept : {x : Named} {xs ys : List Named} → IsPartOf xs ys → IsPartOf (x ∷ xs) (x ∷ ys)
  LeftOut : {y : Named} {xs ys : List Named} → IsPartOf xs ys → IsPartOf xs (y ∷ ys)
