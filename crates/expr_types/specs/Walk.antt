-- The mentions of expressions in walk order, and the types that their words tell.
use Rattle.std.specs.Prelude.{ℕ, Bool, List, [], ◌∷◌, ◌++◌, map, length}
use Rattle.bt_ast.specs.declared.expr.Builtin.{Builtin}
use Rattle.bt_ast.specs.declared.expr.Builtin.TheVariants.{Pid, Tid, Uid, Gid, Comm, Cpu, Nsecs, Elapsed}
use Rattle.bt_ast.specs.declared.expr.Expr.{Expr, fold-Expr}
use Rattle.bt_ast.specs.declared.expr.MapRef.{MapRef, fold-MapRef}
use Rattle.bt_ast.specs.declared.expr.IncDec.{IncDec, fold-IncDec}
use Rattle.bt_ast.specs.declared.expr.Target.{Target, fold-Target}
use Rattle.bt_ast.specs.declared.expr.ExprKind.{ExprKind, fold-ExprKind}
use Rattle.bt_ast.specs.declared.expr.ExprKind.TheOpen.{ExprKind-F, Target-F, Expr-F, IncDec-F, MapRef-F}
use Rattle.bt_core.specs.declared.operator.BinOp.{BinOp}
use Rattle.bt_core.specs.declared.operator.BinOp.TheVariants.{Eq, Ne}
use Rattle.bt_core.specs.declared.operator.UnOp.{UnOp}
use Rattle.bt_core.specs.declared.place.Place.{Place}
use Rattle.bt_core.specs.Text.{short_text}
use Rattle.expr_types.specs.Mentions.{Sort, Whole, Text, OfMap, OfVar, OfField, Mention, Names, Reads, Steps, ReadsVar, Args, ReadsField, NeedsWhole, NeedsSame, NeedsShort, Point}
use Rattle.expr_types.specs.Mentions.{Word, NumberWord, TextWord, BuiltinWord, FieldWord, VarWord, MapWord, StepWord, UnaryWord, BinaryWord, AndWord, OrWord, ChooseWord}

-- an expression's mentions, its type, and its words without parentheses
pub record Seen : Type 0 where
  pub points : List Point
  pub sort : Sort
  pub words : List Word

-- a map's name, the mentions of its token and its key, the types and the words of the key's parts, and its place
pub record MapSeen : Type 0 where
  pub name : List ℕ
  pub points : List Point
  pub keys : List Sort
  pub key_words : List Word
  pub place : Place

pub data TargetSeen : Type 0 where
  OnMap : (target : MapSeen) → TargetSeen
  OnVar : (name : List ℕ) (place : Place) → TargetSeen

abbrev pub at : Place → Mention → Point
at place mention = record { mention = mention; place = place }

abbrev pub seen : List Point → Sort → List Word → Seen
seen points sort words = record { points = points; sort = sort; words = words }

-- the mentions and the words of several expressions in turn
abbrev pub points_of : List Seen → List Point
points_of [] = []
points_of (s ∷ ss) = s.points ++ points_of ss

abbrev pub words_of : List Seen → List Word
words_of [] = []
words_of (s ∷ ss) = s.words ++ words_of ss

abbrev pub builtin_sort : Builtin → Sort
builtin_sort Comm = Text
builtin_sort Pid = Whole
builtin_sort Tid = Whole
builtin_sort Uid = Whole
builtin_sort Gid = Whole
builtin_sort Cpu = Whole
builtin_sort Nsecs = Whole
builtin_sort Elapsed = Whole

-- two operands that are whole numbers
abbrev pub both_whole : Place → Sort → Sort → List Point
both_whole place left right = at place (NeedsWhole left) ∷ at place (NeedsWhole right) ∷ []

-- what an operator asks of its operands
abbrev pub operands : BinOp → Place → Sort → Sort → List Point
operands Eq place left right = at place (NeedsSame left right) ∷ []
operands Ne place left right = at place (NeedsSame left right) ∷ []
operands op place left right = both_whole place left right

-- the words of a map with its key
abbrev pub map_words : MapSeen → List Word
map_words m = MapWord m.name (length m.keys) ∷ m.key_words

-- a map that is read
abbrev pub map_read : MapSeen → Seen
map_read m = seen (m.points ++ at m.place (Reads m.name m.keys) ∷ []) (OfMap m.name) (map_words m)

-- `++` and `--`, which begin at a place
abbrev pub step_points : Place → TargetSeen → List Point
step_points place (OnMap m) = m.points ++ at m.place (Steps m.name m.keys) ∷ []
step_points place (OnVar name at_var) = at at_var (ReadsVar name) ∷ at place (NeedsWhole (OfVar name)) ∷ []

abbrev pub target_words : TargetSeen → List Word
target_words (OnMap m) = map_words m
target_words (OnVar name at_var) = VarWord name ∷ []

-- an operator before an expression
abbrev pub unary_seen : UnOp → Place → Seen → Seen
unary_seen op place e = seen (e.points ++ at place (NeedsWhole e.sort) ∷ []) Whole (UnaryWord op ∷ e.words)

-- two operands of which the second is evaluated where the first asks for it, with this word between them
abbrev pub logical_seen : Word → Place → Seen → Seen → Seen
logical_seen word place left right =
    seen (left.points ++ (right.points ++ both_whole place left.sort right.sort)) Whole (word ∷ (left.words ++ right.words))

-- what a choice asks of its three parts
abbrev pub choice : Place → Sort → Sort → Sort → List Point
choice place test first second = at place (NeedsWhole test) ∷ at place (NeedsSame first second) ∷ []

abbrev pub choose_seen : Place → Seen → Seen → Seen → Seen
choose_seen place test first second =
    seen (test.points ++ (first.points ++ (second.points ++ choice place test.sort first.sort second.sort)))
    first.sort (ChooseWord ∷ (test.words ++ (first.words ++ second.words)))

-- one layer: what is seen of an expression that begins at a place
abbrev pub kind_layer : ExprKind-F (Place → Seen) TargetSeen Seen Seen MapSeen → Place → Seen
kind_layer (ExprKind-F.Number n) place = seen [] Whole (NumberWord n ∷ [])
kind_layer (ExprKind-F.Text text) place = seen (at place (NeedsShort text) ∷ []) Text (TextWord (short_text text) ∷ [])
kind_layer (ExprKind-F.Builtin b) place = seen [] (builtin_sort b) (BuiltinWord b ∷ [])
kind_layer (ExprKind-F.Field name word) place = seen (at place Args ∷ at word (ReadsField name) ∷ []) (OfField name) (FieldWord name ∷ [])
kind_layer (ExprKind-F.ExprKind::Var v) place = seen (at v.place (ReadsVar v.name) ∷ []) (OfVar v.name) (VarWord v.name ∷ [])
kind_layer (ExprKind-F.ExprKind::Map m) place = map_read m
kind_layer (ExprKind-F.Step s) place = s
kind_layer (ExprKind-F.Paren e) place = e
kind_layer (ExprKind-F.Unary op e) place = unary_seen op place e
kind_layer (ExprKind-F.Binary op left right) place =
    seen (left.points ++ (right.points ++ operands op place left.sort right.sort)) Whole (BinaryWord op ∷ (left.words ++ right.words))
kind_layer (ExprKind-F.AndThen left right) place = logical_seen AndWord place left right
kind_layer (ExprKind-F.OrElse left right) place = logical_seen OrWord place left right
kind_layer (ExprKind-F.Choose test first second) place = choose_seen place test first second

abbrev pub target_layer : Target-F (Place → Seen) TargetSeen Seen Seen MapSeen → TargetSeen
target_layer (Target-F.Target::Map m) = OnMap m
target_layer (Target-F.Target::Var v) = OnVar v.name v.place

abbrev pub expr_layer : Expr-F (Place → Seen) TargetSeen Seen Seen MapSeen → Seen
expr_layer e = e.kind e.place

abbrev pub step_seen : Bool → Bool → Place → TargetSeen → Seen
step_seen plus prefix place target = seen (step_points place target) Whole (StepWord plus prefix ∷ target_words target)

abbrev pub step_layer : IncDec-F (Place → Seen) TargetSeen Seen Seen MapSeen → Seen
step_layer s = step_seen s.plus s.prefix s.place s.target

abbrev pub key_seen : List ℕ → List Seen → Place → MapSeen
key_seen name keys place =
    record { name = name; points = at place (Names name) ∷ points_of keys; keys = map (λ s. s.sort) keys; key_words = words_of keys; place = place }

abbrev pub map_layer : MapRef-F (Place → Seen) TargetSeen Seen Seen MapSeen → MapSeen
map_layer m = key_seen m.name m.keys m.place

abbrev pub of_expr : Expr → Seen
of_expr = fold-Expr (Place → Seen) TargetSeen Seen Seen MapSeen kind_layer target_layer expr_layer step_layer map_layer

abbrev pub of_kind : ExprKind → Place → Seen
of_kind = fold-ExprKind (Place → Seen) TargetSeen Seen Seen MapSeen kind_layer target_layer expr_layer step_layer map_layer

abbrev pub of_target : Target → TargetSeen
of_target = fold-Target (Place → Seen) TargetSeen Seen Seen MapSeen kind_layer target_layer expr_layer step_layer map_layer

abbrev pub of_step : IncDec → Seen
of_step = fold-IncDec (Place → Seen) TargetSeen Seen Seen MapSeen kind_layer target_layer expr_layer step_layer map_layer

abbrev pub of_map : MapRef → MapSeen
of_map = fold-MapRef (Place → Seen) TargetSeen Seen Seen MapSeen kind_layer target_layer expr_layer step_layer map_layer
