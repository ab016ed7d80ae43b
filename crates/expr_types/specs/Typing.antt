-- A typed tree under what is known: it fits the declarations, and written back it is the script's.
use Rattle.std.specs.Prelude.{◌≡◌, ℕ, ◌≤◌, true, false, ◌||◌, List, [], ◌∷◌, map, length, Some, None, slice_get}
use Rattle.std.specs.List.{AllByRecursion, list_any}
use Rattle.std.specs.Prelude.{◌==◌}
use Rattle.bt_ast.specs.declared.expr.Builtin.{Builtin}
use Rattle.bt_ast.specs.declared.expr.Builtin.TheVariants as script
use Rattle.bt_core.specs.declared.map.MapDecl.{MapDecl}
use Rattle.bt_core.specs.declared.map.MapKind.{MapKind}
use Rattle.bt_core.specs.declared.map.MapKind.TheVariants.{Aggs}
use Rattle.bt_core.specs.declared.map.Shape.{Shape}
use Rattle.bt_core.specs.declared.place.Place.{Place}
use Rattle.fmt_text.specs.Deciding.{format_pieces}
use Rattle.typed_tree.specs.declared.expr.NumBuiltin.{NumBuiltin}
use Rattle.typed_tree.specs.declared.expr.NumBuiltin.TheVariants.{Pid, Tid, Uid, Gid, Cpu, Nsecs, Elapsed}
use Rattle.typed_tree.specs.Parts.{TreePart, Constant, Literal, Numeric, Command, FieldOf, VarOf, MapOf, AggOf, Stepped, Prefixed, Joined, Both, Either, Chosen}
use Rattle.typed_tree.specs.Parts.{Assigned, Gathered, Deleted, Printed, Shown, Cleared, Zeroed, Jumped, Looped, Unrolled, Arm, Otherwise, NoOtherwise, Ending, Made}
use Rattle.typed_tree.specs.Scope.{shape_of_field, kind_of_shape, is_agg, is_summed_kind, is_count, same_bool, leaves_body, takes, may_print}
use Rattle.expr_types.specs.declared.known.Known.{Known}
use Rattle.expr_types.specs.declared.known.Printed.{Printed as Call}
use Rattle.expr_types.specs.declared.known.Var.{Var}
use Rattle.expr_types.specs.Mentions.{Sort, Word, NumberWord, TextWord, BuiltinWord, FieldWord, VarWord, MapWord, StepWord, UnaryWord, BinaryWord, AndWord, OrWord, ChooseWord}
use Rattle.expr_types.specs.Mentions.{AssignWord, GatherWord, DeleteWord, PrintfWord, ShowWord, ClearWord, ZeroWord, JumpWord, WhileWord, UnrollWord, ArmWord, ElseWord, NoElseWord, EndWord}
use Rattle.expr_types.specs.Known.{decl_in, event_field, shape_in}
use Rattle.expr_types.specs.Walk.{Seen}

-- the map of this name was decided so
pub record IsDeclared (k : Known) (name : List ℕ) (kind : MapKind) (keys : List Shape) : Type 0 where
  pub decl : MapDecl
  pub found : decl_in name k.decided ≡ Some decl
  pub kinds : decl.kind ≡ kind
  pub shapes : decl.key_shape ≡ keys

-- the number of a map that the body has named, and its name
pub record IsNamed (k : Known) (number : ℕ) (name : List ℕ) : Type 0 where
  pub numbered : slice_get k.names number ≡ Some name
  pub here : list_any (λ n. n == number) k.named ≡ true

-- the number of a map that the body has named
pub record IsMap (k : Known) (number : ℕ) : Type 0 where
  pub name : List ℕ
  pub named : IsNamed k number name

-- the number of a map of this kind
pub record IsMapOf (k : Known) (number : ℕ) (kind : MapKind) (keys : List Shape) : Type 0 where
  pub name : List ℕ
  pub named : IsNamed k number name
  pub declared : IsDeclared k name kind keys

-- the number of a map that is no aggregation
pub record IsSharedMap (k : Known) (number : ℕ) (keys : List Shape) : Type 0 where
  pub kind : MapKind
  pub shared : is_agg kind ≡ false
  pub map : IsMapOf k number kind keys

-- the number of an aggregation that is no histogram
pub record IsSummedMap (k : Known) (number : ℕ) (keys : List Shape) : Type 0 where
  pub kind : MapKind
  pub summed : is_summed_kind kind ≡ true
  pub map : IsMapOf k number kind keys

pub record IsVarOf (k : Known) (number : ℕ) (shape : Shape) : Type 0 where
  pub var : Var
  pub numbered : slice_get k.vars number ≡ Some var
  pub shapes : var.shape ≡ shape

-- the number of a call whose format wants these types
pub record IsCallOf (k : Known) (number : ℕ) (shapes : List Shape) : Type 0 where
  pub call : Call
  pub numbered : slice_get k.printed number ≡ Some call
  pub here : list_any (λ n. n == number) k.calls ≡ true
  pub wanted : takes (format_pieces call.text) shapes ≡ true

-- a part has the types that were decided, and breaks no rule
abbrev pub Fits : Known → TreePart → Type 0
Fits k (FieldOf f shape) = (event_field k.event f.name ≡ Some f) × (shape_of_field f.kind ≡ Some shape)
Fits k (VarOf number shape) = IsVarOf k number shape
Fits k (MapOf number keys shape) = IsMapOf k number (kind_of_shape shape) keys
Fits k (AggOf number keys) = IsSummedMap k number keys
Fits k (Gathered number keys kind counts) = IsMapOf k number (Aggs kind) keys × (same_bool counts (is_count kind) ≡ true)
Fits k (Deleted number keys) = IsSharedMap k number keys
Fits k (Printed format shapes) = IsCallOf k format shapes
Fits k (Shown number top div) = IsMap k number × (may_print top div ≡ true)
Fits k (Cleared number) = IsMap k number
Fits k (Zeroed number) = IsMap k number
Fits k (Jumped jump inside) = (inside || leaves_body jump) ≡ true
Fits k (Unrolled turns line) = (1 ≤ turns) × (turns ≤ 100)
Fits k (Constant number) = Unit {0}
Fits k (Literal text) = Unit {0}
Fits k (Numeric builtin) = Unit {0}
Fits k Command = Unit {0}
Fits k (Stepped plus prefix) = Unit {0}
Fits k (Prefixed op) = Unit {0}
Fits k (Joined op) = Unit {0}
Fits k Both = Unit {0}
Fits k Either = Unit {0}
Fits k Chosen = Unit {0}
Fits k (Assigned op) = Unit {0}
Fits k (Looped line) = Unit {0}
Fits k Arm = Unit {0}
Fits k Otherwise = Unit {0}
Fits k NoOtherwise = Unit {0}
Fits k Ending = Unit {0}

abbrev pub AllFit : Known → List TreePart → Type 0
AllFit k parts = AllByRecursion (Fits k) parts

abbrev pub builtin_of : NumBuiltin → Builtin
builtin_of Pid = script.Pid
builtin_of Tid = script.Tid
builtin_of Uid = script.Uid
builtin_of Gid = script.Gid
builtin_of Cpu = script.Cpu
builtin_of Nsecs = script.Nsecs
builtin_of Elapsed = script.Elapsed

-- the names of maps and variables, and the text and the place of the format of each call of `printf`, by their numbers
pub record Titles : Type 0 where
  pub maps : List (List ℕ)
  pub variables : List (List ℕ)
  pub formats : List (List ℕ × Place)

abbrev pub format_of_call : Call → List ℕ × Place
format_of_call call = (call.text, call.place)

abbrev pub titles_of : Known → Titles
titles_of k = record { maps = k.names; variables = map (λ (v : Var). v.name) k.vars; formats = map format_of_call k.printed }

abbrev pub title : List (List ℕ) → ℕ → List ℕ
title names number = elim (slice_get names number) [ None ↦ [] | Some name ↦ name ]

-- what is said of a format that is not there
abbrev pub no_format : List ℕ × Place
no_format = ([], record { line = 0; column = 0 })

abbrev pub format_title : List (List ℕ × Place) → ℕ → List ℕ × Place
format_title formats number = elim (slice_get formats number) [ None ↦ no_format | Some format ↦ format ]

-- the script's word for a part
abbrev pub word_of : Titles → TreePart → Word
word_of t (Constant number) = NumberWord number
word_of t (Literal text) = TextWord text
word_of t (Numeric builtin) = BuiltinWord (builtin_of builtin)
word_of t Command = BuiltinWord script.Comm
word_of t (FieldOf f shape) = FieldWord f.name
word_of t (VarOf number shape) = VarWord (title t.variables number)
word_of t (MapOf number keys shape) = MapWord (title t.maps number) (length keys)
word_of t (AggOf number keys) = MapWord (title t.maps number) (length keys)
word_of t (Stepped plus prefix) = StepWord plus prefix
word_of t (Prefixed op) = UnaryWord op
word_of t (Joined op) = BinaryWord op
word_of t Both = AndWord
word_of t Either = OrWord
word_of t Chosen = ChooseWord
word_of t (Assigned op) = AssignWord op
word_of t (Gathered number keys kind counts) = GatherWord (title t.maps number) (length keys) kind
word_of t (Deleted number keys) = DeleteWord (title t.maps number) (length keys)
word_of t (Printed format shapes) = PrintfWord (format_title t.formats format).0 (format_title t.formats format).1
word_of t (Shown number top div) = ShowWord (title t.maps number) top div
word_of t (Cleared number) = ClearWord (title t.maps number)
word_of t (Zeroed number) = ZeroWord (title t.maps number)
word_of t (Jumped jump inside) = JumpWord jump
word_of t (Looped line) = WhileWord line
word_of t (Unrolled turns line) = UnrollWord turns line
word_of t Arm = ArmWord
word_of t Otherwise = ElseWord
word_of t NoOtherwise = NoElseWord
word_of t Ending = EndWord

abbrev pub words_by : Titles → List TreePart → List Word
words_by t parts = map (word_of t) parts

-- what was made of an expression, by its type and its words
pub record IsTyping (k : Known) (sort : Sort) (words : List Word) (m : Made) : Type 0 where
  pub shape : shape_in k sort ≡ Some m.shape
  pub fits : AllFit k m.parts
  pub written : words_by (titles_of k) m.parts ≡ words

-- each of several
abbrev pub AreTyping : Known → List Seen → List Made → Type 0
AreTyping k [] [] = Unit {0}
AreTyping k [] (m ∷ ms) = ⊥
AreTyping k (s ∷ ss) [] = ⊥
AreTyping k (s ∷ ss) (m ∷ ms) = IsTyping k s.sort s.words m × AreTyping k ss ms
