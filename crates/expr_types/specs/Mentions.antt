-- What a script says of its maps, variables, values and formats: its mentions, in walk order.
use Rattle.std.specs.Prelude.{ℕ, ℤ, Bool, List, Option}
use Rattle.bt_ast.specs.declared.expr.Builtin.{Builtin}
use Rattle.bt_core.specs.declared.map.AggKind.{AggKind}
use Rattle.bt_core.specs.declared.operator.BinOp.{BinOp}
use Rattle.bt_core.specs.declared.operator.UnOp.{UnOp}
use Rattle.bt_core.specs.declared.place.Place.{Place}
use Rattle.event_layout.specs.declared.layout.Layout.{Layout}
use Rattle.typed_tree.specs.declared.stmt.Jump.{Jump}

-- the type of an expression, as far as its own words tell: whole numbers, strings, or what a map, a variable or a field holds
pub data Sort : Type 0 where
  Whole : Sort
  Text : Sort
  OfMap : (name : List ℕ) → Sort
  OfVar : (name : List ℕ) → Sort
  OfField : (name : List ℕ) → Sort

pub data Mention : Type 0 where
  -- a body begins, at an event of this layout or at none
  Begins : (event : Option Layout) → Mention
  -- of a map: its token alone; as a whole; a read; `++`, `--` and `op=`; an assignment; an aggregation
  Names : (name : List ℕ) → Mention
  Uses : (name : List ℕ) → Mention
  Reads : (name : List ℕ) (keys : List Sort) → Mention
  Steps : (name : List ℕ) (keys : List Sort) → Mention
  Sets : (name : List ℕ) (keys : List Sort) (value : Sort) → Mention
  Gathers : (name : List ℕ) (keys : List Sort) (kind : AggKind) → Mention
  -- of a map that a key is deleted from: that it is no aggregation; its key
  NeedsShared : (name : List ℕ) → Mention
  Deletes : (name : List ℕ) (keys : List Sort) → Mention
  -- of a variable: a read and an assignment
  ReadsVar : (name : List ℕ) → Mention
  SetsVar : (name : List ℕ) (value : Sort) → Mention
  -- of the event, and of a field of it
  Args : Mention
  ReadsField : (name : List ℕ) → Mention
  -- what a construct asks of its parts: a whole number; one type; a string that is short enough; the bounds of a linear histogram;
  -- the number of turns of `unroll`; the numbers of `print`
  NeedsWhole : (value : Sort) → Mention
  NeedsSame : (left right : Sort) → Mention
  NeedsShort : (text : List ℕ) → Mention
  NeedsBounds : (kind : AggKind) → Mention
  NeedsTurns : (turns : ℤ) → Mention
  NeedsRows : (top div : ℤ) → Mention
  -- a call of `printf` whose format stands at a place; a jump that needs a loop
  Prints : (format : List ℕ) (place : Place) (values : List Sort) → Mention
  Jumps : (inside : Bool) → Mention

-- a mention and its place
pub record Point : Type 0 where
  pub mention : Mention
  pub place : Place

-- a word of a script: a value, or a construct whose members stand behind it; a map has the number of its key's parts
pub data Word : Type 0 where
  -- of expressions
  NumberWord : (number : ℤ) → Word
  TextWord : (text : List ℕ) → Word
  BuiltinWord : (builtin : Builtin) → Word
  FieldWord : (name : List ℕ) → Word
  VarWord : (name : List ℕ) → Word
  MapWord : (name : List ℕ) (parts : ℕ) → Word
  StepWord : (plus prefix : Bool) → Word
  UnaryWord : (op : UnOp) → Word
  BinaryWord : (op : BinOp) → Word
  AndWord : Word
  OrWord : Word
  ChooseWord : Word
  -- of statements: an assignment, by its operator; an aggregation; a deletion; a call whose format stands at a place; a map as a whole
  AssignWord : (op : Option BinOp) → Word
  GatherWord : (name : List ℕ) (parts : ℕ) (kind : AggKind) → Word
  DeleteWord : (name : List ℕ) (parts : ℕ) → Word
  PrintfWord : (format : List ℕ) (place : Place) → Word
  ShowWord : (name : List ℕ) (top : ℕ) (div : ℤ) → Word
  ClearWord : (name : List ℕ) → Word
  ZeroWord : (name : List ℕ) → Word
  -- a jump; loops, by their lines; an arm; what `else` has or has not; an end of several
  JumpWord : (jump : Jump) → Word
  WhileWord : (line : ℕ) → Word
  UnrollWord : (turns line : ℕ) → Word
  ArmWord : Word
  ElseWord : Word
  NoElseWord : Word
  EndWord : Word
