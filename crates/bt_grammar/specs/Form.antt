-- What a grammar is made of, which token lists are a form, and which begin one.
use Rattle.std.specs.Prelude.{◌≡◌, ℕ, zero, suc, Bool, true, false, List, [], ◌∷◌, ◌++◌, Option, ◌⊎◌, ℤ}
use Rattle.bt_lexer.specs.declared.token.TokenKind.{TokenKind}
use Rattle.bt_core.specs.declared.place.Place.{Place}
use Rattle.bt_ast.specs.declared.expr.Expr.{Expr}
use Rattle.bt_ast.specs.declared.expr.MapRef.{MapRef}
use Rattle.bt_ast.specs.declared.expr.VarRef.{VarRef}
use Rattle.bt_ast.specs.declared.expr.Target.{Target}
use Rattle.bt_ast.specs.declared.stmt.AggCall.{AggCall}
use Rattle.bt_ast.specs.declared.stmt.Block.{Block}
use Rattle.bt_ast.specs.declared.stmt.Stmt.{Stmt}
use Rattle.bt_ast.specs.declared.stmt.StmtKind.{StmtKind}
use Rattle.bt_ast.specs.declared.probe.Point.{Point}
use Rattle.bt_ast.specs.declared.probe.Probe.{Probe}
use Rattle.bt_grammar.specs.declared.class.Class.{Class}
use Rattle.bt_grammar.specs.declared.class.Class.TheVariants.{OpenBrace}
use Rattle.bt_grammar.specs.declared.class.Tier.{Tier}
use Rattle.bt_grammar.specs.Classes.{is}

-- a token, with its class
pub record Item : Type 0 where
  pub class : Class
  pub kind : TokenKind
  pub place : Place

pub data Part : Type 0 where
  Primary : Part
  Unary : Part
  Level : (in_predicate : Bool) → Tier → Part
  Expression : (in_predicate : Bool) → Part
  Values : Part
  Keyed : Part
  Assignable : Part
  Int : Part
  Aggregation : Part
  Update : Part
  AfterMap : Part
  AfterVar : Part
  Printf : Part
  Print : Part
  Delete : Part
  CallOrJump : Part
  Simple : Part
  Arm : Part
  Tail : Part
  Control : Part
  Body : Part
  Braced : Part
  Points : Part
  OneProbe : Part
  WholeScript : Part

-- what a part gives
abbrev pub Of : Part → Type 0
Of Primary = Expr
Of Unary = Expr
Of (Level p t) = Expr
Of (Expression p) = Expr
Of Values = List Expr
Of Keyed = MapRef
Of Assignable = Target
Of Int = ℤ
Of Aggregation = AggCall × Place
Of Update = Target → StmtKind
Of AfterMap = MapRef → StmtKind
Of AfterVar = VarRef → StmtKind
Of Printf = StmtKind
Of Print = StmtKind
Of Delete = StmtKind
Of CallOrJump = Stmt
Of Simple = Stmt
Of Arm = Expr × Block
Of Tail = List (Expr × Block) × Option Block
Of Control = Stmt
Of Body = List Stmt
Of Braced = Block
Of Points = List Point
Of OneProbe = Probe
Of WholeScript = List Probe

pub data Form : Type 0 → Type 1 where
  -- a token of a class
  Tok : (Class → Bool) → Form Item
  -- nothing
  Empty : {A : Type 0} → A → Form A
  -- a part, by its rule
  Call : (n : Part) → Form (Of n)
  Map : {A B : Type 0} → (A → B) → Form A → Form B
  Then : {A B C : Type 0} → (A → B → C) → Form A → Form B → Form C
  Or : {A : Type 0} → Form A → Form A → Form A
  -- a form, and a token at which it ends
  Until : {A : Type 0} → Form A → Class → Form A
  -- a token, by its class and whether an opening brace comes after it, and a form
  Op : {B : Type 0} → (Class → Bool → Bool) → Form B → Form (Item × B)
  -- a form, and any number of others, folded from the left
  Chain : {A B : Type 0} → (A → B → A) → Form A → Form B → Form A

abbrev pub is_brace : Class → Bool
is_brace c = is OpenBrace c

abbrev pub brace_next : List Item → Bool
brace_next [] = false
brace_next (t ∷ r) = is_brace t.class

-- ---- which lists are a form, and give which value

abbrev pub Rel : Type 1
Rel = (n : Part) → List Item → Of n → Type 0

abbrev pub links : {A B : Type 0} → (A → B → A) → (List Item → B → Type 0) → ℕ → A → List Item → A → Type 0
links f W zero a ts c = (ts ≡ []) × (c ≡ a)
links {B = B} f W (suc k) a ts c = (us vs : List Item) × (b : B) × (ts ≡ us ++ vs) × W us b × links f W k (f a b) vs c

abbrev pub whole : {A : Type 0} → Rel → Form A → List Item → A → Type 0
whole R (Tok p) ts a = (ts ≡ a ∷ []) × (p a.class ≡ true)
whole R (Empty d) ts a = (ts ≡ []) × (a ≡ d)
whole R (Call n) ts a = R n ts a
whole R (Map {A = A} f P) ts b = (a : A) × (b ≡ f a) × whole R P ts a
whole R (Then {A = A} {B = B} f P Q) ts c = (xs ys : List Item) × (a : A) × (b : B) × (ts ≡ xs ++ ys) × (c ≡ f a b) × whole R P xs a × whole R Q ys b
whole R (Or P Q) ts a = whole R P ts a ⊎ whole R Q ts a
whole R (Until P is) ts a = (xs : List Item) × (t : Item) × (ts ≡ xs ++ t ∷ []) × (t.class ≡ is) × whole R P xs a
whole R (Op g Q) ts c = (us : List Item) × (ts ≡ c.0 ∷ us) × (g c.0.class (brace_next us) ≡ true) × whole R Q us c.1
whole R (Chain {A = A} f P Q) ts c = (xs ys : List Item) × (a : A) × (k : ℕ) × (ts ≡ xs ++ ys) × whole R P xs a × links f (whole R Q) k a ys c

-- ---- which lists begin a form

abbrev pub Front : Type 1
Front = (n : Part) → List Item → Type 0

-- Nothing begins a token, and so does the token. A list begins several members in a row where it is whole tokens of some first
-- members, perhaps none, and then a list that begins the next member.
abbrev pub begins : {A : Type 0} → Rel → Front → Form A → List Item → Type 0
begins R B (Tok p) ts = (ts ≡ []) ⊎ ((t : Item) × (ts ≡ t ∷ []) × (p t.class ≡ true))
begins R B (Empty d) ts = ts ≡ []
begins R B (Call n) ts = B n ts
begins R B (Map f P) ts = begins R B P ts
begins R B (Then {A = A} f P Q) ts = begins R B P ts ⊎ ((xs ys : List Item) × (a : A) × (ts ≡ xs ++ ys) × whole R P xs a × begins R B Q ys)
begins R B (Or P Q) ts = begins R B P ts ⊎ begins R B Q ts
begins R B (Until {A = A} P is) ts = begins R B P ts ⊎ ((xs ys : List Item) × (a : A) × (ts ≡ xs ++ ys) × whole R P xs a × ((ys ≡ []) ⊎ ((t : Item) × (ys ≡ t ∷ []) × (t.class ≡ is))))
begins R B (Op g Q) ts = (ts ≡ []) ⊎ ((t : Item) × (us : List Item) × (ts ≡ t ∷ us) × (g t.class (brace_next us) ≡ true) × begins R B Q us)
begins R B (Chain {A = A} f P Q) ts = begins R B P ts ⊎ ((xs us vs : List Item) × (a c : A) × (k : ℕ) × (ts ≡ xs ++ (us ++ vs)) × whole R P xs a × links f (whole R Q) k a us c × begins R B Q vs)
