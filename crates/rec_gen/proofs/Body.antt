-- The typed body of the script: its words leave one tree, but for the numbers of its maps and its fields.
use Rattle.std.proofs.Common.{◌≡◌, ℕ, ◌++◌, Bool, true, false, List, [], ◌∷◌, length, map, Option, Some, None, refl, ap, sym, subst, ◌∙◌, append_assoc, arith}
use Rattle.std.specs.List.{AllByRecursion}
use Rattle.std.specs.Prelude.{is_none}
use Rattle.bt_core.specs.declared.map.AggKind.{AggKind}
use Rattle.bt_core.specs.declared.map.AggKind.TheVariants as agg
use Rattle.bt_core.specs.declared.map.MapId.{MapId}
use Rattle.bt_ast.specs.declared.expr.Builtin.TheVariants.{Comm}
use Rattle.event_layout.specs.declared.field.Field.{Field}
use Rattle.typed_tree.specs.Bodies.{predicate_parts, tree_parts}
use Rattle.typed_tree.specs.declared.body.TypedTree.{TypedTree}
use Rattle.typed_tree.specs.declared.expr.AnyExpr.{AnyExpr}
use Rattle.typed_tree.specs.declared.expr.AnyExpr.TheVariants as anys
use Rattle.typed_tree.specs.declared.expr.NumExpr.{NumExpr}
use Rattle.typed_tree.specs.declared.expr.NumExpr.TheVariants as nums
use Rattle.typed_tree.specs.declared.expr.StrExpr.TheVariants as strs
use Rattle.typed_tree.specs.declared.stmt.TypedBlock.{TypedBlock, out-TypedBlock, roll-out-TypedBlock, fold-roll-TypedBlock}
use Rattle.typed_tree.specs.declared.stmt.TypedStmt.{TypedStmt}
use Rattle.typed_tree.specs.declared.stmt.TypedStmt.TheVariants as stmts
use Rattle.typed_tree.specs.Parts.{TreePart, Ending, made_of, key_shapes, joined, gather_parts, number_parts, parts_in, stmt_parts, block_parts, stmt_layer, block_layer}
use Rattle.typed_tree.specs.Scope.{same_bool, is_count}
use Rattle.expr_types.specs.declared.known.Known.{Known}
use Rattle.expr_types.specs.Mentions.{Word, BuiltinWord, FieldWord, GatherWord, NoElseWord, EndWord}
use Rattle.expr_types.specs.Typing.{Titles, Fits, AllFit, words_by}
use Rattle.bt_types.proofs.StmtLayers.{gather_stmt}
use Rattle.rec_gen.proofs.Inversion.{IsGather, IsFieldExpr, IsCommExpr, gather_found, field_found, comm_found, no_end}

abbrev pub counted : MapId → TypedStmt
counted m = stmts.Gather m (anys.Str strs.Comm ∷ []) agg.Count None

abbrev pub gathered : MapId → AggKind → Field → TypedStmt
gathered m kind f = stmts.Gather m [] kind (Some (nums.Field f))

-- a count under the thread's name, and two aggregations of fields without a key
pub record IsBody (tree : TypedTree) : Type 0 where
  pub first : MapId
  pub second : MapId
  pub third : MapId
  pub one : Field
  pub two : Field
  pub variables : tree.variables ≡ []
  pub predicate : tree.predicate ≡ None
  pub block : (out-TypedBlock tree.block).stmts ≡ counted first ∷ gathered second agg.Hist one ∷ gathered third agg.Sum two ∷ []

-- the parts of statements and of their end
abbrev ending : List TypedStmt → List TreePart
ending ss = joined (map (λ (s : TypedStmt). stmt_parts s false) ss) ++ Ending ∷ []

all_back : (P : TreePart → Type 0) (xs ys : List TreePart) → AllByRecursion P (xs ++ ys) → AllByRecursion P ys
all_back P [] ys all = all
all_back P (x ∷ xs) ys all = all_back P xs ys all.1

record Next (t : Titles) (k : Known) (count : ℕ) (kind : AggKind) (ws : List Word) (ss : List TypedStmt) : Type 0 where
  s : TypedStmt
  more : List TypedStmt
  is : ss ≡ s ∷ more
  gather : IsGather t count kind (ending more) ws s
  counts : same_bool (is_none gather.number) (is_count kind) ≡ true
  fit : AllFit k (ending more)

next_stmt : (t : Titles) (k : Known) (ss : List TypedStmt) (name : List ℕ) (count : ℕ) (kind : AggKind) (ws : List Word) → AllFit k (ending ss)
    → words_by t (ending ss) ≡ GatherWord name count kind ∷ ws → Next t k count kind ws ss
next_stmt t k [] name count kind ws fit h = absurd cc
next_stmt t k (s ∷ more) name count kind ws fit h =
    let e : ending (s ∷ more) ≡ stmt_parts s false ++ ending more = append_assoc (stmt_parts s false) (joined (map (λ (x : TypedStmt). stmt_parts x false) more)) (Ending ∷ []) in
    let g : IsGather t count kind (ending more) ws s = gather_found t s (ending more) name count kind ws (ap (words_by t) (sym e) ∙ h) in
    let all : AllFit k (stmt_parts s false ++ ending more) = subst (AllFit k) e fit in
    let parts : stmt_parts s false ≡ gather_parts g.m.0 (map made_of g.keys) kind g.number = ap (λ (x : TypedStmt). stmt_parts x false) g.is ∙ gather_stmt g.m g.keys kind g.number false in
    let one : AllFit k (gather_parts g.m.0 (map made_of g.keys) kind g.number ++ ending more) = subst (λ (l : List TreePart). AllFit k (l ++ ending more)) parts all in
    record { s = s; more = more; is = refl; gather = g; counts = one.0.1; fit = all_back (Fits k) (stmt_parts s false) (ending more) all }

one_key : (keys : List AnyExpr) → length (key_shapes (map made_of keys)) ≡ 1 → (e : AnyExpr) × (keys ≡ e ∷ [])
one_key [] h = absurd (omega (arith, h))
one_key (e ∷ []) h = (e, refl)
one_key (e ∷ f ∷ keys) h = absurd (omega (arith, h))

no_key : (keys : List AnyExpr) → length (key_shapes (map made_of keys)) ≡ 0 → keys ≡ []
no_key [] h = refl
no_key (e ∷ keys) h = absurd (omega (arith, h))

none_if : (o : Option NumExpr) → same_bool (is_none o) true ≡ true → o ≡ None
none_if None h = refl
none_if (Some e) h = absurd cc

some_if : (o : Option NumExpr) → same_bool (is_none o) false ≡ true → (e : NumExpr) × (o ≡ Some e)
some_if None h = absurd cc
some_if (Some e) h = (e, refl)

-- the first statement is such a one, and these words are of the others
record First (t : Titles) (k : Known) (ws : List Word) (ss : List TypedStmt) (made : TypedStmt) : Type 0 where
  more : List TypedStmt
  is : ss ≡ made ∷ more
  fit : AllFit k (ending more)
  behind : words_by t (ending more) ≡ ws

counted_first : (t : Titles) (k : Known) (ss : List TypedStmt) (name : List ℕ) (ws : List Word) → AllFit k (ending ss)
    → words_by t (ending ss) ≡ GatherWord name 1 agg.Count ∷ BuiltinWord Comm ∷ ws → (m : MapId) × First t k ws ss (counted m)
counted_first t k ss name ws fit h =
    let n : Next t k 1 agg.Count (BuiltinWord Comm ∷ ws) ss = next_stmt t k ss name 1 agg.Count (BuiltinWord Comm ∷ ws) fit h in
    let g = n.gather in
    let key = one_key g.keys g.many in
    let none : g.number ≡ None = none_if g.number n.counts in
    let parts = (made_of key.0).parts in
    let rest = number_parts g.number in
    let back = ending n.more in
    let assoc : ((parts ++ []) ++ rest) ++ back ≡ parts ++ (rest ++ back) = append_assoc (parts ++ []) rest back ∙ append_assoc parts [] (rest ++ back) in
    let behind : words_by t (parts ++ (rest ++ back)) ≡ BuiltinWord Comm ∷ ws = ap (words_by t) (sym assoc) ∙ (ap (λ (l : List AnyExpr). words_by t ((parts_in (map made_of l) ++ rest) ++ back)) (sym key.1) ∙ g.behind) in
    let c : IsCommExpr t (rest ++ back) ws key.0 = comm_found t key.0 (rest ++ back) ws behind in
    let keys : g.keys ≡ anys.Str strs.Comm ∷ [] = key.1 ∙ ap (λ (e : AnyExpr). e ∷ []) c.is in (
      g.m,
      record {
        more = n.more;
        is = n.is ∙ ap (λ (s : TypedStmt). s ∷ n.more) (g.is ∙ (λ i. stmts.Gather g.m (keys i) agg.Count (none i)));
        fit = n.fit;
        behind = ap (λ (o : Option NumExpr). words_by t (number_parts o ++ back)) (sym none) ∙ c.behind;
      },
    )

record FirstGathered (t : Titles) (k : Known) (kind : AggKind) (ws : List Word) (ss : List TypedStmt) : Type 0 where
  m : MapId
  field : Field
  found : First t k ws ss (gathered m kind field)

gathered_first : (t : Titles) (k : Known) (ss : List TypedStmt) (name field : List ℕ) (kind : AggKind) (ws : List Word) → is_count kind ≡ false → AllFit k (ending ss)
    → words_by t (ending ss) ≡ GatherWord name 0 kind ∷ FieldWord field ∷ ws → FirstGathered t k kind ws ss
gathered_first t k ss name field kind ws more fit h =
    let n : Next t k 0 kind (FieldWord field ∷ ws) ss = next_stmt t k ss name 0 kind (FieldWord field ∷ ws) fit h in
    let g = n.gather in
    let keys : g.keys ≡ [] = no_key g.keys g.many in
    let some = some_if g.number (ap (same_bool (is_none g.number)) (sym more) ∙ n.counts) in
    let back = ending n.more in
    let behind : words_by t (number_parts (Some some.0) ++ back) ≡ FieldWord field ∷ ws =
    (λ i. words_by t ((parts_in (map made_of (sym keys i)) ++ number_parts (sym some.1 i)) ++ back)) ∙ g.behind in
    let f : IsFieldExpr t back ws some.0 = field_found t some.0 back field ws behind in
    let number : g.number ≡ Some (nums.Field f.field) = some.1 ∙ ap Some f.is in
    record {
      m = g.m;
      field = f.field;
      found = record {
        more = n.more;
        is = n.is ∙ ap (λ (s : TypedStmt). s ∷ n.more) (g.is ∙ (λ i. stmts.Gather g.m (keys i) kind (number i)));
        fit = n.fit;
        behind = f.behind;
      };
    }

no_more : (t : Titles) (ss : List TypedStmt) → words_by t (ending ss) ≡ EndWord ∷ [] → ss ≡ []
no_more t [] h = refl
no_more t (s ∷ more) h =
    let e : ending (s ∷ more) ≡ stmt_parts s false ++ ending more = append_assoc (stmt_parts s false) (joined (map (λ (x : TypedStmt). stmt_parts x false) more)) (Ending ∷ []) in
    absurd (no_end t s (ending more) [] (ap (words_by t) (sym e) ∙ h))

no_predicate : (t : Titles) (o : Option NumExpr) (rest : List TreePart) (ws : List Word) → words_by t (predicate_parts o ++ rest) ≡ NoElseWord ∷ ws → (o ≡ None) × (words_by t rest ≡ ws)
no_predicate t None rest ws h = (refl, cc)
no_predicate t (Some e) rest ws h = absurd cc

at_false : (ss : List TypedStmt) → map (λ (f : Bool → List TreePart). f false) (map stmt_parts ss) ≡ map (λ (s : TypedStmt). stmt_parts s false) ss
at_false [] = refl
at_false (s ∷ ss) = ap (λ (l : List (List TreePart)). stmt_parts s false ∷ l) (at_false ss)

block_is : (b : TypedBlock) → block_parts b false ≡ ending (out-TypedBlock b).stmts
block_is b =
    ap (λ (x : TypedBlock). block_parts x false) (sym (roll-out-TypedBlock b))
    ∙ (ap (λ (f : Bool → List TreePart). f false) (fold-roll-TypedBlock (Bool → List TreePart) (Bool → List TreePart) stmt_layer block_layer (out-TypedBlock b))
    ∙ ap (λ (l : List (List TreePart)). joined l ++ Ending ∷ []) (at_false (out-TypedBlock b).stmts))

chain : (a b c : TypedStmt) (all more rest last : List TypedStmt) → all ≡ a ∷ more → more ≡ b ∷ rest → rest ≡ c ∷ last → last ≡ [] → all ≡ a ∷ b ∷ c ∷ []
chain a b c all more rest last e f g h =
    e ∙ ap (λ (l : List TypedStmt). a ∷ l) (f ∙ ap (λ (l : List TypedStmt). b ∷ l) (g ∙ ap (λ (l : List TypedStmt). c ∷ l) h))

-- the words of such a body
abbrev pub words_of : (calls ids sums id : List ℕ) → List Word
words_of calls ids sums id =
    NoElseWord ∷ GatherWord calls 1 agg.Count ∷ BuiltinWord Comm ∷ GatherWord ids 0 agg.Hist ∷ FieldWord id ∷ GatherWord sums 0 agg.Sum ∷ FieldWord id ∷ EndWord ∷ []

pub body_is : (t : Titles) (k : Known) (calls ids sums id : List ℕ) (tree : TypedTree) → tree.variables ≡ [] → AllFit k (tree_parts tree)
    → words_by t (tree_parts tree) ≡ words_of calls ids sums id → IsBody tree
body_is t k calls ids sums id tree variables fit h =
    let p = no_predicate t tree.predicate (block_parts tree.block false) _ h in
    let all : AllFit k (ending (out-TypedBlock tree.block).stmts) = subst (AllFit k) (block_is tree.block) (all_back (Fits k) (predicate_parts tree.predicate) (block_parts tree.block false) fit) in
    let one = counted_first t k (out-TypedBlock tree.block).stmts calls _ all (ap (words_by t) (sym (block_is tree.block)) ∙ p.1) in
    let two = gathered_first t k one.1.more ids id agg.Hist _ refl one.1.fit one.1.behind in
    let three = gathered_first t k two.found.more sums id agg.Sum _ refl two.found.fit two.found.behind in
    let none : three.found.more ≡ [] = no_more t three.found.more three.found.behind in
    record {
      first = one.0;
      second = two.m;
      third = three.m;
      one = two.field;
      two = three.field;
      variables = variables;
      predicate = p.0;
      block = chain (counted one.0) (gathered two.m agg.Hist two.field) (gathered three.m agg.Sum three.field) (out-TypedBlock tree.block).stmts one.1.more two.found.more three.found.more one.1.is two.found.is three.found.is none;
    }
