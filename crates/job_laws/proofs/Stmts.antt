-- A body's parts are read to its statements.
use Rattle.std.proofs.Common.{◌≡◌, ◌++◌, ℕ, Bool, true, false, List, [], ◌∷◌, length, map, Option, Some, None, refl, sym, ap, ◌∙◌, subst, append-nil}
use Rattle.bt_core.specs.declared.map.AggKind.{AggKind}
use Rattle.bt_core.specs.declared.map.Shape.{Shape}
use Rattle.bt_core.specs.declared.map.Shape.TheVariants.{Int}
use Rattle.bt_core.specs.declared.operator.BinOp.{BinOp}
use Rattle.typed_tree.specs.declared.body.TypedTree.{TypedTree}
use Rattle.typed_tree.specs.declared.expr.AnyExpr.{AnyExpr}
use Rattle.typed_tree.specs.declared.expr.NumExpr.{NumExpr}
use Rattle.typed_tree.specs.declared.stmt.TypedBlock.{TypedBlock, roll-TypedBlock, map-TypedBlock, fold-roll-TypedBlock, ind-TypedBlock}
use Rattle.typed_tree.specs.declared.stmt.TypedStmt.{TypedStmt, roll-TypedStmt, map-TypedStmt, fold-roll-TypedStmt}
use Rattle.typed_tree.specs.declared.stmt.TypedStmt.TheOpen.{TypedStmt-F, TypedBlock-F}
use Rattle.typed_tree.specs.declared.stmt.TypedStmt.TheShapes.{former-TypedStmt-If-0-at-2}
use Rattle.typed_tree.specs.Bodies.{predicate_parts, tree_parts}
use Rattle.typed_tree.specs.Parts as tree
use Rattle.typed_tree.specs.Parts.{TreePart, Made, made_of, num_parts, parts_in, key_shapes, keyed_parts, stmt_parts, block_parts, arm_parts, otherwise_parts, joined, gather_parts, printf_parts, delete_parts}
use Rattle.typed_tree.specs.Parts.{Assigned, Gathered, Printed, Deleted, Looped, Unrolled, Arm, Otherwise, NoOtherwise, Ending, VarOf}
use Rattle.job_laws.proofs.Reader.{Value, Num, Item, Held, Slot, Cell, Done, Choice, Stack, push, value, num_in, num_of, any_of, stmt, stmt_of, block_of, map_of, done, enter, assigned, gathered, past_keys, step, fresh, guarded, read_body}
use Rattle.job_laws.proofs.Reader.{run, run-append, run_two, PushesAll, all_pushed, keys_found, behind_keys}
use Rattle.job_laws.proofs.Exprs.{AnyReads, any_reads, num_reads, values_pushed, cell_pushed}

-- reading these parts pushes an item that is this statement
pub record Tells (ps : List TreePart) (st : Stack) (s : TypedStmt) : Type 0 where
  pub item : Item
  pub reads : run ps st ≡ push item st
  pub worth : stmt_of item ≡ s

-- reading these parts leaves the statements of this block, up to their end
pub record Fills (ps : List TreePart) (st : Stack) (b : TypedBlock) : Type 0 where
  pub items : List Item
  pub reads : run ps st ≡ record { here = items; outer = st.here ∷ st.outer }
  pub worth : block_of items ≡ b

abbrev pub StmtReads : TypedStmt → Type 0
StmtReads s = (inside : Bool) (st : Stack) → Tells (stmt_parts s inside) st s

abbrev pub BlockReads : TypedBlock → Type 0
BlockReads b = (inside : Bool) (st : Stack) → Fills (block_parts b inside) st b

abbrev ManyStmt : Type 0
ManyStmt = (s : TypedStmt) × StmtReads s

abbrev ManyBlock : Type 0
ManyBlock = (b : TypedBlock) × BlockReads b

-- ---- values

pair : AnyExpr → (a : AnyExpr) × AnyReads a
pair a = (a, any_reads a)

pairs : (es : List AnyExpr) → map (λ (k : (a : AnyExpr) × AnyReads a). k.0) (map pair es) ≡ es
unfolding pair
pairs [] = refl
pairs (e ∷ es) = ap (λ (l : List AnyExpr). e ∷ l) (pairs es)

keys_read : (es : List AnyExpr) (st : Stack) → PushesAll (parts_in (map made_of es)) (length (key_shapes (map made_of es))) st es
keys_read es =
    subst (λ (l : List AnyExpr). (st : Stack) → PushesAll (parts_in (map made_of l)) (length (key_shapes (map made_of l))) st l) (pairs es)
    (values_pushed (map pair es))

-- ---- statements

-- a target, and the value behind it
assigns : (op : Option BinOp) (target ps : List TreePart) (i j : Item) (st : Stack) (s : TypedStmt) → run ps st ≡ push j st → run target (push j st) ≡ push i (push j st) → assigned op i (value j) ≡ s
    → Tells (Assigned op ∷ (target ++ ps)) st s
assigns op target ps i j st s e f g = record {
  item = Done (assigned op i (value j));
  reads = ap (step (Assigned op)) (run_two target ps st i j e f);
  worth = g;
}

-- a map with its key, before a value
assigns_map : (op : Option BinOp) (number : ℕ) (keys : List AnyExpr) (shape : Shape) (ps : List TreePart) (j : Item) (st : Stack) (s : TypedStmt) → run ps st ≡ push j st → assigned op (Cell number keys shape) (value j) ≡ s
    → Tells (Assigned op ∷ (keyed_parts number (map made_of keys) shape ++ ps)) st s
assigns_map op number keys shape ps j st s e g =
    assigns op (keyed_parts number (map made_of keys) shape) ps (Cell number keys shape) j st s e
    (cell_pushed number (map made_of keys) keys (push j st) shape (keys_read keys (push j st))) g

-- an aggregation, whose number stands behind the key
gathers : (number : ℕ) (keys : List AnyExpr) (kind : AggKind) (counts : Bool) (ps : List TreePart) (st behind : Stack) → run ps st ≡ behind
    → run (Gathered number (key_shapes (map made_of keys)) kind counts ∷ (parts_in (map made_of keys) ++ ps)) st ≡ gathered counts number kind keys behind
gathers number keys kind counts ps st behind f =
    let all = keys_read keys behind in
    let many : ℕ = length (key_shapes (map made_of keys)) in
    let now : Stack = run (parts_in (map made_of keys)) behind in
    ap (step (Gathered number (key_shapes (map made_of keys)) kind counts)) (run-append (parts_in (map made_of keys)) ps st ∙ ap (run (parts_in (map made_of keys))) f)
    ∙ (ap (λ (es : List AnyExpr). gathered counts number kind es (past_keys many now)) (keys_found (parts_in (map made_of keys)) many behind keys all)
    ∙ ap (gathered counts number kind keys) (behind_keys (parts_in (map made_of keys)) many behind keys all))

gather_reads : (m : ℕ) (keys : List AnyExpr) (kind : AggKind) (number : Option NumExpr) (st : Stack) → Tells (gather_parts m (map made_of keys) kind number) st (stmt (TypedStmt-F.Gather (map_of m) keys kind number))
gather_reads m keys kind None st =
    record { item = Done (stmt (TypedStmt-F.Gather (map_of m) keys kind None)); reads = gathers m keys kind true [] st st refl; worth = refl }
gather_reads m keys kind (Some e) st =
    let p = num_reads e st in
    record {
      item = Done (stmt (TypedStmt-F.Gather (map_of m) keys kind (Some (num_of p.item))));
      reads = gathers m keys kind false (num_parts e) st (push p.item st) p.reads;
      worth = ap (λ (v : Value). stmt (TypedStmt-F.Gather (map_of m) keys kind (Some (num_in v)))) p.worth;
    }

-- values up to their end
printf_reads : (format : ℕ) (values : List AnyExpr) (st : Stack) → Tells (printf_parts format (map made_of values)) st (stmt (TypedStmt-F.Printf format values))
printf_reads format values st =
    let all = keys_read values (enter st) in
    record {
      item = Done (stmt (TypedStmt-F.Printf format (map any_of all.items)));
      reads = ap (step (Printed format (key_shapes (map made_of values)))) (run-append (parts_in (map made_of values)) (Ending ∷ []) st ∙ all.reads)
          ∙ ap (λ (is : List Item). done (TypedStmt-F.Printf format (map any_of is)) st) (append-nil all.items);
      worth = ap (λ (es : List AnyExpr). stmt (TypedStmt-F.Printf format es)) all.worth;
    }

delete_reads : (m : ℕ) (keys : List AnyExpr) (st : Stack) → Tells (delete_parts m (map made_of keys)) st (stmt (TypedStmt-F.Delete (map_of m) keys))
delete_reads m keys st =
    let all = keys_read keys st in
    let many : ℕ = length (key_shapes (map made_of keys)) in
    let now : Stack = run (parts_in (map made_of keys)) st in
    record {
      item = Done (stmt (TypedStmt-F.Delete (map_of m) keys));
      reads = ap (λ (es : List AnyExpr). done (TypedStmt-F.Delete (map_of m) es) (past_keys many now)) (keys_found (parts_in (map made_of keys)) many st keys all)
          ∙ ap (done (TypedStmt-F.Delete (map_of m) keys)) (behind_keys (parts_in (map made_of keys)) many st keys all);
      worth = refl;
    }

-- ---- blocks

-- a test, and a block behind it
record Tests (ps qs : List TreePart) (st : Stack) (e : NumExpr) (b : TypedBlock) : Type 0 where
  test : Item
  items : List Item
  reads : run (ps ++ qs) st ≡ record { here = test ∷ items; outer = st.here ∷ st.outer }
  test_worth : num_of test ≡ e
  block_worth : block_of items ≡ b

tests : (e : NumExpr) (qs : List TreePart) (st : Stack) (b : TypedBlock) → Fills qs st b → Tests (num_parts e) qs st e b
tests e qs st b block =
    let test = num_reads e (record { here = block.items; outer = st.here ∷ st.outer }) in
    record {
      test = test.item;
      items = block.items;
      reads = run-append (num_parts e) qs st ∙ (ap (run (num_parts e)) block.reads ∙ test.reads);
      test_worth = ap num_in test.worth;
      block_worth = block.worth;
    }

while_reads : (e : NumExpr) (qs : List TreePart) (line : ℕ) (st : Stack) (b : TypedBlock) → Fills qs st b → Tells (Looped line ∷ (num_parts e ++ qs)) st (stmt (TypedStmt-F.While e b line))
while_reads e qs line st b q =
    let p = tests e qs st b q in
    record {
      item = Done (stmt (TypedStmt-F.While (num_of p.test) (block_of p.items) line));
      reads = ap (step (Looped line)) p.reads;
      worth = ap (λ (n : NumExpr). stmt (TypedStmt-F.While n (block_of p.items) line)) p.test_worth ∙ ap (λ (c : TypedBlock). stmt (TypedStmt-F.While e c line)) p.block_worth;
    }

unroll_reads : (turns line : ℕ) (qs : List TreePart) (st : Stack) (b : TypedBlock) → Fills qs st b → Tells (Unrolled turns line ∷ qs) st (stmt (TypedStmt-F.Unroll turns b line))
unroll_reads turns line qs st b p = record {
  item = Done (stmt (TypedStmt-F.Unroll turns (block_of p.items) line));
  reads = ap (step (Unrolled turns line)) p.reads;
  worth = ap (λ (c : TypedBlock). stmt (TypedStmt-F.Unroll turns c line)) p.worth;
}

-- the block of an `else`
else_reads : (qs : List TreePart) (st : Stack) (b : TypedBlock) → Fills qs st b → run (Otherwise ∷ qs) st ≡ push (Choice [] (Some b)) st
else_reads qs st b p = ap (step Otherwise) p.reads ∙ ap (λ (c : TypedBlock). push (Choice [] (Some c)) st) p.worth

abbrev Arms : Type 0
Arms = List (NumExpr × TypedBlock)

-- one more arm
arm_reads : (e : NumExpr) (qs : List TreePart) (b : TypedBlock) (arms : Arms) (otherwise : Option TypedBlock) (st : Stack) → Fills qs (push (Choice arms otherwise) st) b
    → run (Arm ∷ (num_parts e ++ qs)) (push (Choice arms otherwise) st) ≡ push (Choice ((e, b) ∷ arms) otherwise) st
arm_reads e qs b arms otherwise st q =
    let p = tests e qs (push (Choice arms otherwise) st) b q in
    ap (step Arm) p.reads
    ∙ (ap (λ (n : NumExpr). push (Choice ((n, block_of p.items) ∷ arms) otherwise) st) p.test_worth
    ∙ ap (λ (c : TypedBlock). push (Choice ((e, c) ∷ arms) otherwise) st) p.block_worth)

abbrev blocks_of : List (NumExpr × ManyBlock) → Arms
blocks_of arms = map (former-TypedStmt-If-0-at-2.map ManyBlock TypedBlock (λ k. k.0)) arms

abbrev arms_made : Bool → List (NumExpr × ManyBlock) → List TreePart
arms_made inside arms = joined (map (λ (arm : NumExpr × (Bool → List TreePart)). arm_parts (arm.0, arm.1 inside)) (map (former-TypedStmt-If-0-at-2.map TypedBlock (Bool → List TreePart) block_parts) (blocks_of arms)))

arms_read : (arms : List (NumExpr × ManyBlock)) (inside : Bool) (otherwise : Option TypedBlock) (st : Stack)
    → run (arms_made inside arms) (push (Choice [] otherwise) st) ≡ push (Choice (blocks_of arms) otherwise) st
arms_read [] inside otherwise st = refl
arms_read (arm ∷ arms) inside otherwise st =
    run-append (arm_parts (arm.0, block_parts arm.1.0 inside)) (arms_made inside arms) (push (Choice [] otherwise) st)
    ∙ (ap (run (arm_parts (arm.0, block_parts arm.1.0 inside))) (arms_read arms inside otherwise st)
    ∙ arm_reads arm.0 (block_parts arm.1.0 inside) arm.1.0 (blocks_of arms) otherwise st (arm.1.1 inside (push (Choice (blocks_of arms) otherwise) st)))

if_reads : (arms : List (NumExpr × ManyBlock)) (inside : Bool) (ps : List TreePart) (otherwise : Option TypedBlock) (st : Stack) → run ps st ≡ push (Choice [] otherwise) st
    → Tells (arms_made inside arms ++ ps) st (stmt (TypedStmt-F.If (blocks_of arms) otherwise))
if_reads arms inside ps otherwise st e = record {
  item = Choice (blocks_of arms) otherwise;
  reads = run-append (arms_made inside arms) ps st ∙ (ap (run (arms_made inside arms)) e ∙ arms_read arms inside otherwise st);
  worth = refl;
}

-- ---- layers

abbrev firsts : List ManyStmt → List TypedStmt
firsts ss = map (λ (k : ManyStmt). k.0) ss

abbrev stmts_made : Bool → List ManyStmt → List TreePart
stmts_made inside ss = joined (map (λ (k : Bool → List TreePart). k inside) (map stmt_parts (firsts ss)))

-- statements one after another
record Row (ps : List TreePart) (st : Stack) (ss : List TypedStmt) : Type 0 where
  items : List Item
  reads : run ps st ≡ all_pushed items st
  worth : map stmt_of items ≡ ss

stmts_read : (ss : List ManyStmt) (inside : Bool) (st : Stack) → Row (stmts_made inside ss) st (firsts ss)
stmts_read [] inside st = record { items = []; reads = refl; worth = refl }
stmts_read (s ∷ ss) inside st =
    let later = stmts_read ss inside st in
    let one = s.1 inside (all_pushed later.items st) in
    record {
      items = one.item ∷ later.items;
      reads = run-append (stmt_parts s.0 inside) (stmts_made inside ss) st ∙ (ap (run (stmt_parts s.0 inside)) later.reads ∙ one.reads);
      worth = ap (λ (x : TypedStmt). x ∷ map stmt_of later.items) one.worth ∙ ap (λ (l : List TypedStmt). s.0 ∷ l) later.worth;
    }

abbrev stmt_from : TypedStmt-F ManyStmt ManyBlock → TypedStmt-F TypedStmt TypedBlock
stmt_from h = map-TypedStmt ManyStmt ManyBlock TypedStmt TypedBlock (λ k. k.0) (λ k. k.0) h

abbrev stmt_made : TypedStmt-F ManyStmt ManyBlock → Bool → List TreePart
stmt_made h = tree.stmt_layer (map-TypedStmt TypedStmt TypedBlock (Bool → List TreePart) (Bool → List TreePart) stmt_parts block_parts (stmt_from h))

-- an expression that stands alone
alone : (i : Item) (e : NumExpr) → value i ≡ Num e → stmt_of i ≡ stmt (TypedStmt-F.Step e)
alone (Held v) e h = ap (λ (x : Value). stmt (TypedStmt-F.Step (num_in x))) h
alone (Slot number shape) e h = ap (λ (x : Value). stmt (TypedStmt-F.Step (num_in x))) h
alone (Cell number keys shape) e h = ap (λ (x : Value). stmt (TypedStmt-F.Step (num_in x))) h
alone (Done made) e h = cc
alone (Choice arms otherwise) e h = cc

stmt_case : (h : TypedStmt-F ManyStmt ManyBlock) (inside : Bool) (st : Stack) → Tells (stmt_made h inside) st (stmt (stmt_from h))
stmt_case (TypedStmt-F.SetVar var v) inside st =
    let p = any_reads v st in
    assigns None (VarOf var (made_of v).shape ∷ []) (made_of v).parts (Slot var (made_of v).shape) p.item st (stmt (TypedStmt-F.SetVar var v)) p.reads refl (ap (λ (a : AnyExpr). stmt (TypedStmt-F.SetVar var a)) p.worth)
stmt_case (TypedStmt-F.SetMap m keys v) inside st =
    let p = any_reads v st in
    assigns_map None m.0 keys (made_of v).shape (made_of v).parts p.item st (stmt (TypedStmt-F.SetMap m keys v)) p.reads (ap (λ (a : AnyExpr). stmt (TypedStmt-F.SetMap m keys a)) p.worth)
stmt_case (TypedStmt-F.UpdateVar var op e) inside st =
    let p = num_reads e st in
    assigns (Some op) (VarOf var Int ∷ []) (num_parts e) (Slot var Int) p.item st (stmt (TypedStmt-F.UpdateVar var op e)) p.reads refl (ap (λ (v : Value). stmt (TypedStmt-F.UpdateVar var op (num_in v))) p.worth)
stmt_case (TypedStmt-F.UpdateMap m keys op e) inside st =
    let p = num_reads e st in
    assigns_map (Some op) m.0 keys Int (num_parts e) p.item st (stmt (TypedStmt-F.UpdateMap m keys op e)) p.reads (ap (λ (v : Value). stmt (TypedStmt-F.UpdateMap m keys op (num_in v))) p.worth)
stmt_case (TypedStmt-F.Gather m keys kind number) inside st = gather_reads m.0 keys kind number st
stmt_case (TypedStmt-F.Step e) inside st =
    let p = num_reads e st in record { item = p.item; reads = p.reads; worth = alone p.item e p.worth }
stmt_case (TypedStmt-F.Printf format values) inside st = printf_reads format values st
stmt_case (TypedStmt-F.Print m rows div) inside st = record { item = Done (stmt (TypedStmt-F.Print m rows div)); reads = refl; worth = refl }
stmt_case (TypedStmt-F.Clear m) inside st = record { item = Done (stmt (TypedStmt-F.Clear m)); reads = refl; worth = refl }
stmt_case (TypedStmt-F.Zero m) inside st = record { item = Done (stmt (TypedStmt-F.Zero m)); reads = refl; worth = refl }
stmt_case (TypedStmt-F.Delete m keys) inside st = delete_reads m.0 keys st
stmt_case (TypedStmt-F.Jump jump) inside st = record { item = Done (stmt (TypedStmt-F.Jump jump)); reads = refl; worth = refl }
stmt_case (TypedStmt-F.If arms None) inside st = if_reads arms inside (otherwise_parts None) None st refl
stmt_case (TypedStmt-F.If arms (Some b)) inside st =
    if_reads arms inside (Otherwise ∷ block_parts b.0 inside) (Some b.0) st (else_reads (block_parts b.0 inside) st b.0 (b.1 inside st))
stmt_case (TypedStmt-F.While test b line) inside st = while_reads test (block_parts b.0 true) line st b.0 (b.1 true st)
stmt_case (TypedStmt-F.Unroll turns b line) inside st = unroll_reads turns line (block_parts b.0 true) st b.0 (b.1 true st)

stmt_step : (x : TypedStmt-F TypedStmt TypedBlock) (h : TypedStmt-F ManyStmt ManyBlock) → stmt_from h ≡ x → StmtReads (roll-TypedStmt x)
stmt_step x h e = subst (λ (y : TypedStmt-F TypedStmt TypedBlock). StmtReads (roll-TypedStmt y)) e
    (subst (λ (k : Bool → List TreePart). (inside : Bool) (st : Stack) → Tells (k inside) st (roll-TypedStmt (stmt_from h)))
    (sym (fold-roll-TypedStmt (Bool → List TreePart) (Bool → List TreePart) tree.stmt_layer tree.block_layer (stmt_from h)))
    (stmt_case h))

abbrev block_from : TypedBlock-F ManyStmt ManyBlock → TypedBlock-F TypedStmt TypedBlock
block_from h = map-TypedBlock ManyStmt ManyBlock TypedStmt TypedBlock (λ k. k.0) (λ k. k.0) h

abbrev block_made : TypedBlock-F ManyStmt ManyBlock → Bool → List TreePart
block_made h = tree.block_layer (map-TypedBlock TypedStmt TypedBlock (Bool → List TreePart) (Bool → List TreePart) stmt_parts block_parts (block_from h))

block_case : (h : TypedBlock-F ManyStmt ManyBlock) (inside : Bool) (st : Stack) → Fills (block_made h inside) st (roll-TypedBlock (block_from h))
block_case h inside st =
    let row = stmts_read h.stmts inside (enter st) in
    record {
      items = row.items;
      reads = run-append (stmts_made inside h.stmts) (Ending ∷ []) st ∙ (row.reads ∙ ap (λ (is : List Item). record { here = is; outer = st.here ∷ st.outer }) (append-nil row.items));
      worth = ap (λ (ss : List TypedStmt). roll-TypedBlock (record { stmts = ss })) row.worth;
    }

block_step : (x : TypedBlock-F TypedStmt TypedBlock) (h : TypedBlock-F ManyStmt ManyBlock) → block_from h ≡ x → BlockReads (roll-TypedBlock x)
block_step x h e = subst (λ (y : TypedBlock-F TypedStmt TypedBlock). BlockReads (roll-TypedBlock y)) e
    (subst (λ (k : Bool → List TreePart). (inside : Bool) (st : Stack) → Fills (k inside) st (roll-TypedBlock (block_from h)))
    (sym (fold-roll-TypedBlock (Bool → List TreePart) (Bool → List TreePart) tree.stmt_layer tree.block_layer (block_from h)))
    (block_case h))

block_reads : (b : TypedBlock) → BlockReads b
block_reads b = ind-TypedBlock StmtReads BlockReads stmt_step block_step b

-- ---- bodies

guarded_reads : (predicate : Option NumExpr) (block : TypedBlock) → read_body (predicate_parts predicate ++ block_parts block false) ≡ (predicate, block)
guarded_reads None block =
    let p = block_reads block false fresh in
    ap (λ (s : Stack). (None, block_of s.here)) p.reads ∙ ap (λ (b : TypedBlock). (None, b)) p.worth
guarded_reads (Some e) block =
    let p = tests e (block_parts block false) fresh block (block_reads block false fresh) in
    ap guarded p.reads ∙ (ap (λ (n : NumExpr). (Some n, block_of p.items)) p.test_worth ∙ ap (λ (b : TypedBlock). (Some e, b)) p.block_worth)

-- a body's parts tell its predicate and its block
pub tree_reads : (tree : TypedTree) → read_body (tree_parts tree) ≡ (tree.predicate, tree.block)
tree_reads tree = guarded_reads tree.predicate tree.block
