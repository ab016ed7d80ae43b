-- Statements and whole bodies do the same by another way of reading that reads alike what can come.
use Rattle.std.proofs.Common.{◌≡◌, ◌++◌, ℕ, zero, suc, ℤ, pos, List, [], ◌∷◌, Option, Some, None, Bool, true, false, map, refl, sym, ap, ◌∙◌, subst}
use Rattle.std.specs.Prelude.{IsTrue, is_none}
use Rattle.std.specs.List.{flat_map}
use Rattle.std.proofs.lemmas.Bool.{and_parts}
use Rattle.bt_core.specs.declared.ending.Ending.{Ending}
use Rattle.bt_core.specs.declared.item.Cell.{Cell}
use Rattle.bt_core.specs.declared.item.Item.TheVariants as items
use Rattle.bt_core.specs.declared.map.MapId.{MapId}
use Rattle.bt_core.specs.declared.map.MapKind.{MapKind}
use Rattle.bt_core.specs.declared.map.MapKind.TheVariants.{Ints}
use Rattle.bt_core.specs.declared.map.Shape.{Shape}
use Rattle.bt_core.specs.declared.map.Shape.TheVariants as shapes
use Rattle.bt_core.specs.declared.operator.BinOp.{BinOp}
use Rattle.bt_core.specs.declared.step.ObjectId.TheVariants.{Out}
use Rattle.bt_core.specs.declared.step.Op.TheVariants as ops
use Rattle.bt_core.specs.declared.step.Reply.{Reply}
use Rattle.bt_core.specs.declared.value.Value.{Value}
use Rattle.bt_core.specs.declared.value.Value.TheVariants.{Int}
use Rattle.bt_core.specs.Arithmetic.{binary_value}
use Rattle.bt_core.specs.Interaction.{Interaction, Ended, Call}
use Rattle.map_rows.specs.Merged.{rows_in, merged, merged_rows}
use Rattle.typed_tree.specs.declared.expr.AnyExpr.{AnyExpr}
use Rattle.typed_tree.specs.declared.expr.NumExpr.{NumExpr}
use Rattle.typed_tree.specs.declared.stmt.TypedBlock.{TypedBlock, roll-TypedBlock, map-TypedBlock, fold-roll-TypedBlock, ind-TypedBlock}
use Rattle.typed_tree.specs.declared.stmt.TypedStmt.{TypedStmt, roll-TypedStmt, map-TypedStmt, fold-TypedStmt, fold-roll-TypedStmt}
use Rattle.typed_tree.specs.declared.stmt.TypedStmt.TheOpen.{TypedStmt-F, TypedBlock-F}
use Rattle.typed_tree.specs.declared.stmt.TypedStmt.TheShapes.{former-TypedStmt-If-0-at-2}
use Rattle.typed_tree.specs.Bodies.{predicate_parts}
use Rattle.typed_tree.specs.Parts as tree
use Rattle.typed_tree.specs.Parts.{TreePart, made_of, num_parts, parts_in, key_shapes, stmt_parts, block_parts, arm_parts, otherwise_parts, joined, number_parts, Ending as Ends_block, Otherwise}
use Rattle.typed_tree.specs.Scope.{fits, all_fit, is_there, is_declared, decl_of}
use Rattle.walk_meaning.specs.declared.flow.Flow.{Flow}
use Rattle.walk_meaning.specs.declared.flow.Flow.TheVariants.{Next, Break, Continue, Stop}
use Rattle.walk_meaning.specs.declared.flow.Frame.{Frame}
use Rattle.map_ops.specs.declared.sweep.Sweep.TheVariants.{Read}
use Rattle.walk_meaning.specs.declared.view.View.{View}
use Rattle.walk_meaning.specs.Does.{BodyScene, Does, given, looked_at, changed, lifted, bind, in_order}
use Rattle.walk_meaning.specs.Exprs.{value_does, values_do, number_does}
use Rattle.map_ops.specs.Values.{number_of}
use Rattle.walk_meaning.specs.Maps.{get, set, kind_in_body}
use Rattle.map_ops.specs.Asking.{tells, swept, printed}
use Rattle.walk_meaning.specs.Reading.{Reader, number_asked, updated_under, value_by, values_by, number_by, number_or_one_by, printed_by, print_by, arm_by, stmt_by, block_by, guarded_by, tree_by, walk_by}
use Rattle.bt_core.specs.Same.{SameTo}
use Rattle.walk_meaning.specs.Stmts.{plain, stmt_by_parts, block_by_parts, stmt_does, block_does, number_or_one, print, clear, zero_all, jump_to, cut, update_at, if_next, in_sequence, first_arm, arm_does, entered, turn, turns, tests, while_true, again}
use Rattle.walk_meaning.specs.Walk.{walk, first_frame, guarded, tree_does}
use Rattle.walk_meaning.specs.Served.{Fits, scene_in, scope_in}
use Rattle.bt_core.proofs.SameLaws.{SameTo-self, SameTo-and_then}
use Rattle.walk_meaning.proofs.ReadExprs.{ReadsAlike, Ends, Tied, self-tied, bind-tied, bind-same, first-same, if_holds-tied, AnyRead, any_read, num_read, halves, values-same, number-tied, Rows, swept-same, lifted-same}
use Rattle.walk_meaning.proofs.TreeParts.{update_head}

module _ (comes : Call → Reply → Type 0) (reader : Reader) (v : View) (reads : ReadsAlike comes reader v) where
  abbrev Same : {A : Type 0} → Does A → Does A → Type 0
  Same {A} d e = Tied comes (scene_in v) (λ (a b : A). a ≡ b) d e

  self : {A : Type 0} (d : Does A) → Same d d
  self d = self-tied comes (scene_in v) d

  first : {A B : Type 0} (d e : Does A) (k : A → Does B) → Same d e → Same (bind d k) (bind e k)
  first d e k p = first-same comes (scene_in v) d e k p

  next-same : {A B : Type 0} (d e : Does A) (k l : A → Does B) → Same d e → ((a : A) → Same (k a) (l a)) → Same (bind d k) (bind e l)
  next-same {A} {B} d e k l p q = bind-same comes (scene_in v) (λ (a b : B). a ≡ b) d e k l p q

  parts : (a b : List TreePart) → Fits v (a ++ b) → Fits v a × Fits v b
  parts a b h = halves comes reader v reads a b h

  tail : (p : TreePart) (ps : List TreePart) → Fits v (p ∷ ps) → Fits v ps
  tail p ps h = (and_parts (fits (scope_in v) p) (all_fit (scope_in v) ps) h).1

  pair : AnyExpr → (a : AnyExpr) × AnyRead comes reader v reads a
  pair a = (a, any_read comes reader v reads a)

  pairs : (es : List AnyExpr) → map (λ (k : (a : AnyExpr) × AnyRead comes reader v reads a). k.0) (map pair es) ≡ es
  unfolding pair
  pairs [] = refl
  pairs (e ∷ es) = ap (λ (l : List AnyExpr). e ∷ l) (pairs es)

  keys-same : (es : List AnyExpr) → Fits v (parts_in (map made_of es)) → Same (in_order (values_by reader es)) (in_order (values_do es))
  keys-same es = subst (λ (l : List AnyExpr). Fits v (parts_in (map made_of l)) → Same (in_order (values_by reader l)) (in_order (values_do l))) (pairs es) (values-same comes reader v reads (map pair es))

  -- ---- the rows of a map

  abbrev kind_here : MapId → MapKind
  kind_here m = kind_in_body m v.body.now.maps

  abbrev shown : MapId → ℕ → ℤ → List (List Value × Cell) → Interaction (Unit {0})
  shown m top div rows = tells Out (ops.Emit (items.Map m rows top div))

  shown-same : (m : MapId) (top : ℕ) (div : ℤ) (kind : MapKind) (rs qs : List Reply) → Rows comes reader v reads kind rs qs → SameTo comes (λ (a b : Unit {0}). a ≡ b) (shown m top div (merged_rows (flat_map (reader.rows kind) rs))) (shown m top div (merged kind qs))
  unfolding merged
  shown-same m top div kind rs qs h =
      subst (λ (rows : List (List Value × Cell)). SameTo comes (λ (a b : Unit {0}). a ≡ b) (shown m top div (merged_rows (flat_map (reader.rows kind) rs))) (shown m top div (merged_rows rows)))
      (h.1 ∙ ap (λ (l : List Reply). flat_map (rows_in kind) l) h.0)
      (SameTo-self comes (λ (a b : Unit {0}). a ≡ b) (λ u. refl) (shown m top div (merged_rows (flat_map (reader.rows kind) rs))))

  printed-same : (m : MapId) (top : ℕ) (div : ℤ) → IsTrue (is_there (decl_of m.0 v.body.now.maps)) → SameTo comes (λ (a b : Unit {0}). a ≡ b) (printed_by reader (kind_here m) m top div v.actors) (printed (kind_here m) m top div v.actors)
  printed-same m top div named =
      SameTo-and_then comes (Rows comes reader v reads (kind_here m)) (λ (a b : Unit {0}). a ≡ b) (swept Read (kind_here m) m v.actors) (swept Read (kind_here m) m v.actors)
      (λ rs. shown m top div (merged_rows (flat_map (reader.rows (kind_here m)) rs))) (λ qs. shown m top div (merged (kind_here m) qs)) (swept-same comes reader v reads m named) (shown-same m top div (kind_here m))

  print-same : (m : MapId) (top : ℕ) (div : ℤ) → IsTrue (is_there (decl_of m.0 v.body.now.maps)) → Same (print_by reader m top div) (print m top div)
  print-same m top div named =
      first (lifted (λ scene. printed_by reader (kind_in_body m scene.maps) m top div scene.actors)) (lifted (λ scene. printed (kind_in_body m scene.maps) m top div scene.actors)) (λ u. given Next)
      (lifted-same comes reader v reads (λ scene. printed_by reader (kind_in_body m scene.maps) m top div scene.actors) (λ scene. printed (kind_in_body m scene.maps) m top div scene.actors) (printed-same m top div named))

  update-same : (m : MapId) (keys : List Shape) (op : BinOp) (b : ℤ) (key : List Value) → IsTrue (is_declared (decl_of m.0 v.body.now.maps) Ints keys) → Same (updated_under reader m op b key) (update_at m key op b)
  update-same m keys op b key d =
      bind-tied comes (scene_in v) (λ (n : ℤ) (value : Value). n ≡ number_of value) (λ (a b : Flow). a ≡ b) (number_asked reader m key) (get m key) _ _ (number-tied comes reader v reads m keys key d)
      (λ n value h. subst (λ (x : ℤ). Same (plain (set m key (Int (binary_value op n b)))) (plain (set m key (Int (binary_value op x b))))) h (self (plain (set m key (Int (binary_value op n b))))))

  -- ---- loops

  if_next-same : (flow : Flow) (one other : Does Flow) → Same one other → Same (if_next flow one) (if_next flow other)
  if_next-same Next one other p = p
  if_next-same Break one other p = self (given Break)
  if_next-same Continue one other p = self (given Continue)
  if_next-same (Stop e) one other p = self (given (Stop e))

  again-same : (flow : Flow) (one other : Does Flow) → Same one other → Same (again flow one) (again flow other)
  again-same Next one other p = p
  again-same Break one other p = self (given Next)
  again-same Continue one other p = p
  again-same (Stop e) one other p = self (given (Stop e))

  abbrev entering : ℕ → Does (Unit {0})
  entering left = changed (λ (frame : Frame). record frame { turns = left })

  abbrev left_over : Does ℕ
  left_over = looked_at (λ (scene : BodyScene) (frame : Frame). frame.turns)

  entered-same : (line : ℕ) (one other : Does Flow) (n : ℕ) → Same one other → Same (entered line one n) (entered line other n)
  entered-same line one other zero p = self (cut line)
  entered-same line one other (suc left) p = next-same (entering left) (entering left) (λ u. one) (λ u. other) (self (entering left)) (λ u. p)

  turn-same : (line : ℕ) (one other : Does Flow) → Same one other → Same (turn line one) (turn line other)
  turn-same line one other p = next-same left_over left_over (entered line one) (entered line other) (self left_over) (λ n. entered-same line one other n p)

  turns-same : (n line : ℕ) (one other : Does Flow) → Same one other → Same (turns n line one) (turns n line other)
  turns-same zero line one other p = self (given Next)
  turns-same (suc n) line one other p =
      next-same (turn line one) (turn line other) (λ flow. again flow (turns n line one)) (λ flow. again flow (turns n line other)) (turn-same line one other p) (λ flow. again-same flow (turns n line one) (turns n line other) (turns-same n line one other p))

  tests-same : (n line : ℕ) (test by : Does ℤ) (one other : Does Flow) → Same test by → Same one other → Same (tests n line test one) (tests n line by other)
  tests-same zero line test by one other t p = self (given Next)
  tests-same (suc n) line test by one other t p =
      if_holds-tied comes (scene_in v) test by (bind (turn line one) (λ flow. again flow (tests n line test one))) (given Next) (bind (turn line other) (λ flow. again flow (tests n line by other))) (given Next) t
      (next-same (turn line one) (turn line other) (λ flow. again flow (tests n line test one)) (λ flow. again flow (tests n line by other)) (turn-same line one other p)
      (λ flow. again-same flow (tests n line test one) (tests n line by other) (tests-same n line test by one other t p)))
      (self (given Next))

  while-same : (line : ℕ) (test by : Does ℤ) (one other : Does Flow) → Same test by → Same one other → Same (while_true line test one) (while_true line by other)
  while-same line test by one other t p = next-same left_over left_over (λ left. tests (suc left) line test one) (λ left. tests (suc left) line by other) (self left_over) (λ left. tests-same (suc left) line test by one other t p)

  -- ---- trees

  abbrev stmt_does_by : TypedStmt → Does Flow
  stmt_does_by = fold-TypedStmt (Does Flow) (Does Flow) (stmt_by reader) block_by_parts

  abbrev StmtRead : TypedStmt → Type 0
  StmtRead s = (inside : Bool) → Fits v (stmt_parts s inside) → Same (stmt_does_by s) (stmt_does s)

  abbrev BlockRead : TypedBlock → Type 0
  BlockRead b = (inside : Bool) → Fits v (block_parts b inside) → Same (block_by reader b) (block_does b)

  abbrev ManyStmt : Type 0
  ManyStmt = (s : TypedStmt) × StmtRead s

  abbrev ManyBlock : Type 0
  ManyBlock = (b : TypedBlock) × BlockRead b

  abbrev firsts : List ManyStmt → List TypedStmt
  firsts ss = map (λ (k : ManyStmt). k.0) ss

  stmts-same : (ss : List ManyStmt) (inside : Bool) → Fits v (joined (map (λ (k : Bool → List TreePart). k inside) (map stmt_parts (firsts ss)))) → Same (in_sequence (map stmt_does_by (firsts ss))) (in_sequence (map stmt_does (firsts ss)))
  stmts-same [] inside fit = self (given Next)
  stmts-same (s ∷ ss) inside fit =
      let p = parts (stmt_parts s.0 inside) (joined (map (λ (k : Bool → List TreePart). k inside) (map stmt_parts (firsts ss)))) fit in
      next-same (stmt_does_by s.0) (stmt_does s.0) (λ flow. if_next flow (in_sequence (map stmt_does_by (firsts ss)))) (λ flow. if_next flow (in_sequence (map stmt_does (firsts ss)))) (s.1 inside p.0)
      (λ flow. if_next-same flow (in_sequence (map stmt_does_by (firsts ss))) (in_sequence (map stmt_does (firsts ss))) (stmts-same ss inside p.1))

  abbrev blocks_of : List (NumExpr × ManyBlock) → List (NumExpr × TypedBlock)
  blocks_of arms = map (former-TypedStmt-If-0-at-2.map ManyBlock TypedBlock (λ k. k.0)) arms

  abbrev arms_made : Bool → List (NumExpr × ManyBlock) → List TreePart
  arms_made inside arms = joined (map (λ (arm : NumExpr × (Bool → List TreePart)). arm_parts (arm.0, arm.1 inside)) (map (former-TypedStmt-If-0-at-2.map TypedBlock (Bool → List TreePart) block_parts) (blocks_of arms)))

  arms-same : (arms : List (NumExpr × ManyBlock)) (inside : Bool) (one other : Does Flow) → Fits v (arms_made inside arms) → Same one other →
      Same (first_arm (map (arm_by reader) (map (former-TypedStmt-If-0-at-2.map TypedBlock (Does Flow) (block_by reader)) (blocks_of arms))) one) (first_arm (map arm_does (map (former-TypedStmt-If-0-at-2.map TypedBlock (Does Flow) block_does) (blocks_of arms))) other)
  arms-same [] inside one other fit p = p
  arms-same (arm ∷ arms) inside one other fit p =
      let front = parts (arm_parts (arm.0, block_parts arm.1.0 inside)) (arms_made inside arms) fit in
      let own = parts (num_parts arm.0) (block_parts arm.1.0 inside) front.0 in
      if_holds-tied comes (scene_in v) (number_by reader arm.0) (number_does arm.0) (block_by reader arm.1.0) _ (block_does arm.1.0) _ (num_read comes reader v reads arm.0 own.0) (arm.1.1 inside own.1) (arms-same arms inside one other front.1 p)

  abbrev stmt_of : TypedStmt-F ManyStmt ManyBlock → TypedStmt-F TypedStmt TypedBlock
  stmt_of h = map-TypedStmt ManyStmt ManyBlock TypedStmt TypedBlock (λ k. k.0) (λ k. k.0) h

  number-same : (e : Option NumExpr) → Fits v (number_parts e) → Same (number_or_one_by reader e) (number_or_one e)
  number-same None fit = self (given (pos 1))
  number-same (Some e) fit = num_read comes reader v reads e fit

  stmt_case : (h : TypedStmt-F ManyStmt ManyBlock) (inside : Bool) → Fits v (tree.stmt_layer (map-TypedStmt TypedStmt TypedBlock (Bool → List TreePart) (Bool → List TreePart) stmt_parts block_parts (stmt_of h)) inside) →
      Same (stmt_by reader (map-TypedStmt TypedStmt TypedBlock (Does Flow) (Does Flow) stmt_does_by (block_by reader) (stmt_of h))) (stmt_by_parts (map-TypedStmt TypedStmt TypedBlock (Does Flow) (Does Flow) stmt_does block_does (stmt_of h)))
  stmt_case (TypedStmt-F.SetVar var value) inside fit =
      first (value_by reader value) (value_does value) _ (any_read comes reader v reads value (tail (tree.VarOf var (made_of value).shape) (made_of value).parts fit))
  stmt_case (TypedStmt-F.SetMap m keys value) inside fit =
      let p = parts (parts_in (map made_of keys)) (made_of value).parts (tail (tree.MapOf m.0 (key_shapes (map made_of keys)) (made_of value).shape) (parts_in (map made_of keys) ++ (made_of value).parts) fit) in
      next-same (in_order (values_by reader keys)) (in_order (values_do keys)) _ _ (keys-same keys p.0) (λ key. first (value_by reader value) (value_does value) _ (any_read comes reader v reads value p.1))
  stmt_case (TypedStmt-F.UpdateVar var op e) inside fit = first (number_by reader e) (number_does e) _ (num_read comes reader v reads e (tail (tree.VarOf var shapes.Int) (num_parts e) fit))
  stmt_case (TypedStmt-F.UpdateMap m keys op e) inside fit =
      let p = parts (parts_in (map made_of keys)) (num_parts e) (tail (tree.MapOf m.0 (key_shapes (map made_of keys)) shapes.Int) (parts_in (map made_of keys) ++ num_parts e) fit) in
      next-same (in_order (values_by reader keys)) (in_order (values_do keys)) _ _ (keys-same keys p.0)
      (λ key. next-same (number_by reader e) (number_does e) (λ b. updated_under reader m op b key) (λ b. update_at m key op b) (num_read comes reader v reads e p.1) (λ b. update-same m _ op b key (update_head v m (map made_of keys) op (num_parts e) fit)))
  stmt_case (TypedStmt-F.Gather m keys kind number) inside fit =
      let p = parts (parts_in (map made_of keys)) (number_parts number) (tail (tree.Gathered m.0 (key_shapes (map made_of keys)) kind (is_none number)) (parts_in (map made_of keys) ++ number_parts number) fit) in
      next-same (in_order (values_by reader keys)) (in_order (values_do keys)) _ _ (keys-same keys p.0) (λ key. first (number_or_one_by reader number) (number_or_one number) _ (number-same number p.1))
  stmt_case (TypedStmt-F.Step e) inside fit = first (number_by reader e) (number_does e) _ (num_read comes reader v reads e fit)
  stmt_case (TypedStmt-F.Printf format es) inside fit =
      let p = parts (parts_in (map made_of es)) (Ends_block ∷ []) (tail (tree.Printed format (key_shapes (map made_of es))) (parts_in (map made_of es) ++ Ends_block ∷ []) fit) in
      first (in_order (values_by reader es)) (in_order (values_do es)) _ (keys-same es p.0)
  stmt_case (TypedStmt-F.Print m top div) inside fit =
      let p = and_parts (fits (scope_in v) (tree.Shown m.0 top div)) true fit in print-same m top div (and_parts (is_there (decl_of m.0 v.body.now.maps)) _ p.0).0
  stmt_case (TypedStmt-F.Clear m) inside fit = self (clear m)
  stmt_case (TypedStmt-F.Zero m) inside fit = self (zero_all m)
  stmt_case (TypedStmt-F.Delete m keys) inside fit =
      first (in_order (values_by reader keys)) (in_order (values_do keys)) _ (keys-same keys (tail (tree.Deleted m.0 (key_shapes (map made_of keys))) (parts_in (map made_of keys)) fit))
  stmt_case (TypedStmt-F.Jump jump) inside fit = self (jump_to jump)
  stmt_case (TypedStmt-F.If arms None) inside fit = arms-same arms inside (given Next) (given Next) (parts (arms_made inside arms) (otherwise_parts None) fit).0 (self (given Next))
  stmt_case (TypedStmt-F.If arms (Some b)) inside fit =
      let p = parts (arms_made inside arms) (Otherwise ∷ block_parts b.0 inside) fit in
      arms-same arms inside (block_by reader b.0) (block_does b.0) p.0 (b.1 inside (tail Otherwise (block_parts b.0 inside) p.1))
  stmt_case (TypedStmt-F.While test b line) inside fit =
      let p = parts (num_parts test) (block_parts b.0 true) (tail (tree.Looped line) (num_parts test ++ block_parts b.0 true) fit) in
      while-same line (number_by reader test) (number_does test) (block_by reader b.0) (block_does b.0) (num_read comes reader v reads test p.0) (b.1 true p.1)
  stmt_case (TypedStmt-F.Unroll n b line) inside fit = turns-same n line (block_by reader b.0) (block_does b.0) (b.1 true (tail (tree.Unrolled n line) (block_parts b.0 true) fit))

  stmt_step : (x : TypedStmt-F TypedStmt TypedBlock) (h : TypedStmt-F ManyStmt ManyBlock) → stmt_of h ≡ x → StmtRead (roll-TypedStmt x)
  stmt_step x h e = subst (λ (y : TypedStmt-F TypedStmt TypedBlock). StmtRead (roll-TypedStmt y)) e (λ inside fit.
      subst (λ (d : Does Flow). Same d (stmt_does (roll-TypedStmt (stmt_of h)))) (sym (fold-roll-TypedStmt (Does Flow) (Does Flow) (stmt_by reader) block_by_parts (stmt_of h)))
      (subst (λ (d : Does Flow). Same (stmt_by reader (map-TypedStmt TypedStmt TypedBlock (Does Flow) (Does Flow) stmt_does_by (block_by reader) (stmt_of h))) d) (sym (fold-roll-TypedStmt (Does Flow) (Does Flow) stmt_by_parts block_by_parts (stmt_of h)))
      (stmt_case h inside (subst (λ (k : Bool → List TreePart). Fits v (k inside)) (fold-roll-TypedStmt (Bool → List TreePart) (Bool → List TreePart) tree.stmt_layer tree.block_layer (stmt_of h)) fit))))

  abbrev block_of : TypedBlock-F ManyStmt ManyBlock → TypedBlock-F TypedStmt TypedBlock
  block_of h = map-TypedBlock ManyStmt ManyBlock TypedStmt TypedBlock (λ k. k.0) (λ k. k.0) h

  block_step : (x : TypedBlock-F TypedStmt TypedBlock) (h : TypedBlock-F ManyStmt ManyBlock) → block_of h ≡ x → BlockRead (roll-TypedBlock x)
  block_step x h e = subst (λ (y : TypedBlock-F TypedStmt TypedBlock). BlockRead (roll-TypedBlock y)) e (λ inside fit.
      subst (λ (d : Does Flow). Same d (block_does (roll-TypedBlock (block_of h)))) (sym (fold-roll-TypedBlock (Does Flow) (Does Flow) (stmt_by reader) block_by_parts (block_of h)))
      (subst (λ (d : Does Flow). Same (block_by_parts (map-TypedBlock TypedStmt TypedBlock (Does Flow) (Does Flow) stmt_does_by (block_by reader) (block_of h))) d) (sym (fold-roll-TypedBlock (Does Flow) (Does Flow) stmt_by_parts block_by_parts (block_of h)))
      (stmts-same h.stmts inside (parts (joined (map (λ (k : Bool → List TreePart). k inside) (map stmt_parts (firsts h.stmts)))) (Ends_block ∷ []) (subst (λ (k : Bool → List TreePart). Fits v (k inside)) (fold-roll-TypedBlock (Bool → List TreePart) (Bool → List TreePart) tree.stmt_layer tree.block_layer (block_of h)) fit)).0)))

  block_read : (b : TypedBlock) → BlockRead b
  block_read b = ind-TypedBlock StmtRead BlockRead stmt_step block_step b

  guarded-same : (predicate : Option NumExpr) (block : TypedBlock) → Fits v (predicate_parts predicate) → Fits v (block_parts block false) → Same (guarded_by reader predicate (block_by reader block)) (guarded predicate (block_does block))
  guarded-same None block fit own = block_read block false own
  guarded-same (Some e) block fit own =
      if_holds-tied comes (scene_in v) (number_by reader e) (number_does e) (block_by reader block) (given Next) (block_does block) (given Next) (num_read comes reader v reads e (tail Otherwise (num_parts e) fit)) (block_read block false own) (self (given Next))

  tree-same : Same (tree_by reader v.body.now.tree) (tree_does v.body.now.tree)
  tree-same =
      let p = parts (predicate_parts v.body.now.tree.predicate) (block_parts v.body.now.tree.block false) v.body.now.typed in
      first (guarded_by reader v.body.now.tree.predicate (block_by reader v.body.now.tree.block)) (guarded v.body.now.tree.predicate (block_does v.body.now.tree.block)) _
      (guarded-same v.body.now.tree.predicate v.body.now.tree.block p.0 p.1)

  pub walks-same : SameTo comes (λ (a b : Ending). a ≡ b) (walk_by reader v.body.now v.context.now v.payload.now v.actor v.actors) (walk v.body.now v.context.now v.payload.now v.actor v.actors)
  unfolding walk walk_by
  walks-same =
      SameTo-and_then comes (Ends comes (scene_in v) (λ (a b : Ending). a ≡ b)) (λ (a b : Ending). a ≡ b) (tree_by reader v.body.now.tree (scene_in v) (first_frame v.body.now.tree.variables)) (tree_does v.body.now.tree (scene_in v) (first_frame v.body.now.tree.variables))
      (λ w. Ended w.0) (λ w. Ended w.0) (tree-same (first_frame v.body.now.tree.variables)) (λ w z h. h.0)
