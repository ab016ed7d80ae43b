-- What is asked by statements, and by whole bodies.
use Rattle.std.proofs.Common.{◌≡◌, ◌++◌, ℕ, zero, suc, ℤ, pos, List, [], ◌∷◌, Option, Some, None, Bool, true, false, map, refl, sym, ap, subst}
use Rattle.std.specs.Prelude.{IsTrue, is_none, int_le, nat_lt, ◌^◌}
use Rattle.std.proofs.lemmas.Bool.{and_parts}
use Rattle.std.specs.List.{AllByRecursion}
use Rattle.bt_core.specs.declared.context.Context.{Context}
use Rattle.bt_core.specs.declared.item.Item.{Item}
use Rattle.bt_core.specs.declared.item.Item.TheVariants as items
use Rattle.bt_core.specs.declared.map.Shape.{Shape}
use Rattle.bt_core.specs.declared.map.MapDecl.{MapDecl}
use Rattle.bt_core.specs.declared.map.MapId.{MapId}
use Rattle.bt_core.specs.declared.map.MapKind.{MapKind}
use Rattle.bt_core.specs.declared.map.Shape.TheVariants as shapes
use Rattle.bt_core.specs.declared.step.ObjectId.{ObjectId}
use Rattle.bt_core.specs.declared.step.ObjectId.TheVariants.{Clock, Out, Cpu}
use Rattle.bt_core.specs.declared.step.Op.{Op}
use Rattle.bt_core.specs.declared.step.Op.TheVariants as ops
use Rattle.bt_core.specs.declared.step.Reply.{Reply}
use Rattle.bt_core.specs.declared.value.Value.{Value}
use Rattle.bt_core.specs.declared.value.Value.TheVariants.{Int}
use Rattle.bt_core.specs.Kinds.{HasShape, IsOfShape}
use Rattle.bt_core.specs.Interaction.{Interaction, Ended, Asks}
use Rattle.bt_core.specs.Ports.{Setting, CanStep}
use Rattle.typed_tree.specs.declared.expr.AnyExpr.{AnyExpr}
use Rattle.typed_tree.specs.declared.expr.NumExpr.{NumExpr}
use Rattle.typed_tree.specs.declared.stmt.Jump.TheVariants as jumps
use Rattle.typed_tree.specs.declared.stmt.TypedBlock.{TypedBlock, roll-TypedBlock, map-TypedBlock, fold-roll-TypedBlock, ind-TypedBlock}
use Rattle.typed_tree.specs.declared.stmt.TypedStmt.{TypedStmt, roll-TypedStmt, map-TypedStmt, fold-roll-TypedStmt}
use Rattle.typed_tree.specs.declared.stmt.TypedStmt.TheOpen.{TypedStmt-F, TypedBlock-F}
use Rattle.typed_tree.specs.declared.stmt.TypedStmt.TheShapes.{former-TypedStmt-If-0-at-2}
use Rattle.typed_tree.specs.Parts as tree
use Rattle.typed_tree.specs.Parts.{TreePart, made_of, num_parts, parts_in, key_shapes, stmt_parts, block_parts, arm_parts, otherwise_parts, joined, number_parts, Ending, Otherwise}
use Rattle.typed_tree.specs.declared.body.TypedBody.{TypedBody}
use Rattle.typed_tree.specs.Bodies.{predicate_parts}
use Rattle.typed_tree.specs.Scope.{fits, all_fit, is_there, decl_of, format_of, takes, may_print}
use Rattle.map_rows.specs.Merged.{merged}
use Rattle.walk_meaning.specs.declared.flow.Flow.{Flow}
use Rattle.walk_meaning.specs.declared.flow.Flow.TheVariants.{Next, Break, Continue, Stop}
use Rattle.map_ops.specs.declared.sweep.Sweep.{Sweep}
use Rattle.map_ops.specs.declared.sweep.Sweep.TheVariants.{Read, Clear, Zero}
use Rattle.walk_meaning.specs.declared.view.View.{View}
use Rattle.walk_meaning.specs.Admits.{Admits, AdmitsOf}
use Rattle.walk_meaning.specs.Does.{Does, given, changed, lifted, bind, in_order}
use Rattle.walk_meaning.specs.Exprs.{value_does, values_do, number_does}
use Rattle.map_ops.specs.Holders.{part, holder, sweep_op, CanSweep}
use Rattle.walk_meaning.specs.Maps.{get, set, delete, add, kind_in_body}
use Rattle.map_ops.specs.Asking.{tells, swept, printed}
use Rattle.walk_meaning.specs.Stmts.{stmt_by_parts, block_by_parts, stmt_does, block_does, number_or_one, print, clear, zero_all, if_next, in_sequence, first_arm, arm_does, cut, entered, turn, turns, tests, while_true, again}
use Rattle.walk_meaning.specs.Walk.{walk, first_frame, guarded, ending_of, tree_does}
use Rattle.walk_meaning.specs.Served.{CanWalk, IsServed, Fits, scene_in, scope_in}
use Rattle.walk_meaning.proofs.Asking.{IsFineCall, IsReplyIn, swept-fine as any_swept-fine, Admits-bind, Good, given-good, looked_at-good, changed-good, bind-good, lifted-good, told-good, if_holds-good, get-good, values-good, AnyGood, any_good, num_good, split, then-given}
use Rattle.walk_meaning.proofs.Declared.{shared, valued, gathering, get_can, set_can, delete_can, add_can, sweep_can}
use Rattle.walk_meaning.proofs.TreeParts.{set_head, update_head, gather_head, delete_head}

abbrev pub view_of : TypedBody → Context → List ℕ → ℕ → ℕ → View
view_of body context payload actor actors =
    record { body = record { ref_ptr = (0, 0); now = body }; context = record { ref_ptr = (0, 0); now = context }; payload = record { ref_ptr = (0, 0); now = payload }; actor = actor; actors = actors }

-- what a body emits: the values of its `printf` calls by their formats, rows of its maps that were read, and cuts
pub record EmitsFine (v : View) (setting : Setting) (fine : Item → Type 0) : Type 0 where
  pub printf : (format : ℕ) (hs : List Shape) (values : List Value) → IsTrue (takes (format_of format v.body.now.formats) hs) → HasShape hs values → fine (items.Printf format values)
  pub rows : (m : MapId) (top : ℕ) (div : ℤ) (replies : List Reply) → IsTrue (is_there (decl_of m.0 v.body.now.maps)) → IsTrue (int_le (pos 1) div)
      → AllByRecursion (IsReplyIn setting (holder (kind_in_body m v.body.now.maps) m) (sweep_op Read (kind_in_body m v.body.now.maps) m)) replies
      → fine (items.Map m (merged (kind_in_body m v.body.now.maps) replies) top div)
  pub cut : (line : ℕ) → fine (items.Cut line)

module _ (v : View) (setting : Setting) (served : IsServed v setting) (fine : Item → Type 0) (emits : EmitsFine v setting fine) where
  abbrev Does_good : {A : Type 0} → (A → Type 0) → Does A → Type 0
  Does_good holds d = Good setting fine (scene_in v) holds d

  abbrev Free : {A : Type 0} → A → Type 0
  Free a = Unit {0}

  abbrev Fine : {A : Type 0} → (A → Type 0) → Interaction A → Type 0
  Fine holds t = AdmitsOf (IsFineCall setting fine) setting.maps holds t

  tail : (p : TreePart) (ps : List TreePart) → Fits v (p ∷ ps) → Fits v ps
  tail p ps h = (and_parts (fits (scope_in v) p) (all_fit (scope_in v) ps) h).1

  halves : (a b : List TreePart) → Fits v (a ++ b) → Fits v a × Fits v b
  halves a b h = split v setting served fine a b h

  flow-good : (flow : Flow) → Does_good Free (given flow)
  flow-good flow = given-good setting fine (scene_in v) Free flow tt

  plain-good : {A : Type 0} (d : Does A) → Does_good Free d → Does_good Free (bind d (λ value. given Next))
  plain-good d p = then-given v setting served fine d (λ value. Next) p

  pair : AnyExpr → (a : AnyExpr) × AnyGood v setting served fine a
  pair a = (a, any_good v setting served fine a)

  pairs : (es : List AnyExpr) → map (λ (k : (a : AnyExpr) × AnyGood v setting served fine a). k.0) (map pair es) ≡ es
  unfolding pair
  pairs [] = refl
  pairs (e ∷ es) = ap (λ (l : List AnyExpr). e ∷ l) (pairs es)

  keys-good : (es : List AnyExpr) → Fits v (parts_in (map made_of es)) → Does_good (HasShape (key_shapes (map made_of es))) (in_order (values_do es))
  keys-good es = subst (λ (l : List AnyExpr). Fits v (parts_in (map made_of l)) → Does_good (HasShape (key_shapes (map made_of l))) (in_order (values_do l))) (pairs es) (values-good v setting served fine (map pair es))

  abbrev Swept : Sweep → MapKind → MapId → List Reply → Type 0
  Swept sweep kind m = AllByRecursion (IsReplyIn setting (holder kind m) (sweep_op sweep kind m))

  swept-fine : (sweep : Sweep) (kind : MapKind) (m : MapId) → CanSweep setting m kind v.actors → Fine (Swept sweep kind m) (swept sweep kind m v.actors)
  swept-fine sweep kind m can = any_swept-fine setting fine sweep kind m v.actors can

  abbrev kind_here : MapId → MapKind
  kind_here m = kind_in_body m v.body.now.maps

  sweep-good : (sweep : Sweep) (m : MapId) → IsTrue (is_there (decl_of m.0 v.body.now.maps))
      → Does_good (Swept sweep (kind_here m) m) (lifted (λ scene. swept sweep (kind_in_body m scene.maps) m scene.actors))
  sweep-good sweep m named =
      lifted-good setting fine (scene_in v) (Swept sweep (kind_here m) m) (λ scene. swept sweep (kind_in_body m scene.maps) m scene.actors)
      (swept-fine sweep (kind_here m) m (sweep_can v setting m served named))

  forget : {A B : Type 0} (holds : A → Type 0) (d : Does A) (b : B) → Does_good holds d → Does_good {A = B} Free (bind d (λ value. given b))
  forget holds d b p = bind-good setting fine (scene_in v) holds Free d (λ value. given b) p (λ value h. given-good setting fine (scene_in v) Free b tt)

  print-good : (m : MapId) (top : ℕ) (div : ℤ) → IsTrue (is_there (decl_of m.0 v.body.now.maps)) → IsTrue (int_le (pos 1) div) → Does_good Free (print m top div)
  print-good m top div named divides =
      plain-good (lifted (λ scene. printed (kind_in_body m scene.maps) m top div scene.actors))
      (lifted-good setting fine (scene_in v) Free (λ scene. printed (kind_in_body m scene.maps) m top div scene.actors)
      (Admits-bind (IsFineCall setting fine) setting.maps (Swept Read (kind_here m) m) Free (swept Read (kind_here m) m v.actors)
      (λ replies. tells Out (ops.Emit (items.Map m (merged (kind_here m) replies) top div)))
      (swept-fine Read (kind_here m) m (sweep_can v setting m served named)) (λ replies h. ((tt, emits.rows m top div replies named divides h), λ reply kind. tt))))

  clear-good : (m : MapId) → IsTrue (is_there (decl_of m.0 v.body.now.maps)) → Does_good Free (clear m)
  clear-good m named = forget (Swept Clear (kind_here m) m) (lifted (λ scene. swept Clear (kind_in_body m scene.maps) m scene.actors)) Next (sweep-good Clear m named)

  zero-good : (m : MapId) → IsTrue (is_there (decl_of m.0 v.body.now.maps)) → Does_good Free (zero_all m)
  zero-good m named = forget (Swept Zero (kind_here m) m) (lifted (λ scene. swept Zero (kind_in_body m scene.maps) m scene.actors)) Next (sweep-good Zero m named)

  -- ---- loops

  cut-good : (line : ℕ) → Does_good Free (cut line)
  cut-good line = then-given v setting served fine (lifted (λ scene. tells Out (ops.Emit (items.Cut line)))) (λ u. _) (told-good setting fine (scene_in v) Out (ops.Emit (items.Cut line)) tt (emits.cut line))

  entered-good : (line : ℕ) (block : Does Flow) (n : ℕ) → Does_good Free block → Does_good Free (entered line block n)
  entered-good line block zero p = cut-good line
  entered-good line block (suc left) p = bind-good setting fine (scene_in v) Free Free (changed _) (λ u. block) (changed-good setting fine (scene_in v) _) (λ u h. p)

  turn-good : (line : ℕ) (block : Does Flow) → Does_good Free block → Does_good Free (turn line block)
  turn-good line block p = bind-good setting fine (scene_in v) Free Free _ (entered line block) (looked_at-good setting fine (scene_in v) _) (λ n h. entered-good line block n p)

  again-good : (flow : Flow) (rest : Does Flow) → Does_good Free rest → Does_good Free (again flow rest)
  again-good Next rest p = p
  again-good Break rest p = flow-good Next
  again-good Continue rest p = p
  again-good (Stop e) rest p = flow-good (Stop e)

  turns-good : (n line : ℕ) (block : Does Flow) → Does_good Free block → Does_good Free (turns n line block)
  turns-good zero line block p = flow-good Next
  turns-good (suc n) line block p = bind-good setting fine (scene_in v) Free Free (turn line block) (λ flow. again flow (turns n line block)) (turn-good line block p) (λ flow h. again-good flow (turns n line block) (turns-good n line block p))

  tests-good : (n line : ℕ) (test : Does ℤ) (block : Does Flow) → Does_good Free test → Does_good Free block → Does_good Free (tests n line test block)
  tests-good zero line test block t p = flow-good Next
  tests-good (suc n) line test block t p =
      if_holds-good setting fine (scene_in v) Free test (bind (turn line block) (λ flow. again flow (tests n line test block))) (given Next) t
      (bind-good setting fine (scene_in v) Free Free (turn line block) (λ flow. again flow (tests n line test block)) (turn-good line block p) (λ flow h. again-good flow (tests n line test block) (tests-good n line test block t p)))
      (flow-good Next)

  while-good : (line : ℕ) (test : Does ℤ) (block : Does Flow) → Does_good Free test → Does_good Free block → Does_good Free (while_true line test block)
  while-good line test block t p = bind-good setting fine (scene_in v) Free Free _ (λ left. tests (suc left) line test block) (looked_at-good setting fine (scene_in v) _) (λ left h. tests-good (suc left) line test block t p)

  if_next-good : (flow : Flow) (rest : Does Flow) → Does_good Free rest → Does_good Free (if_next flow rest)
  if_next-good Next rest p = p
  if_next-good Break rest p = flow-good Break
  if_next-good Continue rest p = flow-good Continue
  if_next-good (Stop e) rest p = flow-good (Stop e)

  -- ---- trees

  abbrev pub StmtGood : TypedStmt → Type 0
  StmtGood s = (inside : Bool) → Fits v (stmt_parts s inside) → Does_good Free (stmt_does s)

  abbrev pub BlockGood : TypedBlock → Type 0
  BlockGood b = (inside : Bool) → Fits v (block_parts b inside) → Does_good Free (block_does b)

  abbrev ManyStmt : Type 0
  ManyStmt = (s : TypedStmt) × StmtGood s

  abbrev ManyBlock : Type 0
  ManyBlock = (b : TypedBlock) × BlockGood b

  stmts-good : (ss : List ManyStmt) (inside : Bool) → Fits v (joined (map (λ (k : Bool → List TreePart). k inside) (map stmt_parts (map (λ (k : ManyStmt). k.0) ss)))) → Does_good Free (in_sequence (map stmt_does (map (λ (k : ManyStmt). k.0) ss)))
  stmts-good [] inside fit = flow-good Next
  stmts-good (s ∷ ss) inside fit =
      let p = halves (stmt_parts s.0 inside) (joined (map (λ (k : Bool → List TreePart). k inside) (map stmt_parts (map (λ (k : ManyStmt). k.0) ss)))) fit in
      bind-good setting fine (scene_in v) Free Free (stmt_does s.0) (λ flow. if_next flow (in_sequence (map stmt_does (map (λ (k : ManyStmt). k.0) ss)))) (s.1 inside p.0)
      (λ flow h. if_next-good flow (in_sequence (map stmt_does (map (λ (k : ManyStmt). k.0) ss))) (stmts-good ss inside p.1))

  abbrev blocks_of : List (NumExpr × ManyBlock) → List (NumExpr × TypedBlock)
  blocks_of arms = map (former-TypedStmt-If-0-at-2.map ManyBlock TypedBlock (λ k. k.0)) arms

  abbrev arms_made : Bool → List (NumExpr × ManyBlock) → List TreePart
  arms_made inside arms = joined (map (λ (arm : NumExpr × (Bool → List TreePart)). arm_parts (arm.0, arm.1 inside)) (map (former-TypedStmt-If-0-at-2.map TypedBlock (Bool → List TreePart) block_parts) (blocks_of arms)))

  arms-good : (arms : List (NumExpr × ManyBlock)) (inside : Bool) (otherwise : Does Flow) → Fits v (arms_made inside arms) → Does_good Free otherwise →
      Does_good Free (first_arm (map arm_does (map (former-TypedStmt-If-0-at-2.map TypedBlock (Does Flow) block_does) (blocks_of arms))) otherwise)
  arms-good [] inside otherwise fit p = p
  arms-good (arm ∷ arms) inside otherwise fit p =
      let one = halves (arm_parts (arm.0, block_parts arm.1.0 inside)) (arms_made inside arms) fit in
      let two = halves (num_parts arm.0) (block_parts arm.1.0 inside) one.0 in
      if_holds-good setting fine (scene_in v) Free (number_does arm.0) (block_does arm.1.0) _ (num_good v setting served fine arm.0 two.0) (arm.1.1 inside two.1) (arms-good arms inside otherwise one.1 p)

  abbrev stmt_of : TypedStmt-F ManyStmt ManyBlock → TypedStmt-F TypedStmt TypedBlock
  stmt_of h = map-TypedStmt ManyStmt ManyBlock TypedStmt TypedBlock (λ k. k.0) (λ k. k.0) h

  number-good : (e : Option NumExpr) → Fits v (number_parts e) → Does_good Free (number_or_one e)
  number-good None fit = given-good setting fine (scene_in v) Free (pos 1) tt
  number-good (Some e) fit = num_good v setting served fine e fit

  abbrev Keyed : List AnyExpr → List Value → Type 0
  Keyed keys = HasShape (key_shapes (map made_of keys))

  stmt_case : (h : TypedStmt-F ManyStmt ManyBlock) (inside : Bool) → Fits v (tree.stmt_layer (map-TypedStmt TypedStmt TypedBlock (Bool → List TreePart) (Bool → List TreePart) stmt_parts block_parts (stmt_of h)) inside) →
      Does_good Free (stmt_by_parts (map-TypedStmt TypedStmt TypedBlock (Does Flow) (Does Flow) stmt_does block_does (stmt_of h)))
  stmt_case (TypedStmt-F.SetVar var value) inside fit =
      bind-good setting fine (scene_in v) (IsOfShape (made_of value).shape) Free (value_does value) _ (any_good v setting served fine value (tail (tree.VarOf var (made_of value).shape) (made_of value).parts fit)) (λ x h. plain-good (changed _) (changed-good setting fine (scene_in v) _))
  stmt_case (TypedStmt-F.SetMap m keys value) inside fit =
      let p = halves (parts_in (map made_of keys)) (made_of value).parts (tail (tree.MapOf m.0 (key_shapes (map made_of keys)) (made_of value).shape) (parts_in (map made_of keys) ++ (made_of value).parts) fit) in
      let found = valued v setting m _ (made_of value).shape served (set_head v m (map made_of keys) (made_of value) fit) in
      bind-good setting fine (scene_in v) (Keyed keys) Free (in_order (values_do keys)) _ (keys-good keys p.0)
      (λ key shaped. bind-good setting fine (scene_in v) (IsOfShape (made_of value).shape) Free (value_does value) _ (any_good v setting served fine value p.1)
      (λ x h. plain-good (set m key x) (told-good setting fine (scene_in v) (part m key) (ops.Set key x) (set_can setting m _ (made_of value).shape key x found shaped h) tt)))
  stmt_case (TypedStmt-F.UpdateVar var op e) inside fit =
      bind-good setting fine (scene_in v) Free Free (number_does e) _ (num_good v setting served fine e (tail (tree.VarOf var shapes.Int) (num_parts e) fit))
      (λ b h. bind-good setting fine (scene_in v) Free Free _ _ (looked_at-good setting fine (scene_in v) _) (λ a i. plain-good (changed _) (changed-good setting fine (scene_in v) _)))
  stmt_case (TypedStmt-F.UpdateMap m keys op e) inside fit =
      let p = halves (parts_in (map made_of keys)) (num_parts e) (tail (tree.MapOf m.0 (key_shapes (map made_of keys)) shapes.Int) (parts_in (map made_of keys) ++ num_parts e) fit) in
      let found = valued v setting m _ shapes.Int served (update_head v m (map made_of keys) op (num_parts e) fit) in
      bind-good setting fine (scene_in v) (Keyed keys) Free (in_order (values_do keys)) _ (keys-good keys p.0)
      (λ key shaped. bind-good setting fine (scene_in v) Free Free (number_does e) _ (num_good v setting served fine e p.1)
      (λ b h. bind-good setting fine (scene_in v) Free Free (get m key) _ (get-good setting fine (scene_in v) m key (get_can setting m _ shapes.Int key found shaped))
      (λ old i. plain-good (set m key (Int _)) (told-good setting fine (scene_in v) (part m key) (ops.Set key (Int _)) (set_can setting m _ shapes.Int key (Int _) found shaped tt) tt))))
  stmt_case (TypedStmt-F.Gather m keys kind number) inside fit =
      let p = halves (parts_in (map made_of keys)) (number_parts number) (tail (tree.Gathered m.0 (key_shapes (map made_of keys)) kind (is_none number)) (parts_in (map made_of keys) ++ number_parts number) fit) in
      let found = gathering v setting m _ kind served (gather_head v m (map made_of keys) kind number fit) in
      bind-good setting fine (scene_in v) (Keyed keys) Free (in_order (values_do keys)) _ (keys-good keys p.0)
      (λ key shaped. bind-good setting fine (scene_in v) Free Free (number_or_one number) _ (number-good number p.1)
      (λ n h. plain-good (add m key n) (lifted-good setting fine (scene_in v) Free (λ scene. tells (Cpu scene.actor) (ops.Add m key n))
      ((add_can v setting m _ key n served found shaped, tt), λ reply kind. tt))))
  stmt_case (TypedStmt-F.Step e) inside fit = plain-good (number_does e) (num_good v setting served fine e fit)
  stmt_case (TypedStmt-F.Printf format es) inside fit =
      let p = halves (parts_in (map made_of es)) (Ending ∷ []) (tail (tree.Printed format (key_shapes (map made_of es))) (parts_in (map made_of es) ++ Ending ∷ []) fit) in
      bind-good setting fine (scene_in v) (Keyed es) Free (in_order (values_do es)) _ (keys-good es p.0)
      (λ values h. plain-good (lifted (λ scene. tells Out (ops.Emit (items.Printf format values)))) (told-good setting fine (scene_in v) Out (ops.Emit (items.Printf format values)) tt
      (emits.printf format (key_shapes (map made_of es)) values (and_parts (fits (scope_in v) (tree.Printed format (key_shapes (map made_of es)))) _ fit).0 h)))
  stmt_case (TypedStmt-F.Print m top div) inside fit =
      let p = and_parts (fits (scope_in v) (tree.Shown m.0 top div)) true fit in
      let q = and_parts (is_there (decl_of m.0 v.body.now.maps)) (may_print top div) p.0 in print-good m top div q.0 (and_parts (int_le (pos 1) div) (nat_lt top (2 ^ 63)) q.1).0
  stmt_case (TypedStmt-F.Clear m) inside fit = clear-good m (and_parts (is_there (decl_of m.0 v.body.now.maps)) true fit).0
  stmt_case (TypedStmt-F.Zero m) inside fit = zero-good m (and_parts (is_there (decl_of m.0 v.body.now.maps)) true fit).0
  stmt_case (TypedStmt-F.Delete m keys) inside fit =
      let found = shared v setting m _ served (delete_head v m (map made_of keys) fit) in
      bind-good setting fine (scene_in v) (Keyed keys) Free (in_order (values_do keys)) _ (keys-good keys (tail (tree.Deleted m.0 (key_shapes (map made_of keys))) (parts_in (map made_of keys)) fit))
      (λ key shaped. plain-good (delete m key) (told-good setting fine (scene_in v) (part m key) (ops.Delete key) (delete_can setting m _ key found shaped) tt))
  stmt_case (TypedStmt-F.Jump jumps.Break) inside fit = flow-good Break
  stmt_case (TypedStmt-F.Jump jumps.Continue) inside fit = flow-good Continue
  stmt_case (TypedStmt-F.Jump jumps.Exit) inside fit = then-given v setting served fine (lifted (λ scene. tells Clock ops.Stop)) (λ u. _) (told-good setting fine (scene_in v) Clock ops.Stop tt tt)
  stmt_case (TypedStmt-F.Jump jumps.Return) inside fit = flow-good (Stop _)
  stmt_case (TypedStmt-F.If arms None) inside fit = arms-good arms inside (given Next) (halves (arms_made inside arms) (otherwise_parts None) fit).0 (flow-good Next)
  stmt_case (TypedStmt-F.If arms (Some b)) inside fit =
      let p = halves (arms_made inside arms) (Otherwise ∷ block_parts b.0 inside) fit in
      arms-good arms inside (block_does b.0) p.0 (b.1 inside (tail Otherwise (block_parts b.0 inside) p.1))
  stmt_case (TypedStmt-F.While test b line) inside fit =
      let p = halves (num_parts test) (block_parts b.0 true) (tail (tree.Looped line) (num_parts test ++ block_parts b.0 true) fit) in
      while-good line (number_does test) (block_does b.0) (num_good v setting served fine test p.0) (b.1 true p.1)
  stmt_case (TypedStmt-F.Unroll n b line) inside fit = turns-good n line (block_does b.0) (b.1 true (tail (tree.Unrolled n line) (block_parts b.0 true) fit))

  stmt_step : (x : TypedStmt-F TypedStmt TypedBlock) (h : TypedStmt-F ManyStmt ManyBlock) → stmt_of h ≡ x → StmtGood (roll-TypedStmt x)
  stmt_step x h e = subst (λ (y : TypedStmt-F TypedStmt TypedBlock). StmtGood (roll-TypedStmt y)) e (λ inside fit.
      subst (λ (d : Does Flow). Does_good Free d) (sym (fold-roll-TypedStmt (Does Flow) (Does Flow) stmt_by_parts block_by_parts (stmt_of h)))
      (stmt_case h inside (subst (λ (k : Bool → List TreePart). Fits v (k inside)) (fold-roll-TypedStmt (Bool → List TreePart) (Bool → List TreePart) tree.stmt_layer tree.block_layer (stmt_of h)) fit)))

  abbrev block_of : TypedBlock-F ManyStmt ManyBlock → TypedBlock-F TypedStmt TypedBlock
  block_of h = map-TypedBlock ManyStmt ManyBlock TypedStmt TypedBlock (λ k. k.0) (λ k. k.0) h

  block_step : (x : TypedBlock-F TypedStmt TypedBlock) (h : TypedBlock-F ManyStmt ManyBlock) → block_of h ≡ x → BlockGood (roll-TypedBlock x)
  block_step x h e = subst (λ (y : TypedBlock-F TypedStmt TypedBlock). BlockGood (roll-TypedBlock y)) e (λ inside fit.
      subst (λ (d : Does Flow). Does_good Free d) (sym (fold-roll-TypedBlock (Does Flow) (Does Flow) stmt_by_parts block_by_parts (block_of h)))
      (stmts-good h.stmts inside (halves (joined (map (λ (k : Bool → List TreePart). k inside) (map stmt_parts (map (λ (k : ManyStmt). k.0) h.stmts)))) (Ending ∷ []) (subst (λ (k : Bool → List TreePart). Fits v (k inside)) (fold-roll-TypedBlock (Bool → List TreePart) (Bool → List TreePart) tree.stmt_layer tree.block_layer (block_of h)) fit)).0))

  pub block_good : (b : TypedBlock) → BlockGood b
  block_good b = ind-TypedBlock StmtGood BlockGood stmt_step block_step b

  guarded-good : (predicate : Option NumExpr) (block : TypedBlock) → Fits v (predicate_parts predicate) → Fits v (block_parts block false) → Does_good Free (guarded predicate (block_does block))
  guarded-good None block fit own = block_good block false own
  guarded-good (Some e) block fit own =
      if_holds-good setting fine (scene_in v) Free (number_does e) (block_does block) (given Next) (num_good v setting served fine e (tail Otherwise (num_parts e) fit)) (block_good block false own) (flow-good Next)

  pub tree-good : Does_good Free (tree_does v.body.now.tree)
  tree-good =
      let p = halves (predicate_parts v.body.now.tree.predicate) (block_parts v.body.now.tree.block false) v.body.now.typed in
      then-given v setting served fine (guarded v.body.now.tree.predicate (block_does v.body.now.tree.block)) ending_of (guarded-good v.body.now.tree.predicate v.body.now.tree.block p.0 p.1)

-- a walk makes only calls that its port takes, and emits what is fine
pub walk-fine : (setting : Setting) (body : TypedBody) (context : Context) (payload : List ℕ) (actor actors : ℕ) (fine : Item → Type 0) → CanWalk setting body context payload actor actors
    → EmitsFine (view_of body context payload actor actors) setting fine
    → AdmitsOf (IsFineCall setting fine) setting.maps (λ ending. Unit {0}) (walk body context payload actor actors)
unfolding walk
walk-fine setting body context payload actor actors fine can emits =
    let v : View = view_of body context payload actor actors in
    Admits-bind (IsFineCall setting fine) setting.maps (λ p. Unit {0}) (λ ending. Unit {0}) (tree_does body.tree (scene_in v) (first_frame body.tree.variables)) (λ p. Ended p.0)
    (tree-good v setting (record { can = can; fine = body.fine }) fine emits (first_frame body.tree.variables)) (λ p h. tt)

-- of calls that pass two tests, each passes the other one
pub weaker-calls : {A : Type 0} (calls others : ObjectId → Op → Type 0) (maps : List MapDecl) (holds : A → Type 0) → ((object : ObjectId) (op : Op) → calls object op → others object op)
    → (t : Interaction A) → AdmitsOf calls maps holds t → AdmitsOf others maps holds t
weaker-calls calls others maps holds f (Ended a) p = p
weaker-calls calls others maps holds f (Asks call next) p = (f call.object call.op p.0, λ reply kind. weaker-calls calls others maps holds f (next reply) (p.1 reply kind))

pub walk-admits : (setting : Setting) (body : TypedBody) (context : Context) (payload : List ℕ) (actor actors : ℕ) → CanWalk setting body context payload actor actors → Admits setting (λ ending. Unit {0}) (walk body context payload actor actors)
walk-admits setting body context payload actor actors can =
    weaker-calls (IsFineCall setting (λ item. Unit {0})) (CanStep setting) setting.maps (λ ending. Unit {0}) (λ object op p. p.0) (walk body context payload actor actors)
    (walk-fine setting body context payload actor actors (λ item. Unit {0}) can (record { printf = λ format hs values named shaped. tt; rows = λ m top div replies named divides are. tt; cut = λ line. tt }))
