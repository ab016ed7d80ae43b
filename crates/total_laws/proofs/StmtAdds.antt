-- What statements and whole bodies add, in two scenes that are alike.
use Rattle.std.proofs.Common.{◌≡◌, ◌++◌, ◌+◌, ℕ, zero, suc, ℤ, List, [], ◌∷◌, Bool, true, false, map, refl, sym, ap, subst}
use Rattle.std.specs.Prelude.{Option, Some, None}
use Rattle.bt_core.specs.declared.context.Context.{Context}
use Rattle.bt_core.specs.declared.item.Item.TheVariants as items
use Rattle.bt_core.specs.declared.map.MapId.{MapId}
use Rattle.bt_core.specs.declared.map.MapKind.{MapKind}
use Rattle.bt_core.specs.declared.map.MapKind.TheVariants.{Ints, Strs, Aggs}
use Rattle.bt_core.specs.declared.step.ObjectId.{ObjectId}
use Rattle.bt_core.specs.declared.step.ObjectId.TheVariants.{Out}
use Rattle.bt_core.specs.declared.step.Op.{Op}
use Rattle.bt_core.specs.declared.step.Op.TheVariants as ops
use Rattle.bt_core.specs.declared.step.Reply.{Reply}
use Rattle.bt_core.specs.Interaction.{Interaction, Ended}
use Rattle.map_rows.specs.Merged.{merged}
use Rattle.typed_tree.specs.declared.body.TypedBody.{TypedBody}
use Rattle.typed_tree.specs.declared.expr.NumExpr.{NumExpr}
use Rattle.typed_tree.specs.declared.stmt.Jump.TheVariants as jumps
use Rattle.typed_tree.specs.declared.stmt.TypedBlock.{TypedBlock, roll-TypedBlock, map-TypedBlock, fold-roll-TypedBlock, ind-TypedBlock}
use Rattle.typed_tree.specs.declared.stmt.TypedStmt.{TypedStmt, roll-TypedStmt, map-TypedStmt, fold-roll-TypedStmt}
use Rattle.typed_tree.specs.declared.stmt.TypedStmt.TheOpen.{TypedStmt-F, TypedBlock-F}
use Rattle.typed_tree.specs.declared.stmt.TypedStmt.TheShapes.{former-TypedStmt-If-0-at-2}
use Rattle.typed_tree.specs.Bodies.{predicate_parts, tree_parts}
use Rattle.typed_tree.specs.Parts as tree
use Rattle.typed_tree.specs.Parts.{TreePart, made_of, num_parts, parts_in, stmt_parts, block_parts, arm_parts, otherwise_parts, joined, number_parts, Ending, Otherwise}
use Rattle.bt_meaning.specs.Totals.{Addition, added}
use Rattle.walk_meaning.specs.declared.flow.Flow.{Flow}
use Rattle.walk_meaning.specs.declared.flow.Flow.TheVariants.{Next, Break, Continue, Stop}
use Rattle.walk_meaning.specs.declared.flow.Frame.{Frame}
use Rattle.map_ops.specs.declared.sweep.Sweep.TheVariants.{Read}
use Rattle.walk_meaning.specs.Does.{BodyScene, Does, given, changed, lifted, bind, in_order}
use Rattle.walk_meaning.specs.Exprs.{value_does, values_do, number_does}
use Rattle.walk_meaning.specs.Maps.{kind_in_body, add}
use Rattle.map_ops.specs.Holders.{holder, holders, sweep_op}
use Rattle.map_ops.specs.Asking.{tells, asked_from, swept, printed}
use Rattle.walk_meaning.specs.Stmts.{plain, stmt_by_parts, block_by_parts, stmt_does, block_does, number_or_one, print, if_next, in_sequence, first_arm, arm_does, cut, entered, turn, turns, tests, while_true, again}
use Rattle.walk_meaning.specs.Walk.{walk, first_frame, guarded, ending_of, tree_does}
use Rattle.total_laws.proofs.Adding.{is_plain, Gives, gives-then}
use Rattle.total_laws.proofs.ExprAdds.{Sure, given-sure, looked_at-sure, changed-sure, bind-sure, told-sure, add-sure, if_holds-sure, then-given, front, back, num_sure, any_sure, values-sure}
use Rattle.total_laws.proofs.Quiet.{AreLike, AreQuiet}

module _ (m : MapId) (one two : BodyScene) (like : AreLike one two) where
  abbrev Gets : {A : Type 0} → Does A → Type 0
  Gets d = Sure m one two like d

  abbrev Calm : List TreePart → Type 0
  Calm parts = AreQuiet one two parts

  flow-sure : (flow : Flow) → Gets (given flow)
  flow-sure flow = given-sure m one two like flow

  plain-sure : {A : Type 0} (d : Does A) → Gets d → Gets (plain d)
  plain-sure d p = then-given m one two like d (λ u. Next) p

  -- ---- `print`: the replies reach only what is emitted

  -- the steps of an actor add nothing
  abbrev JustReads : ℕ → {A : Type 0} → Interaction A → Type 0
  JustReads actor t = Gives m actor [] (λ a. Unit {0}) t

  asked_from-reads : (actor : ℕ) (object : ℕ → ObjectId) (op : Op) (replies : List Reply) (first n : ℕ)
      → ((i : ℕ) → is_plain actor (object i) op) → added m op ≡ [] → JustReads actor (asked_from object op replies first n)
  asked_from-reads actor object op replies first zero fine none = (refl, tt)
  asked_from-reads actor object op replies first (suc n) fine none =
      (fine first, [], sym (ap (λ (l : List Addition). l ++ []) none), λ r. asked_from-reads actor object op (replies ++ r ∷ []) (first + 1) n fine none)

  read_plain : (actor : ℕ) (kind : MapKind) (number : MapId) (i : ℕ) → is_plain actor (holder kind number i) (sweep_op Read kind number)
  read_plain actor Ints number i = tt
  read_plain actor Strs number i = tt
  read_plain actor (Aggs kind) number i = tt

  read_none : (kind : MapKind) (number : MapId) → added m (sweep_op Read kind number) ≡ []
  read_none Ints number = refl
  read_none Strs number = refl
  read_none (Aggs kind) number = refl

  swept-reads : (actor : ℕ) (kind : MapKind) (number : MapId) (actors : ℕ) → JustReads actor (swept Read kind number actors)
  swept-reads actor kind number actors =
      asked_from-reads actor (holder kind number) (sweep_op Read kind number) [] 0 (holders kind actors) (read_plain actor kind number) (read_none kind number)

  printed-reads : (actor : ℕ) (kind : MapKind) (number : MapId) (top : ℕ) (div : ℤ) (actors : ℕ) → JustReads actor (printed kind number top div actors)
  printed-reads actor kind number top div actors =
      gives-then m actor [] [] (λ (rs : List Reply). Unit {0}) (λ (u : Unit {0}). Unit {0}) (swept Read kind number actors)
      (λ replies. tells Out (ops.Emit (items.Map number (merged kind replies) top div))) (swept-reads actor kind number actors) (λ replies h. (tt, [], refl, λ r. (refl, tt)))

  reads-sure : (ask : BodyScene → Interaction (Unit {0})) → JustReads one.actor (ask one) → JustReads two.actor (ask two) → Gets (lifted ask)
  unfolding lifted
  reads-sure ask p q frame = (
    [],
    (tt, frame),
    gives-then m one.actor [] [] (λ (u : Unit {0}). Unit {0}) (λ (z : Unit {0} × Frame). z ≡ (tt, frame)) (ask one) (λ u. Ended (u, frame)) p (λ u h. (refl, refl)),
    gives-then m two.actor [] [] (λ (u : Unit {0}). Unit {0}) (λ (z : Unit {0} × Frame). z ≡ (tt, frame)) (ask two) (λ u. Ended (u, frame)) q (λ u h. (refl, refl)),
  )

  print-sure : (number : MapId) (top : ℕ) (div : ℤ) → Gets (print number top div)
  print-sure number top div =
      plain-sure (lifted (λ scene. printed (kind_in_body number scene.maps) number top div scene.actors))
      (reads-sure (λ scene. printed (kind_in_body number scene.maps) number top div scene.actors)
      (printed-reads one.actor (kind_in_body number one.maps) number top div one.actors) (printed-reads two.actor (kind_in_body number two.maps) number top div two.actors))

  -- ---- loops

  cut-sure : (line : ℕ) → Gets (cut line)
  cut-sure line = then-given m one two like (lifted (λ scene. tells Out (ops.Emit (items.Cut line)))) (λ u. _) (told-sure m one two like Out (ops.Emit (items.Cut line)) tt tt)

  entered-sure : (line : ℕ) (block : Does Flow) (n : ℕ) → Gets block → Gets (entered line block n)
  entered-sure line block zero p = cut-sure line
  entered-sure line block (suc left) p = bind-sure m one two like (changed _) (λ u. block) (changed-sure m one two like _) (λ u. p)

  turn-sure : (line : ℕ) (block : Does Flow) → Gets block → Gets (turn line block)
  turn-sure line block p = bind-sure m one two like _ (entered line block) (looked_at-sure m one two like _ (λ frame. refl)) (λ n. entered-sure line block n p)

  again-sure : (flow : Flow) (rest : Does Flow) → Gets rest → Gets (again flow rest)
  again-sure Next rest p = p
  again-sure Break rest p = flow-sure Next
  again-sure Continue rest p = p
  again-sure (Stop e) rest p = flow-sure (Stop e)

  turns-sure : (n line : ℕ) (block : Does Flow) → Gets block → Gets (turns n line block)
  turns-sure zero line block p = flow-sure Next
  turns-sure (suc n) line block p = bind-sure m one two like (turn line block) (λ flow. again flow (turns n line block)) (turn-sure line block p)
      (λ flow. again-sure flow (turns n line block) (turns-sure n line block p))

  tests-sure : (n line : ℕ) (test : Does ℤ) (block : Does Flow) → Gets test → Gets block → Gets (tests n line test block)
  tests-sure zero line test block t p = flow-sure Next
  tests-sure (suc n) line test block t p =
      if_holds-sure m one two like test (bind (turn line block) (λ flow. again flow (tests n line test block))) (given Next) t
      (bind-sure m one two like (turn line block) (λ flow. again flow (tests n line test block)) (turn-sure line block p)
      (λ flow. again-sure flow (tests n line test block) (tests-sure n line test block t p)))
      (flow-sure Next)

  while-sure : (line : ℕ) (test : Does ℤ) (block : Does Flow) → Gets test → Gets block → Gets (while_true line test block)
  while-sure line test block t p =
      bind-sure m one two like _ (λ left. tests (suc left) line test block) (looked_at-sure m one two like _ (λ frame. refl)) (λ left. tests-sure (suc left) line test block t p)

  if_next-sure : (flow : Flow) (rest : Does Flow) → Gets rest → Gets (if_next flow rest)
  if_next-sure Next rest p = p
  if_next-sure Break rest p = flow-sure Break
  if_next-sure Continue rest p = flow-sure Continue
  if_next-sure (Stop e) rest p = flow-sure (Stop e)

  -- ---- trees

  abbrev StmtSure : TypedStmt → Type 0
  StmtSure s = (inside : Bool) → Calm (stmt_parts s inside) → Gets (stmt_does s)

  abbrev BlockSure : TypedBlock → Type 0
  BlockSure b = (inside : Bool) → Calm (block_parts b inside) → Gets (block_does b)

  abbrev ManyStmt : Type 0
  ManyStmt = (s : TypedStmt) × StmtSure s

  abbrev ManyBlock : Type 0
  ManyBlock = (b : TypedBlock) × BlockSure b

  abbrev parts_of_all : Bool → List ManyStmt → List TreePart
  parts_of_all inside ss = joined (map (λ (k : Bool → List TreePart). k inside) (map stmt_parts (map (λ (k : ManyStmt). k.0) ss)))

  stmts-sure : (ss : List ManyStmt) (inside : Bool) → Calm (parts_of_all inside ss) → Gets (in_sequence (map stmt_does (map (λ (k : ManyStmt). k.0) ss)))
  stmts-sure [] inside q = flow-sure Next
  stmts-sure (s ∷ ss) inside q =
      let rest = in_sequence (map stmt_does (map (λ (k : ManyStmt). k.0) ss)) in
      let first = front m one two like (stmt_parts s.0 inside) (parts_of_all inside ss) q in
      let others = back m one two like (stmt_parts s.0 inside) (parts_of_all inside ss) q in
      bind-sure m one two like (stmt_does s.0) (λ flow. if_next flow rest) (s.1 inside first) (λ flow. if_next-sure flow rest (stmts-sure ss inside others))

  abbrev blocks_of : List (NumExpr × ManyBlock) → List (NumExpr × TypedBlock)
  blocks_of arms = map (former-TypedStmt-If-0-at-2.map ManyBlock TypedBlock (λ k. k.0)) arms

  abbrev arms_made : Bool → List (NumExpr × ManyBlock) → List TreePart
  arms_made inside arms =
      joined (map (λ (arm : NumExpr × (Bool → List TreePart)). arm_parts (arm.0, arm.1 inside)) (map (former-TypedStmt-If-0-at-2.map TypedBlock (Bool → List TreePart) block_parts) (blocks_of arms)))

  arms-sure : (arms : List (NumExpr × ManyBlock)) (inside : Bool) (otherwise : Does Flow) → Calm (arms_made inside arms) → Gets otherwise
      → Gets (first_arm (map arm_does (map (former-TypedStmt-If-0-at-2.map TypedBlock (Does Flow) block_does) (blocks_of arms))) otherwise)
  arms-sure [] inside otherwise q p = p
  arms-sure (arm ∷ arms) inside otherwise q p =
      let here = front m one two like (arm_parts (arm.0, block_parts arm.1.0 inside)) (arms_made inside arms) q in
      let others = back m one two like (arm_parts (arm.0, block_parts arm.1.0 inside)) (arms_made inside arms) q in
      if_holds-sure m one two like (number_does arm.0) (block_does arm.1.0) _
      (num_sure m one two like arm.0 (front m one two like (num_parts arm.0) (block_parts arm.1.0 inside) here.1))
      (arm.1.1 inside (back m one two like (num_parts arm.0) (block_parts arm.1.0 inside) here.1))
      (arms-sure arms inside otherwise others p)

  abbrev stmt_of : TypedStmt-F ManyStmt ManyBlock → TypedStmt-F TypedStmt TypedBlock
  stmt_of h = map-TypedStmt ManyStmt ManyBlock TypedStmt TypedBlock (λ k. k.0) (λ k. k.0) h

  number-sure : (e : Option NumExpr) → Calm (number_parts e) → Gets (number_or_one e)
  number-sure None q = given-sure m one two like _
  number-sure (Some e) q = num_sure m one two like e q

  emit-sure : (op : Op) → is_plain one.actor Out op → is_plain two.actor Out op → Gets (plain (lifted (λ scene. tells Out op)))
  emit-sure op p q = plain-sure (lifted (λ scene. tells Out op)) (told-sure m one two like Out op p q)

  stmt_case : (h : TypedStmt-F ManyStmt ManyBlock) (inside : Bool)
      → Calm (tree.stmt_layer (map-TypedStmt TypedStmt TypedBlock (Bool → List TreePart) (Bool → List TreePart) stmt_parts block_parts (stmt_of h)) inside)
      → Gets (stmt_by_parts (map-TypedStmt TypedStmt TypedBlock (Does Flow) (Does Flow) stmt_does block_does (stmt_of h)))
  stmt_case (TypedStmt-F.SetVar var value) inside q =
      bind-sure m one two like (value_does value) _ (any_sure m one two like value q.1.1) (λ x. plain-sure (changed _) (changed-sure m one two like _))
  stmt_case (TypedStmt-F.SetMap n keys value) inside q = absurd q.1.0
  stmt_case (TypedStmt-F.UpdateVar var op e) inside q =
      bind-sure m one two like (number_does e) _ (num_sure m one two like e q.1.1)
      (λ b. bind-sure m one two like _ _ (looked_at-sure m one two like _ (λ frame. refl)) (λ a. plain-sure (changed _) (changed-sure m one two like _)))
  stmt_case (TypedStmt-F.UpdateMap n keys op e) inside q = absurd q.1.0
  stmt_case (TypedStmt-F.Gather n keys kind number) inside q =
      bind-sure m one two like (in_order (values_do keys)) _ (values-sure m one two like keys [] (front m one two like (parts_in (map made_of keys)) (number_parts number) q.1))
      (λ key. bind-sure m one two like (number_or_one number) _ (number-sure number (back m one two like (parts_in (map made_of keys)) (number_parts number) q.1))
      (λ x. plain-sure (add n key x) (add-sure m one two like n key x)))
  stmt_case (TypedStmt-F.Step e) inside q = plain-sure (number_does e) (num_sure m one two like e q)
  stmt_case (TypedStmt-F.Printf format es) inside q =
      bind-sure m one two like (in_order (values_do es)) _ (values-sure m one two like es [] (front m one two like (parts_in (map made_of es)) (Ending ∷ []) q.1))
      (λ values. emit-sure (ops.Emit (items.Printf format values)) tt tt)
  stmt_case (TypedStmt-F.Print n top div) inside q = print-sure n top div
  stmt_case (TypedStmt-F.Clear n) inside q = absurd q.0
  stmt_case (TypedStmt-F.Zero n) inside q = absurd q.0
  stmt_case (TypedStmt-F.Delete n keys) inside q = absurd q.0
  stmt_case (TypedStmt-F.Jump jumps.Break) inside q = flow-sure Break
  stmt_case (TypedStmt-F.Jump jumps.Continue) inside q = flow-sure Continue
  stmt_case (TypedStmt-F.Jump jumps.Exit) inside q = absurd q.0
  stmt_case (TypedStmt-F.Jump jumps.Return) inside q = flow-sure (Stop _)
  stmt_case (TypedStmt-F.If arms None) inside q = arms-sure arms inside (given Next) (front m one two like (arms_made inside arms) (otherwise_parts None) q) (flow-sure Next)
  stmt_case (TypedStmt-F.If arms (Some b)) inside q =
      arms-sure arms inside (block_does b.0) (front m one two like (arms_made inside arms) (Otherwise ∷ block_parts b.0 inside) q)
      (b.1 inside (back m one two like (arms_made inside arms) (Otherwise ∷ block_parts b.0 inside) q).1)
  stmt_case (TypedStmt-F.While test b line) inside q =
      while-sure line (number_does test) (block_does b.0) (num_sure m one two like test (front m one two like (num_parts test) (block_parts b.0 true) q.1))
      (b.1 true (back m one two like (num_parts test) (block_parts b.0 true) q.1))
  stmt_case (TypedStmt-F.Unroll n b line) inside q = turns-sure n line (block_does b.0) (b.1 true q.1)

  stmt_step : (x : TypedStmt-F TypedStmt TypedBlock) (h : TypedStmt-F ManyStmt ManyBlock) → stmt_of h ≡ x → StmtSure (roll-TypedStmt x)
  stmt_step x h e = subst (λ (y : TypedStmt-F TypedStmt TypedBlock). StmtSure (roll-TypedStmt y)) e (λ inside q.
      subst (λ (d : Does Flow). Gets d) (sym (fold-roll-TypedStmt (Does Flow) (Does Flow) stmt_by_parts block_by_parts (stmt_of h)))
      (stmt_case h inside (subst (λ (k : Bool → List TreePart). Calm (k inside)) (fold-roll-TypedStmt (Bool → List TreePart) (Bool → List TreePart) tree.stmt_layer tree.block_layer (stmt_of h)) q)))

  abbrev block_of : TypedBlock-F ManyStmt ManyBlock → TypedBlock-F TypedStmt TypedBlock
  block_of h = map-TypedBlock ManyStmt ManyBlock TypedStmt TypedBlock (λ k. k.0) (λ k. k.0) h

  block_step : (x : TypedBlock-F TypedStmt TypedBlock) (h : TypedBlock-F ManyStmt ManyBlock) → block_of h ≡ x → BlockSure (roll-TypedBlock x)
  block_step x h e = subst (λ (y : TypedBlock-F TypedStmt TypedBlock). BlockSure (roll-TypedBlock y)) e (λ inside q.
      subst (λ (d : Does Flow). Gets d) (sym (fold-roll-TypedBlock (Does Flow) (Does Flow) stmt_by_parts block_by_parts (block_of h)))
      (stmts-sure h.stmts inside (front m one two like (parts_of_all inside h.stmts) (Ending ∷ [])
      (subst (λ (k : Bool → List TreePart). Calm (k inside)) (fold-roll-TypedBlock (Bool → List TreePart) (Bool → List TreePart) tree.stmt_layer tree.block_layer (block_of h)) q))))

  block_sure : (b : TypedBlock) → BlockSure b
  block_sure b = ind-TypedBlock StmtSure BlockSure stmt_step block_step b

  guarded-sure : (predicate : Option NumExpr) (block : TypedBlock) → Calm (predicate_parts predicate) → Calm (block_parts block false) → Gets (guarded predicate (block_does block))
  guarded-sure None block q own = block_sure block false own
  guarded-sure (Some e) block q own =
      if_holds-sure m one two like (number_does e) (block_does block) (given Next) (num_sure m one two like e q.1) (block_sure block false own) (flow-sure Next)

-- what a walk adds, in two contexts that are alike but for `cpu`, and by two actors
pub record Walks (m : MapId) (body : TypedBody) (one two : Context) (payload : List ℕ) (a b actors : ℕ) : Type 0 where
  pub entries : List Addition
  pub first : Gives m a entries (λ ending. Unit {0}) (walk body one payload a actors)
  pub second : Gives m b entries (λ ending. Unit {0}) (walk body two payload b actors)

abbrev pub scene_of : TypedBody → Context → List ℕ → ℕ → ℕ → BodyScene
scene_of body context payload actor actors = record { context = context; payload = payload; actor = actor; actors = actors; maps = body.maps }

pub walks_add : (m : MapId) (body : TypedBody) (one two : Context) (payload : List ℕ) (a b actors : ℕ)
    → AreLike (scene_of body one payload a actors) (scene_of body two payload b actors)
    → AreQuiet (scene_of body one payload a actors) (scene_of body two payload b actors) (tree_parts body.tree) → Walks m body one two payload a b actors
unfolding walk
walks_add m body one two payload a b actors like quiet =
    let first = scene_of body one payload a actors in
    let second = scene_of body two payload b actors in
    let sure : Sure m first second like (tree_does body.tree) =
    then-given m first second like (guarded body.tree.predicate (block_does body.tree.block)) ending_of
    (guarded-sure m first second like body.tree.predicate body.tree.block
    (front m first second like (predicate_parts body.tree.predicate) (block_parts body.tree.block false) quiet)
    (back m first second like (predicate_parts body.tree.predicate) (block_parts body.tree.block false) quiet)) in
    let x = sure (first_frame body.tree.variables) in record {
      entries = x.0 ++ [];
      first = gives-then m a x.0 [] (λ p. p ≡ x.1) (λ ending. Unit {0}) (tree_does body.tree first (first_frame body.tree.variables)) (λ p. Ended p.0) x.2 (λ p e. (refl, tt));
      second = gives-then m b x.0 [] (λ p. p ≡ x.1) (λ ending. Unit {0}) (tree_does body.tree second (first_frame body.tree.variables)) (λ p. Ended p.0) x.3 (λ p e. (refl, tt));
    }
