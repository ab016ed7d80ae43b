-- The run of a body's blocks is its walk.
use Rattle.std.proofs.Common.{◌≡◌, ℕ, suc, ◌+◌, ◌-◌, ◌*◌, ◌≤◌, List, [], ◌∷◌, ◌++◌, length, refl, sym, ap, ◌∙◌, subst, arith, Bool, true, false, Option, Some, None}
use Rattle.std.specs.Prelude.{slice_get}
use Rattle.std.proofs.Math.Nat.{max-le, le-max_left, le-max_right}
use Rattle.bt_core.specs.declared.ending.Ending.TheVariants.{End as AtEnd}
use Rattle.bt_core.specs.declared.map.Shape.TheVariants as shapes
use Rattle.bt_core.specs.Interaction.{Ended, and_then}
use Rattle.bt_core.proofs.InteractionLaws.{and_then_assoc}
use Rattle.typed_tree.specs.declared.body.TypedTree.{TypedTree}
use Rattle.typed_tree.specs.declared.expr.NumExpr.{NumExpr}
use Rattle.typed_tree.specs.declared.stmt.TypedBlock.{TypedBlock}
use Rattle.typed_tree.specs.Parts.{TreePart, Otherwise, NoOtherwise, num_parts, block_parts}
use Rattle.typed_tree.specs.Scope.{all_fit}
use Rattle.walk_meaning.specs.declared.flow.Flow.{Flow}
use Rattle.walk_meaning.specs.declared.flow.Flow.TheVariants.{Next}
use Rattle.walk_meaning.specs.declared.flow.Frame.{Frame}
use Rattle.walk_meaning.specs.Does.{Does, given, bind}
use Rattle.walk_meaning.specs.Does.{BodyScene}
use Rattle.walk_meaning.specs.Exprs.{number_does}
use Rattle.walk_meaning.specs.Stmts.{block_does}
use Rattle.walk_meaning.specs.Walk.{guarded, ending_of}
use Rattle.ir_code.specs.declared.blocks.Block.{Block}
use Rattle.ir_code.specs.declared.blocks.Exit.TheVariants.{Goto, Branch}
use Rattle.ir_code.specs.Figures.{sizes_of, blocks_slots}
use Rattle.ir_code.specs.Meaning.{blocks_run, run_from}
use Rattle.ir_code.specs.Serving.{payload_need}
use Rattle.ir_code.specs.Typing.{stack_in, are_typed}
use Rattle.ir_code.specs.Ways.{depth_in, depth_at, lead_forward}
use Rattle.bt_lower.specs.declared.code.Code.{Code}
use Rattle.bt_lower.specs.declared.code.Ways.{Ways}
use Rattle.bt_lower.specs.Bodies.{guarded_parts, guarded_need, LowersGuarded, LowersTree}
use Rattle.bt_lower.specs.Code.{nothing, begun, closed, open_block, code_slots}
use Rattle.bt_lower.specs.Lowers.{Stand, Grew, Runs, Reaches, state, seen_by, fuel, LowersNumber, LowersBlock, LowersStmt}
use Rattle.bt_lower.specs.Needs.{Need, need, number_need, block_need}
use Rattle.bt_lower.specs.Sound.{ground_in, Site, HasRoom, Opens, Sound, Target}
use Rattle.bt_lower.proofs.Accepted.{all-pass-tests, lead-passes, typed-passes}
use Rattle.bt_lower.proofs.Blocks.{Grew-trans, Grew-one, Stand-later, Stand-before, Reaches-close, Reaches-more, closed-length, here-closed}
use Rattle.bt_lower.proofs.Ifs.{Block-none, Block-arm, If-open}
use Rattle.bt_lower.proofs.Lists.{fit-parts, fit-head}
use Rattle.bt_lower.proofs.Opening.{Room-less, Sound-join, Sound-close, Target-close}
use Rattle.bt_lower.proofs.Slots.{slots-closed}
use Rattle.bt_lower.proofs.Stmts.{Stmt-less, Stmt-fit}

-- ---- a predicate, and the statements that it guards

pub Guarded-none : (predicate : Option NumExpr) (block : TypedBlock) (way : Ways) (c new : Code) → predicate ≡ None → LowersStmt (block_parts block) (block_does block) (block_need block) way c new → LowersGuarded predicate block way c new
Guarded-none predicate block way c new e l =
    subst (λ (p : Option NumExpr). LowersGuarded p block way c new) (sym e)
    (Stmt-less (guarded_parts None block) (block_does block) (block_need block) (guarded_need None block) way c new (le-max_right 0 (block_need block).frame) (omega arith)
    (Stmt-fit (block_parts block) (guarded_parts None block) (block_does block) (block_need block) way c new (λ s inside h. (fit-head s NoOtherwise (block_parts block inside) h).1) l))

pub Guarded-some : (predicate : Option NumExpr) (e : NumExpr) (block : TypedBlock) (after first head : ℕ) (way : Ways) (c c1 c2 c3 c4 c5 new : Code) → predicate ≡ Some e → c1 ≡ closed c → after ≡ length c.blocks →
    LowersBlock (block_parts block) (block_does block) (block_need block) after way c1 c2 first → c3 ≡ begun (Branch first after) (shapes.Int ∷ []) c2 → LowersNumber e c3 c4 → c5 ≡ closed c4 → head ≡ length c4.blocks → new ≡ begun (Goto head) [] c5 →
    LowersGuarded predicate block way c new
Guarded-some predicate e block after first head way c c1 c2 c3 c4 c5 new is e1 ea lb e3 lt e5 eh en =
    subst (λ (p : Option NumExpr). LowersGuarded p block way c new) (sym is)
    (Stmt-less (guarded_parts (Some e) block) (guarded (Some e) (block_does block)) _ (guarded_need (Some e) block) way c new
    (max-le (omega arith) (omega (arith, le-max_left (number_need e).frame (block_need block).frame))) (omega arith)
    (If-open (guarded_parts (Some e) block) (guarded (Some e) (block_does block)) _ after head way c c1 c5 new e1 ea
    (Block-arm (guarded_parts (Some e) block) (block_parts block) (block_parts block) (num_parts e) (number_does e) (block_does block) (given Next) (number_need e) (block_need block) (need 0 0) after after first head way c1 c1 c2 c3 c4 c5
    (λ s inside h.
    let p = fit-parts s (num_parts e) (block_parts block inside) (fit-head s Otherwise (num_parts e ++ block_parts block inside) h).1 in
    (p.0, (p.1, p.1)))
    (Block-none (block_parts block) after way c1) lb e3 lt e5 eh) en))

-- ---- a whole body

module _ (parts : Bool → List TreePart) (d : Does Flow) (n : Need) (c : Code) (l : LowersStmt parts d n (record { leave = 0; again = 0 }) (closed nothing) c) where
  abbrev bs : List Block
  bs = (closed c).blocks

  all-stand : Stand 0 (closed c).blocks (closed c).blocks
  all-stand = record { at = λ b h g. refl }

  grown : Grew (closed nothing).blocks (closed c).blocks
  grown = Grew-trans _ _ _ l.grew (Grew-one c.blocks (open_block c))

  end-stands : Stand 0 (closed nothing).blocks (closed c).blocks
  end-stands = Stand-before 0 (closed nothing).blocks (closed c).blocks (closed c).blocks grown all-stand

  stmt-stands : Stand (length (closed nothing).blocks) c.blocks (closed c).blocks
  stmt-stands = Stand-later 0 (length (closed nothing).blocks) _ _ (omega arith) (Stand-before 0 c.blocks (closed c).blocks (closed c).blocks (Grew-one c.blocks (open_block c)) all-stand)

  last-stands : Stand (length c.blocks) (closed c).blocks (closed c).blocks
  last-stands = Stand-later 0 (length c.blocks) _ _ (omega arith) all-stand

  size : length (closed c).blocks ≡ length c.blocks + 1
  size = closed-length c

  start : length (closed c).blocks - 1 ≡ length c.blocks
  start = omega (arith, size)

  first-block : slice_get (closed c).blocks (length (closed c).blocks - 1) ≡ Some (open_block c)
  first-block = ap (λ (m : ℕ). slice_get (closed c).blocks m) start ∙ here-closed (closed c).blocks c last-stands

  outer : depth_at (closed c).blocks (length (closed c).blocks - 1) ≡ 0
  outer = ap depth_in first-block ∙ l.depth

  empty : stack_in (slice_get (closed c).blocks (length (closed c).blocks - 1)) ≡ []
  empty = ap stack_in first-block ∙ l.stack

  pub body-slots : blocks_slots (closed c).blocks + 4 ≤ 32 + n.code
  unfolding code_slots
  body-slots = omega (arith, slots-closed c, slots-closed nothing, l.slots)

  module _ (t : Site) (fits : all_fit t.scope (parts false) ≡ true) where
    module _ (w : BodyScene) (same : w.maps ≡ t.scope.maps) (frame : Frame) where
      ends : (x : Frame) → Reaches (closed c).blocks 0 1 (seen_by t.ground.maps w) (state x []) (Ended AtEnd)
      ends x = Reaches-close (closed c).blocks nothing 0 (seen_by t.ground.maps w) (state x []) (Ended AtEnd) end-stands (record { by = λ m h. refl })

      far : (x : Frame) → Reaches (closed c).blocks 0 (fuel (length (closed c).blocks) (closed nothing) x.turns) (seen_by t.ground.maps w) (state x []) (Ended AtEnd)
      far x = Reaches-more (closed c).blocks _ _ _ (seen_by t.ground.maps w) _ _ (omega arith) (ends x)

      does : Runs (closed c).blocks c (fuel (length (closed c).blocks) c frame.turns) (seen_by t.ground.maps w) (state frame []) (and_then (d w frame) (λ p. Ended (ending_of p.0)))
      does = l.does (closed c).blocks stmt-stands (length (closed c).blocks) (omega (arith, size)) t false fits w same frame [] (λ p. Ended (ending_of p.0)) (record {
        next = λ x h. record { by = λ m g. (far x).by m g };
        leave = λ x h. far x;
        again = λ x h. far x;
        stop = λ e x. refl;
      })

      pub body-runs : blocks_run (closed c).blocks (seen_by t.ground.maps w) (state frame []) ≡ and_then (d w frame) (λ p. Ended (ending_of p.0))
      body-runs =
          let reach = Reaches-close (closed c).blocks c (fuel (length (closed c).blocks) c frame.turns) (seen_by t.ground.maps w) (state frame []) (and_then (d w frame) (λ p. Ended (ending_of p.0))) last-stands does in
          let flat : (frame.turns + c.depth) * length (closed c).blocks ≡ frame.turns * length (closed c).blocks = (let e : frame.turns + c.depth ≡ frame.turns = omega (arith, l.depth) in ap (λ (m : ℕ). m * length (closed c).blocks) e) in
          let turns : (frame.turns + 1) * length (closed c).blocks ≡ frame.turns * length (closed c).blocks + length (closed c).blocks = (let e : frame.turns + 1 ≡ suc frame.turns = omega arith in ap (λ (m : ℕ). m * length (closed c).blocks) e ∙ omega arith) in
          ap (λ (b : ℕ). run_from (closed c).blocks ((frame.turns + 1) * length (closed c).blocks) (seen_by t.ground.maps w) b (state frame [])) start
          ∙ reach.by ((frame.turns + 1) * length (closed c).blocks) (omega (arith, flat, turns, size))

    module _ (room : HasRoom t.ground n.frame) where
      none : HasRoom t.ground (sizes_of [])
      none = Room-less t.ground _ _ (omega arith) room

      end : Target (closed c).blocks (length (closed nothing).blocks) 0 [] 0
      end = Target-close (closed c).blocks nothing (length (closed nothing).blocks) 0 end-stands (omega arith) (omega arith)

      inner : Opens t.ground (closed c).blocks c × Sound t.ground (closed c).blocks (length (closed nothing).blocks) (length c.blocks)
      inner = l.sound (closed c).blocks stmt-stands t false fits (Room-less t.ground _ _ (omega arith) room) (record { leaves = end; goes_on = end }) (record { after = []; turns = (refl, none); leads = end })

      sound : Sound t.ground (closed c).blocks 0 (length (closed c).blocks)
      sound =
          Sound-join t.ground (closed c).blocks 0 (length (closed nothing).blocks) (length (closed c).blocks)
          (Sound-close t.ground (closed c).blocks nothing end-stands (record { after = []; turns = (refl, none); leads = tt }))
          (Sound-join t.ground (closed c).blocks (length (closed nothing).blocks) (length c.blocks) (length (closed c).blocks) inner.1 (Sound-close t.ground (closed c).blocks c last-stands inner.0))

      pub body-leads : lead_forward (closed c).blocks ≡ true
      body-leads = lead-passes t.ground (closed c).blocks (omega (arith, size)) outer sound

      pub body-reads : payload_need (closed c).blocks ≤ t.ground.payload
      body-reads = (all-pass-tests t.ground (closed c).blocks sound).read

      pub body-typed : are_typed (ground_in t.ground) (closed c).blocks ≡ true
      body-typed = typed-passes t.ground (closed c).blocks empty sound

-- a whole tree, from the steps
pub Tree-steps : (tree : TypedTree) (c0 c1 c c2 : Code) (end : ℕ) → c0 ≡ nothing → c1 ≡ closed c0 → end ≡ length c0.blocks → LowersGuarded tree.predicate tree.block (record { leave = end; again = end }) c1 c → c2 ≡ closed c → LowersTree tree c2.blocks
unfolding bind given
Tree-steps tree c0 c1 c c2 end e0 e1 ee l0 e2 =
    let first : c1 ≡ closed nothing = e1 ∙ ap closed e0 in
    let last : end ≡ 0 = ee ∙ ap (λ (x : Code). length x.blocks) e0 in
    let l1 = subst (λ (m : ℕ). LowersGuarded tree.predicate tree.block (record { leave = m; again = m }) c1 c) last l0 in
    let l = subst (λ (x : Code). LowersGuarded tree.predicate tree.block (record { leave = 0; again = 0 }) x c) first l1 in
    subst (λ (x : Code). LowersTree tree x.blocks) (sym e2) (record {
      runs = λ t fits w same frame. body-runs (guarded_parts tree.predicate tree.block) (guarded tree.predicate (block_does tree.block)) (guarded_need tree.predicate tree.block) c l t fits w same frame ∙ sym (and_then_assoc (guarded tree.predicate (block_does tree.block) w frame) (λ p. Ended (ending_of p.0, p.1)) (λ p. Ended p.0));
      leads = λ t place. body-leads (guarded_parts tree.predicate tree.block) (guarded tree.predicate (block_does tree.block)) (guarded_need tree.predicate tree.block) c l t place.named place.room;
      typed = λ t place. body-typed (guarded_parts tree.predicate tree.block) (guarded tree.predicate (block_does tree.block)) (guarded_need tree.predicate tree.block) c l t place.named place.room;
      reads = λ t place. body-reads (guarded_parts tree.predicate tree.block) (guarded tree.predicate (block_does tree.block)) (guarded_need tree.predicate tree.block) c l t place.named place.room;
      slots = body-slots (guarded_parts tree.predicate tree.block) (guarded tree.predicate (block_does tree.block)) (guarded_need tree.predicate tree.block) c l;
    })
