-- Lowering of `if` over the tree: from the block of `else` and the last arm to the first one.
use Rattle.std.proofs.Common.{◌≡◌, ℕ, zero, suc, ◌+◌, ◌*◌, ◌≤◌, ◌<◌, ◌-◌, List, [], ◌∷◌, ◌++◌, length, refl, sym, ap, ◌∙◌, subst, arith, append_assoc, Bool, true, Option, Some, None, map, drop, drop-cons, get_or}
use Rattle.std.specs.Prelude.{max}
use Rattle.std.proofs.Math.Nat.{le-max_left, le-max_right, max-le}
use Rattle.std.proofs.lemmas.List.{drop_all}
use Rattle.bt_core.specs.declared.map.Shape.TheVariants as shapes
use Rattle.typed_tree.specs.declared.expr.NumExpr.{NumExpr}
use Rattle.typed_tree.specs.declared.stmt.TypedBlock.{TypedBlock}
use Rattle.typed_tree.specs.declared.stmt.TypedStmt.{TypedStmt, fold-roll-TypedStmt}
use Rattle.typed_tree.specs.declared.stmt.TypedStmt.TheVariants as stmts
use Rattle.typed_tree.specs.declared.stmt.TypedStmt.TheOpen.{TypedStmt-F}
use Rattle.typed_tree.specs.declared.stmt.TypedStmt.TheShapes.{former-TypedStmt-If-0-at-2}
use Rattle.typed_tree.specs.Parts.{TreePart, num_parts, stmt_parts, block_parts, arm_parts, otherwise_parts, joined, Arm, Otherwise}
use Rattle.typed_tree.specs.Parts.{stmt_layer, block_layer}
use Rattle.typed_tree.specs.Scope.{Scope, all_fit}
use Rattle.walk_meaning.specs.declared.flow.Flow.{Flow}
use Rattle.walk_meaning.specs.Does.{Does}
use Rattle.walk_meaning.specs.Exprs.{number_does}
use Rattle.walk_meaning.specs.Stmts.{block_does}
use Rattle.walk_meaning.proofs.StmtDoes.{if_stmt}
use Rattle.ir_code.specs.declared.blocks.Exit.TheVariants.{Goto, Branch}
use Rattle.bt_lower.specs.declared.code.Code.{Code}
use Rattle.bt_lower.specs.declared.code.Ways.{Ways}
use Rattle.bt_lower.specs.Code.{begun, closed}
use Rattle.bt_lower.specs.Lowers.{LowersNumber, LowersStmt, LowersBlock, LowersStatement, LowersStatements, LowersInto, LowersElse, LowersArms, LowersOneArm, else_parts, else_does, else_need, arms_parts, arms_do, arms_need}
use Rattle.bt_lower.specs.Needs.{Need, need, more, greater, all_need, arm_need, number_need, stmt_need, block_need}
use Rattle.bt_lower.specs.Needs.{stmt_need_by_parts, block_need_by_parts}
use Rattle.bt_lower.proofs.Ifs.{Block-none, Block-arm, If-open}
use Rattle.bt_lower.proofs.Lists.{fit-parts, fit-head}
use Rattle.bt_lower.proofs.Single.{stmt-is as tree-is}
use Rattle.bt_lower.proofs.Stmts.{Stmt-less, Stmt-fit, Lowers-none}

-- ---- what an `if` is made of, and what it needs

abbrev arm_made : Bool → NumExpr × TypedBlock → List TreePart
arm_made inside arm = arm_parts (arm.0, block_parts arm.1 inside)

abbrev pub arm_needs : NumExpr × TypedBlock → Need
arm_needs arm = arm_need (arm.0, block_need arm.1)

parts-mapped : (inside : Bool) (arms : List (NumExpr × TypedBlock)) → map (λ (arm : NumExpr × (Bool → List TreePart)). arm_parts (arm.0, arm.1 inside)) (map (former-TypedStmt-If-0-at-2.map TypedBlock (Bool → List TreePart) block_parts) arms) ≡ map (arm_made inside) arms
parts-mapped inside [] = refl
parts-mapped inside (arm ∷ arms) = ap (λ (l : List (List TreePart)). arm_made inside arm ∷ l) (parts-mapped inside arms)

needs-mapped : (arms : List (NumExpr × TypedBlock)) → map arm_need (map (former-TypedStmt-If-0-at-2.map TypedBlock Need block_need) arms) ≡ map arm_needs arms
needs-mapped [] = refl
needs-mapped (arm ∷ arms) = ap (λ (l : List Need). arm_needs arm ∷ l) (needs-mapped arms)

pub If-parts : (arms : List (NumExpr × TypedBlock)) (o : Option TypedBlock) → stmt_parts (stmts.If arms o) ≡ arms_parts arms o
If-parts arms None = ap stmt_parts (sym (stmts.rolls-If arms None)) ∙ fold-roll-TypedStmt (Bool → List TreePart) (Bool → List TreePart) stmt_layer block_layer (TypedStmt-F.If arms None)
    ∙ (λ j inside. ap (λ (l : List (List TreePart)). joined l ++ otherwise_parts None) (parts-mapped inside arms) j)
If-parts arms (Some block) = ap stmt_parts (sym (stmts.rolls-If arms (Some block))) ∙ fold-roll-TypedStmt (Bool → List TreePart) (Bool → List TreePart) stmt_layer block_layer (TypedStmt-F.If arms (Some block))
    ∙ (λ j inside. ap (λ (l : List (List TreePart)). joined l ++ otherwise_parts (Some (block_parts block inside))) (parts-mapped inside arms) j)

pub If-need : (arms : List (NumExpr × TypedBlock)) (o : Option TypedBlock) → stmt_need (stmts.If arms o) ≡ greater (all_need (map arm_needs arms)) (else_need o)
If-need arms None = ap stmt_need (sym (stmts.rolls-If arms None)) ∙ fold-roll-TypedStmt Need Need stmt_need_by_parts block_need_by_parts (TypedStmt-F.If arms None) ∙ ap (λ (l : List Need). greater (all_need l) (need 0 0)) (needs-mapped arms)
If-need arms (Some block) = ap stmt_need (sym (stmts.rolls-If arms (Some block))) ∙ fold-roll-TypedStmt Need Need stmt_need_by_parts block_need_by_parts (TypedStmt-F.If arms (Some block)) ∙ ap (λ (l : List Need). greater (all_need l) (block_need block)) (needs-mapped arms)

If-is : (arms : List (NumExpr × TypedBlock)) (o : Option TypedBlock) (way : Ways) (c new : Code) → LowersStmt (arms_parts arms o) (arms_do arms o) (greater (all_need (map arm_needs arms)) (else_need o)) way c new → LowersStatement (stmts.If arms o) way c new
If-is arms o way c new l = tree-is (stmts.If arms o) (stmts.If arms o) (arms_parts arms o) (arms_do arms o) (greater (all_need (map arm_needs arms)) (else_need o)) way c new refl (If-parts arms o) (if_stmt (stmts.If arms o) arms o arms refl refl) (If-need arms o) l

-- ---- what `else` does

Block-fit : (ps qs : Bool → List TreePart) (d : Does Flow) (n : Need) (after : ℕ) (way : Ways) (old new : Code) (b : ℕ) → ((s : Scope) (inside : Bool) → all_fit s (qs inside) ≡ true → all_fit s (ps inside) ≡ true) → LowersBlock ps d n after way old new b → LowersBlock qs d n after way old new b
Block-fit ps qs d n after way old new b f l = record {
  grew = l.grew;
  depth = l.depth;
  slots = l.slots;
  stack = l.stack;
  does = λ bs stand most le t inside fits. l.does bs stand most le t inside (f t.scope inside fits);
  sound = λ bs stand t inside fits. l.sound bs stand t inside (f t.scope inside fits);
}

pub Else-none : (o : Option TypedBlock) (after : ℕ) (way : Ways) (c : Code) → o ≡ None → LowersElse o after way c c after
Else-none o after way c e = subst (λ (x : Option TypedBlock). LowersElse x after way c c after) (sym e) (Block-none (else_parts None) after way c)

pub Else-some : (o : Option TypedBlock) (block : TypedBlock) (after : ℕ) (way : Ways) (c new : Code) (b : ℕ) → o ≡ Some block → LowersInto block after way c new b → LowersElse o after way c new b
Else-some o block after way c new b e l = subst (λ (x : Option TypedBlock). LowersElse x after way c new b) (sym e)
    (Block-fit (block_parts block) (else_parts (Some block)) (block_does block) (block_need block) after way c new b (λ s inside h. (fit-head s Otherwise (block_parts block inside) h).1) l)

-- ---- arms

pub Arms-more : (arm : NumExpr × TypedBlock) (arms : List (NumExpr × TypedBlock)) (o : Option TypedBlock) (after second first b : ℕ) (way : Ways) (c c1 c2 c3 c4 new : Code) →
    LowersArms arms o after way c c1 second → LowersInto arm.1 after way c1 c2 first → c3 ≡ begun (Branch first second) (shapes.Int ∷ []) c2 → LowersNumber arm.0 c3 c4 → new ≡ closed c4 → b ≡ length c4.blocks → LowersArms (arm ∷ arms) o after way c new b
Arms-more arm arms o after second first b way c c1 c2 c3 c4 new ls lb e3 lt en eb =
    Block-arm (arms_parts (arm ∷ arms) o) (block_parts arm.1) (arms_parts arms o) (num_parts arm.0) (number_does arm.0) (block_does arm.1) (arms_do arms o) (number_need arm.0) (block_need arm.1) (arms_need arms o) after second first b way c c1 c2 c3 c4 new fit ls lb e3 lt en eb
  where
    fit : (s : Scope) (inside : Bool) → all_fit s (arms_parts (arm ∷ arms) o inside) ≡ true → (all_fit s (num_parts arm.0) ≡ true) × ((all_fit s (block_parts arm.1 inside) ≡ true) × (all_fit s (arms_parts arms o inside) ≡ true))
    fit s inside h =
        let own = arm_made inside arm in
        let others = joined (map (arm_made inside) arms) in
        let p = fit-parts s own (others ++ else_parts o inside) (subst (λ (l : List TreePart). all_fit s l ≡ true) (append_assoc own others (else_parts o inside)) h) in
        let q = fit-head s Arm (num_parts arm.0 ++ block_parts arm.1 inside) p.0 in
        let r = fit-parts s (num_parts arm.0) (block_parts arm.1 inside) q.1 in
        (r.0, (r.1, p.1))

-- the arms of a statement that are left to lower, and what is there of the others
pub record ArmsLeft (s : TypedStmt) (arms rest : List (NumExpr × TypedBlock)) (after : ℕ) (way : Ways) (old new : Code) (b : ℕ) : Type 0 where
  pub otherwise : Option TypedBlock
  pub is : s ≡ stmts.If arms otherwise
  pub lowered : LowersArms rest otherwise after way old new b

pub Arms-start : (s : TypedStmt) (es arms : List (NumExpr × TypedBlock)) (o : Option TypedBlock) (left after b : ℕ) (way : Ways) (c c1 new : Code) → s ≡ stmts.If es o → arms ≡ es → left ≡ length arms → c1 ≡ closed c → LowersElse o after way c1 new b →
    ArmsLeft s arms (drop left arms) after way (closed c) new b
Arms-start s es arms o left after b way c c1 new h ea e e1 l = record {
  otherwise = o;
  is = h ∙ ap (λ (x : List (NumExpr × TypedBlock)). stmts.If x o) (sym ea);
  lowered = subst (λ (x : List (NumExpr × TypedBlock)). LowersArms x o after way (closed c) new b) (sym (drop_all left arms (omega arith))) (subst (λ (x : Code). LowersElse o after way x new b) e1 l);
}

arms-next : (arms : List (NumExpr × TypedBlock)) (o : Option TypedBlock) (left : ℕ) (arm : NumExpr × TypedBlock) (after next b : ℕ) (way : Ways) (c c1 new : Code) → 0 < left → left ≤ length arms → arm ≡ get_or arms (left - 1) arm →
    LowersArms (drop left arms) o after way c c1 next → LowersOneArm (arm.0, arm.1) next after way c1 new b → LowersArms (drop (left - 1) arms) o after way c new b
arms-next arms o zero arm after next b way c c1 new some le is ls l = absurd (omega arith)
arms-next arms o (suc n) arm after next b way c c1 new some le is ls l =
    let same : suc n - 1 ≡ n = omega arith in
    let at : arm ≡ get_or arms n arm = is ∙ ap (λ (m : ℕ). get_or arms m arm) same in
    subst (λ (m : ℕ). LowersArms (drop m arms) o after way c new b) (sym same)
    (subst (λ (l : List (NumExpr × TypedBlock)). LowersArms l o after way c new b) (ap (λ (x : NumExpr × TypedBlock). x ∷ drop (suc n) arms) at ∙ sym (drop-cons arms n arm (omega arith)))
    (l (drop (suc n) arms) o c ls))

pub Arms-next : (s : TypedStmt) (arms : List (NumExpr × TypedBlock)) (left : ℕ) (arm : NumExpr × TypedBlock) (after next b : ℕ) (way : Ways) (c c1 new : Code) → 0 < left → left ≤ length arms → arm ≡ get_or arms (left - 1) arm →
    ArmsLeft s arms (drop left arms) after way c c1 next → LowersOneArm (arm.0, arm.1) next after way c1 new b → ArmsLeft s arms (drop (left - 1) arms) after way c new b
Arms-next s arms left arm after next b way c c1 new some le is ls l = record { otherwise = ls.otherwise; is = ls.is; lowered = arms-next arms ls.otherwise left arm after next b way c c1 new some le is ls.lowered l }

-- ---- the statement

arms-frame : (arms : List (NumExpr × TypedBlock)) (o : Option TypedBlock) → (arms_need arms o).frame ≤ max (all_need (map arm_needs arms)).frame (else_need o).frame
arms-frame [] o = le-max_right 0 (else_need o).frame
arms-frame (arm ∷ arms) o =
    let own = max (number_need arm.0).frame (block_need arm.1).frame in
    let others = (all_need (map arm_needs arms)).frame in
    let rest = (else_need o).frame in
    let a : own ≤ max own others = le-max_left own others in
    let b : others ≤ max own others = le-max_right own others in
    let c : max own others ≤ max (max own others) rest = le-max_left (max own others) rest in
    let d : max others rest ≤ max (max own others) rest = max-le (omega (arith, b, c)) (le-max_right (max own others) rest) in
    max-le (omega (arith, a, c)) (omega (arith, arms-frame arms o, d))

arms-code : (arms : List (NumExpr × TypedBlock)) (o : Option TypedBlock) → (arms_need arms o).code + 4 * length arms ≡ (all_need (map arm_needs arms)).code + (else_need o).code
arms-code [] o = omega arith
arms-code (arm ∷ arms) o = omega (arith, arms-code arms o)

all-arms : (arms : List (NumExpr × TypedBlock)) (o : Option TypedBlock) (after first : ℕ) (way : Ways) (c c1 c2 new : Code) → 0 < length arms → c1 ≡ closed c → after ≡ length c.blocks → LowersArms arms o after way c1 c2 first → new ≡ begun (Goto first) [] c2 → LowersStatement (stmts.If arms o) way c new
all-arms arms o after first way c c1 c2 new some e1 ea l en =
    If-is arms o way c new
    (Stmt-less (arms_parts arms o) (arms_do arms o) (more 2 (arms_need arms o)) (greater (all_need (map arm_needs arms)) (else_need o)) way c new (arms-frame arms o) (omega (arith, arms-code arms o))
    (If-open (arms_parts arms o) (arms_do arms o) (arms_need arms o) after first way c c1 c2 new e1 ea l en))

pub T-If : (s : TypedStmt) (arms : List (NumExpr × TypedBlock)) (left after first : ℕ) (way : Ways) (c c2 new : Code) → 0 < length arms → left ≡ 0 → after ≡ length c.blocks → ArmsLeft s arms (drop left arms) after way (closed c) c2 first → new ≡ begun (Goto first) [] c2 → LowersStatement s way c new
T-If s arms left after first way c c2 new some e ea l en =
    subst (λ (x : TypedStmt). LowersStatement x way c new) (sym l.is)
    (all-arms arms l.otherwise after first way c (closed c) c2 new some refl ea (subst (λ (n : ℕ). LowersArms (drop n arms) l.otherwise after way (closed c) c2 first) e l.lowered) en)

-- an `if` without any arm is its `else`
bare : (o : Option TypedBlock) (way : Ways) (c new : Code) → LowersStmt (else_parts o) (else_does o) (else_need o) way c new → LowersStatement (stmts.If [] o) way c new
bare o way c new l = If-is [] o way c new (Stmt-less (else_parts o) (else_does o) (else_need o) (greater (need 0 0) (else_need o)) way c new (le-max_right 0 (else_need o).frame) (omega arith) l)

pub T-If-none : (o : Option TypedBlock) (way : Ways) (c : Code) → o ≡ None → LowersStatement (stmts.If [] o) way c c
T-If-none o way c h = subst (λ (x : Option TypedBlock). LowersStatement (stmts.If [] x) way c c) (sym h) (bare None way c c (Lowers-none (else_parts None) way c))

pub T-If-else : (o : Option TypedBlock) (block : TypedBlock) (way : Ways) (c new : Code) → o ≡ Some block → LowersStatements block way c new → LowersStatement (stmts.If [] o) way c new
T-If-else o block way c new h l = subst (λ (x : Option TypedBlock). LowersStatement (stmts.If [] x) way c new) (sym h)
    (bare (Some block) way c new (Stmt-fit (block_parts block) (else_parts (Some block)) (block_does block) (block_need block) way c new (λ s inside f. (fit-head s Otherwise (block_parts block inside) f).1) l))

no-arms : (arms : List (NumExpr × TypedBlock)) → length arms ≡ 0 → [] ≡ arms
no-arms [] e = refl
no-arms (arm ∷ arms) e = absurd (omega arith)

pub Is-bare : (s : TypedStmt) (es arms : List (NumExpr × TypedBlock)) (o : Option TypedBlock) (way : Ways) (c new : Code) → s ≡ stmts.If es o → arms ≡ es → length arms ≡ 0 → LowersStatement (stmts.If [] o) way c new → LowersStatement s way c new
Is-bare s es arms o way c new h ea e l = subst (λ (x : TypedStmt). LowersStatement x way c new) (sym (h ∙ ap (λ (x : List (NumExpr × TypedBlock)). stmts.If x o) (sym (no-arms arms e ∙ ea)))) l
