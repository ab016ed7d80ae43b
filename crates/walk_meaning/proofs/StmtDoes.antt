-- What a statement of each kind does and which parts it has, by what its blocks do and have.
use Rattle.std.proofs.Common.{◌≡◌, ◌++◌, ℕ, zero, suc, ◌<◌, length, ℤ, Bool, List, [], ◌∷◌, Option, Some, None, map, option_map, refl, sym, ap, ◌∙◌, subst, arith}
use Rattle.std.specs.Prelude.{get_or}
use Rattle.std.proofs.lemmas.Bool.{and_parts}
use Rattle.std.proofs.lemmas.List.Folds.{list_all-append}
use Rattle.bt_core.specs.declared.map.MapId.{MapId}
use Rattle.typed_tree.specs.declared.expr.NumExpr.{NumExpr}
use Rattle.typed_tree.specs.declared.stmt.TypedBlock.{TypedBlock, fold_out-TypedBlock, out-TypedBlock}
use Rattle.typed_tree.specs.declared.stmt.TypedStmt.{TypedStmt, fold-roll-TypedStmt}
use Rattle.typed_tree.specs.declared.stmt.TypedStmt.TheVariants as stmts
use Rattle.typed_tree.specs.declared.stmt.TypedStmt.TheOpen.{TypedStmt-F}
use Rattle.typed_tree.specs.declared.stmt.TypedStmt.TheShapes.{former-TypedStmt-If-0-at-2}
use Rattle.typed_tree.specs.Parts as tree
use Rattle.typed_tree.specs.Parts.{TreePart, num_parts, stmt_parts, block_parts, Ending, arm_parts, otherwise_parts, option_inside, joined}
use Rattle.typed_tree.specs.Scope.{fits, all_fit}
use Rattle.walk_meaning.specs.declared.flow.Flow.{Flow}
use Rattle.walk_meaning.specs.declared.flow.Flow.TheVariants.{Next}
use Rattle.walk_meaning.specs.declared.view.View.{View}
use Rattle.walk_meaning.specs.Does.{Does, given}
use Rattle.walk_meaning.specs.Exprs.{number_does}
use Rattle.walk_meaning.specs.Stmts.{stmt_by_parts, block_by_parts, stmt_does, block_does, print, first_arm, block_or_next, in_sequence, arm_does}
use Rattle.walk_meaning.specs.Served.{Fits, StmtFits, BlockFits, scope_in}

pub print_stmt : (s : TypedStmt) (m : MapId) (top : ℕ) (div : ℤ) → s ≡ stmts.Print m top div → stmt_does s ≡ print m top div
print_stmt s m top div h = ap stmt_does h ∙ (ap stmt_does (sym (stmts.rolls-Print m top div)) ∙ fold-roll-TypedStmt (Does Flow) (Does Flow) stmt_by_parts block_by_parts (TypedStmt-F.Print m top div))

-- ---- arms

abbrev pub arm_of : NumExpr × TypedBlock → Does ℤ × Does Flow
arm_of arm = (number_does arm.0, block_does arm.1)

arms_mapped : (arms : List (NumExpr × TypedBlock)) → map arm_does (map (former-TypedStmt-If-0-at-2.map TypedBlock (Does Flow) block_does) arms) ≡ map arm_of arms
arms_mapped [] = refl
arms_mapped (arm ∷ arms) = ap (λ (l : List (Does ℤ × Does Flow)). arm_of arm ∷ l) (arms_mapped arms)

if_is : (arms : List (NumExpr × TypedBlock)) (otherwise : Option TypedBlock) → stmt_does (stmts.If arms otherwise) ≡ first_arm (map arm_of arms) (block_or_next (option_map block_does otherwise))
if_is arms None = ap stmt_does (sym (stmts.rolls-If arms None)) ∙ (fold-roll-TypedStmt (Does Flow) (Does Flow) stmt_by_parts block_by_parts (TypedStmt-F.If arms None)
    ∙ ap (λ (l : List (Does ℤ × Does Flow)). first_arm l (given Next)) (arms_mapped arms))
if_is arms (Some block) = ap stmt_does (sym (stmts.rolls-If arms (Some block))) ∙ (fold-roll-TypedStmt (Does Flow) (Does Flow) stmt_by_parts block_by_parts (TypedStmt-F.If arms (Some block))
    ∙ ap (λ (l : List (Does ℤ × Does Flow)). first_arm l (block_does block)) (arms_mapped arms))

pub if_stmt : (s : TypedStmt) (arms : List (NumExpr × TypedBlock)) (otherwise : Option TypedBlock) (arms1 : List (NumExpr × TypedBlock)) → s ≡ stmts.If arms otherwise → arms1 ≡ arms →
    stmt_does s ≡ first_arm (map arm_of arms1) (block_or_next (option_map block_does otherwise))
if_stmt s arms otherwise arms1 h e = ap stmt_does h ∙ if_is arms otherwise ∙ ap (λ (l : List (NumExpr × TypedBlock)). first_arm (map arm_of l) (block_or_next (option_map block_does otherwise))) (sym e)

-- the parts of an arm
abbrev arm_made : Bool → NumExpr × TypedBlock → List TreePart
arm_made inside arm = arm_parts (arm.0, block_parts arm.1 inside)

parts_mapped : (inside : Bool) (arms : List (NumExpr × TypedBlock)) → map (λ (arm : NumExpr × (Bool → List TreePart)). arm_parts (arm.0, arm.1 inside)) (map (former-TypedStmt-If-0-at-2.map TypedBlock (Bool → List TreePart) block_parts) arms) ≡ map (arm_made inside) arms
parts_mapped inside [] = refl
parts_mapped inside (arm ∷ arms) = ap (λ (l : List (List TreePart)). arm_made inside arm ∷ l) (parts_mapped inside arms)

if_parts : (inside : Bool) (arms : List (NumExpr × TypedBlock)) (otherwise : Option TypedBlock) → stmt_parts (stmts.If arms otherwise) inside ≡ joined (map (arm_made inside) arms) ++ otherwise_parts (option_inside inside (option_map block_parts otherwise))
if_parts inside arms None = ap (λ (k : Bool → List TreePart). k inside) (ap stmt_parts (sym (stmts.rolls-If arms None)) ∙ fold-roll-TypedStmt (Bool → List TreePart) (Bool → List TreePart) tree.stmt_layer tree.block_layer (TypedStmt-F.If arms None))
    ∙ ap (λ (l : List (List TreePart)). joined l ++ otherwise_parts None) (parts_mapped inside arms)
if_parts inside arms (Some block) = ap (λ (k : Bool → List TreePart). k inside) (ap stmt_parts (sym (stmts.rolls-If arms (Some block))) ∙ fold-roll-TypedStmt (Bool → List TreePart) (Bool → List TreePart) tree.stmt_layer tree.block_layer (TypedStmt-F.If arms (Some block)))
    ∙ ap (λ (l : List (List TreePart)). joined l ++ otherwise_parts (Some (block_parts block inside))) (parts_mapped inside arms)

split : (v : View) (a b : List TreePart) → Fits v (a ++ b) → Fits v a × Fits v b
split v a b h = let p = and_parts (all_fit (scope_in v) a) (all_fit (scope_in v) b) (sym (list_all-append (fits (scope_in v)) a b) ∙ h) in (p.0, p.1)

one_joined : {A : Type 0} (v : View) (f : A → List TreePart) (xs : List A) (n : ℕ) (x : A) → n < length xs → x ≡ get_or xs n x → Fits v (joined (map f xs)) → Fits v (f x)
one_joined v f [] n x h i fit = absurd (omega (arith, h))
one_joined v f (y ∷ ys) zero x h i fit = subst (λ z. Fits v (f z)) (sym i) (split v (f y) (joined (map f ys)) fit).0
one_joined v f (y ∷ ys) (suc n) x h i fit = one_joined v f ys n x (omega (arith, h)) i (split v (f y) (joined (map f ys)) fit).1

pub arms_fit : (v : View) (s : TypedStmt) (arms : List (NumExpr × TypedBlock)) (otherwise : Option TypedBlock) (arms1 : List (NumExpr × TypedBlock)) (n : ℕ) (arm : NumExpr × TypedBlock) → s ≡ stmts.If arms otherwise → arms1 ≡ arms →
    n < length arms1 → arm ≡ get_or arms1 n arm → StmtFits v s → Fits v (num_parts arm.0) × BlockFits v arm.1
arms_fit v s arms otherwise arms1 n arm h e l i fit =
    let all : Fits v (joined (map (arm_made fit.0) arms) ++ otherwise_parts (option_inside fit.0 (option_map block_parts otherwise))) = subst (λ (p : List TreePart). Fits v p) (ap (λ (x : TypedStmt). stmt_parts x fit.0) h ∙ if_parts fit.0 arms otherwise) fit.1 in
    let own : Fits v (joined (map (arm_made fit.0) arms1)) = subst (λ (x : List (NumExpr × TypedBlock)). Fits v (joined (map (arm_made fit.0) x))) (sym e) (split v (joined (map (arm_made fit.0) arms)) (otherwise_parts (option_inside fit.0 (option_map block_parts otherwise))) all).0 in
    let one : Fits v (arm_made fit.0 arm) = one_joined v (arm_made fit.0) arms1 n arm l i own in
    let two = split v (num_parts arm.0) (block_parts arm.1 fit.0) one in
    (two.0, (fit.0, two.1))

pub otherwise_fits : (v : View) (s : TypedStmt) (arms : List (NumExpr × TypedBlock)) (otherwise : Option TypedBlock) (block : TypedBlock) → s ≡ stmts.If arms otherwise → otherwise ≡ Some block → StmtFits v s → BlockFits v block
otherwise_fits v s arms otherwise block h e fit =
    let all : Fits v (joined (map (arm_made fit.0) arms) ++ otherwise_parts (option_inside fit.0 (option_map block_parts (Some block)))) =
    subst (λ (p : List TreePart). Fits v p) (ap (λ (x : TypedStmt). stmt_parts x fit.0) h ∙ if_parts fit.0 arms otherwise ∙ ap (λ (o : Option TypedBlock). joined (map (arm_made fit.0) arms) ++ otherwise_parts (option_inside fit.0 (option_map block_parts o))) e) fit.1 in
    (fit.0, (split v (joined (map (arm_made fit.0) arms)) (otherwise_parts (Some (block_parts block fit.0))) all).1)

-- ---- blocks

pub block_is : (b : TypedBlock) → block_does b ≡ in_sequence (map stmt_does (out-TypedBlock b).stmts)
block_is b = fold_out-TypedBlock (Does Flow) (Does Flow) stmt_by_parts block_by_parts b

block_made : (b : TypedBlock) → block_parts b ≡ (λ inside. joined (map (λ (k : Bool → List TreePart). k inside) (map stmt_parts (out-TypedBlock b).stmts)) ++ Ending ∷ [])
block_made b = fold_out-TypedBlock (Bool → List TreePart) (Bool → List TreePart) tree.stmt_layer tree.block_layer b

insides : (inside : Bool) (ss : List TypedStmt) → map (λ (k : Bool → List TreePart). k inside) (map stmt_parts ss) ≡ map (λ (s : TypedStmt). stmt_parts s inside) ss
insides inside [] = refl
insides inside (s ∷ ss) = ap (λ (l : List (List TreePart)). stmt_parts s inside ∷ l) (insides inside ss)

pub stmts_fit : (v : View) (b : TypedBlock) (ss : List TypedStmt) (n : ℕ) (s : TypedStmt) → ss ≡ (out-TypedBlock b).stmts → n < length ss → s ≡ get_or ss n s → BlockFits v b → StmtFits v s
stmts_fit v b ss n s e l i fit =
    let all : Fits v (joined (map (λ (x : TypedStmt). stmt_parts x fit.0) (out-TypedBlock b).stmts) ++ Ending ∷ []) =
    subst (λ (p : List TreePart). Fits v p) (ap (λ (k : Bool → List TreePart). k fit.0) (block_made b) ∙ ap (λ (x : List (List TreePart)). joined x ++ Ending ∷ []) (insides fit.0 (out-TypedBlock b).stmts)) fit.1 in
    let own : Fits v (joined (map (λ (x : TypedStmt). stmt_parts x fit.0) ss)) =
    subst (λ (x : List TypedStmt). Fits v (joined (map (λ (y : TypedStmt). stmt_parts y fit.0) x))) (sym e) (split v (joined (map (λ (x : TypedStmt). stmt_parts x fit.0) (out-TypedBlock b).stmts)) (Ending ∷ []) all).0 in
    (fit.0, one_joined v (λ (x : TypedStmt). stmt_parts x fit.0) ss n s l i own)
