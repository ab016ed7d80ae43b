-- Lowering of statements one after another, from the last one to the first.
use Rattle.std.proofs.Common.{◌≡◌, ℕ, zero, suc, ◌≤◌, ◌<◌, ◌-◌, List, [], ◌∷◌, ◌++◌, length, refl, sym, ap, ◌∙◌, subst, arith, Bool, map, drop, drop-cons, get_or}
use Rattle.std.proofs.lemmas.List.{drop_all}
use Rattle.typed_tree.specs.declared.stmt.TypedBlock.{TypedBlock, fold_out-TypedBlock, out-TypedBlock}
use Rattle.typed_tree.specs.declared.stmt.TypedStmt.{TypedStmt}
use Rattle.typed_tree.specs.Parts.{TreePart, stmt_parts, block_parts, joined, Ending}
use Rattle.typed_tree.specs.Parts.{stmt_layer, block_layer}
use Rattle.walk_meaning.specs.declared.flow.Flow.{Flow}
use Rattle.walk_meaning.specs.Does.{Does}
use Rattle.walk_meaning.specs.Stmts.{stmt_does, block_does, in_sequence}
use Rattle.walk_meaning.proofs.StmtDoes.{block_is as block-does}
use Rattle.bt_lower.specs.declared.code.Code.{Code}
use Rattle.bt_lower.specs.declared.code.Ways.{Ways}
use Rattle.bt_lower.specs.Lowers.{LowersStmt, LowersStatement, LowersStatements}
use Rattle.bt_lower.specs.Needs.{Need, all_need, stmt_need, block_need}
use Rattle.bt_lower.specs.Needs.{stmt_need_by_parts, block_need_by_parts}
use Rattle.bt_lower.proofs.Lists.{fit-parts}
use Rattle.bt_lower.proofs.Stmts.{Stmt-fit, Lowers-none, Lowers-then}

abbrev rest_parts : List TypedStmt → Bool → List TreePart
rest_parts ss inside = joined (map (λ (s : TypedStmt). stmt_parts s inside) ss)

-- the new code does these statements of the tree
abbrev pub LowersRest : List TypedStmt → Ways → Code → Code → Type 0
LowersRest ss way old new = LowersStmt (rest_parts ss) (in_sequence (map stmt_does ss)) (all_need (map stmt_need ss)) way old new

Rest-more : (s : TypedStmt) (ss : List TypedStmt) (way : Ways) (c c1 new : Code) → LowersRest ss way c c1 → LowersStatement s way c1 new → LowersRest (s ∷ ss) way c new
Rest-more s ss way c c1 new ls l = Lowers-then (stmt_parts s) (rest_parts ss) (rest_parts (s ∷ ss)) (stmt_does s) (map stmt_does ss) (stmt_need s) (all_need (map stmt_need ss)) way c c1 new (λ scope inside f. fit-parts scope (stmt_parts s inside) (rest_parts ss inside) f) ls l

pub Rest-start : (ss : List TypedStmt) (left : ℕ) (way : Ways) (c : Code) → left ≡ length ss → LowersRest (drop left ss) way c c
Rest-start ss left way c e = subst (λ (l : List TypedStmt). LowersRest l way c c) (sym (drop_all left ss (omega arith))) (Lowers-none (rest_parts []) way c)

pub Rest-next : (ss : List TypedStmt) (left : ℕ) (s : TypedStmt) (way : Ways) (c c1 new : Code) → 0 < left → left ≤ length ss → s ≡ get_or ss (left - 1) s → LowersRest (drop left ss) way c c1 → LowersStatement s way c1 new → LowersRest (drop (left - 1) ss) way c new
Rest-next ss zero s way c c1 new some le is ls l = absurd (omega arith)
Rest-next ss (suc n) s way c c1 new some le is ls l =
    let same : suc n - 1 ≡ n = omega arith in
    let at : s ≡ get_or ss n s = is ∙ ap (λ (m : ℕ). get_or ss m s) same in
    subst (λ (m : ℕ). LowersRest (drop m ss) way c new) (sym same)
    (subst (λ (x : List TypedStmt). LowersRest x way c new) (ap (λ (x : TypedStmt). x ∷ drop (suc n) ss) at ∙ sym (drop-cons ss n s (omega arith)))
    (Rest-more s (drop (suc n) ss) way c c1 new ls l))

insides : (inside : Bool) (ss : List TypedStmt) → map (λ (k : Bool → List TreePart). k inside) (map stmt_parts ss) ≡ map (λ (s : TypedStmt). stmt_parts s inside) ss
insides inside [] = refl
insides inside (s ∷ ss) = ap (λ (l : List (List TreePart)). stmt_parts s inside ∷ l) (insides inside ss)

pub Block-parts : (b : TypedBlock) → block_parts b ≡ (λ (inside : Bool). rest_parts (out-TypedBlock b).stmts inside ++ Ending ∷ [])
Block-parts b = fold_out-TypedBlock (Bool → List TreePart) (Bool → List TreePart) stmt_layer block_layer b ∙ (λ j inside. ap (λ (l : List (List TreePart)). joined l ++ Ending ∷ []) (insides inside (out-TypedBlock b).stmts) j)

pub Block-need : (b : TypedBlock) → block_need b ≡ all_need (map stmt_need (out-TypedBlock b).stmts)
Block-need b = fold_out-TypedBlock Need Need stmt_need_by_parts block_need_by_parts b

-- all statements of a block
pub Rest-end : (b : TypedBlock) (ss : List TypedStmt) (left : ℕ) (way : Ways) (c new : Code) → left ≡ 0 → ss ≡ (out-TypedBlock b).stmts → LowersRest (drop left ss) way c new → LowersStatements b way c new
Rest-end b ss left way c new e es l0 =
    let l = subst (λ (x : List TypedStmt). LowersRest x way c new) es (subst (λ (n : ℕ). LowersRest (drop n ss) way c new) e l0) in
    let ps = rest_parts (out-TypedBlock b).stmts in
    let qs : Bool → List TreePart = λ inside. ps inside ++ Ending ∷ [] in
    let d = in_sequence (map stmt_does (out-TypedBlock b).stmts) in
    let n = all_need (map stmt_need (out-TypedBlock b).stmts) in
    subst (λ (q : Bool → List TreePart). LowersStmt q (block_does b) (block_need b) way c new) (sym (Block-parts b))
    (subst (λ (q : Does Flow). LowersStmt qs q (block_need b) way c new) (sym (block-does b))
    (subst (λ (q : Need). LowersStmt qs d q way c new) (sym (Block-need b))
    (Stmt-fit ps qs d n way c new (λ s inside f. (fit-parts s (ps inside) (Ending ∷ []) f).0) l)))
