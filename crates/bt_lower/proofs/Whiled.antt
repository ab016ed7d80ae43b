-- Lowering of `while` over the tree, from the steps by which its code is made.
use Rattle.std.proofs.Common.{◌≡◌, ℕ, List, [], ◌∷◌, ◌++◌, length, refl, sym, ap, ◌∙◌, subst, Bool, true}
use Rattle.bt_core.specs.declared.map.Shape.TheVariants as shapes
use Rattle.typed_tree.specs.declared.expr.NumExpr.{NumExpr}
use Rattle.typed_tree.specs.declared.stmt.TypedBlock.{TypedBlock}
use Rattle.typed_tree.specs.declared.stmt.TypedStmt.TheVariants as stmts
use Rattle.typed_tree.specs.Parts.{TreePart, num_parts, block_parts, Looped}
use Rattle.typed_tree.specs.Scope.{Scope, all_fit}
use Rattle.walk_meaning.specs.Exprs.{number_does}
use Rattle.walk_meaning.specs.Stmts.{block_does, while_true}
use Rattle.ir_code.specs.declared.blocks.Exit.TheVariants.{Branch}
use Rattle.bt_lower.specs.declared.code.Code.{Code}
use Rattle.bt_lower.specs.declared.code.Ways.{Ways}
use Rattle.bt_lower.specs.Code.{begun, closed, reserved, gated, patched, with_cut}
use Rattle.bt_lower.specs.Lowers.{LowersStmt, LowersNumber, LowersInto, LowersStatement}
use Rattle.bt_lower.specs.Needs.{more, greater, number_need, block_need}
use Rattle.bt_lower.proofs.Forms as form
use Rattle.bt_lower.proofs.Lists.{fit-parts, fit-head}
use Rattle.bt_lower.proofs.Single.{stmt-is}
use Rattle.bt_lower.proofs.Whiles.{Lowers-loop}

pub T-While : (t : NumExpr) (block : TypedBlock) (line leave cut again turn first head : ℕ) (way : Ways) (c c1 c2 c3 c4 c5 c6 c7 c8 c9 new : Code) →
    c1 ≡ closed c → leave ≡ length c.blocks → c2 ≡ with_cut line c1 → cut ≡ length c1.blocks → c3 ≡ reserved c2 → again ≡ length c2.blocks →
    LowersInto block again (record { leave = leave; again = again }) c3 c4 turn →
    c5 ≡ gated turn cut c4 → c6 ≡ closed c5 → first ≡ length c5.blocks → c7 ≡ begun (Branch first leave) (shapes.Int ∷ []) c6 → LowersNumber t c7 c8 →
    c9 ≡ closed c8 → head ≡ length c8.blocks → new ≡ patched again head c9 → LowersStatement (stmts.While t block line) way c new
T-While t block line leave cut again turn first head way c c1 c2 c3 c4 c5 c6 c7 c8 c9 new e1 el e2 ec e3 ea lb e5 e6 ef e7 lt e9 eh en =
    stmt-is (stmts.While t block line) (stmts.While t block line) qs (while_true line (number_does t) (block_does block)) (more 24 (greater (number_need t) (block_need block))) way c new refl (form.While-parts t block line) (form.While-does t block line) (form.While-need t block line)
    (subst (λ (x : Code). LowersStmt qs (while_true line (number_does t) (block_does block)) (more 24 (greater (number_need t) (block_need block))) way c x) (sym made)
    (Lowers-loop qs (block_parts block) (num_parts t) (block_does block) (number_does t) (block_need block) (number_need t) line turn way c c4 c8 fit inside tested))
  where
    qs : Bool → List TreePart
    qs = λ inside. Looped line ∷ (num_parts t ++ block_parts block true)

    fit : (s : Scope) (inside : Bool) → all_fit s (qs inside) ≡ true → (all_fit s (num_parts t) ≡ true) × (all_fit s (block_parts block true) ≡ true)
    fit s inside h = fit-parts s (num_parts t) (block_parts block true) (fit-head s (Looped line) (num_parts t ++ block_parts block true) h).1

    -- the code behind the cut, and the place where a turn ends
    second : c2 ≡ with_cut line (closed c)
    second = e2 ∙ ap (with_cut line) e1

    place : again ≡ length (with_cut line (closed c)).blocks
    place = ea ∙ ap (λ (x : Code). length x.blocks) second

    inside : LowersInto block (length (with_cut line (closed c)).blocks) (record { leave = length c.blocks; again = length (with_cut line (closed c)).blocks }) (reserved (with_cut line (closed c))) c4 turn
    inside =
        subst (λ (x : Code). LowersInto block (length (with_cut line (closed c)).blocks) (record { leave = length c.blocks; again = length (with_cut line (closed c)).blocks }) x c4 turn) (e3 ∙ ap reserved second)
        (subst (λ (n : ℕ). LowersInto block n (record { leave = length c.blocks; again = n }) c3 c4 turn) place
        (subst (λ (n : ℕ). LowersInto block again (record { leave = n; again = again }) c3 c4 turn) el lb))

    gate : c5 ≡ gated turn (length (closed c).blocks) c4
    gate = e5 ∙ ap (λ (n : ℕ). gated turn n c4) (ec ∙ ap (λ (x : Code). length x.blocks) e1)

    head-opens : c7 ≡ begun (Branch (length c4.blocks) (length c.blocks)) (shapes.Int ∷ []) (closed (gated turn (length (closed c).blocks) c4))
    head-opens =
        e7 ∙ ap (λ (n : ℕ). begun (Branch n leave) (shapes.Int ∷ []) c6) (ef ∙ ap (λ (x : Code). length x.blocks) gate)
        ∙ ap (λ (n : ℕ). begun (Branch (length c4.blocks) n) (shapes.Int ∷ []) c6) el
        ∙ ap (begun (Branch (length c4.blocks) (length c.blocks)) (shapes.Int ∷ [])) (e6 ∙ ap closed gate)

    tested : LowersNumber t (begun (Branch (length c4.blocks) (length c.blocks)) (shapes.Int ∷ []) (closed (gated turn (length (closed c).blocks) c4))) c8
    tested = subst (λ (x : Code). LowersNumber t x c8) head-opens lt

    made : new ≡ patched (length (with_cut line (closed c)).blocks) (length c8.blocks) (closed c8)
    made = en ∙ ap (λ (n : ℕ). patched n head c9) place ∙ ap (λ (n : ℕ). patched (length (with_cut line (closed c)).blocks) n c9) eh ∙ ap (patched (length (with_cut line (closed c)).blocks) (length c8.blocks)) e9
