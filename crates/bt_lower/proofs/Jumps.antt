-- Lowering of jumps, by the tree; and of statements whose lemma speaks of another name of the same tree.
use Rattle.std.proofs.Common.{◌≡◌, [], ◌∷◌, sym, ap, subst}
use Rattle.bt_core.specs.declared.ending.Ending.TheVariants.{Return, Exit as Exited}
use Rattle.typed_tree.specs.declared.stmt.Jump.{Jump}
use Rattle.typed_tree.specs.declared.stmt.Jump.TheVariants as jumps
use Rattle.typed_tree.specs.declared.stmt.TypedStmt.{TypedStmt}
use Rattle.typed_tree.specs.declared.stmt.TypedStmt.TheVariants as stmts
use Rattle.typed_tree.specs.Parts.{Jumped}
use Rattle.walk_meaning.specs.Stmts.{jump_to}
use Rattle.ir_code.specs.declared.blocks.Exit.TheVariants.{Goto, End}
use Rattle.ir_code.specs.declared.instr.Instr.TheVariants as i
use Rattle.bt_lower.specs.declared.code.Code.{Code}
use Rattle.bt_lower.specs.declared.code.Ways.{Ways}
use Rattle.bt_lower.specs.Code.{begun, pushed}
use Rattle.bt_lower.specs.Lowers.{LowersStmt, LowersStatement, LowersSingle}
use Rattle.bt_lower.specs.Needs.{jump_need}
use Rattle.bt_lower.proofs.Forms as form
use Rattle.bt_lower.proofs.Single.{stmt-is}
use Rattle.bt_lower.proofs.Stmts.{Lowers-break, Lowers-continue, Lowers-return, Lowers-exit}

jump-is : (jump to : Jump) (way : Ways) (c new : Code) → jump ≡ to → LowersStmt (λ inside. Jumped to inside ∷ []) (jump_to to) (jump_need to) way c new → LowersStatement (stmts.Jump jump) way c new
jump-is jump to way c new e l = stmt-is (stmts.Jump jump) (stmts.Jump to) (λ inside. Jumped to inside ∷ []) (jump_to to) (jump_need to) way c new (ap stmts.Jump e) (form.Jump-parts to) (form.Jump-does to) (form.Jump-need to) l

pub T-Break : (jump : Jump) (way : Ways) (c new : Code) → jump ≡ jumps.Break → new ≡ begun (Goto way.leave) [] c → LowersStatement (stmts.Jump jump) way c new
T-Break jump way c new h e = jump-is jump jumps.Break way c new h (Lowers-break (λ inside. Jumped jumps.Break inside ∷ []) way c new e)

pub T-Continue : (jump : Jump) (way : Ways) (c new : Code) → jump ≡ jumps.Continue → new ≡ begun (Goto way.again) [] c → LowersStatement (stmts.Jump jump) way c new
T-Continue jump way c new h e = jump-is jump jumps.Continue way c new h (Lowers-continue (λ inside. Jumped jumps.Continue inside ∷ []) way c new e)

pub T-Return : (jump : Jump) (way : Ways) (c new : Code) → jump ≡ jumps.Return → new ≡ begun (End Return) [] c → LowersStatement (stmts.Jump jump) way c new
T-Return jump way c new h e = jump-is jump jumps.Return way c new h (Lowers-return (λ inside. Jumped jumps.Return inside ∷ []) way c new e)

pub T-Exit : (jump : Jump) (way : Ways) (c c1 new : Code) → jump ≡ jumps.Exit → c1 ≡ begun (End Exited) [] c → new ≡ pushed i.Stop c1 → LowersStatement (stmts.Jump jump) way c new
T-Exit jump way c c1 new h e1 e = jump-is jump jumps.Exit way c new h (Lowers-exit (λ inside. Jumped jumps.Exit inside ∷ []) way c c1 new e1 e)

-- a statement is what it is said to be
pub Same-single : (s x : TypedStmt) (way : Ways) (c new : Code) → s ≡ x → LowersSingle x c new → LowersStatement s way c new
Same-single s x way c new e l = subst (λ (y : TypedStmt). LowersStatement y way c new) (sym e) (l way)

pub Same : (s x : TypedStmt) (way : Ways) (c new : Code) → s ≡ x → LowersStatement x way c new → LowersStatement s way c new
Same s x way c new e l = subst (λ (y : TypedStmt). LowersStatement y way c new) (sym e) l
