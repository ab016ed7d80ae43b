-- What is done where an expression or a statement does what is told in another way.
use Rattle.std.proofs.Common.{◌≡◌, ℕ, ℤ, List, sym, subst, Result}
use Rattle.bt_core.specs.declared.step.Step.{Step}
use Rattle.bt_core.specs.declared.value.Value.{Value}
use Rattle.bt_core.specs.Interaction.{Whole, Part}
use Rattle.bt_core.specs.declared.memory.Memory.{Memory}
use Rattle.typed_tree.specs.declared.expr.AnyExpr.{AnyExpr}
use Rattle.typed_tree.specs.declared.expr.NumExpr.{NumExpr}
use Rattle.typed_tree.specs.declared.expr.StrExpr.{StrExpr}
use Rattle.typed_tree.specs.declared.stmt.TypedStmt.{TypedStmt}
use Rattle.walk_meaning.specs.declared.flow.Flow.{Flow}
use Rattle.walk_meaning.specs.declared.flow.Frame.{Frame}
use Rattle.walk_meaning.specs.Does.{BodyScene, Does}
use Rattle.walk_meaning.specs.Exprs.{value_does, number_does, text_does}
use Rattle.walk_meaning.specs.Stmts.{stmt_does}
use Rattle.bt_walk.specs.Walked.{Walked}

pub Part-num : (e : NumExpr) (d : Does ℤ) (scene : BodyScene) (frame : Frame) (s t : List Step) → number_does e ≡ d → Part (d scene frame) s t → Part (number_does e scene frame) s t
Part-num e d scene frame s t h p = subst (λ (x : Does ℤ). Part (x scene frame) s t) (sym h) p

pub Whole-num : (e : NumExpr) (d : Does ℤ) (scene : BodyScene) (frame : Frame) (s t : List Step) (w : ℤ × Frame) → number_does e ≡ d → Whole (d scene frame) s t w → Whole (number_does e scene frame) s t w
Whole-num e d scene frame s t w h p = subst (λ (x : Does ℤ). Whole (x scene frame) s t w) (sym h) p

pub Walked-num : (e : NumExpr) (d : Does ℤ) (scene : BodyScene) (frame : Frame) (s t : List Step) (r : Result ℤ Memory) (after : Frame) → number_does e ≡ d → Walked d scene frame s t r after → Walked (number_does e) scene frame s t r after
Walked-num e d scene frame s t r after h p = subst (λ (x : Does ℤ). Walked x scene frame s t r after) (sym h) p

pub Part-str : (e : StrExpr) (d : Does (List ℕ)) (scene : BodyScene) (frame : Frame) (s t : List Step) → text_does e ≡ d → Part (d scene frame) s t → Part (text_does e scene frame) s t
Part-str e d scene frame s t h p = subst (λ (x : Does (List ℕ)). Part (x scene frame) s t) (sym h) p

pub Whole-str : (e : StrExpr) (d : Does (List ℕ)) (scene : BodyScene) (frame : Frame) (s t : List Step) (w : (List ℕ) × Frame) → text_does e ≡ d → Whole (d scene frame) s t w → Whole (text_does e scene frame) s t w
Whole-str e d scene frame s t w h p = subst (λ (x : Does (List ℕ)). Whole (x scene frame) s t w) (sym h) p

pub Walked-str : (e : StrExpr) (d : Does (List ℕ)) (scene : BodyScene) (frame : Frame) (s t : List Step) (r : Result (List ℕ) Memory) (after : Frame) → text_does e ≡ d → Walked d scene frame s t r after → Walked (text_does e) scene frame s t r after
Walked-str e d scene frame s t r after h p = subst (λ (x : Does (List ℕ)). Walked x scene frame s t r after) (sym h) p

pub Part-any : (e : AnyExpr) (d : Does Value) (scene : BodyScene) (frame : Frame) (s t : List Step) → value_does e ≡ d → Part (d scene frame) s t → Part (value_does e scene frame) s t
Part-any e d scene frame s t h p = subst (λ (x : Does Value). Part (x scene frame) s t) (sym h) p

pub Whole-any : (e : AnyExpr) (d : Does Value) (scene : BodyScene) (frame : Frame) (s t : List Step) (w : Value × Frame) → value_does e ≡ d → Whole (d scene frame) s t w → Whole (value_does e scene frame) s t w
Whole-any e d scene frame s t w h p = subst (λ (x : Does Value). Whole (x scene frame) s t w) (sym h) p

pub Walked-any : (e : AnyExpr) (d : Does Value) (scene : BodyScene) (frame : Frame) (s t : List Step) (r : Result Value Memory) (after : Frame) → value_does e ≡ d → Walked d scene frame s t r after → Walked (value_does e) scene frame s t r after
Walked-any e d scene frame s t r after h p = subst (λ (x : Does Value). Walked x scene frame s t r after) (sym h) p

pub Walked-stmt : (s : TypedStmt) (d : Does Flow) (scene : BodyScene) (frame : Frame) (a b : List Step) (r : Result Flow Memory) (after : Frame) → stmt_does s ≡ d → Walked d scene frame a b r after → Walked (stmt_does s) scene frame a b r after
Walked-stmt s d scene frame a b r after h p = subst (λ (x : Does Flow). Walked x scene frame a b r after) (sym h) p
