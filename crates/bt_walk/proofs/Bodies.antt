-- What was performed of a whole body.
use Rattle.std.proofs.Common.{◌≡◌, ◌∙◌, ℕ, List, true, false, refl, sym, subst}
use Rattle.std.proofs.lemmas.Bool.{and_parts}
use Rattle.std.proofs.lemmas.List.Folds.{list_all-append}
use Rattle.bt_core.specs.declared.context.Context.{Context}
use Rattle.bt_core.specs.declared.step.Step.{Step}
use Rattle.bt_core.specs.Interaction.{Whole, Part as Begun}
use Rattle.bt_core.proofs.InteractionLaws.{Whole-and_then, Part-and_then, Whole-Ended}
use Rattle.typed_tree.specs.declared.body.TypedBody.{TypedBody}
use Rattle.typed_tree.specs.Bodies.{predicate_parts, scope_of}
use Rattle.typed_tree.specs.Parts.{block_parts}
use Rattle.typed_tree.specs.Scope.{Scope, fits, all_fit}
use Rattle.bt_core.specs.declared.ending.Ending.{Ending}
use Rattle.walk_meaning.specs.declared.flow.Flow.{Flow}
use Rattle.walk_meaning.specs.declared.flow.Frame.{Frame}
use Rattle.walk_meaning.specs.Does.{BodyScene}
use Rattle.walk_meaning.specs.Stmts.{block_does}
use Rattle.walk_meaning.specs.Walk.{walk, first_frame, guarded, ending_of}
use Rattle.bt_walk.proofs.Binds.{Part-first, Whole-next, Given-done}

module _ (body : TypedBody) (context : Context) (payload : List ℕ) (actor actors : ℕ) (frame : Frame) (old new : List Step) (start : frame ≡ first_frame body.tree.variables) where
  abbrev pub scene : BodyScene
  scene = record { context = context; payload = payload; actor = actor; actors = actors; maps = body.maps }

  pub body_begun : Begun (guarded body.tree.predicate (block_does body.tree.block) scene frame) old new → Begun (walk body context payload actor actors) old new
  unfolding walk
  body_begun p = Part-and_then _ _ _ _ (Part-first _ _ _ _ _ _ (subst (λ (f : Frame). Begun (guarded body.tree.predicate (block_does body.tree.block) scene f) old new) start p))

  pub body_done : (flow : Flow) (after : Frame) (ending : Ending) → Whole (guarded body.tree.predicate (block_does body.tree.block) scene frame) old new (flow, after) → ending ≡ ending_of flow → Whole (walk body context payload actor actors) old new ending
  unfolding walk
  body_done flow after ending p e =
      Whole-and_then _ _ _ _ _ _ _ (Whole-next _ _ _ _ _ _ _ _ (subst (λ (f : Frame). Whole (guarded body.tree.predicate (block_does body.tree.block) scene f) old new (flow, after)) start p) _ _ (Given-done _ _ _ _ _ _ refl refl)) (Whole-Ended _ _ _ (sym e))

abbrev scope : TypedBody → Scope
scope body = scope_of body.maps body.formats body.layout body.tree.variables

-- the predicate fits, and the block outside of loops
pub tree_fits : (body : TypedBody) → (all_fit (scope body) (predicate_parts body.tree.predicate) ≡ true) × (all_fit (scope body) (block_parts body.tree.block false) ≡ true)
tree_fits body =
    let p = and_parts (all_fit (scope body) (predicate_parts body.tree.predicate)) (all_fit (scope body) (block_parts body.tree.block false))
    (sym (list_all-append (fits (scope body)) (predicate_parts body.tree.predicate) (block_parts body.tree.block false)) ∙ body.typed) in
    (p.0, p.1)
