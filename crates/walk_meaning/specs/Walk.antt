-- The walk of a body: what it asks for, reply by reply, and how its run ends.
use Rattle.std.specs.Prelude.{ℕ, List, Option, Some, None, map}
use Rattle.bt_core.specs.declared.context.Context.{Context}
use Rattle.bt_core.specs.declared.limits.TheConstants.{LOOP_TURNS}
use Rattle.bt_core.specs.declared.map.Shape.{Shape}
use Rattle.bt_core.specs.Interaction.{Interaction, Ended, and_then}
use Rattle.typed_tree.specs.declared.body.TypedBody.{TypedBody}
use Rattle.typed_tree.specs.declared.body.TypedTree.{TypedTree}
use Rattle.typed_tree.specs.declared.expr.NumExpr.{NumExpr}
use Rattle.bt_core.specs.declared.ending.Ending.{Ending}
use Rattle.bt_core.specs.declared.ending.Ending.TheVariants.{End}
use Rattle.map_ops.specs.Values.{unassigned}
use Rattle.walk_meaning.specs.declared.flow.Flow.{Flow}
use Rattle.walk_meaning.specs.declared.flow.Flow.TheVariants.{Next, Break, Continue, Stop}
use Rattle.walk_meaning.specs.declared.flow.Frame.{Frame}
use Rattle.walk_meaning.specs.Does.{Does, given, bind, if_holds}
use Rattle.walk_meaning.specs.Exprs.{number_does}
use Rattle.walk_meaning.specs.Stmts.{block_does}

-- the frame at the start of a run
abbrev pub first_frame : List Shape → Frame
first_frame variables = record { variables = map unassigned variables; turns = LOOP_TURNS }

-- a predicate comes first, and where it is 0 nothing follows
abbrev pub guarded : Option NumExpr → Does Flow → Does Flow
guarded None block = block
guarded (Some e) block = if_holds (number_does e) block (given Next)

-- how the run ends that its statements led to
abbrev pub ending_of : Flow → Ending
ending_of Next = End
ending_of Break = End
ending_of Continue = End
ending_of (Stop ending) = ending

abbrev pub tree_does : TypedTree → Does Ending
tree_does tree = bind (guarded tree.predicate (block_does tree.block)) (λ flow. given (ending_of flow))

-- the walk of a body by an actor below so many, over an event with this payload
unfoldable pub walk : TypedBody → Context → List ℕ → ℕ → ℕ → Interaction Ending
walk body context payload actor actors =
    and_then
    (tree_does body.tree (record { context = context; payload = payload; actor = actor; actors = actors; maps = body.maps }) (first_frame body.tree.variables))
    (λ p. Ended p.0)
