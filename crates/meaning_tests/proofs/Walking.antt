-- The walks of bodies by their statements.
use Rattle.std.proofs.Common.{◌≡◌, ℕ, pos, List, [], ◌∷◌, map, refl, sym, ap, ◌∙◌}
use Rattle.std.specs.Prelude.{None}
use Rattle.bt_core.specs.declared.context.Context.{Context}
use Rattle.bt_core.specs.declared.ending.Ending.{Ending}
use Rattle.bt_core.specs.declared.ending.Ending.TheVariants.{End, Exit}
use Rattle.bt_core.specs.declared.map.AggKind.TheVariants.{Count}
use Rattle.bt_core.specs.declared.map.MapDecl.{MapDecl}
use Rattle.bt_core.specs.declared.map.MapId.{MapId}
use Rattle.bt_core.specs.declared.map.Shape.{Shape}
use Rattle.bt_core.specs.Interaction.{Interaction, Ended, and_then}
use Rattle.typed_tree.specs.declared.body.TypedBody.{TypedBody}
use Rattle.typed_tree.specs.declared.stmt.TypedBlock.{TypedBlock, out-TypedBlock, roll-out-TypedBlock, fold-roll-TypedBlock}
use Rattle.typed_tree.specs.declared.stmt.Jump.TheVariants as jumps
use Rattle.typed_tree.specs.declared.stmt.TypedStmt.{TypedStmt, fold-roll-TypedStmt}
use Rattle.typed_tree.specs.declared.stmt.TypedStmt.TheVariants.{rolls-Gather, rolls-Print, rolls-Clear, rolls-Jump}
use Rattle.typed_tree.specs.declared.stmt.TypedStmt.TheOpen.{TypedStmt-F}
use Rattle.walk_meaning.specs.declared.flow.Flow.{Flow}
use Rattle.walk_meaning.specs.Does.{Does, lifted, bind, given, looked_at}
use Rattle.walk_meaning.specs.Stmts.{block_does, block_by_parts, clear, gather, in_sequence, jump_to, number_or_one, print, stmt_does, stmt_by_parts}
use Rattle.walk_meaning.specs.Walk.{ending_of, first_frame, guarded, walk}
use Rattle.meaning_tests.specs.Bodies.{HasStatements, clear_statement, count_statement, exit_statement, print_statement}
use Rattle.meaning_tests.specs.Written.{clears, counts, counts_decl, counts_one, prints, stops}

-- the walk that does this
abbrev pub walk_that : Does Flow → List Shape → List (MapId × MapDecl) → Context → List ℕ → ℕ → ℕ → Interaction Ending
walk_that d variables maps context payload actor actors =
    and_then (bind d (λ flow. given (ending_of flow)) (record { context = context; payload = payload; actor = actor; actors = actors; maps = maps }) (first_frame variables)) (λ p. Ended p.0)

block_is : (b : TypedBlock) → block_does b ≡ in_sequence (map stmt_does (out-TypedBlock b).stmts)
block_is b = ap block_does (sym (roll-out-TypedBlock b)) ∙ fold-roll-TypedBlock (Does Flow) (Does Flow) stmt_by_parts block_by_parts (out-TypedBlock b)

pub walk_is : (statements : List TypedStmt) (does : List (Does Flow)) (body : TypedBody) (context : Context) (payload : List ℕ) (actor actors : ℕ) → HasStatements statements body → map stmt_does statements ≡ does
    → walk body context payload actor actors ≡ walk_that (in_sequence does) body.tree.variables body.maps context payload actor actors
unfolding walk
walk_is statements does body context payload actor actors has are =
    (λ i. walk_that (guarded (has.always i) (block_does body.tree.block)) body.tree.variables body.maps context payload actor actors)
    ∙ ap (λ (d : Does Flow). walk_that d body.tree.variables body.maps context payload actor actors)
    (block_is body.tree.block ∙ ap (λ (l : List TypedStmt). in_sequence (map stmt_does l)) has.are ∙ ap in_sequence are)

-- ---- the statements

count_does : stmt_does count_statement ≡ gather counts [] (number_or_one None)
count_does = ap stmt_does (sym (rolls-Gather counts [] Count None)) ∙ fold-roll-TypedStmt (Does Flow) (Does Flow) stmt_by_parts block_by_parts (TypedStmt-F.Gather counts [] Count None)

print_does : stmt_does print_statement ≡ print counts 0 (pos 1)
print_does = ap stmt_does (sym (rolls-Print counts 0 (pos 1))) ∙ fold-roll-TypedStmt (Does Flow) (Does Flow) stmt_by_parts block_by_parts (TypedStmt-F.Print counts 0 (pos 1))

clear_does : stmt_does clear_statement ≡ clear counts
clear_does = ap stmt_does (sym (rolls-Clear counts)) ∙ fold-roll-TypedStmt (Does Flow) (Does Flow) stmt_by_parts block_by_parts (TypedStmt-F.Clear counts)

exit_does : stmt_does exit_statement ≡ jump_to jumps.Exit
exit_does = ap stmt_does (sym (rolls-Jump jumps.Exit)) ∙ fold-roll-TypedStmt (Does Flow) (Does Flow) stmt_by_parts block_by_parts (TypedStmt-F.Jump jumps.Exit)

-- ---- the walks

pub count_walk : (body : TypedBody) (context : Context) (payload : List ℕ) (actor actors : ℕ) → HasStatements (count_statement ∷ []) body
    → walk body context payload actor actors ≡ counts_one actor [] End
unfolding lifted bind given looked_at
count_walk body context payload actor actors has =
    walk_is (count_statement ∷ []) (gather counts [] (number_or_one None) ∷ []) body context payload actor actors has (λ i. count_does i ∷ []) ∙ refl

pub print_walk : (body : TypedBody) (context : Context) (payload : List ℕ) (actor : ℕ) → HasStatements (print_statement ∷ []) body → body.maps ≡ (counts, counts_decl) ∷ []
    → walk body context payload actor 3 ≡ prints 3 (Ended End)
unfolding lifted bind given looked_at
print_walk body context payload actor has maps =
    walk_is (print_statement ∷ []) (print counts 0 (pos 1) ∷ []) body context payload actor 3 has (λ i. print_does i ∷ [])
    ∙ ap (λ (l : List (MapId × MapDecl)). walk_that (in_sequence (print counts 0 (pos 1) ∷ [])) body.tree.variables l context payload actor 3) maps

pub print_and_clear_walk : (body : TypedBody) (context : Context) (payload : List ℕ) (actor : ℕ) → HasStatements (print_statement ∷ clear_statement ∷ []) body
    → body.maps ≡ (counts, counts_decl) ∷ [] → walk body context payload actor 3 ≡ prints 3 (clears 3 End)
unfolding lifted bind given looked_at
print_and_clear_walk body context payload actor has maps =
    walk_is (print_statement ∷ clear_statement ∷ []) (print counts 0 (pos 1) ∷ clear counts ∷ []) body context payload actor 3 has (λ i. print_does i ∷ clear_does i ∷ [])
    ∙ ap (λ (l : List (MapId × MapDecl)). walk_that (in_sequence (print counts 0 (pos 1) ∷ clear counts ∷ [])) body.tree.variables l context payload actor 3) maps

pub exit_walk : (body : TypedBody) (context : Context) (payload : List ℕ) (actor actors : ℕ) → HasStatements (exit_statement ∷ []) body
    → walk body context payload actor actors ≡ stops Exit
unfolding lifted bind given looked_at
exit_walk body context payload actor actors has =
    walk_is (exit_statement ∷ []) (jump_to jumps.Exit ∷ []) body context payload actor actors has (λ i. exit_does i ∷ []) ∙ refl
