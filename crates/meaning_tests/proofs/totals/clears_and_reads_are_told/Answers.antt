use Rattle.std.proofs.Common.{List, [], ◌∷◌, sym, subst}
use Rattle.std.specs.Prelude.{All}
use Rattle.std.proofs.lemmas.List.Elements.{All-from_recursion, recursion_from_All}
use Rattle.bt_core.specs.declared.map.MapDecl.{MapDecl}
use Rattle.bt_core.specs.Kinds.{IsAggregation}
use Rattle.typed_tree.specs.declared.body.TypedBody.{TypedBody}
use Rattle.typed_tree.specs.Bodies.{tree_parts}
use Rattle.typed_tree.specs.Parts.{TreePart}
use Rattle.bt_meaning.specs.Totals.{Keeps}
use Rattle.meaning_tests.specs.Bodies.{clear_statement, count_statement, print_statement, read_statement}
use Rattle.meaning_tests.specs.Written.{counts_decl}
use Rattle.meaning_tests.proofs.BodyParts.{clear_made, clear_parts, count_made, count_parts, parts_are, parts_with, print_made, print_parts, read_made, read_parts}
use Rattle.meaning_tests.proofs.totals.clears_and_reads_are_told.Goals as goal

pub returns-clause-prints : goal.returns-clause-prints
returns-clause-prints c = λ script has. (
    let event = subst (λ (l : List TreePart). All Keeps l) (sym (parts_are (count_statement ∷ []) (count_parts ∷ []) has.event_body has.at_events (λ i. count_made i ∷ [])))
    (All-from_recursion Keeps (parts_with (count_parts ∷ [])) (tt, (tt, (tt, tt)))) in
    let tick = subst (λ (l : List TreePart). All Keeps l) (sym (parts_are (print_statement ∷ []) (print_parts ∷ []) has.tick_body has.at_ticks (λ i. print_made i ∷ [])))
    (All-from_recursion Keeps (parts_with (print_parts ∷ [])) (tt, (tt, (tt, tt)))) in
    record {
      maps = subst (λ (l : List MapDecl). All (λ (d : MapDecl). IsAggregation d.kind) l) (sym has.maps)
          (All-from_recursion (λ (d : MapDecl). IsAggregation d.kind) (counts_decl ∷ []) (tt, tt));
      no_exit = has.no_exit;
      bodies = subst (λ (l : List TypedBody). All (λ (body : TypedBody). All Keeps (tree_parts body.tree)) l) (sym has.bodies)
          (All-from_recursion (λ (body : TypedBody). All Keeps (tree_parts body.tree)) (has.event_body ∷ has.tick_body ∷ []) (event, (tick, tt)));
    })

pub returns-clause-clears : goal.returns-clause-clears
returns-clause-clears c = λ script has only.
    (let all = recursion_from_All (λ (body : TypedBody). All Keeps (tree_parts body.tree)) (has.event_body ∷ has.tick_body ∷ [])
    (subst (λ (l : List TypedBody). All (λ (body : TypedBody). All Keeps (tree_parts body.tree)) l) has.bodies only.bodies) in
    let parts = recursion_from_All Keeps (parts_with (print_parts ∷ clear_parts ∷ [])) (subst (λ (l : List TreePart). All Keeps l)
    (parts_are (print_statement ∷ clear_statement ∷ []) (print_parts ∷ clear_parts ∷ []) has.tick_body has.at_ticks (λ i. print_made i ∷ clear_made i ∷ [])) all.1.0) in
    parts.1.1.0)

pub returns-clause-reads : goal.returns-clause-reads
returns-clause-reads c = λ script has only.
    (let all = recursion_from_All (λ (body : TypedBody). All Keeps (tree_parts body.tree)) (has.event_body ∷ has.tick_body ∷ [])
    (subst (λ (l : List TypedBody). All (λ (body : TypedBody). All Keeps (tree_parts body.tree)) l) has.bodies only.bodies) in
    let parts = recursion_from_All Keeps (parts_with (print_parts ∷ read_parts ∷ [])) (subst (λ (l : List TreePart). All Keeps l)
    (parts_are (print_statement ∷ read_statement ∷ []) (print_parts ∷ read_parts ∷ []) has.tick_body has.at_ticks (λ i. print_made i ∷ read_made i ∷ [])) all.1.0) in
    parts.1.1.1.1.0)
