-- The script only adds.
use Rattle.std.proofs.Common.{◌≡◌, ℕ, Bool, true, false, List, [], ◌∷◌, All, refl, ap, sym, subst, ◌∙◌}
use Rattle.std.specs.Prelude.{codes}
use Rattle.std.specs.List.{AllByRecursion, list_any}
use Rattle.std.proofs.lemmas.List.Elements.{All-from_recursion}
use Rattle.bt_core.specs.declared.map.MapDecl.{MapDecl}
use Rattle.bt_core.specs.declared.place.Place.{Place}
use Rattle.bt_core.specs.Kinds.{IsAggregation}
use Rattle.bt_ast.specs.declared.expr.MapRef.{MapRef}
use Rattle.bt_ast.specs.declared.expr.Expr.{Expr}
use Rattle.bt_ast.specs.declared.gathering.Gathering.TheVariants.{Sum, Hist}
use Rattle.bt_ast.specs.declared.stmt.AggCall.{AggCall}
use Rattle.bt_ast.specs.declared.stmt.AggCall.TheVariants as aggs
use Rattle.bt_ast.specs.declared.stmt.Block.{fold-roll-Block}
use Rattle.bt_ast.specs.declared.stmt.Stmt.{fold-roll-Stmt}
use Rattle.bt_ast.specs.declared.stmt.StmtKind.{fold-roll-StmtKind}
use Rattle.bt_ast.specs.declared.stmt.StmtKind.TheVariants as stmts
use Rattle.bt_ast.specs.declared.stmt.StmtKind.TheOpen.{StmtKind-F}
use Rattle.bt_grammar.specs.Trees.{stmt, block_of, place_of_map}
use Rattle.bt_types.specs.Exits.{kind_exits_layer, block_exits_layer, stmt_exits_layer, kind_exits, stmt_exits, block_exits, script_exits}
use Rattle.bt_types.specs.Script.{maps_of}
use Rattle.bt_meaning.specs.Totals.{IsAggregationOnly, Keeps}
use Rattle.typed_tree.specs.Bodies.{tree_parts}
use Rattle.typed_tree.specs.Parts.{TreePart, AggOf, Cleared, Zeroed, Jumped}
use Rattle.typed_tree.specs.declared.body.TypedBody.{TypedBody}
use Rattle.typed_tree.specs.declared.script.Typed.{Typed}
use Rattle.expr_types.specs.Mentions.{Word, MapWord, ClearWord, ZeroWord, JumpWord}
use Rattle.expr_types.specs.Typing.{Titles, titles_of, word_of, words_by}
use Rattle.rec_gen.proofs.Grammar.{place, map_at, id_at, comm_at, gather_at, the_statements, the_tree}
use Rattle.rec_gen.proofs.Types.{the_known, the_told}
use Rattle.rec_gen.proofs.Typed.{IsTyped}

-- ---- no exit

set_exits : (p : Place) (m : MapRef) (call : AggCall) (word : Place) → stmt_exits (stmt p (stmts.SetAgg m call word)) ≡ false
set_exits p m call word =
    fold-roll-Stmt Bool Bool Bool kind_exits_layer block_exits_layer stmt_exits_layer (record { kind = stmts.SetAgg m call word; place = p })
    ∙ (ap kind_exits (sym (stmts.rolls-SetAgg m call word)) ∙ fold-roll-StmtKind Bool Bool Bool kind_exits_layer block_exits_layer stmt_exits_layer (StmtKind-F.SetAgg m call word))

gather_exits : (column : ℕ) (name : List ℕ) (keys : List Expr) (word : ℕ) (call : AggCall) → stmt_exits (gather_at column name keys word call) ≡ false
gather_exits column name keys word call = set_exits (place_of_map (map_at column name keys)) (map_at column name keys) call (place word)

no_exit : script_exits the_tree ≡ false
no_exit =
    let one = gather_exits 37 (codes "@calls") (comm_at 44 ∷ []) 52 aggs.Count in
    let two = gather_exits 61 (codes "@ids") [] 68 (aggs.Gather Hist (id_at 73 78)) in
    let three = gather_exits 83 (codes "@sum") [] 90 (aggs.Gather Sum (id_at 94 99)) in
    let block : block_exits (block_of (place 35) the_statements) ≡ false =
    fold-roll-Block Bool Bool Bool kind_exits_layer block_exits_layer stmt_exits_layer (record { stmts = the_statements; place = place 35 })
    ∙ (λ i. list_any (λ (exits : Bool). exits) (one i ∷ two i ∷ three i ∷ [])) in
    ap (λ (b : Bool). list_any (λ (exits : Bool). exits) (b ∷ [])) block

-- ---- no map that is read, and no clear, zero or jump

abbrev is_kept : Word → Bool
is_kept (MapWord name count) = false
is_kept (ClearWord name) = false
is_kept (ZeroWord name) = false
is_kept (JumpWord jump) = false
is_kept w = true

keeps : (t : Titles) (p : TreePart) → is_kept (word_of t p) ≡ true → Keeps p
keeps t (AggOf number keys) h = absurd cc
keeps t (Cleared number) h = absurd cc
keeps t (Zeroed number) h = absurd cc
keeps t (Jumped jump inside) h = absurd cc
keeps t p h = tt

all_keep : (t : Titles) (ps : List TreePart) → AllByRecursion (λ (w : Word). is_kept w ≡ true) (words_by t ps) → AllByRecursion Keeps ps
all_keep t [] h = tt
all_keep t (p ∷ ps) h = (keeps t p h.0, all_keep t ps h.1)

kept_words : AllByRecursion (λ (w : Word). is_kept w ≡ true) the_told.words
kept_words = (refl, (refl, (refl, (refl, (refl, (refl, (refl, (refl, tt))))))))

tree_keeps : (body : TypedBody) → words_by (titles_of the_known) (tree_parts body.tree) ≡ the_told.words → All Keeps (tree_parts body.tree)
tree_keeps body written =
    All-from_recursion Keeps (tree_parts body.tree)
    (all_keep (titles_of the_known) (tree_parts body.tree) (subst (λ (l : List Word). AllByRecursion (λ (w : Word). is_kept w ≡ true) l) (sym written) kept_words))

pub only_adds : (typed : Typed) → IsTyped typed → IsAggregationOnly typed
only_adds typed is = record {
  maps = subst (λ (l : List MapDecl). All (λ (decl : MapDecl). IsAggregation decl.kind) l) (sym is.maps)
      (All-from_recursion (λ (decl : MapDecl). IsAggregation decl.kind) (maps_of the_known) (tt, (tt, (tt, tt))));
  no_exit = is.exits ∙ no_exit;
  bodies = subst (λ (l : List TypedBody). All (λ (body : TypedBody). All Keeps (tree_parts body.tree)) l) (sym is.one)
      (All-from_recursion (λ (body : TypedBody). All Keeps (tree_parts body.tree)) (is.body ∷ []) (tree_keeps is.body is.written, tt));
}
