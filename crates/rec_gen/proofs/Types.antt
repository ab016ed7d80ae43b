-- What is told of the script's body, and what is known of types behind it.
use Rattle.std.proofs.Common.{◌≡◌, ℕ, Bool, false, List, [], ◌∷◌, map, Some, None, Ok, refl, ap, sym, ◌∙◌}
use Rattle.std.specs.Prelude.{codes}
use Rattle.bt_core.specs.declared.map.AggKind.{AggKind}
use Rattle.bt_core.specs.declared.map.AggKind.TheVariants as agg
use Rattle.bt_core.specs.declared.map.MapDecl.{MapDecl}
use Rattle.bt_core.specs.declared.map.MapKind.TheVariants.{Aggs}
use Rattle.bt_core.specs.declared.map.Shape.{Shape}
use Rattle.bt_core.specs.declared.map.Shape.TheVariants.{Str}
use Rattle.bt_core.specs.declared.place.Place.{Place}
use Rattle.bt_ast.specs.declared.expr.Builtin.TheVariants.{Comm}
use Rattle.bt_ast.specs.declared.expr.Expr.{Expr, fold-roll-Expr}
use Rattle.bt_ast.specs.declared.expr.ExprKind.{ExprKind, fold-roll-ExprKind}
use Rattle.bt_ast.specs.declared.expr.ExprKind.TheVariants as exprs
use Rattle.bt_ast.specs.declared.expr.ExprKind.TheOpen.{ExprKind-F}
use Rattle.bt_ast.specs.declared.expr.MapRef.{MapRef, fold-roll-MapRef}
use Rattle.bt_ast.specs.declared.gathering.Gathering.TheVariants.{Sum, Hist}
use Rattle.bt_ast.specs.declared.stmt.AggCall.{AggCall}
use Rattle.bt_ast.specs.declared.stmt.AggCall.TheVariants as aggs
use Rattle.bt_ast.specs.declared.stmt.Block.{fold-roll-Block}
use Rattle.bt_ast.specs.declared.stmt.Stmt.{fold-roll-Stmt}
use Rattle.bt_ast.specs.declared.stmt.StmtKind.{StmtKind, fold-roll-StmtKind}
use Rattle.bt_ast.specs.declared.stmt.StmtKind.TheVariants as stmts
use Rattle.bt_ast.specs.declared.stmt.StmtKind.TheOpen.{StmtKind-F}
use Rattle.bt_ast.specs.declared.attached.BodyId.{BodyId}
use Rattle.bt_ast.specs.declared.attached.BodyPoint.TheVariants.{Event}
use Rattle.bt_attach.specs.Attaching.{bodies_from}
use Rattle.bt_grammar.specs.Trees.{expr, stmt, block_of, place_of_map}
use Rattle.expr_types.specs.declared.known.Known.{Known}
use Rattle.expr_types.specs.Judge.{judged}
use Rattle.expr_types.specs.Mentions.{Text, OfField, Begins, Args, ReadsField, NeedsWhole, BuiltinWord, FieldWord, NoElseWord}
use Rattle.expr_types.specs.Walk.{Seen, MapSeen, TargetSeen, seen, at, key_seen, kind_layer, target_layer, expr_layer, step_layer, map_layer, of_expr, of_kind, of_map}
use Rattle.bt_types.specs.Bodies.{told_at, nothing, fault_of, type_fault}
use Rattle.bt_types.specs.Told.{Told, told, next, told_in_turn, says, asks, value_told, gather_told, gathered_told, kind_of_call, number_of_call, block_told, stmt_kind_layer, told_stmt_layer, told_block_layer, of_stmt_kind, of_block, of_stmt}
use Rattle.recordings.specs.declared.recording.Recording.{Recording}
use Rattle.rec_gen.specs.Made.{IsMade}
use Rattle.rec_gen.proofs.Attach.{the_bodies}
use Rattle.rec_gen.proofs.Grammar.{place, map_at, id_at, gather_at, comm_at, the_statements, the_tree}
use Rattle.rec_gen.proofs.MadeFormat.{the_format, the_layout, formats_are}

-- ---- expressions

expr_is : (kind : ExprKind) (p : Place) → of_expr (expr kind p) ≡ of_kind kind p
expr_is kind p = fold-roll-Expr (Place → Seen) TargetSeen Seen Seen MapSeen kind_layer target_layer expr_layer step_layer map_layer (record { kind = kind; place = p })

abbrev comm_seen : Seen
comm_seen = seen [] Text (BuiltinWord Comm ∷ [])

comm_is : (column : ℕ) → of_expr (comm_at column) ≡ comm_seen
comm_is column =
    expr_is (exprs.Builtin Comm) (place column)
    ∙ ap (λ (k : Place → Seen). k (place column)) (ap of_kind (sym (exprs.rolls-Builtin Comm))
    ∙ fold-roll-ExprKind (Place → Seen) TargetSeen Seen Seen MapSeen kind_layer target_layer expr_layer step_layer map_layer (ExprKind-F.Builtin Comm))

abbrev id_seen : ℕ → ℕ → Seen
id_seen column word = seen (at (place column) Args ∷ at (place word) (ReadsField (codes "id")) ∷ []) (OfField (codes "id")) (FieldWord (codes "id") ∷ [])

id_is : (column word : ℕ) → of_expr (id_at column word) ≡ id_seen column word
id_is column word =
    expr_is (exprs.Field (codes "id") (place word)) (place column)
    ∙ ap (λ (k : Place → Seen). k (place column)) (ap of_kind (sym (exprs.rolls-Field (codes "id") (place word)))
    ∙ fold-roll-ExprKind (Place → Seen) TargetSeen Seen Seen MapSeen kind_layer target_layer expr_layer step_layer map_layer (ExprKind-F.Field (codes "id") (place word)))

map_is : (column : ℕ) (name : List ℕ) (keys : List Expr) → of_map (map_at column name keys) ≡ key_seen name (map of_expr keys) (place column)
map_is column name keys =
    fold-roll-MapRef (Place → Seen) TargetSeen Seen Seen MapSeen kind_layer target_layer expr_layer step_layer map_layer (record { name = name; keys = keys; place = place column })

-- ---- statements

stmt_is : (p : Place) (kind : StmtKind) → of_stmt (stmt p kind) ≡ (λ inside. of_stmt_kind kind inside p)
stmt_is p kind = fold-roll-Stmt (Bool → Place → Told) (Bool → Told) (Bool → Told) stmt_kind_layer told_block_layer told_stmt_layer (record { kind = kind; place = p })

kind_is : (m : MapRef) (call : AggCall) (word : Place)
    → of_stmt_kind (stmts.SetAgg m call word) ≡ (λ inside p. gather_told (of_map m) (kind_of_call call) (gathered_told (number_of_call call) word) word)
kind_is m call word =
    ap of_stmt_kind (sym (stmts.rolls-SetAgg m call word))
    ∙ fold-roll-StmtKind (Bool → Place → Told) (Bool → Told) (Bool → Told) stmt_kind_layer told_block_layer told_stmt_layer (StmtKind-F.SetAgg m call word)

gather_is : (column : ℕ) (name : List ℕ) (keys : List Expr) (word : ℕ) (call : AggCall) (ks : List Seen) (number : Told) → map of_expr keys ≡ ks
    → gathered_told (number_of_call call) (place word) ≡ number
    → of_stmt (gather_at column name keys word call) false ≡ gather_told (key_seen name ks (place column)) (kind_of_call call) number (place word)
gather_is column name keys word call ks number k n =
    let m = map_at column name keys in
    let p = place_of_map m in
    let of : of_map m ≡ key_seen name ks (place column) = map_is column name keys ∙ ap (λ (l : List Seen). key_seen name l (place column)) k in
    ap (λ (f : Bool → Told). f false) (stmt_is p (stmts.SetAgg m call (place word)))
    ∙ (ap (λ (f : Bool → Place → Told). f false p) (kind_is m call (place word)) ∙ (λ i. gather_told (of i) (kind_of_call call) (n i) (place word)))

abbrev number_seen : ℕ → ℕ → ℕ → Told
number_seen column word function = next (value_told (id_seen column word)) (asks (place function) (NeedsWhole (OfField (codes "id"))))

number_is : (column word function : ℕ) → gathered_told (Some (id_at column word)) (place function) ≡ number_seen column word function
number_is column word function = ap (λ (s : Seen). next (value_told s) (asks (place function) (NeedsWhole s.sort))) (id_is column word)

abbrev the_block_told : Told
the_block_told = block_told (
    gather_told (key_seen (codes "@calls") (comm_seen ∷ []) (place 37)) agg.Count (told [] []) (place 52)
    ∷ gather_told (key_seen (codes "@ids") [] (place 61)) agg.Hist (number_seen 73 78 68) (place 68)
    ∷ gather_told (key_seen (codes "@sum") [] (place 83)) agg.Sum (number_seen 94 99 90) (place 90)
    ∷ []
    )

block_is : of_block (block_of (place 35) the_statements) false ≡ the_block_told
block_is =
    let one = gather_is 37 (codes "@calls") (comm_at 44 ∷ []) 52 aggs.Count (comm_seen ∷ []) (told [] []) (ap (λ (s : Seen). s ∷ []) (comm_is 44)) refl in
    let two = gather_is 61 (codes "@ids") [] 68 (aggs.Gather Hist (id_at 73 78)) [] (number_seen 73 78 68) refl (number_is 73 78 68) in
    let three = gather_is 83 (codes "@sum") [] 90 (aggs.Gather Sum (id_at 94 99)) [] (number_seen 94 99 90) refl (number_is 94 99 90) in
    ap (λ (f : Bool → Told). f false) (fold-roll-Block (Bool → Place → Told) (Bool → Told) (Bool → Told) stmt_kind_layer told_block_layer told_stmt_layer (record { stmts = the_statements; place = place 35 }))
    ∙ (λ i. block_told (one i ∷ two i ∷ three i ∷ []))

-- ---- the body

abbrev begun : Told → Told
begun block = next (asks (place 1) (Begins (Some the_layout))) (next (says NoElseWord) block)

abbrev pub the_told : Told
the_told = begun the_block_told

abbrev pub the_id : BodyId
the_id = record { probe = 0; point = Event 0 }

pub told_is : told_at the_tree (the_format ∷ []) the_id ≡ the_told
told_is = ap begun block_is

abbrev decl : List ℕ → AggKind → List Shape → MapDecl
decl name kind keys = record { name = name; kind = Aggs kind; key_shape = keys }

abbrev the_names : List (List ℕ)
the_names = codes "@calls" ∷ codes "@ids" ∷ codes "@sum" ∷ []

abbrev pub the_known : Known
the_known = record {
  event = Some the_layout;
  vars = [];
  named = 0 ∷ 1 ∷ 2 ∷ [];
  calls = [];
  names = the_names;
  mentioned = the_names;
  decided = decl (codes "@calls") agg.Count (Str ∷ []) ∷ decl (codes "@ids") agg.Hist [] ∷ decl (codes "@sum") agg.Sum [] ∷ [];
  printed = [];
}

pub whole : judged (told_in_turn (told_at the_tree (the_format ∷ []) the_id ∷ [])).points nothing ≡ Ok the_known
whole = ap (λ (t : Told). judged (told_in_turn (t ∷ [])).points nothing) told_is

none_broken : type_fault the_tree (the_format ∷ []) the_bodies ≡ None
unfolding type_fault
none_broken = ap fault_of whole

pub typed : (seed count : ℕ) (r : Recording) → IsMade seed count r → type_fault the_tree r.formats (bodies_from r.formats 0 the_tree.probes) ≡ None
typed seed count r m = (λ i. type_fault the_tree (formats_are seed count r m i) (bodies_from (formats_are seed count r m i) 0 the_tree.probes)) ∙ none_broken
