-- Trees that are typed under the same are one, and so are typed scripts over the same formats.
use Rattle.std.proofs.Common.{◌≡◌, ◌++◌, false, List, [], ◌∷◌, map, Option, Some, None, Result, Ok, Err, refl, sym, ap, subst, ◌∙◌}
use Rattle.std.specs.Prelude.{IsTrue}
use Rattle.std.specs.List.{list_all}
use Rattle.std.proofs.Props.{props}
use mathlib.Core.HLevel.{is_prop→PathP}
use Rattle.bt_ast.specs.declared.attached.BodyId.{BodyId}
use Rattle.bt_ast.specs.declared.probe.Script.{Script}
use Rattle.bt_core.specs.declared.map.MapDecl.{MapDecl}
use Rattle.fmt_text.specs.declared.piece.Piece.{Piece}
use Rattle.event_layout.specs.declared.format.Format.{Format}
use Rattle.typed_tree.specs.declared.body.TypedBody.{TypedBody}
use Rattle.typed_tree.specs.declared.body.TypedTree.{TypedTree}
use Rattle.typed_tree.specs.declared.expr.NumExpr.{NumExpr}
use Rattle.typed_tree.specs.declared.script.Typed.{Typed}
use Rattle.typed_tree.specs.declared.stmt.TypedBlock.{TypedBlock}
use Rattle.typed_tree.specs.Bodies.{predicate_parts, tree_parts, scope_of}
use Rattle.typed_tree.specs.Parts.{num_parts, block_parts}
use Rattle.typed_tree.specs.Scope.{all_fit, is_fine_decl}
use Rattle.typed_tree.specs.Script.{AreIn}
use Rattle.expr_types.specs.declared.fault.Fault.{Fault}
use Rattle.expr_types.specs.declared.known.Known.{Known}
use Rattle.expr_types.specs.declared.known.Printed.{Printed as Call}
use Rattle.expr_types.specs.Judge.{judged}
use Rattle.expr_types.specs.Mentions.{Word, Point}
use Rattle.expr_types.specs.Typing.{AllFit, titles_of, words_by}
use Rattle.bt_types.specs.Bodies.{nothing, told_at}
use Rattle.bt_types.specs.Listed.{IsListed}
use Rattle.bt_types.specs.Script.{AreTypedBodies, IsTypedScript, maps_of}
use Rattle.bt_types.specs.Under.{IsUnder, AreBehind, AreUnder, known_or, known_behind}
use Rattle.job_laws.proofs.Apart.{AreApart, judged_apart}
use Rattle.job_laws.proofs.Reader.{Stack, block_of, fresh, guarded, read_body}
use Rattle.job_laws.proofs.Stmts.{tree_reads}
use Rattle.job_laws.proofs.Words.{parts_by, words_read}

-- ---- trees

module _ (k : Known) (apart : AreApart k) where
  -- a body's words are read as its parts are
  body_read : (predicate : Option NumExpr) (block : TypedBlock) → AllFit k (predicate_parts predicate ++ block_parts block false)
      → read_body (parts_by k apart (words_by (titles_of k) (predicate_parts predicate ++ block_parts block false))) ≡ read_body (predicate_parts predicate ++ block_parts block false)
  body_read None block h = ap (λ (s : Stack). (None, block_of s.here)) (words_read k apart (block_parts block false) h.1 fresh)
  body_read (Some e) block h = ap guarded (words_read k apart (num_parts e ++ block_parts block false) h.1 fresh)

  -- a tree's predicate and block are told by its words
  told : (words : List Word) (tree : TypedTree) → IsUnder k words tree → (tree.predicate, tree.block) ≡ read_body (parts_by k apart words)
  told words tree u =
      sym (tree_reads tree) ∙ (sym (body_read tree.predicate tree.block u.fits) ∙ ap (λ (ws : List Word). read_body (parts_by k apart ws)) u.written)

  tree_same : (words : List Word) (one other : TypedTree) → IsUnder k words one → IsUnder k words other → one ≡ other
  tree_same words one other u v =
      let variables = u.variables ∙ sym v.variables in
      let rest = told words one u ∙ sym (told words other v) in
      λ i. record { variables = variables i; predicate = (rest i).0; block = (rest i).1 }

-- what is known behind a body
behind_apart : (before : Known) (ps : List Point) → AreApart before → AreApart (known_or before (judged ps before))
behind_apart before ps apart = by (judged ps before) refl
  where
    by : (r : Result Known Fault) → judged ps before ≡ r → AreApart (known_or before r)
    by (Ok now) e = judged_apart ps before now apart e
    by (Err fault) e = apart

-- ---- bodies

-- bodies of the same fields are one
body_same : (one other : TypedBody) → one.tree ≡ other.tree → one.layout ≡ other.layout → one.maps ≡ other.maps → one.formats ≡ other.formats → one ≡ other
body_same one other tree layout maps formats = λ i. record {
  tree = tree i;
  layout = layout i;
  maps = maps i;
  formats = formats i;
  fine = is_prop→PathP (λ j. IsTrue (list_all (λ m. is_fine_decl m.1) (maps j))) (λ j. hlevel props) one.fine other.fine i;
  typed = is_prop→PathP (λ j. IsTrue (all_fit (scope_of (maps j) (formats j) (layout j) (tree j).variables) (tree_parts (tree j)))) (λ j. hlevel props) one.typed other.typed i;
}

module _ (script : Script) (formats : List Format) (maps : List MapDecl) (pieces : List (List Piece)) (end : Known) where
  -- these bodies are typed and list what they have named, where so much is known before the first
  record AreMade (before : Known) (ids : List BodyId) (bodies : List TypedBody) : Type 0 where
    each : AreTypedBodies script formats end ids bodies
    under : AreUnder script formats before ids (map (λ (b : TypedBody). b.tree) bodies)
    lists : AreBehind (λ k id body. IsListed maps pieces k body) script formats before ids bodies

  bodies_same : (ids : List BodyId) (one other : List TypedBody) (before : Known) → AreApart before → AreMade before ids one → AreMade before ids other → one ≡ other
  bodies_same [] [] [] before apart f g = refl
  bodies_same [] [] (b ∷ bs) before apart f g = absurd g.each
  bodies_same [] (b ∷ bs) other before apart f g = absurd f.each
  bodies_same (id ∷ ids) [] other before apart f g = absurd f.each
  bodies_same (id ∷ ids) (b ∷ bs) [] before apart f g = absurd g.each
  bodies_same (id ∷ ids) (b ∷ bs) (d ∷ ds) before apart f g =
      let k = known_behind script formats before id in
      let later = behind_apart before (told_at script formats id).points apart in
      let tree = tree_same k later (told_at script formats id).words b.tree d.tree f.under.0 g.under.0 in
      let layout = f.each.0.layout ∙ sym g.each.0.layout in
      let first = body_same b d tree layout (f.lists.0.maps_named ∙ sym g.lists.0.maps_named) (f.lists.0.formats_called ∙ sym g.lists.0.formats_called) in
      let rest = bodies_same ids bs ds k later (record { each = f.each.1; under = f.under.1; lists = f.lists.1 }) (record { each = g.each.1; under = g.under.1; lists = g.lists.1 }) in
      λ i. first i ∷ rest i

-- ---- scripts

-- typed scripts of the same fields are one
typed_same : (one other : Typed) → one.maps ≡ other.maps → one.formats ≡ other.formats → one.bodies ≡ other.bodies → one.uses_exit ≡ other.uses_exit → one ≡ other
typed_same one other maps formats bodies exits = λ i. record {
  maps = maps i;
  formats = formats i;
  bodies = bodies i;
  uses_exit = exits i;
  fine = is_prop→PathP (λ j. IsTrue (list_all is_fine_decl (maps j))) (λ j. hlevel props) one.fine other.fine i;
  placed = is_prop→PathP (λ j. ∥ AreIn (maps j) (formats j) (bodies j) ∥₁) (λ j. hlevel props) one.placed other.placed i;
}

ok_same : (a b : Known) → ◌≡◌ {A = Result Known Fault} (Ok a) (Ok b) → a ≡ b
ok_same a b e = cc

pub scripts_same : (script : Script) (formats : List Format) (bodies : List BodyId) (one other : Typed) → IsTypedScript script formats bodies one → IsTypedScript script formats bodies other → one ≡ other
scripts_same script formats bodies one other f g =
    let known = ok_same f.known g.known (sym f.whole ∙ g.whole) in
    let maps : one.maps ≡ other.maps = f.maps ∙ (ap maps_of known ∙ sym g.maps) in
    let pieces : one.formats ≡ other.formats = f.formats_read ∙ (ap (λ (k : Known). map (λ (p : Call). p.pieces) k.printed) known ∙ sym g.formats_read) in
    let there : AreMade script formats other.maps other.formats g.known nothing bodies one.bodies = record {
      each = subst (λ (k : Known). AreTypedBodies script formats k bodies one.bodies) known f.each;
      under = f.under;
      lists = subst (λ (l : List (List Piece)). AreBehind (λ k id body. IsListed other.maps l k body) script formats nothing bodies one.bodies) pieces
          (subst (λ (l : List MapDecl). AreBehind (λ k id body. IsListed l one.formats k body) script formats nothing bodies one.bodies) maps f.lists);
    } in
    let here : AreMade script formats other.maps other.formats g.known nothing bodies other.bodies = record { each = g.each; under = g.under; lists = g.lists } in
    let same = bodies_same script formats other.maps other.formats g.known bodies one.bodies other.bodies nothing (record { names = λ i n e. cc; vars = λ i v e. cc; calls = λ i c e. cc }) there here in
    typed_same one other maps pieces same (f.exits ∙ sym g.exits)
