-- From checked bodies to a typed script.
use Rattle.std.proofs.Common.{◌≡◌, ◌++◌, ℕ, List, [], ◌∷◌, map, Option, Some, None, Result, Ok, Err, IsErrAnd, IfErr, MatchResult, slice_get, All, refl, sym, ap, subst, ◌∙◌}
use Rattle.std.specs.List.{AllByRecursion, AllZip, cons_option}
use Rattle.std.specs.Option.{option_map}
use Rattle.std.proofs.lemmas.List.Elements.{All-from_recursion}
use Rattle.bt_ast.specs.declared.attached.BodyId.{BodyId}
use Rattle.bt_ast.specs.declared.probe.Script.{Script}
use Rattle.bt_core.specs.declared.map.MapDecl.{MapDecl}
use Rattle.bt_core.specs.declared.map.MapId.{MapId}
use Rattle.fmt_text.specs.declared.piece.Piece.{Piece}
use Rattle.event_layout.specs.declared.format.Format.{Format}
use Rattle.typed_tree.specs.Bodies.{tree_parts}
use Rattle.typed_tree.specs.Script.{IsIn, AreIn}
use Rattle.typed_tree.specs.declared.body.TypedBody.{TypedBody}
use Rattle.typed_tree.specs.declared.body.TypedTree.{TypedTree}
use Rattle.typed_tree.specs.declared.script.Typed.{Typed}
use Rattle.bt_types.specs.declared.body.OpenBody.{OpenBody}
use Rattle.expr_types.specs.declared.fault.Fault.{Fault}
use Rattle.expr_types.specs.declared.fault.TypeError.{TypeError}
use Rattle.expr_types.specs.declared.fault.TypeError.TheVariants.{Broken}
use Rattle.expr_types.specs.declared.known.Known.{Known}
use Rattle.expr_types.specs.declared.known.Var.{Var}
use Rattle.bt_types.specs.Bodies.{script_told, nothing, fault_of, type_fault}
use Rattle.expr_types.specs.Judge.{judged, SaysFault}
use Rattle.bt_types.specs.Listed.{IsListed, maps_at, formats_at}
use Rattle.bt_types.specs.Open.{HasNumbers, IsOpen, BodiesDone, IsClosed, again}
use Rattle.bt_types.specs.Script.{IsTypedBody, AreTypedBodies}
use Rattle.bt_types.specs.Under.{AreBehind, known_behind}
use Rattle.expr_types.specs.Typing.{titles_of, words_by}
use Rattle.expr_types.proofs.Later.{words_later}
use Rattle.bt_types.proofs.Sound.{Sound, sound_judged}

-- the first fault, or none
pub fault_said : (script : Script) (formats : List Format) (ids : List BodyId) (r : Result Typed TypeError) (e : TypeError) → IsErrAnd r (λ x. x ≡ e) → SaysFault (judged (script_told script formats ids).points nothing) e
    → (f : Fault) → IfErr r (λ x. x ≡ Broken f → type_fault script formats ids ≡ Some f)
unfolding type_fault
fault_said script formats ids (Ok typed) e is h f = absurd is
fault_said script formats ids (Err x) e is h f = λ same.
    ap fault_of (subst (λ (y : TypeError). SaysFault (judged (script_told script formats ids).points nothing) y) (sym is ∙ same) h)

pub none_said : (script : Script) (formats : List Format) (ids : List BodyId) (k : Known) → judged (script_told script formats ids).points nothing ≡ Ok k → type_fault script formats ids ≡ None
unfolding type_fault
none_said script formats ids k h = ap fault_of h

pub done_at : (script : Script) (formats : List Format) (ids others : List BodyId) (k0 k : Known) (bodies : List OpenBody) → others ≡ ids → k0 ≡ nothing → BodiesDone script formats others k0 k bodies → BodiesDone script formats ids nothing k bodies
done_at script formats ids others k0 k bodies e f h =
    subst (λ (x : Known). BodiesDone script formats ids x k bodies) f (subst (λ (l : List BodyId). BodiesDone script formats l k0 k bodies) e h)

pub end_sound : (script : Script) (formats : List Format) (ids : List BodyId) (k : Known) (bodies : List OpenBody) → BodiesDone script formats ids nothing k bodies → Sound k
end_sound script formats ids k bodies d = sound_judged (script_told script formats ids).points nothing k (record { decls = refl; calls = tt }) d.whole

-- each typed body is its probe's
typed_body : (script : Script) (formats : List Format) (k : Known) (maps : List MapDecl) (pieces : List (List Piece)) (id : BodyId) (body : OpenBody) (typed : TypedBody) → IsOpen script formats k id body → IsClosed maps pieces body typed
    → IsTypedBody script formats k id typed
typed_body script formats k maps pieces id body typed o c =
    let later : Known = again o.past k in
    let words = words_later o.past later o.grows (tree_parts body.tree) o.fits in
    record {
      probe = o.probe;
      of_probe = o.of_probe;
      layout = c.layout ∙ o.layout;
      variables = map (λ (v : Var). v.name) o.past.vars;
      written = ap (λ (t : TypedTree). words_by (titles_of later) (tree_parts t)) c.tree ∙ (words ∙ o.written);
    }

pub typed_bodies : (script : Script) (formats : List Format) (k : Known) (maps : List MapDecl) (pieces : List (List Piece)) (ids : List BodyId) (bodies : List OpenBody) (typed : List TypedBody) → AllZip (IsOpen script formats k) ids bodies
    → AllZip (IsClosed maps pieces) bodies typed → AreTypedBodies script formats k ids typed
typed_bodies script formats k maps pieces [] [] [] h g = tt
typed_bodies script formats k maps pieces [] [] (t ∷ ts) h g = absurd g
typed_bodies script formats k maps pieces [] (b ∷ bs) ts h g = absurd h
typed_bodies script formats k maps pieces (i ∷ is) [] ts h g = absurd h
typed_bodies script formats k maps pieces (i ∷ is) (b ∷ bs) [] h g = absurd g
typed_bodies script formats k maps pieces (i ∷ is) (b ∷ bs) (t ∷ ts) h g =
    (typed_body script formats k maps pieces i b t h.0 g.0, typed_bodies script formats k maps pieces is bs ts h.1 g.1)

-- the declarations of each body stand in the script's
map_placed : (maps : List MapDecl) (n : ℕ) (o : Option MapDecl) (rest : List (MapId × MapDecl)) → slice_get maps n ≡ o → AllByRecursion (λ (m : MapId × MapDecl). slice_get maps m.0.0 ≡ Some m.1) rest
    → AllByRecursion (λ (m : MapId × MapDecl). slice_get maps m.0.0 ≡ Some m.1) (cons_option (option_map (λ (d : MapDecl). (record { 0 = n }, d)) o) rest)
map_placed maps n None rest h g = g
map_placed maps n (Some d) rest h g = (h, g)

maps_placed : (maps : List MapDecl) (named : List ℕ) → AllByRecursion (λ (m : MapId × MapDecl). slice_get maps m.0.0 ≡ Some m.1) (maps_at maps named)
maps_placed maps [] = tt
maps_placed maps (n ∷ ns) = map_placed maps n (slice_get maps n) (maps_at maps ns) refl (maps_placed maps ns)

format_placed : (formats : List (List Piece)) (n : ℕ) (o : Option (List Piece)) (rest : List (ℕ × List Piece)) → slice_get formats n ≡ o → AllByRecursion (λ (f : ℕ × List Piece). slice_get formats f.0 ≡ Some f.1) rest
    → AllByRecursion (λ (f : ℕ × List Piece). slice_get formats f.0 ≡ Some f.1) (cons_option (option_map (λ (p : List Piece). (n, p)) o) rest)
format_placed formats n None rest h g = g
format_placed formats n (Some p) rest h g = (h, g)

formats_placed : (formats : List (List Piece)) (calls : List ℕ) → AllByRecursion (λ (f : ℕ × List Piece). slice_get formats f.0 ≡ Some f.1) (formats_at formats calls)
formats_placed formats [] = tt
formats_placed formats (n ∷ ns) = format_placed formats n (slice_get formats n) (formats_at formats ns) refl (formats_placed formats ns)

is_in : (maps : List MapDecl) (formats : List (List Piece)) (body : OpenBody) (typed : TypedBody) → IsClosed maps formats body typed → IsIn maps formats typed
is_in maps formats body typed c =
    let m = All-from_recursion (λ (m : MapId × MapDecl). slice_get maps m.0.0 ≡ Some m.1) (maps_at maps body.named) (maps_placed maps body.named) in
    let f = All-from_recursion (λ (f : ℕ × List Piece). slice_get formats f.0 ≡ Some f.1) (formats_at formats body.calls) (formats_placed formats body.calls) in
    record {
      maps_there = subst (λ (l : List (MapId × MapDecl)). All (λ (m : MapId × MapDecl). slice_get maps m.0.0 ≡ Some m.1) l) (sym c.maps_named) m;
      formats_there = subst (λ (l : List (ℕ × List Piece)). All (λ (f : ℕ × List Piece). slice_get formats f.0 ≡ Some f.1) l) (sym c.formats_called) f;
    }

all_in : (maps : List MapDecl) (formats : List (List Piece)) (bodies : List OpenBody) (typed : List TypedBody) → AllZip (IsClosed maps formats) bodies typed → AllByRecursion (IsIn maps formats) typed
all_in maps formats [] [] h = tt
all_in maps formats [] (t ∷ ts) h = absurd h
all_in maps formats (b ∷ bs) [] h = absurd h
all_in maps formats (b ∷ bs) (t ∷ ts) h = (is_in maps formats b t h.0, all_in maps formats bs ts h.1)

pub are_in : (maps : List MapDecl) (formats : List (List Piece)) (bodies : List OpenBody) (typed : List TypedBody) → AllZip (IsClosed maps formats) bodies typed → AreIn maps formats typed
are_in maps formats bodies typed h = All-from_recursion (IsIn maps formats) typed (all_in maps formats bodies typed h)

pub closed_more : (maps : List MapDecl) (formats : List (List Piece)) (bodies : List OpenBody) (typed : List TypedBody) (b : OpenBody) (t : TypedBody) → AllZip (IsClosed maps formats) bodies typed → IsClosed maps formats b t
    → AllZip (IsClosed maps formats) (bodies ++ b ∷ []) (typed ++ t ∷ [])
closed_more maps formats [] [] b t h c = (c, tt)
closed_more maps formats [] (x ∷ xs) b t h c = absurd h
closed_more maps formats (y ∷ ys) [] b t h c = absurd h
closed_more maps formats (y ∷ ys) (x ∷ xs) b t h c = (h.0, closed_more maps formats ys xs b t h.1 c)

-- the trees are those of the checked bodies
pub trees_same : (maps : List MapDecl) (formats : List (List Piece)) (bodies : List OpenBody) (typed : List TypedBody) → AllZip (IsClosed maps formats) bodies typed
    → map (λ (b : TypedBody). b.tree) typed ≡ map (λ (b : OpenBody). b.tree) bodies
trees_same maps formats [] [] h = refl
trees_same maps formats [] (t ∷ ts) h = absurd h
trees_same maps formats (b ∷ bs) [] h = absurd h
trees_same maps formats (b ∷ bs) (t ∷ ts) h = let first = h.0.tree in let rest = trees_same maps formats bs ts h.1 in λ i. first i ∷ rest i

-- a typed body lists what its checked one has named
listed : (maps : List MapDecl) (formats : List (List Piece)) (k : Known) (body : OpenBody) (typed : TypedBody) → IsClosed maps formats body typed → HasNumbers k body → IsListed maps formats k typed
listed maps formats k body typed c n =
    record { maps_named = c.maps_named ∙ ap (maps_at maps) n.named; formats_called = c.formats_called ∙ ap (formats_at formats) n.calls }

pub all_listed : (script : Script) (layouts : List Format) (maps : List MapDecl) (formats : List (List Piece)) (before : Known) (ids : List BodyId) (bodies : List OpenBody) (typed : List TypedBody)
    → AllZip (IsClosed maps formats) bodies typed → AreBehind (λ k id body. HasNumbers k body) script layouts before ids bodies → AreBehind (λ k id body. IsListed maps formats k body) script layouts before ids typed
all_listed script layouts maps formats before [] [] [] c n = tt
all_listed script layouts maps formats before [] (b ∷ bs) ts c n = absurd n
all_listed script layouts maps formats before (id ∷ ids) [] ts c n = absurd n
all_listed script layouts maps formats before ids [] (t ∷ ts) c n = absurd c
all_listed script layouts maps formats before ids (b ∷ bs) [] c n = absurd c
all_listed script layouts maps formats before (id ∷ ids) (b ∷ bs) (t ∷ ts) c n =
    (listed maps formats (known_behind script layouts before id) b t c.0 n.0, all_listed script layouts maps formats (known_behind script layouts before id) ids bs ts c.1 n.1)

-- what an answer says stays true of it behind what was kept
pub told_beside : {K T E : Type 0} (P : K → T → Type 0) (Q : E → Type 0) (kept : K) (answer : Result T E) (r : Result (K × T) E)
    → MatchResult r (λ both. (both.0 ≡ kept) × (answer ≡ Ok both.1)) (λ e. answer ≡ Err e) → MatchResult answer (P kept) Q → MatchResult r (λ both. P both.0 both.1) Q
told_beside P Q kept answer (Ok both) b h = subst (λ k. P k both.1) (sym b.0) (subst (λ x. MatchResult x (P kept) Q) b.1 h)
told_beside P Q kept answer (Err e) b h = subst (λ x. MatchResult x (P kept) Q) b h
