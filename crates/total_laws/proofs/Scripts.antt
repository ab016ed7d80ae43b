-- The bodies of a script that only adds and prints add the same whatever is replied.
use Rattle.std.proofs.Common.{◌≡◌, ◌⊎◌, ◌++◌, ℕ, List, [], ◌∷◌, true, false, refl, subst, inl, inr}
use Rattle.std.specs.Prelude.{if◌then◌else◌, Option, Some, None, All, slice_get}
use Rattle.std.specs.List.{AllByRecursion}
use Rattle.std.proofs.lemmas.Bool.{and_parts}
use Rattle.std.proofs.lemmas.List.Elements.{recursion_from_All}
use Rattle.std.proofs.lemmas.Option.{slice_get_within, get_or_from_slice_get}
use Rattle.bt_core.specs.declared.context.Context.{Context}
use Rattle.bt_core.specs.declared.map.MapDecl.{MapDecl}
use Rattle.bt_core.specs.declared.map.MapId.{MapId}
use Rattle.bt_core.specs.declared.map.MapKind.{MapKind}
use Rattle.bt_core.specs.declared.map.MapKind.TheVariants.{Ints, Strs, Aggs}
use Rattle.bt_core.specs.declared.map.Shape.{Shape}
use Rattle.bt_core.specs.declared.map.Shape.TheVariants as shapes
use Rattle.bt_core.specs.Interaction.{Ended}
use Rattle.bt_core.specs.Kinds.{IsAggregation}
use Rattle.typed_tree.specs.declared.body.TypedBody.{TypedBody}
use Rattle.typed_tree.specs.declared.expr.NumBuiltin.{NumBuiltin}
use Rattle.typed_tree.specs.declared.expr.NumBuiltin.TheVariants as builtins
use Rattle.typed_tree.specs.declared.script.Typed.{Typed}
use Rattle.typed_tree.specs.Bodies.{scope_of, tree_parts}
use Rattle.typed_tree.specs.Parts.{TreePart, Numeric, MapOf, AggOf, Deleted, Cleared, Zeroed, Jumped}
use Rattle.typed_tree.specs.Scope.{Scope, all_fit, fits, decl_of, is_agg, is_declared, is_shared, kind_of_shape, same_kind, same_shapes}
use Rattle.walk_meaning.proofs.Declared.{served}
use Rattle.walk_meaning.specs.Walk.{walk}
use Rattle.bt_meaning.specs.Totals.{Addition, IsAggregationOnly, Keeps}
use Rattle.bt_meaning.specs.Walks.{walked}
use Rattle.bt_meaning.proofs.Placed.{maps_placed}
use Rattle.total_laws.specs.Ends.{UsesNoCpu}
use Rattle.total_laws.proofs.Adding.{Gives, gives-then}
use Rattle.total_laws.proofs.Quiet.{AreLike, IsQuiet, IsQuietBuiltin, AreQuiet}
use Rattle.total_laws.proofs.StmtAdds.{scene_of, walks_add}
use Rattle.walk_meaning.specs.Does.{BodyScene}

-- ---- no map of the script holds values

not_value : (k : MapKind) → IsAggregation k → (shape : Shape) → same_kind k (kind_of_shape shape) ≡ true → ⊥
not_value Ints p shape e = p
not_value Strs p shape e = p
not_value (Aggs a) p shapes.Int e = cc
not_value (Aggs a) p shapes.Str e = cc

not_shared : (k : MapKind) → IsAggregation k → (if is_agg k then false else true) ≡ true → ⊥
not_shared Ints p e = p
not_shared Strs p e = p
not_shared (Aggs a) p e = cc

abbrev Gathers : Option MapDecl → Type 0
Gathers o = (decl : MapDecl) → o ≡ Some decl → IsAggregation decl.kind

none_declared : (o : Option MapDecl) → Gathers o → (shape : Shape) (keys : List Shape) → is_declared o (kind_of_shape shape) keys ≡ true → ⊥
none_declared None g shape keys e = cc
none_declared (Some decl) g shape keys e =
    not_value decl.kind (g decl refl) shape (and_parts (same_kind decl.kind (kind_of_shape shape)) (same_shapes decl.key_shape keys) e).0

none_shared : (o : Option MapDecl) → Gathers o → (keys : List Shape) → is_shared o keys ≡ true → ⊥
none_shared None g keys e = cc
none_shared (Some decl) g keys e =
    not_shared decl.kind (g decl refl) (and_parts (if is_agg decl.kind then false else true) (same_shapes decl.key_shape keys) e).0

-- ---- parts

module _ (one two : BodyScene) (scope : Scope) (gathers : (number : ℕ) → Gathers (decl_of number scope.maps)) where
  -- both see one `cpu`, or the part is not `cpu`
  abbrev pub SeesCpu : TreePart → Type 0
  SeesCpu p = (one.context.cpu ≡ two.context.cpu) ⊎ UsesNoCpu p

  quiet_builtin : (b : NumBuiltin) → SeesCpu (Numeric b) → IsQuietBuiltin one two b
  quiet_builtin builtins.Cpu (inl e) = e
  quiet_builtin builtins.Cpu (inr none) = absurd none
  quiet_builtin b h = tt

  quiet_part : (p : TreePart) → fits scope p ≡ true → Keeps p → SeesCpu p → IsQuiet one two p
  quiet_part (Numeric b) f k h = quiet_builtin b h
  quiet_part (MapOf number keys shape) f k h = none_declared (decl_of number scope.maps) (gathers number) shape keys f
  quiet_part (AggOf number keys) f k h = k
  quiet_part (Deleted number keys) f k h = none_shared (decl_of number scope.maps) (gathers number) keys f
  quiet_part (Cleared number) f k h = k
  quiet_part (Zeroed number) f k h = k
  quiet_part (Jumped jump inside) f k h = k
  quiet_part p f k h = tt

  pub quiet_parts : (ps : List TreePart) → all_fit scope ps ≡ true → AllByRecursion Keeps ps → AllByRecursion SeesCpu ps → AreQuiet one two ps
  quiet_parts [] f k h = tt
  quiet_parts (p ∷ ps) f k h = let two_parts = and_parts (fits scope p) (all_fit scope ps) f in
      (quiet_part p two_parts.0 k.0 h.0, quiet_parts ps two_parts.1 k.1 h.1)

-- ---- bodies

-- what is seen in two contexts is the same, but for `cpu`
pub record AreNear (one two : Context) : Type 0 where
  pub time : one.time ≡ two.time
  pub start : one.start ≡ two.start
  pub pid : one.pid ≡ two.pid
  pub tid : one.tid ≡ two.tid
  pub uid : one.uid ≡ two.uid
  pub gid : one.gid ≡ two.gid
  pub comm : one.comm ≡ two.comm

pub near_itself : (context : Context) → AreNear context context
near_itself context = record { time = refl; start = refl; pid = refl; tid = refl; uid = refl; gid = refl; comm = refl }

pub all_there : {X : Type 0} (P : X → Type 0) (xs : List X) → All P xs → (i : ℕ) (x : X) → slice_get xs i ≡ Some x → P x
all_there P xs all i x e = let low = slice_get_within xs i x e in subst P (get_or_from_slice_get xs i x x e) (all i x low)

module _ (script : Typed) (only : IsAggregationOnly script) (m : MapId) (one two : Context) (near : AreNear one two) (payload : List ℕ) (a b actors : ℕ) where
  -- what a run of a body adds: the same in both contexts and by both actors
  pub record RunsAdd (body : Option TypedBody) : Type 0 where
    pub entries : List Addition
    pub first : Gives m a entries (λ count. Unit {0}) (walked body one payload a actors)
    pub second : Gives m b entries (λ count. Unit {0}) (walked body two payload b actors)

  abbrev pub CpuIsFine : TypedBody → Type 0
  CpuIsFine body = (one.cpu ≡ two.cpu) ⊎ All UsesNoCpu (tree_parts body.tree)

  body_gathers : (i : ℕ) (body : TypedBody) → slice_get script.bodies i ≡ Some body → (number : ℕ) → Gathers (decl_of number body.maps)
  body_gathers i body there number decl e =
      let low = slice_get_within script.bodies i body there in
      let same = get_or_from_slice_get script.bodies i body body there in
      let placed = subst (λ (x : TypedBody). All (λ (m : MapId × MapDecl). slice_get script.maps m.0.0 ≡ Some m.1) x.maps) same (maps_placed script i body low) in
      all_there (λ (d : MapDecl). IsAggregation d.kind) script.maps only.maps number decl (served script.maps number body.maps decl placed e)

  seen_in : (body : TypedBody) → CpuIsFine body → AllByRecursion (λ p. (one.cpu ≡ two.cpu) ⊎ UsesNoCpu p) (tree_parts body.tree)
  seen_in body (inl e) = each_left (tree_parts body.tree)
    where
      each_left : (ps : List TreePart) → AllByRecursion (λ p. (one.cpu ≡ two.cpu) ⊎ UsesNoCpu p) ps
      each_left [] = tt
      each_left (p ∷ ps) = (inl e, each_left ps)
  seen_in body (inr all) = each_right (tree_parts body.tree) (recursion_from_All UsesNoCpu (tree_parts body.tree) all)
    where
      each_right : (ps : List TreePart) → AllByRecursion UsesNoCpu ps → AllByRecursion (λ p. (one.cpu ≡ two.cpu) ⊎ UsesNoCpu p) ps
      each_right [] h = tt
      each_right (p ∷ ps) h = (inr h.0, each_right ps h.1)

  pub runs_add : (i : ℕ) (body : Option TypedBody) → slice_get script.bodies i ≡ body → ((x : TypedBody) → body ≡ Some x → CpuIsFine x) → RunsAdd body
  runs_add i None there cpu = record { entries = []; first = (refl, tt); second = (refl, tt) }
  runs_add i (Some body) there cpu =
      let first = scene_of body one payload a actors in
      let second = scene_of body two payload b actors in
      let like : AreLike first second = record {
        time = near.time;
        start = near.start;
        pid = near.pid;
        tid = near.tid;
        uid = near.uid;
        gid = near.gid;
        comm = near.comm;
        payload = refl;
        actors = refl;
        maps = refl;
      } in
      let keeps = recursion_from_All Keeps (tree_parts body.tree) (all_there (λ (x : TypedBody). All Keeps (tree_parts x.tree)) script.bodies only.bodies i body there) in
      let quiet = quiet_parts first second (scope_of body.maps body.formats body.layout body.tree.variables) (body_gathers i body there)
      (tree_parts body.tree) body.typed keeps (seen_in body (cpu body refl)) in
      let both = walks_add m body one two payload a b actors like quiet in
      record {
        entries = both.entries ++ [];
        first = gives-then m a both.entries [] (λ ending. Unit {0}) (λ count. Unit {0}) (walk body one payload a actors) (λ ending. Ended 0) both.first (λ ending h. (refl, tt));
        second = gives-then m b both.entries [] (λ ending. Unit {0}) (λ count. Unit {0}) (walk body two payload b actors) (λ ending. Ended 0) both.second (λ ending h. (refl, tt));
      }
