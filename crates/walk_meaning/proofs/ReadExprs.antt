-- Expressions do the same by another way of reading that reads alike what can come.
use Rattle.std.proofs.Common.{◌≡◌, ◌++◌, ◌+◌, ℕ, zero, suc, ℤ, pos, List, [], ◌∷◌, Bool, true, false, map, refl, sym, ap, ◌∙◌, subst}
use Rattle.std.specs.Prelude.{IsTrue, cond}
use Rattle.std.specs.List.{flat_map}
use Rattle.std.proofs.lemmas.List.Concat.{flat_map-append}
use Rattle.std.proofs.lemmas.Bool.{and_parts}
use Rattle.std.proofs.lemmas.List.Folds.{list_all-append}
use Rattle.bt_core.specs.declared.item.Cell.{Cell}
use Rattle.bt_core.specs.declared.map.MapId.{MapId}
use Rattle.bt_core.specs.declared.map.MapKind.{MapKind}
use Rattle.bt_core.specs.declared.map.MapKind.TheVariants.{Ints, Strs, Aggs}
use Rattle.bt_core.specs.Kinds.{IsAggregation}
use Rattle.bt_core.specs.declared.map.Shape.{Shape}
use Rattle.bt_core.specs.declared.map.Shape.TheVariants as shapes
use Rattle.bt_core.specs.declared.step.ObjectId.{ObjectId}
use Rattle.bt_core.specs.declared.step.Op.{Op}
use Rattle.bt_core.specs.declared.step.ObjectId.TheVariants.{Cpu}
use Rattle.bt_core.specs.declared.step.Op.TheVariants.{Get}
use Rattle.bt_core.specs.declared.step.Op.TheVariants as ops
use Rattle.bt_core.specs.declared.step.Reply.{Reply}
use Rattle.bt_core.specs.declared.value.Value.{Value}
use Rattle.bt_core.specs.declared.value.Value.TheVariants.{Int, Str}
use Rattle.bt_core.specs.Interaction.{Interaction, Ended, Call}
use Rattle.map_rows.specs.Merged.{agg_rows, rows_in, merged_rows}
use Rattle.map_rows.specs.UnderKey.{number_under as number_in}
use Rattle.typed_tree.specs.declared.expr.AnyExpr.{AnyExpr, roll-AnyExpr, map-AnyExpr, fold-roll-AnyExpr, ind-AnyExpr}
use Rattle.typed_tree.specs.declared.expr.AnyExpr.TheOpen.{NumExpr-F, StrExpr-F, AnyExpr-F}
use Rattle.typed_tree.specs.declared.expr.NumExpr.{NumExpr, roll-NumExpr, map-NumExpr, fold-roll-NumExpr, ind-NumExpr}
use Rattle.typed_tree.specs.declared.expr.StrExpr.{StrExpr, roll-StrExpr, map-StrExpr, fold-roll-StrExpr}
use Rattle.typed_tree.specs.Parts as tree
use Rattle.typed_tree.specs.Parts.{Made, TreePart, made_of, num_parts, str_parts, parts_in, key_shapes, keyed_parts}
use Rattle.typed_tree.specs.Scope.{fits, all_fit, is_declared, is_summed, is_there, decl_of, kind_of_shape}
use Rattle.walk_meaning.specs.declared.flow.Frame.{Frame}
use Rattle.map_ops.specs.declared.sweep.Sweep.TheVariants.{Read}
use Rattle.walk_meaning.specs.declared.view.View.{View}
use Rattle.walk_meaning.specs.Does.{BodyScene, Does, given, lifted, bind, then, choose, gathered, in_order, if_holds}
use Rattle.walk_meaning.specs.Exprs.{read, builtin, command, number_field, text_field, step_variable, value_by_parts, number_by_parts, text_by_parts, value_does, number_does, text_does, step_at}
use Rattle.map_ops.specs.Values.{number_of, text_of, value_of, next}
use Rattle.walk_meaning.specs.Maps.{number_variable, text_variable, get, set, kind_in_body, sum_at}
use Rattle.map_ops.specs.Asking.{asked_from, swept, summed}
use Rattle.map_ops.specs.Holders.{part, holder, holders, sweep_op}
use Rattle.walk_meaning.specs.Reading.{Reader, number_asked, text_under, stepped_under, summed_by, summed_under, num_by, str_by, value_by, number_by, text_by}
use Rattle.bt_core.specs.Same.{SameTo}
use Rattle.walk_meaning.specs.Served.{Fits, scene_in, scope_in}
use Rattle.typed_tree.proofs.Summed.{summed_there}
use Rattle.bt_core.proofs.SameLaws.{SameTo-self, SameTo-and_then, SameTo-mapped}
use Rattle.map_ops.proofs.AggSums.{rows_same}
use Rattle.walk_meaning.proofs.Declared.{summed_here}
use Rattle.walk_meaning.proofs.TreeParts.{agg_head}

abbrev pub call_at : ObjectId → Op → Call
call_at object op = record { object = object; op = op }

-- the reader takes the same as the walk of each reply that can come to what the body reads
pub record ReadsAlike (comes : Call → Reply → Type 0) (reader : Reader) (v : View) : Type 0 where
  pub numbers : (m : MapId) (keys : List Shape) (key : List Value) (reply : Reply) → IsTrue (is_declared (decl_of m.0 v.body.now.maps) (kind_of_shape shapes.Int) keys) →
      comes (call_at (part m key) (Get key)) reply → reader.number reply ≡ number_of (value_of reply)
  pub texts : (m : MapId) (keys : List Shape) (key : List Value) (reply : Reply) → IsTrue (is_declared (decl_of m.0 v.body.now.maps) (kind_of_shape shapes.Str) keys) →
      comes (call_at (part m key) (Get key)) reply → reader.text reply ≡ text_of (value_of reply)
  pub rows : (m : MapId) (n : ℕ) (reply : Reply) → IsTrue (is_there (decl_of m.0 v.body.now.maps)) →
      comes (call_at (holder (kind_in_body m v.body.now.maps) m n) (sweep_op Read (kind_in_body m v.body.now.maps) m)) reply → reader.rows (kind_in_body m v.body.now.maps) reply ≡ rows_in (kind_in_body m v.body.now.maps) reply

module _ (comes : Call → Reply → Type 0) (scene : BodyScene) where
  -- values that are so related, and one frame
  abbrev pub Ends : {A B : Type 0} → (A → B → Type 0) → A × Frame → B × Frame → Type 0
  Ends R p q = R p.0 q.0 × (p.1 ≡ q.1)

  abbrev pub Tied : {A B : Type 0} → (A → B → Type 0) → Does A → Does B → Type 0
  Tied R d e = (frame : Frame) → SameTo comes (Ends R) (d scene frame) (e scene frame)

  abbrev pub Equal : {A : Type 0} → A → A → Type 0
  Equal a b = a ≡ b

  pub given-tied : {A B : Type 0} (R : A → B → Type 0) (a : A) (b : B) → R a b → Tied R (given a) (given b)
  unfolding given
  given-tied R a b p frame = (p, refl)

  pub self-tied : {A : Type 0} (d : Does A) → Tied Equal d d
  self-tied {A} d frame = SameTo-self comes (Ends (λ (a b : A). a ≡ b)) (λ p. (refl, refl)) (d scene frame)

  pub bind-tied : {A B C D : Type 0} (R : A → B → Type 0) (S : C → D → Type 0) (d : Does A) (e : Does B) (k : A → Does C) (l : B → Does D) →
      Tied R d e → ((a : A) (b : B) → R a b → Tied S (k a) (l b)) → Tied S (bind d k) (bind e l)
  unfolding bind
  bind-tied R S d e k l p q frame =
      SameTo-and_then comes (Ends R) (Ends S) (d scene frame) (e scene frame) (λ w. k w.0 scene w.1) (λ z. l z.0 scene z.1) (p frame)
      (λ w z h. subst (λ (f : Frame). SameTo comes (Ends S) (k w.0 scene w.1) (l z.0 scene f)) h.1 (q w.0 z.0 h.0 w.1))

  pub bind-same : {A B C : Type 0} (S : B → C → Type 0) (d e : Does A) (k : A → Does B) (l : A → Does C) → Tied Equal d e → ((a : A) → Tied S (k a) (l a)) → Tied S (bind d k) (bind e l)
  bind-same {A} S d e k l p q = bind-tied (λ (a b : A). a ≡ b) S d e k l p (λ a b h. subst (λ (x : A). Tied S (k a) (l x)) h (q a))

  -- what follows is the same
  pub first-same : {A B : Type 0} (d e : Does A) (k : A → Does B) → Tied Equal d e → Tied Equal (bind d k) (bind e k)
  first-same {A} {B} d e k p = bind-same (λ (a b : B). a ≡ b) d e k k p (λ a. self-tied (k a))

  pub mapped-tied : {A B : Type 0} (R : A → B → Type 0) (d : Does A) (e : Does B) (f : B → A) → Tied R d e → ((a : A) (b : B) → R a b → a ≡ f b) → Tied Equal d (bind e (λ b. given (f b)))
  unfolding bind given
  mapped-tied {A} R d e f p q frame = SameTo-mapped comes (Ends R) (Ends (λ (a b : A). a ≡ b)) (d scene frame) (e scene frame) (λ z. (f z.0, z.1)) (p frame) (λ w z h. (q w.0 z.0 h.0, h.1))

  pub choose-tied : {A : Type 0} (b : Bool) (one other first second : Does A) → Tied Equal one first → Tied Equal other second → Tied Equal (choose b one other) (choose b first second)
  unfolding choose
  choose-tied true one other first second p q = p
  choose-tied false one other first second p q = q

  pub if_holds-tied : {A : Type 0} (test by : Does ℤ) (one other first second : Does A) → Tied Equal test by → Tied Equal one first → Tied Equal other second → Tied Equal (if_holds test one other) (if_holds by first second)
  if_holds-tied {A} test by one other first second t p q = bind-same (λ (a b : A). a ≡ b) test by _ _ t (λ n. choose-tied _ one other first second p q)

module _ (comes : Call → Reply → Type 0) (reader : Reader) (v : View) (reads : ReadsAlike comes reader v) where
  abbrev Same : {A : Type 0} → Does A → Does A → Type 0
  Same {A} d e = Tied comes (scene_in v) (λ (a b : A). a ≡ b) d e

  abbrev pub AnyRead : AnyExpr → Type 0
  AnyRead a = Fits v (made_of a).parts → Same (value_by reader a) (value_does a)

  abbrev pub NumRead : NumExpr → Type 0
  NumRead n = Fits v (num_parts n) → Same (number_by reader n) (number_does n)

  abbrev pub StrRead : StrExpr → Type 0
  StrRead s = Fits v (str_parts s) → Same (text_by reader s) (text_does s)

  abbrev ManyAny : Type 0
  ManyAny = (a : AnyExpr) × AnyRead a

  abbrev ManyNum : Type 0
  ManyNum = (n : NumExpr) × NumRead n

  abbrev ManyStr : Type 0
  ManyStr = (s : StrExpr) × StrRead s

  abbrev firsts : List ManyAny → List AnyExpr
  firsts ks = map (λ (k : ManyAny). k.0) ks

  pub halves : (a b : List TreePart) → Fits v (a ++ b) → Fits v a × Fits v b
  halves a b h = let p = and_parts (all_fit (scope_in v) a) (all_fit (scope_in v) b) (sym (list_all-append (fits (scope_in v)) a b) ∙ h) in (p.0, p.1)

  gathered-same : (ks : List ManyAny) (vs : List Value) → Fits v (parts_in (map made_of (firsts ks))) → Same (gathered vs (map (value_by reader) (firsts ks))) (gathered vs (map value_does (firsts ks)))
  gathered-same [] vs fit = self-tied comes (scene_in v) (given vs)
  gathered-same (k ∷ ks) vs fit =
      let parts = halves (made_of k.0).parts (parts_in (map made_of (firsts ks))) fit in
      bind-same comes (scene_in v) (λ (a b : List Value). a ≡ b) (value_by reader k.0) (value_does k.0) (λ value. gathered (vs ++ value ∷ []) (map (value_by reader) (firsts ks))) (λ value. gathered (vs ++ value ∷ []) (map value_does (firsts ks))) (k.1 parts.0)
      (λ value. gathered-same ks (vs ++ value ∷ []) parts.1)

  pub values-same : (ks : List ManyAny) → Fits v (parts_in (map made_of (firsts ks))) → Same (in_order (map (value_by reader) (firsts ks))) (in_order (map value_does (firsts ks)))
  values-same ks fit = gathered-same ks [] fit

  abbrev Declares : MapId → List Shape → Shape → Type 0
  Declares m keys h = IsTrue (is_declared (decl_of m.0 v.body.now.maps) (kind_of_shape h) keys)

  pub number-tied : (m : MapId) (keys : List Shape) (key : List Value) → Declares m keys shapes.Int → Tied comes (scene_in v) (λ (n : ℤ) (value : Value). n ≡ number_of value) (number_asked reader m key) (get m key)
  unfolding lifted
  number-tied m keys key d frame = (refl, λ reply h. (reads.numbers m keys key reply d h, refl))

  text-tied : (m : MapId) (keys : List Shape) (key : List Value) → Declares m keys shapes.Str → Tied comes (scene_in v) (λ (t : List ℕ) (value : Value). t ≡ text_of value) (text_under reader m key) (get m key)
  unfolding lifted
  text-tied m keys key d frame = (refl, λ reply h. (reads.texts m keys key reply d h, refl))

  -- where the map is, and the parts of its key
  map_fits : (m : MapId) (ks : List ManyAny) (h : Shape) → Fits v (keyed_parts m.0 (map made_of (firsts ks)) h) → Declares m (key_shapes (map made_of (firsts ks))) h × Fits v (parts_in (map made_of (firsts ks)))
  map_fits m ks h fit = let p = and_parts (is_declared (decl_of m.0 v.body.now.maps) (kind_of_shape h) (key_shapes (map made_of (firsts ks)))) (all_fit (scope_in v) (parts_in (map made_of (firsts ks)))) fit in (p.0, p.1)

  under-tied : {A : Type 0} (R : A → Value → Type 0) (m : MapId) (ks : List ManyAny) (under : List Value → Does A) → Fits v (parts_in (map made_of (firsts ks))) → ((key : List Value) → Tied comes (scene_in v) R (under key) (get m key)) →
      Tied comes (scene_in v) R (bind (in_order (map (value_by reader) (firsts ks))) under) (read m (map value_does (firsts ks)))
  under-tied R m ks under fit p =
      bind-same comes (scene_in v) R (in_order (map (value_by reader) (firsts ks))) (in_order (map value_does (firsts ks))) under (λ key. get m key) (values-same ks fit) p

  step-same : (m : MapId) (keys : List Shape) (plus prefix : Bool) (key : List Value) → Declares m keys shapes.Int → Same (stepped_under reader m plus prefix key) (step_at m key plus prefix)
  step-same m keys plus prefix key d =
      bind-tied comes (scene_in v) (λ (n : ℤ) (value : Value). n ≡ number_of value) (λ (a b : ℤ). a ≡ b) (number_asked reader m key) (get m key) _ _ (number-tied m keys key d)
      (λ n value h. subst (λ (x : ℤ). Same (then (set m key (Int (next plus n))) (given (cond prefix (next plus n) n))) (then (set m key (Int (next plus x))) (given (cond prefix (next plus x) x)))) h (self-tied comes (scene_in v) (then (set m key (Int (next plus n))) (given (cond prefix (next plus n) n)))))

  -- ---- the rows of a map

  -- replies that have the same rows by both ways
  abbrev pub Rows : MapKind → List Reply → List Reply → Type 0
  Rows kind rs qs = (rs ≡ qs) × (flat_map (reader.rows kind) rs ≡ flat_map (rows_in kind) rs)

  rows-more : (kind : MapKind) (rs : List Reply) (r : Reply) → flat_map (reader.rows kind) rs ≡ flat_map (rows_in kind) rs → reader.rows kind r ≡ rows_in kind r → flat_map (reader.rows kind) (rs ++ r ∷ []) ≡ flat_map (rows_in kind) (rs ++ r ∷ [])
  rows-more kind rs r h e =
      flat_map-append (reader.rows kind) rs (r ∷ []) ∙ ap (λ (l : List (List Value × Cell)). l ++ (reader.rows kind r ++ [])) h ∙ ap (λ (l : List (List Value × Cell)). flat_map (rows_in kind) rs ++ (l ++ [])) e ∙
      sym (flat_map-append (rows_in kind) rs (r ∷ []))

  asked_from-same : (kind : MapKind) (object : ℕ → ObjectId) (op : Op) (n start : ℕ) (replies : List Reply) → ((i : ℕ) (reply : Reply) → comes (call_at (object i) op) reply → reader.rows kind reply ≡ rows_in kind reply) →
      flat_map (reader.rows kind) replies ≡ flat_map (rows_in kind) replies → SameTo comes (Rows kind) (asked_from object op replies start n) (asked_from object op replies start n)
  asked_from-same kind object op zero start replies alike h = (refl, h)
  asked_from-same kind object op (suc n) start replies alike h =
      (refl, λ r i. asked_from-same kind object op n (start + 1) (replies ++ r ∷ []) alike (rows-more kind replies r h (alike start r i)))

  abbrev kind_here : MapId → MapKind
  kind_here m = kind_in_body m v.body.now.maps

  pub swept-same : (m : MapId) → IsTrue (is_there (decl_of m.0 v.body.now.maps)) → SameTo comes (Rows (kind_here m)) (swept Read (kind_here m) m v.actors) (swept Read (kind_here m) m v.actors)
  swept-same m named =
      asked_from-same (kind_here m) (holder (kind_here m) m) (sweep_op Read (kind_here m) m) (holders (kind_here m) v.actors) 0 [] (λ i reply h. reads.rows m i reply named h) refl

  pub lifted-same : {A : Type 0} (t u : BodyScene → Interaction A) → SameTo comes (λ (a b : A). a ≡ b) (t (scene_in v)) (u (scene_in v)) → Same (lifted t) (lifted u)
  unfolding lifted
  lifted-same {A} t u p frame =
      SameTo-and_then comes (λ (a b : A). a ≡ b) (Ends comes (scene_in v) (λ (a b : A). a ≡ b)) (t (scene_in v)) (u (scene_in v)) (λ value. Ended (value, frame)) (λ value. Ended (value, frame)) p (λ a b h. (h, refl))

  -- ---- aggregations that are read

  number-same : (key : List Value) (kind : MapKind) → IsAggregation kind → (rs qs : List Reply) → Rows kind rs qs → number_in key (merged_rows (flat_map (reader.rows kind) rs)) ≡ number_in key (merged_rows (flat_map agg_rows qs))
  number-same key Ints g rs qs h = absurd g
  number-same key Strs g rs qs h = absurd g
  number-same key (Aggs a) g rs qs h =
      ap (λ (rows : List (List Value × Cell)). number_in key (merged_rows rows))
      (h.1 ∙ ap (λ (l : List Reply). flat_map (rows_in (Aggs a)) l) h.0 ∙ ap (λ (f : Reply → List (List Value × Cell)). flat_map f qs) (λ i r. rows_same a r i))

  tables-alike : (m : MapId) (kind : MapKind) → IsAggregation kind → ((n : ℕ) (reply : Reply) → comes (call_at (holder kind m n) (sweep_op Read kind m)) reply → reader.rows kind reply ≡ rows_in kind reply) →
      (n : ℕ) (reply : Reply) → comes (call_at (Cpu n) (ops.Read m)) reply → reader.rows kind reply ≡ rows_in kind reply
  tables-alike m Ints g p n reply h = absurd g
  tables-alike m Strs g p n reply h = absurd g
  tables-alike m (Aggs a) g p n reply h = p n reply h

  summed-same : (m : MapId) (key : List Value) → IsTrue (is_there (decl_of m.0 v.body.now.maps)) → IsAggregation (kind_here m) → SameTo comes (λ (a b : ℤ). a ≡ b) (summed_by reader (kind_here m) m key v.actors) (summed m key v.actors)
  summed-same m key named gathers =
      SameTo-and_then comes (Rows (kind_here m)) (λ (a b : ℤ). a ≡ b) (asked_from Cpu (ops.Read m) [] 0 v.actors) (asked_from Cpu (ops.Read m) [] 0 v.actors)
      (λ rs. Ended (number_in key (merged_rows (flat_map (reader.rows (kind_here m)) rs)))) (λ qs. Ended (number_in key (merged_rows (flat_map agg_rows qs))))
      (asked_from-same (kind_here m) Cpu (ops.Read m) v.actors 0 [] (tables-alike m (kind_here m) gathers (λ n reply h. reads.rows m n reply named h)) refl) (number-same key (kind_here m) gathers)

  sum-same : (m : MapId) (keys : List Shape) (key : List Value) → IsTrue (is_summed (decl_of m.0 v.body.now.maps) keys) → Same (summed_under reader m key) (sum_at m key)
  sum-same m keys key d =
      lifted-same (λ scene. summed_by reader (kind_in_body m scene.maps) m key scene.actors) (λ scene. summed m key scene.actors)
      (summed-same m key (summed_there (decl_of m.0 v.body.now.maps) keys d) (summed_here (decl_of m.0 v.body.now.maps) keys d))

  two-same : {A B C : Type 0} (d d' : Does A) (e e' : Does B) (f : A → B → C) → Same d d' → Same e e' → Same (bind d (λ a. bind e (λ b. given (f a b)))) (bind d' (λ a. bind e' (λ b. given (f a b))))
  two-same {A} {B} {C} d d' e e' f p q = bind-same comes (scene_in v) (λ (a b : C). a ≡ b) d d' _ _ p (λ a. first-same comes (scene_in v) e e' (λ b. given (f a b)) q)

  abbrev num_of : NumExpr-F ManyAny ManyNum ManyStr → NumExpr-F AnyExpr NumExpr StrExpr
  num_of h = map-NumExpr ManyAny ManyNum ManyStr AnyExpr NumExpr StrExpr (λ k. k.0) (λ k. k.0) (λ k. k.0) h

  num_case : (h : NumExpr-F ManyAny ManyNum ManyStr) → Fits v (tree.num_layer (map-NumExpr AnyExpr NumExpr StrExpr Made (List TreePart) (List TreePart) made_of num_parts str_parts (num_of h))) →
      Same (num_by reader (map-NumExpr AnyExpr NumExpr StrExpr (Does Value) (Does ℤ) (Does (List ℕ)) (value_by reader) (number_by reader) (text_by reader) (num_of h)))
      (number_by_parts (map-NumExpr AnyExpr NumExpr StrExpr (Does Value) (Does ℤ) (Does (List ℕ)) value_does number_does text_does (num_of h)))
  num_case (NumExpr-F.Number n) fit = self-tied comes (scene_in v) (given n)
  num_case (NumExpr-F.Builtin b) fit = self-tied comes (scene_in v) (builtin b)
  num_case (NumExpr-F.NumExpr::Field f) fit = self-tied comes (scene_in v) (number_field f)
  num_case (NumExpr-F.NumExpr::Var n) fit = self-tied comes (scene_in v) (number_variable n)
  num_case (NumExpr-F.NumExpr::Map m ks) fit =
      let p = map_fits m ks shapes.Int fit in
      mapped-tied comes (scene_in v) (λ (n : ℤ) (value : Value). n ≡ number_of value) (bind (in_order (map (value_by reader) (firsts ks))) (number_asked reader m)) (read m (map value_does (firsts ks))) number_of
      (under-tied (λ (n : ℤ) (value : Value). n ≡ number_of value) m ks (number_asked reader m) p.1 (λ key. number-tied m _ key p.0)) (λ n value h. h)
  num_case (NumExpr-F.Agg m ks) fit =
      let p = agg_head v m (map made_of (firsts ks)) fit in
      bind-same comes (scene_in v) (λ (a b : ℤ). a ≡ b) (in_order (map (value_by reader) (firsts ks))) (in_order (map value_does (firsts ks))) (summed_under reader m) (λ key. sum_at m key) (values-same ks p.1)
      (λ key. sum-same m (key_shapes (map made_of (firsts ks))) key p.0)
  num_case (NumExpr-F.StepVar n plus prefix) fit = self-tied comes (scene_in v) (step_variable n plus prefix)
  num_case (NumExpr-F.StepMap m ks plus prefix) fit =
      let p = map_fits m ks shapes.Int fit in
      bind-same comes (scene_in v) (λ (a b : ℤ). a ≡ b) (in_order (map (value_by reader) (firsts ks))) (in_order (map value_does (firsts ks))) (stepped_under reader m plus prefix) (λ key. step_at m key plus prefix) (values-same ks p.1)
      (λ key. step-same m _ plus prefix key p.0)
  num_case (NumExpr-F.Unary op d) fit = first-same comes (scene_in v) (number_by reader d.0) (number_does d.0) _ (d.1 fit)
  num_case (NumExpr-F.Binary op l r) fit =
      let p = halves (num_parts l.0) (num_parts r.0) fit in two-same (number_by reader l.0) (number_does l.0) (number_by reader r.0) (number_does r.0) _ (l.1 p.0) (r.1 p.1)
  num_case (NumExpr-F.Compare equal l r) fit =
      let p = halves (str_parts l.0) (str_parts r.0) fit in two-same (text_by reader l.0) (text_does l.0) (text_by reader r.0) (text_does r.0) _ (l.1 p.0) (r.1 p.1)
  num_case (NumExpr-F.AndThen l r) fit = let p = halves (num_parts l.0) (num_parts r.0) fit in
      if_holds-tied comes (scene_in v) (number_by reader l.0) (number_does l.0) _ _ _ _ (l.1 p.0) (first-same comes (scene_in v) (number_by reader r.0) (number_does r.0) _ (r.1 p.1)) (self-tied comes (scene_in v) (given (pos 0)))
  num_case (NumExpr-F.OrElse l r) fit = let p = halves (num_parts l.0) (num_parts r.0) fit in
      if_holds-tied comes (scene_in v) (number_by reader l.0) (number_does l.0) _ _ _ _ (l.1 p.0) (self-tied comes (scene_in v) (given (pos 1))) (first-same comes (scene_in v) (number_by reader r.0) (number_does r.0) _ (r.1 p.1))
  num_case (NumExpr-F.NumExpr::Choose t y o) fit =
      let p = halves (num_parts t.0) (num_parts y.0 ++ num_parts o.0) fit in
      let q = halves (num_parts y.0) (num_parts o.0) p.1 in
      if_holds-tied comes (scene_in v) (number_by reader t.0) (number_does t.0) _ _ _ _ (t.1 p.0) (y.1 q.0) (o.1 q.1)

  abbrev str_of : StrExpr-F ManyAny ManyNum ManyStr → StrExpr-F AnyExpr NumExpr StrExpr
  str_of h = map-StrExpr ManyAny ManyNum ManyStr AnyExpr NumExpr StrExpr (λ k. k.0) (λ k. k.0) (λ k. k.0) h

  str_case : (h : StrExpr-F ManyAny ManyNum ManyStr) → Fits v (tree.str_layer (map-StrExpr AnyExpr NumExpr StrExpr Made (List TreePart) (List TreePart) made_of num_parts str_parts (str_of h))) →
      Same (str_by reader (map-StrExpr AnyExpr NumExpr StrExpr (Does Value) (Does ℤ) (Does (List ℕ)) (value_by reader) (number_by reader) (text_by reader) (str_of h)))
      (text_by_parts (map-StrExpr AnyExpr NumExpr StrExpr (Does Value) (Does ℤ) (Does (List ℕ)) value_does number_does text_does (str_of h)))
  str_case (StrExpr-F.Text s) fit = self-tied comes (scene_in v) (given s)
  str_case StrExpr-F.Comm fit = self-tied comes (scene_in v) command
  str_case (StrExpr-F.StrExpr::Field f) fit = self-tied comes (scene_in v) (text_field f)
  str_case (StrExpr-F.StrExpr::Var n) fit = self-tied comes (scene_in v) (text_variable n)
  str_case (StrExpr-F.StrExpr::Map m ks) fit =
      let p = map_fits m ks shapes.Str fit in
      mapped-tied comes (scene_in v) (λ (t : List ℕ) (value : Value). t ≡ text_of value) (bind (in_order (map (value_by reader) (firsts ks))) (text_under reader m)) (read m (map value_does (firsts ks))) text_of
      (under-tied (λ (t : List ℕ) (value : Value). t ≡ text_of value) m ks (text_under reader m) p.1 (λ key. text-tied m _ key p.0)) (λ t value h. h)
  str_case (StrExpr-F.StrExpr::Choose t y o) fit =
      let p = halves (num_parts t.0) (str_parts y.0 ++ str_parts o.0) fit in
      let q = halves (str_parts y.0) (str_parts o.0) p.1 in
      if_holds-tied comes (scene_in v) (number_by reader t.0) (number_does t.0) _ _ _ _ (t.1 p.0) (y.1 q.0) (o.1 q.1)

  abbrev any_of : AnyExpr-F ManyAny ManyNum ManyStr → AnyExpr-F AnyExpr NumExpr StrExpr
  any_of h = map-AnyExpr ManyAny ManyNum ManyStr AnyExpr NumExpr StrExpr (λ k. k.0) (λ k. k.0) (λ k. k.0) h

  any_case : (h : AnyExpr-F ManyAny ManyNum ManyStr) → Fits v (tree.any_layer (map-AnyExpr AnyExpr NumExpr StrExpr Made (List TreePart) (List TreePart) made_of num_parts str_parts (any_of h))).parts →
      Same (value_by_parts (map-AnyExpr AnyExpr NumExpr StrExpr (Does Value) (Does ℤ) (Does (List ℕ)) (value_by reader) (number_by reader) (text_by reader) (any_of h)))
      (value_by_parts (map-AnyExpr AnyExpr NumExpr StrExpr (Does Value) (Does ℤ) (Does (List ℕ)) value_does number_does text_does (any_of h)))
  any_case (AnyExpr-F.Num d) fit = first-same comes (scene_in v) (number_by reader d.0) (number_does d.0) (λ n. given (Int n)) (d.1 fit)
  any_case (AnyExpr-F.Str d) fit = first-same comes (scene_in v) (text_by reader d.0) (text_does d.0) (λ s. given (Str s)) (d.1 fit)

  num_step : (x : NumExpr-F AnyExpr NumExpr StrExpr) (h : NumExpr-F ManyAny ManyNum ManyStr) → num_of h ≡ x → NumRead (roll-NumExpr x)
  num_step x h e = subst (λ (y : NumExpr-F AnyExpr NumExpr StrExpr). NumRead (roll-NumExpr y)) e (λ fit.
      subst (λ (d : Does ℤ). Same d (number_does (roll-NumExpr (num_of h)))) (sym (fold-roll-NumExpr (Does Value) (Does ℤ) (Does (List ℕ)) value_by_parts (num_by reader) (str_by reader) (num_of h)))
      (subst (λ (d : Does ℤ). Same (num_by reader (map-NumExpr AnyExpr NumExpr StrExpr (Does Value) (Does ℤ) (Does (List ℕ)) (value_by reader) (number_by reader) (text_by reader) (num_of h))) d)
      (sym (fold-roll-NumExpr (Does Value) (Does ℤ) (Does (List ℕ)) value_by_parts number_by_parts text_by_parts (num_of h)))
      (num_case h (subst (λ (l : List TreePart). Fits v l) (fold-roll-NumExpr Made (List TreePart) (List TreePart) tree.any_layer tree.num_layer tree.str_layer (num_of h)) fit))))

  str_step : (x : StrExpr-F AnyExpr NumExpr StrExpr) (h : StrExpr-F ManyAny ManyNum ManyStr) → str_of h ≡ x → StrRead (roll-StrExpr x)
  str_step x h e = subst (λ (y : StrExpr-F AnyExpr NumExpr StrExpr). StrRead (roll-StrExpr y)) e (λ fit.
      subst (λ (d : Does (List ℕ)). Same d (text_does (roll-StrExpr (str_of h)))) (sym (fold-roll-StrExpr (Does Value) (Does ℤ) (Does (List ℕ)) value_by_parts (num_by reader) (str_by reader) (str_of h)))
      (subst (λ (d : Does (List ℕ)). Same (str_by reader (map-StrExpr AnyExpr NumExpr StrExpr (Does Value) (Does ℤ) (Does (List ℕ)) (value_by reader) (number_by reader) (text_by reader) (str_of h))) d)
      (sym (fold-roll-StrExpr (Does Value) (Does ℤ) (Does (List ℕ)) value_by_parts number_by_parts text_by_parts (str_of h)))
      (str_case h (subst (λ (l : List TreePart). Fits v l) (fold-roll-StrExpr Made (List TreePart) (List TreePart) tree.any_layer tree.num_layer tree.str_layer (str_of h)) fit))))

  any_step : (x : AnyExpr-F AnyExpr NumExpr StrExpr) (h : AnyExpr-F ManyAny ManyNum ManyStr) → any_of h ≡ x → AnyRead (roll-AnyExpr x)
  any_step x h e = subst (λ (y : AnyExpr-F AnyExpr NumExpr StrExpr). AnyRead (roll-AnyExpr y)) e (λ fit.
      subst (λ (d : Does Value). Same d (value_does (roll-AnyExpr (any_of h)))) (sym (fold-roll-AnyExpr (Does Value) (Does ℤ) (Does (List ℕ)) value_by_parts (num_by reader) (str_by reader) (any_of h)))
      (subst (λ (d : Does Value). Same (value_by_parts (map-AnyExpr AnyExpr NumExpr StrExpr (Does Value) (Does ℤ) (Does (List ℕ)) (value_by reader) (number_by reader) (text_by reader) (any_of h))) d)
      (sym (fold-roll-AnyExpr (Does Value) (Does ℤ) (Does (List ℕ)) value_by_parts number_by_parts text_by_parts (any_of h)))
      (any_case h (subst (λ (m : Made). Fits v m.parts) (fold-roll-AnyExpr Made (List TreePart) (List TreePart) tree.any_layer tree.num_layer tree.str_layer (any_of h)) fit))))

  pub num_read : (e : NumExpr) → NumRead e
  num_read e = ind-NumExpr AnyRead NumRead StrRead any_step num_step str_step e

  pub any_read : (e : AnyExpr) → AnyRead e
  any_read e = ind-AnyExpr AnyRead NumRead StrRead any_step num_step str_step e
