-- What is asked by words, and by expressions.
use Rattle.std.proofs.Common.{◌≡◌, ◌++◌, ◌+◌, ◌<◌, ℕ, zero, suc, ℤ, List, [], ◌∷◌, Bool, true, false, map, sym, ◌∙◌, subst, append_assoc, append-nil, arith}
use Rattle.std.specs.List.{AllByRecursion}
use Rattle.std.specs.Prelude.{IsTrue}
use Rattle.std.proofs.lemmas.Bool.{and_parts}
use Rattle.std.proofs.lemmas.List.Folds.{list_all-append}
use Rattle.bt_core.specs.declared.item.Item.{Item}
use Rattle.bt_core.specs.declared.map.MapDecl.{MapDecl}
use Rattle.bt_core.specs.declared.map.MapId.{MapId}
use Rattle.bt_core.specs.declared.map.MapKind.{MapKind}
use Rattle.bt_core.specs.declared.map.MapKind.TheVariants.{Ints, Strs, Aggs}
use Rattle.bt_core.specs.declared.map.Shape.{Shape}
use Rattle.bt_core.specs.declared.map.Shape.TheVariants as shapes
use Rattle.bt_core.specs.declared.step.ObjectId.{ObjectId}
use Rattle.bt_core.specs.declared.step.Op.{Op}
use Rattle.bt_core.specs.declared.step.Reply.{Reply}
use Rattle.bt_core.specs.declared.step.ObjectId.TheVariants.{Cpu}
use Rattle.bt_core.specs.declared.step.Op.TheVariants as ops
use Rattle.bt_core.specs.declared.step.Op.TheVariants.{Get, Set}
use Rattle.bt_core.specs.declared.value.Value.{Value}
use Rattle.bt_core.specs.declared.value.Value.TheVariants.{Int, Str}
use Rattle.bt_core.specs.Interaction.{Interaction, Ended, Asks, and_then}
use Rattle.bt_core.specs.Kinds.{HasShape, IsOfShape}
use Rattle.bt_core.specs.Ports.{Setting, CanStep, IsReplyOf}
use Rattle.typed_tree.specs.declared.expr.AnyExpr.{AnyExpr, roll-AnyExpr, map-AnyExpr, fold-roll-AnyExpr}
use Rattle.typed_tree.specs.declared.expr.AnyExpr.TheOpen.{NumExpr-F, StrExpr-F, AnyExpr-F}
use Rattle.typed_tree.specs.declared.expr.NumExpr.{NumExpr, roll-NumExpr, map-NumExpr, fold-roll-NumExpr, ind-NumExpr}
use Rattle.typed_tree.specs.declared.expr.StrExpr.{StrExpr, roll-StrExpr, map-StrExpr, fold-roll-StrExpr, ind-StrExpr}
use Rattle.typed_tree.specs.declared.expr.AnyExpr.{ind-AnyExpr}
use Rattle.typed_tree.specs.Parts as tree
use Rattle.typed_tree.specs.Parts.{Made, TreePart, made_of, num_parts, str_parts, parts_in, key_shapes, keyed_parts}
use Rattle.typed_tree.specs.Scope.{fits, all_fit, is_declared, is_summed, decl_of, kind_of_shape}
use Rattle.walk_meaning.specs.declared.flow.Frame.{Frame}
use Rattle.walk_meaning.specs.declared.view.View.{View}
use Rattle.walk_meaning.specs.Admits.{AdmitsOf, EmitsOnly}
use Rattle.walk_meaning.specs.Does.{BodyScene, Does, given, looked_at, changed, lifted, bind, choose, gathered, in_order, if_holds}
use Rattle.walk_meaning.specs.Exprs.{read, value_by_parts, number_by_parts, text_by_parts, value_does, number_does, text_does, step_at}
use Rattle.map_ops.specs.declared.sweep.Sweep.{Sweep}
use Rattle.map_ops.specs.declared.sweep.Sweep.TheVariants.{Read, Clear, Zero}
use Rattle.map_ops.specs.Asking.{tells, got, asked_from, swept, summed}
use Rattle.map_ops.specs.Holders.{part, holder, holders, sweep_op, CanSweep}
use Rattle.map_ops.proofs.Sweeping.{sweep_step}
use Rattle.walk_meaning.specs.Maps.{get, set, sum_at}
use Rattle.walk_meaning.specs.Served.{IsServed, Fits, scene_in, scope_in}
use Rattle.walk_meaning.proofs.Declared.{HasShape-more, valued, summing, get_can, set_can, table_can}
use Rattle.walk_meaning.proofs.TreeParts.{agg_head}

-- a call that can be made, and what it emits is fine
abbrev pub IsFineCall : Setting → (Item → Type 0) → ObjectId → Op → Type 0
IsFineCall setting fine object op = CanStep setting object op × EmitsOnly fine op

pub Admits-bind : {A B : Type 0} (calls : ObjectId → Op → Type 0) (maps : List MapDecl) (holds : A → Type 0) (after : B → Type 0) (t : Interaction A) (k : A → Interaction B)
    → AdmitsOf calls maps holds t → ((a : A) → holds a → AdmitsOf calls maps after (k a)) → AdmitsOf calls maps after (and_then t k)
Admits-bind calls maps holds after (Ended a) k p q = q a p
Admits-bind calls maps holds after (Asks call next) k p q = (p.0, λ reply kind. Admits-bind calls maps holds after (next reply) k (p.1 reply kind) q)

-- a reply of the kind that an operation has on one of these objects
abbrev pub IsReplyIn : Setting → (ℕ → ObjectId) → Op → Reply → Type 0
IsReplyIn setting object op reply = (i : ℕ) × IsReplyOf setting.maps (object i) op reply

module _ (setting : Setting) (fine : Item → Type 0) where
  abbrev Fine : {A : Type 0} → (A → Type 0) → Interaction A → Type 0
  Fine holds t = AdmitsOf (IsFineCall setting fine) setting.maps holds t

  one_more : (P : Reply → Type 0) (replies : List Reply) (reply : Reply) → AllByRecursion P replies → P reply → AllByRecursion P (replies ++ reply ∷ [])
  one_more P [] reply h p = (p, tt)
  one_more P (r ∷ rs) reply h p = (h.0, one_more P rs reply h.1 p)

  pub asked_from-fine : (object : ℕ → ObjectId) (op : Op) (n first : ℕ) (replies : List Reply) → EmitsOnly fine op → ((i : ℕ) → i < first + n → CanStep setting (object i) op)
      → AllByRecursion (IsReplyIn setting object op) replies → Fine (AllByRecursion (IsReplyIn setting object op)) (asked_from object op replies first n)
  asked_from-fine object op zero first replies f can are = are
  asked_from-fine object op (suc n) first replies f can are =
      ((can first (omega arith), f), λ reply kind. asked_from-fine object op n (first + 1) (replies ++ reply ∷ []) f (λ i l. can i (omega (arith, l))) (one_more (IsReplyIn setting object op) replies reply are (first, kind)))

  sweep_fine : (sweep : Sweep) (kind : MapKind) (m : MapId) → EmitsOnly fine (sweep_op sweep kind m)
  sweep_fine Read Ints m = tt
  sweep_fine Read Strs m = tt
  sweep_fine Read (Aggs a) m = tt
  sweep_fine Clear Ints m = tt
  sweep_fine Clear Strs m = tt
  sweep_fine Clear (Aggs a) m = tt
  sweep_fine Zero Ints m = tt
  sweep_fine Zero Strs m = tt
  sweep_fine Zero (Aggs a) m = tt

  -- each object of a sweep is asked what it takes
  pub swept-fine : (sweep : Sweep) (kind : MapKind) (m : MapId) (actors : ℕ) → CanSweep setting m kind actors
      → Fine (AllByRecursion (IsReplyIn setting (holder kind m) (sweep_op sweep kind m))) (swept sweep kind m actors)
  swept-fine sweep kind m actors can =
      asked_from-fine (holder kind m) (sweep_op sweep kind m) (holders kind actors) 0 [] (sweep_fine sweep kind m)
      (λ i l. let below : i < holders kind actors = omega (arith, l) in sweep_step setting m sweep kind actors i can below) tt

module _ (setting : Setting) (fine : Item → Type 0) (scene : BodyScene) where
  abbrev pub Good : {A : Type 0} → (A → Type 0) → Does A → Type 0
  Good {A} holds d = (frame : Frame) → AdmitsOf {A = A × Frame} (IsFineCall setting fine) setting.maps (λ p. holds p.0) (d scene frame)

  abbrev pub Any : {A : Type 0} → A → Type 0
  Any a = Unit {0}

  pub given-good : {A : Type 0} (holds : A → Type 0) (a : A) → holds a → Good holds (given a)
  unfolding given
  given-good holds a p frame = p

  pub looked_at-good : {A : Type 0} (look : BodyScene → Frame → A) → Good Any (looked_at look)
  unfolding looked_at
  looked_at-good look frame = tt

  pub changed-good : (change : Frame → Frame) → Good Any (changed change)
  unfolding changed
  changed-good change frame = tt

  pub bind-good : {A B : Type 0} (holds : A → Type 0) (after : B → Type 0) (d : Does A) (k : A → Does B) → Good holds d → ((a : A) → holds a → Good after (k a)) → Good after (bind d k)
  unfolding bind
  bind-good holds after d k p q frame = Admits-bind (IsFineCall setting fine) setting.maps (λ w. holds w.0) (λ w. after w.0) (d scene frame) (λ w. k w.0 scene w.1) (p frame) (λ w h. q w.0 h w.1)

  -- what objects are asked, where each call is fine
  pub lifted-good : {A : Type 0} (holds : A → Type 0) (ask : BodyScene → Interaction A) → AdmitsOf (IsFineCall setting fine) setting.maps holds (ask scene) → Good holds (lifted ask)
  unfolding lifted
  lifted-good {A} holds ask p frame =
      Admits-bind (IsFineCall setting fine) setting.maps holds (λ (w : A × Frame). holds w.0) (ask scene) (λ value. Ended (value, frame)) p (λ value h. h)

  pub told-good : (object : ObjectId) (op : Op) → CanStep setting object op → EmitsOnly fine op → Good Any (lifted (λ s. tells object op))
  told-good object op p f = lifted-good Any (λ s. tells object op) ((p, f), λ reply kind. tt)

  pub choose-good : {A : Type 0} (holds : A → Type 0) (b : Bool) (one other : Does A) → Good holds one → Good holds other → Good holds (choose b one other)
  unfolding choose
  choose-good holds true one other p q = p
  choose-good holds false one other p q = q

  pub if_holds-good : {A : Type 0} (holds : A → Type 0) (test : Does ℤ) (one other : Does A) → Good Any test → Good holds one → Good holds other → Good holds (if_holds test one other)
  if_holds-good holds test one other t p q = bind-good Any holds test (λ n. choose _ one other) t (λ n h. choose-good holds _ one other p q)

  pub get-good : (m : MapId) (key : List Value) → CanStep setting (part m key) (Get key) → Good Any (get m key)
  get-good m key p = lifted-good Any (λ s. got m key) ((p, tt), λ reply kind. tt)

module _ (v : View) (setting : Setting) (served : IsServed v setting) (fine : Item → Type 0) where
  abbrev Does_good : {A : Type 0} → (A → Type 0) → Does A → Type 0
  Does_good holds d = Good setting fine (scene_in v) holds d

  abbrev Free : {A : Type 0} → A → Type 0
  Free a = Unit {0}

  -- what fits asks only what can be asked
  abbrev pub AnyGood : AnyExpr → Type 0
  AnyGood a = Fits v (made_of a).parts → Does_good (IsOfShape (made_of a).shape) (value_does a)

  abbrev pub NumGood : NumExpr → Type 0
  NumGood n = Fits v (num_parts n) → Does_good Free (number_does n)

  abbrev pub StrGood : StrExpr → Type 0
  StrGood s = Fits v (str_parts s) → Does_good Free (text_does s)

  abbrev ManyAny : Type 0
  ManyAny = (a : AnyExpr) × AnyGood a

  abbrev ManyNum : Type 0
  ManyNum = (n : NumExpr) × NumGood n

  abbrev ManyStr : Type 0
  ManyStr = (s : StrExpr) × StrGood s

  abbrev firsts : List ManyAny → List AnyExpr
  firsts ks = map (λ (k : ManyAny). k.0) ks

  pub split : (a b : List TreePart) → Fits v (a ++ b) → Fits v a × Fits v b
  split a b h = let p = and_parts (all_fit (scope_in v) a) (all_fit (scope_in v) b) (sym (list_all-append (fits (scope_in v)) a b) ∙ h) in (p.0, p.1)

  gathered-good : (ks : List ManyAny) (hs : List Shape) (vs : List Value) → HasShape hs vs → Fits v (parts_in (map made_of (firsts ks))) → Does_good (HasShape (hs ++ key_shapes (map made_of (firsts ks)))) (gathered vs (map value_does (firsts ks)))
  gathered-good [] hs vs p fit = given-good setting fine (scene_in v) (HasShape (hs ++ [])) vs (subst (λ (l : List Shape). HasShape l vs) (sym (append-nil hs)) p)
  gathered-good (k ∷ ks) hs vs p fit =
      let parts = split (made_of k.0).parts (parts_in (map made_of (firsts ks))) fit in
      bind-good setting fine (scene_in v) (IsOfShape (made_of k.0).shape) (HasShape (hs ++ (made_of k.0).shape ∷ key_shapes (map made_of (firsts ks)))) (value_does k.0) (λ value. gathered (vs ++ value ∷ []) (map value_does (firsts ks))) (k.1 parts.0)
      (λ value shaped. subst (λ (l : List Shape). Does_good (HasShape l) (gathered (vs ++ value ∷ []) (map value_does (firsts ks)))) (append_assoc hs ((made_of k.0).shape ∷ []) (key_shapes (map made_of (firsts ks))))
      (gathered-good ks (hs ++ (made_of k.0).shape ∷ []) (vs ++ value ∷ []) (HasShape-more hs vs (made_of k.0).shape value p shaped) parts.1))

  pub values-good : (ks : List ManyAny) → Fits v (parts_in (map made_of (firsts ks))) → Does_good (HasShape (key_shapes (map made_of (firsts ks)))) (in_order (map value_does (firsts ks)))
  values-good ks fit = gathered-good ks [] [] tt fit

  abbrev Declares : MapId → List ManyAny → Shape → Type 0
  Declares m ks h = IsTrue (is_declared (decl_of m.0 v.body.now.maps) (kind_of_shape h) (key_shapes (map made_of (firsts ks))))

  read-good : (m : MapId) (ks : List ManyAny) (h : Shape) → Declares m ks h → Fits v (parts_in (map made_of (firsts ks))) → Does_good Free (read m (map value_does (firsts ks)))
  read-good m ks h d fit = bind-good setting fine (scene_in v) (HasShape (key_shapes (map made_of (firsts ks)))) Free (in_order (map value_does (firsts ks))) (λ key. get m key) (values-good ks fit)
      (λ key shaped. get-good setting fine (scene_in v) m key (get_can setting m _ h key (valued v setting m _ h served d) shaped))

  -- where the map is, and the parts of its key
  map_fits : (m : MapId) (ks : List ManyAny) (h : Shape) → Fits v (keyed_parts m.0 (map made_of (firsts ks)) h) → Declares m ks h × Fits v (parts_in (map made_of (firsts ks)))
  map_fits m ks h fit = let p = and_parts (is_declared (decl_of m.0 v.body.now.maps) (kind_of_shape h) (key_shapes (map made_of (firsts ks)))) (all_fit (scope_in v) (parts_in (map made_of (firsts ks)))) fit in (p.0, p.1)

  pub then-given : {A B : Type 0} (d : Does A) (f : A → B) → Does_good Free d → Does_good {A = B} Free (bind d (λ a. given (f a)))
  then-given {A} {B} d f p = bind-good setting fine (scene_in v) Free Free d (λ a. given (f a)) p (λ a h. given-good setting fine (scene_in v) Free (f a) tt)

  two-given : {A B C : Type 0} (d : Does A) (e : Does B) (f : A → B → C) → Does_good Free d → Does_good Free e → Does_good {A = C} Free (bind d (λ a. bind e (λ b. given (f a b))))
  two-given d e f p q = bind-good setting fine (scene_in v) Free Free d (λ a. bind e (λ b. given (f a b))) p (λ a h. then-given e (f a) q)

  sum-good : (m : MapId) (ks : List ManyAny) (key : List Value) → IsTrue (is_summed (decl_of m.0 v.body.now.maps) (key_shapes (map made_of (firsts ks)))) → Does_good Free (sum_at m key)
  sum-good m ks key d =
      let found = summing v setting m (key_shapes (map made_of (firsts ks))) served d in
      lifted-good setting fine (scene_in v) Free (λ scene. summed m key scene.actors)
      (Admits-bind (IsFineCall setting fine) setting.maps (AllByRecursion (IsReplyIn setting Cpu (ops.Read m))) (λ (n : ℤ). Unit {0}) (asked_from Cpu (ops.Read m) [] 0 v.actors) _
      (asked_from-fine setting fine Cpu (ops.Read m) v.actors 0 [] tt (λ i l. let below : i < v.actors = omega (arith, l) in table_can v setting m (key_shapes (map made_of (firsts ks))) i served found below) tt) (λ replies h. tt))

  step-good : (m : MapId) (ks : List ManyAny) (plus prefix : Bool) → Declares m ks shapes.Int → (key : List Value) → HasShape (key_shapes (map made_of (firsts ks))) key → Does_good Free (step_at m key plus prefix)
  step-good m ks plus prefix d key shaped =
      let found = valued v setting m _ shapes.Int served d in
      bind-good setting fine (scene_in v) Free Free (get m key) _ (get-good setting fine (scene_in v) m key (get_can setting m _ shapes.Int key found shaped))
      (λ old h. then-given (set m key _) (λ u. _) (told-good setting fine (scene_in v) (part m key) (Set key (Int _)) (set_can setting m _ shapes.Int key (Int _) found shaped tt) tt))

  abbrev num_of : NumExpr-F ManyAny ManyNum ManyStr → NumExpr-F AnyExpr NumExpr StrExpr
  num_of h = map-NumExpr ManyAny ManyNum ManyStr AnyExpr NumExpr StrExpr (λ k. k.0) (λ k. k.0) (λ k. k.0) h

  num_case : (h : NumExpr-F ManyAny ManyNum ManyStr) → Fits v (tree.num_layer (map-NumExpr AnyExpr NumExpr StrExpr Made (List TreePart) (List TreePart) made_of num_parts str_parts (num_of h))) →
      Does_good Free (number_by_parts (map-NumExpr AnyExpr NumExpr StrExpr (Does Value) (Does ℤ) (Does (List ℕ)) value_does number_does text_does (num_of h)))
  num_case (NumExpr-F.Number n) fit = given-good setting fine (scene_in v) Free n tt
  num_case (NumExpr-F.Builtin b) fit = looked_at-good setting fine (scene_in v) _
  num_case (NumExpr-F.NumExpr::Field f) fit = looked_at-good setting fine (scene_in v) _
  num_case (NumExpr-F.NumExpr::Var n) fit = looked_at-good setting fine (scene_in v) _
  num_case (NumExpr-F.NumExpr::Map m ks) fit = let p = map_fits m ks shapes.Int fit in then-given (read m (map value_does (firsts ks))) _ (read-good m ks shapes.Int p.0 p.1)
  num_case (NumExpr-F.Agg m ks) fit =
      let p = agg_head v m (map made_of (firsts ks)) fit in
      bind-good setting fine (scene_in v) (HasShape (key_shapes (map made_of (firsts ks)))) Free (in_order (map value_does (firsts ks))) (λ key. sum_at m key) (values-good ks p.1)
      (λ key shaped. sum-good m ks key p.0)
  num_case (NumExpr-F.StepVar n plus prefix) fit =
      bind-good setting fine (scene_in v) Free Free _ _ (looked_at-good setting fine (scene_in v) _) (λ old h. then-given (changed _) _ (changed-good setting fine (scene_in v) _))
  num_case (NumExpr-F.StepMap m ks plus prefix) fit =
      let p = map_fits m ks shapes.Int fit in
      bind-good setting fine (scene_in v) (HasShape (key_shapes (map made_of (firsts ks)))) Free (in_order (map value_does (firsts ks))) (λ key. step_at m key plus prefix) (values-good ks p.1) (λ key shaped. step-good m ks plus prefix p.0 key shaped)
  num_case (NumExpr-F.Unary op d) fit = then-given (number_does d.0) _ (d.1 fit)
  num_case (NumExpr-F.Binary op l r) fit = let p = split (num_parts l.0) (num_parts r.0) fit in two-given (number_does l.0) (number_does r.0) _ (l.1 p.0) (r.1 p.1)
  num_case (NumExpr-F.Compare equal l r) fit = let p = split (str_parts l.0) (str_parts r.0) fit in two-given (text_does l.0) (text_does r.0) _ (l.1 p.0) (r.1 p.1)
  num_case (NumExpr-F.AndThen l r) fit = let p = split (num_parts l.0) (num_parts r.0) fit in
      if_holds-good setting fine (scene_in v) Free (number_does l.0) _ _ (l.1 p.0) (then-given (number_does r.0) _ (r.1 p.1)) (given-good setting fine (scene_in v) Free _ tt)
  num_case (NumExpr-F.OrElse l r) fit = let p = split (num_parts l.0) (num_parts r.0) fit in
      if_holds-good setting fine (scene_in v) Free (number_does l.0) _ _ (l.1 p.0) (given-good setting fine (scene_in v) Free _ tt) (then-given (number_does r.0) _ (r.1 p.1))
  num_case (NumExpr-F.NumExpr::Choose t y o) fit =
      let p = split (num_parts t.0) (num_parts y.0 ++ num_parts o.0) fit in
      let q = split (num_parts y.0) (num_parts o.0) p.1 in
      if_holds-good setting fine (scene_in v) Free (number_does t.0) (number_does y.0) (number_does o.0) (t.1 p.0) (y.1 q.0) (o.1 q.1)

  abbrev str_of : StrExpr-F ManyAny ManyNum ManyStr → StrExpr-F AnyExpr NumExpr StrExpr
  str_of h = map-StrExpr ManyAny ManyNum ManyStr AnyExpr NumExpr StrExpr (λ k. k.0) (λ k. k.0) (λ k. k.0) h

  str_case : (h : StrExpr-F ManyAny ManyNum ManyStr) → Fits v (tree.str_layer (map-StrExpr AnyExpr NumExpr StrExpr Made (List TreePart) (List TreePart) made_of num_parts str_parts (str_of h))) →
      Does_good Free (text_by_parts (map-StrExpr AnyExpr NumExpr StrExpr (Does Value) (Does ℤ) (Does (List ℕ)) value_does number_does text_does (str_of h)))
  str_case (StrExpr-F.Text s) fit = given-good setting fine (scene_in v) Free s tt
  str_case StrExpr-F.Comm fit = looked_at-good setting fine (scene_in v) _
  str_case (StrExpr-F.StrExpr::Field f) fit = looked_at-good setting fine (scene_in v) _
  str_case (StrExpr-F.StrExpr::Var n) fit = looked_at-good setting fine (scene_in v) _
  str_case (StrExpr-F.StrExpr::Map m ks) fit = let p = map_fits m ks shapes.Str fit in then-given (read m (map value_does (firsts ks))) _ (read-good m ks shapes.Str p.0 p.1)
  str_case (StrExpr-F.StrExpr::Choose t y o) fit =
      let p = split (num_parts t.0) (str_parts y.0 ++ str_parts o.0) fit in
      let q = split (str_parts y.0) (str_parts o.0) p.1 in
      if_holds-good setting fine (scene_in v) Free (number_does t.0) (text_does y.0) (text_does o.0) (t.1 p.0) (y.1 q.0) (o.1 q.1)

  abbrev any_of : AnyExpr-F ManyAny ManyNum ManyStr → AnyExpr-F AnyExpr NumExpr StrExpr
  any_of h = map-AnyExpr ManyAny ManyNum ManyStr AnyExpr NumExpr StrExpr (λ k. k.0) (λ k. k.0) (λ k. k.0) h

  any_case : (h : AnyExpr-F ManyAny ManyNum ManyStr) → Fits v (tree.any_layer (map-AnyExpr AnyExpr NumExpr StrExpr Made (List TreePart) (List TreePart) made_of num_parts str_parts (any_of h))).parts →
      Does_good (IsOfShape (tree.any_layer (map-AnyExpr AnyExpr NumExpr StrExpr Made (List TreePart) (List TreePart) made_of num_parts str_parts (any_of h))).shape)
      (value_by_parts (map-AnyExpr AnyExpr NumExpr StrExpr (Does Value) (Does ℤ) (Does (List ℕ)) value_does number_does text_does (any_of h)))
  any_case (AnyExpr-F.Num d) fit = bind-good setting fine (scene_in v) Free (IsOfShape shapes.Int) (number_does d.0) (λ n. given (Int n)) (d.1 fit) (λ n h. given-good setting fine (scene_in v) (IsOfShape shapes.Int) (Int n) tt)
  any_case (AnyExpr-F.Str d) fit = bind-good setting fine (scene_in v) Free (IsOfShape shapes.Str) (text_does d.0) (λ s. given (Str s)) (d.1 fit) (λ s h. given-good setting fine (scene_in v) (IsOfShape shapes.Str) (Str s) tt)

  num_step : (x : NumExpr-F AnyExpr NumExpr StrExpr) (h : NumExpr-F ManyAny ManyNum ManyStr) → num_of h ≡ x → NumGood (roll-NumExpr x)
  num_step x h e = subst (λ (y : NumExpr-F AnyExpr NumExpr StrExpr). NumGood (roll-NumExpr y)) e (λ fit.
      subst (λ (d : Does ℤ). Does_good Free d) (sym (fold-roll-NumExpr (Does Value) (Does ℤ) (Does (List ℕ)) value_by_parts number_by_parts text_by_parts (num_of h)))
      (num_case h (subst (λ (l : List TreePart). Fits v l) (fold-roll-NumExpr Made (List TreePart) (List TreePart) tree.any_layer tree.num_layer tree.str_layer (num_of h)) fit)))

  str_step : (x : StrExpr-F AnyExpr NumExpr StrExpr) (h : StrExpr-F ManyAny ManyNum ManyStr) → str_of h ≡ x → StrGood (roll-StrExpr x)
  str_step x h e = subst (λ (y : StrExpr-F AnyExpr NumExpr StrExpr). StrGood (roll-StrExpr y)) e (λ fit.
      subst (λ (d : Does (List ℕ)). Does_good Free d) (sym (fold-roll-StrExpr (Does Value) (Does ℤ) (Does (List ℕ)) value_by_parts number_by_parts text_by_parts (str_of h)))
      (str_case h (subst (λ (l : List TreePart). Fits v l) (fold-roll-StrExpr Made (List TreePart) (List TreePart) tree.any_layer tree.num_layer tree.str_layer (str_of h)) fit)))

  abbrev AnyWith : Made → Does Value → Type 0
  AnyWith made d = Fits v made.parts → Does_good (IsOfShape made.shape) d

  any_step : (x : AnyExpr-F AnyExpr NumExpr StrExpr) (h : AnyExpr-F ManyAny ManyNum ManyStr) → any_of h ≡ x → AnyGood (roll-AnyExpr x)
  any_step x h e = subst (λ (y : AnyExpr-F AnyExpr NumExpr StrExpr). AnyGood (roll-AnyExpr y)) e
      (subst (λ (d : Does Value). AnyWith (made_of (roll-AnyExpr (any_of h))) d) (sym (fold-roll-AnyExpr (Does Value) (Does ℤ) (Does (List ℕ)) value_by_parts number_by_parts text_by_parts (any_of h)))
      (subst (λ (m : Made). AnyWith m (value_by_parts (map-AnyExpr AnyExpr NumExpr StrExpr (Does Value) (Does ℤ) (Does (List ℕ)) value_does number_does text_does (any_of h)))) (sym (fold-roll-AnyExpr Made (List TreePart) (List TreePart) tree.any_layer tree.num_layer tree.str_layer (any_of h))) (any_case h)))

  pub num_good : (e : NumExpr) → NumGood e
  num_good e = ind-NumExpr AnyGood NumGood StrGood any_step num_step str_step e

  pub str_good : (e : StrExpr) → StrGood e
  str_good e = ind-StrExpr AnyGood NumGood StrGood any_step num_step str_step e

  pub any_good : (e : AnyExpr) → AnyGood e
  any_good e = ind-AnyExpr AnyGood NumGood StrGood any_step num_step str_step e
