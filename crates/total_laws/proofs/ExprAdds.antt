-- What words and expressions add, in two scenes that are alike.
use Rattle.std.proofs.Common.{◌≡◌, ◌++◌, ℕ, ℤ, w64, List, [], ◌∷◌, Bool, true, false, map, refl, sym, ap, subst}
use Rattle.std.specs.Int.{cast_signed}
use Rattle.bt_core.specs.declared.map.MapId.{MapId}
use Rattle.bt_core.specs.declared.step.ObjectId.{ObjectId}
use Rattle.bt_core.specs.declared.step.Op.{Op}
use Rattle.bt_core.specs.declared.step.Op.TheVariants as ops
use Rattle.bt_core.specs.declared.value.Value.{Value}
use Rattle.event_record.specs.Fields.{field_number, field_text}
use Rattle.typed_tree.specs.declared.expr.AnyExpr.{AnyExpr, roll-AnyExpr, map-AnyExpr, fold-roll-AnyExpr, ind-AnyExpr}
use Rattle.typed_tree.specs.declared.expr.AnyExpr.TheOpen.{NumExpr-F, StrExpr-F, AnyExpr-F}
use Rattle.typed_tree.specs.declared.expr.NumBuiltin.{NumBuiltin}
use Rattle.typed_tree.specs.declared.expr.NumBuiltin.TheVariants as builtins
use Rattle.typed_tree.specs.declared.expr.NumExpr.{NumExpr, roll-NumExpr, map-NumExpr, fold-roll-NumExpr, ind-NumExpr}
use Rattle.typed_tree.specs.declared.expr.StrExpr.{StrExpr, roll-StrExpr, map-StrExpr, fold-roll-StrExpr}
use Rattle.typed_tree.specs.Parts as tree
use Rattle.typed_tree.specs.Parts.{TreePart, Made, made_of, num_parts, str_parts, parts_in}
use Rattle.bt_meaning.specs.Totals.{Addition, added}
use Rattle.bt_meaning.proofs.Eachs.{each_front, each_back}
use Rattle.walk_meaning.specs.declared.flow.Frame.{Frame}
use Rattle.walk_meaning.specs.Does.{BodyScene, Does, given, looked_at, changed, lifted, bind, choose, gathered, if_holds}
use Rattle.map_ops.specs.Asking.{tells}
use Rattle.map_ops.specs.Builtins.{builtin_value}
use Rattle.walk_meaning.specs.Exprs.{value_by_parts, number_by_parts, text_by_parts, value_does, values_do, number_does, text_does}
use Rattle.walk_meaning.specs.Maps.{add}
use Rattle.total_laws.proofs.Adding.{is_plain, Gives, gives-then}
use Rattle.total_laws.proofs.Quiet.{AreLike, IsQuietBuiltin, IsQuiet, AreQuiet}

module _ (m : MapId) (one two : BodyScene) (like : AreLike one two) where
  -- from any frame: what is added, the value and the frame after it, which are the same in both scenes and whatever is replied
  abbrev pub Sure : {A : Type 0} → Does A → Type 0
  Sure {A} d = (frame : Frame) → (es : List Addition) × (w : A × Frame) × Gives m one.actor es (λ p. p ≡ w) (d one frame) × Gives m two.actor es (λ p. p ≡ w) (d two frame)

  pub given-sure : {A : Type 0} (a : A) → Sure (given a)
  unfolding given
  given-sure a frame = ([], (a, frame), (refl, refl), (refl, refl))

  pub looked_at-sure : {A : Type 0} (look : BodyScene → Frame → A) → ((frame : Frame) → look one frame ≡ look two frame) → Sure (looked_at look)
  unfolding looked_at
  looked_at-sure look same frame = ([], (look two frame, frame), (refl, λ i. (same frame i, frame)), (refl, refl))

  pub changed-sure : (change : Frame → Frame) → Sure (changed change)
  unfolding changed
  changed-sure change frame = ([], (tt, change frame), (refl, refl), (refl, refl))

  pub bind-sure : {A B : Type 0} (d : Does A) (k : A → Does B) → Sure d → ((a : A) → Sure (k a)) → Sure (bind d k)
  unfolding bind
  bind-sure {A} {B} d k p q frame =
      let x = p frame in let y = q x.1.0 x.1.1 in (
        x.0 ++ y.0,
        y.1,
        gives-then m one.actor x.0 y.0 (λ z. z ≡ x.1) (λ z. z ≡ y.1) (d one frame) (λ z. k z.0 one z.1) x.2
            (λ a e. subst (λ (z : A × Frame). Gives m one.actor y.0 (λ v. v ≡ y.1) (k z.0 one z.1)) (sym e) y.2),
        gives-then m two.actor x.0 y.0 (λ z. z ≡ x.1) (λ z. z ≡ y.1) (d two frame) (λ z. k z.0 two z.1) x.3
            (λ a e. subst (λ (z : A × Frame). Gives m two.actor y.0 (λ v. v ≡ y.1) (k z.0 two z.1)) (sym e) y.3),
      )

  pub told-sure : (object : ObjectId) (op : Op) → is_plain one.actor object op → is_plain two.actor object op → Sure (lifted (λ scene. tells object op))
  unfolding lifted
  told-sure object op p q frame = (added m op ++ [], (tt, frame), (p, [], refl, λ r. (refl, refl)), (q, [], refl, λ r. (refl, refl)))

  -- a number goes to the table of the scene's actor
  pub add-sure : (n : MapId) (key : List Value) (number : ℤ) → Sure (add n key number)
  unfolding lifted
  add-sure n key number frame =
      (added m (ops.Add n key number) ++ [], (tt, frame), (refl, [], refl, λ r. (refl, refl)), (refl, [], refl, λ r. (refl, refl)))

  pub choose-sure : {A : Type 0} (b : Bool) (then_do else_do : Does A) → Sure then_do → Sure else_do → Sure (choose b then_do else_do)
  unfolding choose
  choose-sure true then_do else_do p q = p
  choose-sure false then_do else_do p q = q

  pub if_holds-sure : {A : Type 0} (test : Does ℤ) (then_do else_do : Does A) → Sure test → Sure then_do → Sure else_do → Sure (if_holds test then_do else_do)
  if_holds-sure test then_do else_do t p q = bind-sure test (λ n. choose _ then_do else_do) t (λ n. choose-sure _ then_do else_do p q)

  pub then-given : {A B : Type 0} (d : Does A) (f : A → B) → Sure d → Sure (bind d (λ a. given (f a)))
  then-given d f p = bind-sure d (λ a. given (f a)) p (λ a. given-sure (f a))

  two-given : {A B C : Type 0} (d : Does A) (e : Does B) (f : A → B → C) → Sure d → Sure e → Sure (bind d (λ a. bind e (λ b. given (f a b))))
  two-given d e f p q = bind-sure d (λ a. bind e (λ b. given (f a b))) p (λ a. then-given e (f a) q)

  -- ---- expressions

  abbrev Calm : List TreePart → Type 0
  Calm parts = AreQuiet one two parts

  pub front : (a b : List TreePart) → Calm (a ++ b) → Calm a
  front a b h = each_front (IsQuiet one two) a b h

  pub back : (a b : List TreePart) → Calm (a ++ b) → Calm b
  back a b h = each_back (IsQuiet one two) a b h

  same_builtin : (b : NumBuiltin) → IsQuietBuiltin one two b → builtin_value b one.context ≡ builtin_value b two.context
  same_builtin builtins.Cpu q = ap (λ (n : ℕ). cast_signed w64 n) q
  same_builtin b q = cc

  abbrev AnySure : AnyExpr → Type 0
  AnySure a = Calm (made_of a).parts → Sure (value_does a)

  abbrev NumSure : NumExpr → Type 0
  NumSure n = Calm (num_parts n) → Sure (number_does n)

  abbrev StrSure : StrExpr → Type 0
  StrSure s = Calm (str_parts s) → Sure (text_does s)

  abbrev ManyAny : Type 0
  ManyAny = (a : AnyExpr) × AnySure a

  abbrev ManyNum : Type 0
  ManyNum = (n : NumExpr) × NumSure n

  abbrev ManyStr : Type 0
  ManyStr = (s : StrExpr) × StrSure s

  abbrev num_of : NumExpr-F ManyAny ManyNum ManyStr → NumExpr-F AnyExpr NumExpr StrExpr
  num_of h = map-NumExpr ManyAny ManyNum ManyStr AnyExpr NumExpr StrExpr (λ k. k.0) (λ k. k.0) (λ k. k.0) h

  num_case : (h : NumExpr-F ManyAny ManyNum ManyStr)
      → Calm (tree.num_layer (map-NumExpr AnyExpr NumExpr StrExpr Made (List TreePart) (List TreePart) made_of num_parts str_parts (num_of h)))
      → Sure (number_by_parts (map-NumExpr AnyExpr NumExpr StrExpr (Does Value) (Does ℤ) (Does (List ℕ)) value_does number_does text_does (num_of h)))
  num_case (NumExpr-F.Number n) q = given-sure n
  num_case (NumExpr-F.Builtin b) q = looked_at-sure _ (λ frame. same_builtin b q.0)
  num_case (NumExpr-F.NumExpr::Field f) q = looked_at-sure _ (λ frame. ap (field_number f) like.payload)
  num_case (NumExpr-F.NumExpr::Var n) q = looked_at-sure _ (λ frame. refl)
  num_case (NumExpr-F.NumExpr::Map n ks) q = absurd q.0
  num_case (NumExpr-F.Agg n ks) q = absurd q.0
  num_case (NumExpr-F.StepVar n plus prefix) q = bind-sure _ _ (looked_at-sure _ (λ frame. refl)) (λ old. then-given (changed _) _ (changed-sure _))
  num_case (NumExpr-F.StepMap n ks plus prefix) q = absurd q.1.0
  num_case (NumExpr-F.Unary op d) q = then-given (number_does d.0) _ (d.1 q.1)
  num_case (NumExpr-F.Binary op l r) q =
      two-given (number_does l.0) (number_does r.0) _ (l.1 (front (num_parts l.0) (num_parts r.0) q.1)) (r.1 (back (num_parts l.0) (num_parts r.0) q.1))
  num_case (NumExpr-F.Compare equal l r) q =
      two-given (text_does l.0) (text_does r.0) _ (l.1 (front (str_parts l.0) (str_parts r.0) q.1)) (r.1 (back (str_parts l.0) (str_parts r.0) q.1))
  num_case (NumExpr-F.AndThen l r) q =
      if_holds-sure (number_does l.0) _ _ (l.1 (front (num_parts l.0) (num_parts r.0) q.1))
      (then-given (number_does r.0) _ (r.1 (back (num_parts l.0) (num_parts r.0) q.1))) (given-sure _)
  num_case (NumExpr-F.OrElse l r) q =
      if_holds-sure (number_does l.0) _ _ (l.1 (front (num_parts l.0) (num_parts r.0) q.1))
      (given-sure _) (then-given (number_does r.0) _ (r.1 (back (num_parts l.0) (num_parts r.0) q.1)))
  num_case (NumExpr-F.NumExpr::Choose t y o) q =
      let rest = back (num_parts t.0) (num_parts y.0 ++ num_parts o.0) q.1 in
      if_holds-sure (number_does t.0) (number_does y.0) (number_does o.0) (t.1 (front (num_parts t.0) (num_parts y.0 ++ num_parts o.0) q.1))
      (y.1 (front (num_parts y.0) (num_parts o.0) rest)) (o.1 (back (num_parts y.0) (num_parts o.0) rest))

  abbrev str_of : StrExpr-F ManyAny ManyNum ManyStr → StrExpr-F AnyExpr NumExpr StrExpr
  str_of h = map-StrExpr ManyAny ManyNum ManyStr AnyExpr NumExpr StrExpr (λ k. k.0) (λ k. k.0) (λ k. k.0) h

  str_case : (h : StrExpr-F ManyAny ManyNum ManyStr)
      → Calm (tree.str_layer (map-StrExpr AnyExpr NumExpr StrExpr Made (List TreePart) (List TreePart) made_of num_parts str_parts (str_of h)))
      → Sure (text_by_parts (map-StrExpr AnyExpr NumExpr StrExpr (Does Value) (Does ℤ) (Does (List ℕ)) value_does number_does text_does (str_of h)))
  str_case (StrExpr-F.Text s) q = given-sure s
  str_case StrExpr-F.Comm q = looked_at-sure _ (λ frame. like.comm)
  str_case (StrExpr-F.StrExpr::Field f) q = looked_at-sure _ (λ frame. ap (field_text f) like.payload)
  str_case (StrExpr-F.StrExpr::Var n) q = looked_at-sure _ (λ frame. refl)
  str_case (StrExpr-F.StrExpr::Map n ks) q = absurd q.0
  str_case (StrExpr-F.StrExpr::Choose t y o) q =
      let rest = back (num_parts t.0) (str_parts y.0 ++ str_parts o.0) q.1 in
      if_holds-sure (number_does t.0) (text_does y.0) (text_does o.0) (t.1 (front (num_parts t.0) (str_parts y.0 ++ str_parts o.0) q.1))
      (y.1 (front (str_parts y.0) (str_parts o.0) rest)) (o.1 (back (str_parts y.0) (str_parts o.0) rest))

  abbrev any_of : AnyExpr-F ManyAny ManyNum ManyStr → AnyExpr-F AnyExpr NumExpr StrExpr
  any_of h = map-AnyExpr ManyAny ManyNum ManyStr AnyExpr NumExpr StrExpr (λ k. k.0) (λ k. k.0) (λ k. k.0) h

  any_case : (h : AnyExpr-F ManyAny ManyNum ManyStr)
      → Calm (tree.any_layer (map-AnyExpr AnyExpr NumExpr StrExpr Made (List TreePart) (List TreePart) made_of num_parts str_parts (any_of h))).parts
      → Sure (value_by_parts (map-AnyExpr AnyExpr NumExpr StrExpr (Does Value) (Does ℤ) (Does (List ℕ)) value_does number_does text_does (any_of h)))
  any_case (AnyExpr-F.Num d) q = then-given (number_does d.0) _ (d.1 q)
  any_case (AnyExpr-F.Str d) q = then-given (text_does d.0) _ (d.1 q)

  num_step : (x : NumExpr-F AnyExpr NumExpr StrExpr) (h : NumExpr-F ManyAny ManyNum ManyStr) → num_of h ≡ x → NumSure (roll-NumExpr x)
  num_step x h e = subst (λ (y : NumExpr-F AnyExpr NumExpr StrExpr). NumSure (roll-NumExpr y)) e (λ q.
      subst (λ (d : Does ℤ). Sure d) (sym (fold-roll-NumExpr (Does Value) (Does ℤ) (Does (List ℕ)) value_by_parts number_by_parts text_by_parts (num_of h)))
      (num_case h (subst (λ (l : List TreePart). Calm l) (fold-roll-NumExpr Made (List TreePart) (List TreePart) tree.any_layer tree.num_layer tree.str_layer (num_of h)) q)))

  str_step : (x : StrExpr-F AnyExpr NumExpr StrExpr) (h : StrExpr-F ManyAny ManyNum ManyStr) → str_of h ≡ x → StrSure (roll-StrExpr x)
  str_step x h e = subst (λ (y : StrExpr-F AnyExpr NumExpr StrExpr). StrSure (roll-StrExpr y)) e (λ q.
      subst (λ (d : Does (List ℕ)). Sure d) (sym (fold-roll-StrExpr (Does Value) (Does ℤ) (Does (List ℕ)) value_by_parts number_by_parts text_by_parts (str_of h)))
      (str_case h (subst (λ (l : List TreePart). Calm l) (fold-roll-StrExpr Made (List TreePart) (List TreePart) tree.any_layer tree.num_layer tree.str_layer (str_of h)) q)))

  any_step : (x : AnyExpr-F AnyExpr NumExpr StrExpr) (h : AnyExpr-F ManyAny ManyNum ManyStr) → any_of h ≡ x → AnySure (roll-AnyExpr x)
  any_step x h e = subst (λ (y : AnyExpr-F AnyExpr NumExpr StrExpr). AnySure (roll-AnyExpr y)) e (λ q.
      subst (λ (d : Does Value). Sure d) (sym (fold-roll-AnyExpr (Does Value) (Does ℤ) (Does (List ℕ)) value_by_parts number_by_parts text_by_parts (any_of h)))
      (any_case h (subst (λ (w : Made). Calm w.parts) (fold-roll-AnyExpr Made (List TreePart) (List TreePart) tree.any_layer tree.num_layer tree.str_layer (any_of h)) q)))

  pub num_sure : (e : NumExpr) → NumSure e
  num_sure e = ind-NumExpr AnySure NumSure StrSure any_step num_step str_step e

  pub any_sure : (e : AnyExpr) → AnySure e
  any_sure e = ind-AnyExpr AnySure NumSure StrSure any_step num_step str_step e

  pub values-sure : (es : List AnyExpr) (vs : List Value) → Calm (parts_in (map made_of es)) → Sure (gathered vs (values_do es))
  values-sure [] vs q = given-sure vs
  values-sure (e ∷ es) vs q =
      bind-sure (value_does e) (λ value. gathered (vs ++ value ∷ []) (values_do es)) (any_sure e (front (made_of e).parts (parts_in (map made_of es)) q))
      (λ value. values-sure es (vs ++ value ∷ []) (back (made_of e).parts (parts_in (map made_of es)) q))
