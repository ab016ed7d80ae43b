-- Lowering of reads and steps of maps.
use Rattle.std.proofs.Common.{◌≡◌, ℕ, ◌+◌, ◌≤◌, List, [], ◌∷◌, ◌++◌, length, refl, ap, ◌∙◌, subst, arith, Bool, true, Option, Some, None}
use Rattle.std.specs.Prelude.{ℤ, max, slice_get, ◌&&◌}
use Rattle.std.proofs.lemmas.Bool.{and_parts}
use Rattle.std.proofs.lemmas.Bool.Decides.{nat_tests}
use Rattle.bt_core.specs.declared.limits.TheConstants.{KEY_PARTS}
use Rattle.bt_core.specs.declared.map.MapDecl.{MapDecl}
use Rattle.bt_core.specs.declared.map.MapId.{MapId}
use Rattle.bt_core.specs.declared.map.MapKind.{MapKind}
use Rattle.bt_core.specs.declared.map.Shape.{Shape}
use Rattle.bt_core.specs.declared.map.Shape.TheVariants as shapes
use Rattle.bt_core.specs.declared.value.Value.{Value}
use Rattle.bt_core.specs.declared.value.Value.TheVariants.{Int, Str}
use Rattle.bt_core.specs.Interaction.{Ended, and_then}
use Rattle.bt_core.proofs.InteractionLaws.{and_then_assoc}
use Rattle.typed_tree.specs.Parts.{TreePart, MapOf, AggOf}
use Rattle.typed_tree.specs.Scope.{fits, decl_of, is_declared, is_summed, is_summed_kind, same_kind, same_shapes, kind_of_shape}
use Rattle.walk_meaning.specs.declared.flow.Frame.{Frame}
use Rattle.walk_meaning.specs.Does.{Does, given, lifted, bind, in_order}
use Rattle.walk_meaning.specs.Exprs.{number_value, text_value, read_number, read_text, read_agg, step_map}
use Rattle.ir_code.specs.declared.instr.Instr.TheVariants as i
use Rattle.map_ops.specs.Asking.{got, summed}
use Rattle.ir_code.specs.Figures.{sizes_of}
use Rattle.ir_code.specs.Meaning.{stepped}
use Rattle.ir_code.specs.Typing.{is_key_shape, holds_shape, sums, front_of}
use Rattle.map_ops.specs.Values.{number_of, text_of}
use Rattle.bt_lower.specs.declared.code.Code.{Code}
use Rattle.bt_lower.specs.Code.{pushed}
use Rattle.bt_lower.specs.Lowers.{state, LowersParts, LowersValue}
use Rattle.bt_lower.specs.Needs.{Need, need}
use Rattle.bt_lower.specs.Sound.{ground_in, Site}
use Rattle.bt_lower.proofs.Opening.{none-read}
use Rattle.bt_lower.proofs.Blocks.{and_then-same}
use Rattle.bt_lower.proofs.Exprs.{Puts, Parts-put}
use Rattle.bt_lower.proofs.Lists.{last-append, front-append, fit-head}
use Rattle.ir_code.proofs.Shaped.{same_shapes-is}

-- ---- what a map is named for

pub few-key : (key : List Shape) → length key ≤ KEY_PARTS → is_key_shape key ≡ true
few-key key h = grind (arith, nat_tests)

declared_on : (s : Site) (n : ℕ) (kind : MapKind) (key : List Shape) (o : Option MapDecl) → decl_of n s.scope.maps ≡ o → is_declared o kind key ≡ true → (is_key_shape key && is_declared (slice_get s.ground.maps n) kind key) ≡ true
declared_on s n kind key None e h = cc
declared_on s n kind key (Some decl) e h =
    let p = and_parts (same_kind decl.kind kind) (same_shapes decl.key_shape key) h in
    let same : decl.key_shape ≡ key = same_shapes-is decl.key_shape key p.1 in
    let few : length key ≤ KEY_PARTS = subst (λ (l : List Shape). length l ≤ KEY_PARTS) same (s.agrees.few n decl e) in
    rw (few-key key few, s.agrees.maps n decl e) h

pub map_names : (s : Site) (m : MapId) (key : List Shape) (shape : Shape) → fits s.scope (MapOf m.0 key shape) ≡ true → holds_shape (ground_in s.ground) m.0 key shape ≡ true
map_names s m key shape h = declared_on s m.0 (kind_of_shape shape) key (decl_of m.0 s.scope.maps) refl h

summed_on : (s : Site) (n : ℕ) (key : List Shape) (o : Option MapDecl) → decl_of n s.scope.maps ≡ o → is_summed o key ≡ true → (is_key_shape key && is_summed (slice_get s.ground.maps n) key) ≡ true
summed_on s n key None e h = cc
summed_on s n key (Some decl) e h =
    let p = and_parts (is_summed_kind decl.kind) (same_shapes decl.key_shape key) h in
    let same : decl.key_shape ≡ key = same_shapes-is decl.key_shape key p.1 in
    let few : length key ≤ KEY_PARTS = subst (λ (l : List Shape). length l ≤ KEY_PARTS) same (s.agrees.few n decl e) in
    rw (few-key key few, s.agrees.maps n decl e) h

agg_names : (s : Site) (m : MapId) (key : List Shape) → fits s.scope (AggOf m.0 key) ≡ true → sums (ground_in s.ground) m.0 key ≡ true
agg_names s m key h = summed_on s m.0 key (decl_of m.0 s.scope.maps) refl h

-- ---- reads

got-number : (m : MapId) (key : List Shape) (ds : List (Does Value)) → Puts (i.Get m key shapes.Int) ds key shapes.Int (number_value (read_number m ds)) (λ w vs frame. got m vs) (λ w vs frame a. Int (number_of a)) (λ vs frame a. frame)
unfolding given bind lifted
got-number m key ds = record {
  takes_them = refl;
  gives_one = refl;
  fits = omega arith;
  is = λ w frame. simp and_then_assoc;
  runs = λ maps w frame values vs long.
      ap (λ (l : List Value). and_then (got m l) (λ v. Ended (state frame (front_of (length key) (values ++ vs) ++ Int (number_of v) ∷ [])))) (last-append (length key) values vs long)
      ∙ ap (λ (l : List Value). and_then (got m vs) (λ v. Ended (state frame (l ++ Int (number_of v) ∷ [])))) (front-append (length key) values vs long);
  turns = λ vs frame a. refl;
}

got-text : (m : MapId) (key : List Shape) (ds : List (Does Value)) → Puts (i.Get m key shapes.Str) ds key shapes.Str (text_value (read_text m ds)) (λ w vs frame. got m vs) (λ w vs frame a. Str (text_of a)) (λ vs frame a. frame)
unfolding given bind lifted
got-text m key ds = record {
  takes_them = refl;
  gives_one = refl;
  fits = omega arith;
  is = λ w frame. simp and_then_assoc;
  runs = λ maps w frame values vs long.
      ap (λ (l : List Value). and_then (got m l) (λ v. Ended (state frame (front_of (length key) (values ++ vs) ++ Str (text_of v) ∷ [])))) (last-append (length key) values vs long)
      ∙ ap (λ (l : List Value). and_then (got m vs) (λ v. Ended (state frame (l ++ Str (text_of v) ∷ [])))) (front-append (length key) values vs long);
  turns = λ vs frame a. refl;
}

summed-puts : (m : MapId) (key : List Shape) (ds : List (Does Value)) → Puts (i.ReadAgg m key) ds key shapes.Int (number_value (read_agg m ds)) (λ w vs frame. summed m vs w.actors) (λ w vs frame a. Int a) (λ vs frame a. frame)
unfolding given bind lifted
summed-puts m key ds = record {
  takes_them = refl;
  gives_one = refl;
  fits = omega arith;
  is = λ w frame.
      and_then_assoc (in_order ds w frame) (λ p. and_then (summed m p.0 w.actors) (λ n. Ended (n, p.1))) (λ (q : ℤ × Frame). Ended (Int q.0, q.1))
      ∙ and_then-same (in_order ds w frame) _ _ (λ p. and_then_assoc (summed m p.0 w.actors) (λ n. Ended (n, p.1)) (λ (q : ℤ × Frame). Ended (Int q.0, q.1)));
  runs = λ maps w frame values vs long.
      ap (λ (l : List Value). and_then (summed m l w.actors) (λ n. Ended (state frame (front_of (length key) (values ++ vs) ++ Int n ∷ [])))) (last-append (length key) values vs long)
      ∙ ap (λ (l : List Value). and_then (summed m vs w.actors) (λ n. Ended (state frame (l ++ Int n ∷ [])))) (front-append (length key) values vs long);
  turns = λ vs frame a. refl;
}

pub stepped-puts : (m : MapId) (key : List Shape) (ds : List (Does Value)) (plus prefix : Bool) → Puts (i.StepMap m key plus prefix) ds key shapes.Int (number_value (step_map m ds plus prefix)) (λ w vs frame. stepped m vs plus prefix) (λ w vs frame a. a) (λ vs frame a. frame)
unfolding given bind lifted
stepped-puts m key ds plus prefix = record {
  takes_them = refl;
  gives_one = refl;
  fits = omega arith;
  is = λ w frame. simp and_then_assoc;
  runs = λ maps w frame values vs long.
      ap (λ (l : List Value). and_then (stepped m l plus prefix) (λ v. Ended (state frame (front_of (length key) (values ++ vs) ++ v ∷ [])))) (last-append (length key) values vs long)
      ∙ ap (λ (l : List Value). and_then (stepped m vs plus prefix) (λ v. Ended (state frame (l ++ v ∷ [])))) (front-append (length key) values vs long);
  turns = λ vs frame a. refl;
}

pub Lowers-read_number : (m : MapId) (ps : List TreePart) (key : List Shape) (ds : List (Does Value)) (n : Need) (c c1 new : Code) → c1 ≡ pushed (i.Get m key shapes.Int) c → LowersParts ps ds key n c1 new →
    LowersValue (MapOf m.0 key shapes.Int ∷ ps) (number_value (read_number m ds)) shapes.Int (need (max n.frame (sizes_of key + 8)) (16 + n.code)) c new
Lowers-read_number m ps key ds n c c1 new e1 l =
    Parts-put (i.Get m key shapes.Int) ps (MapOf m.0 key shapes.Int) ds key shapes.Int _ (λ w vs frame. got m vs) (λ w vs frame a. Int (number_of a)) (λ vs frame a. frame) n c c1 new
    (got-number m key ds) (λ s f. let p = fit-head s.scope (MapOf m.0 key shapes.Int) ps f in (map_names s m key shapes.Int p.0, p.1)) (λ s f. none-read s.ground.payload) e1 l

pub Lowers-read_text : (m : MapId) (ps : List TreePart) (key : List Shape) (ds : List (Does Value)) (n : Need) (c c1 new : Code) → c1 ≡ pushed (i.Get m key shapes.Str) c → LowersParts ps ds key n c1 new →
    LowersValue (MapOf m.0 key shapes.Str ∷ ps) (text_value (read_text m ds)) shapes.Str (need (max n.frame (sizes_of key + 64)) (40 + n.code)) c new
Lowers-read_text m ps key ds n c c1 new e1 l =
    Parts-put (i.Get m key shapes.Str) ps (MapOf m.0 key shapes.Str) ds key shapes.Str _ (λ w vs frame. got m vs) (λ w vs frame a. Str (text_of a)) (λ vs frame a. frame) n c c1 new
    (got-text m key ds) (λ s f. let p = fit-head s.scope (MapOf m.0 key shapes.Str) ps f in (map_names s m key shapes.Str p.0, p.1)) (λ s f. none-read s.ground.payload) e1 l

pub Lowers-read_agg : (m : MapId) (ps : List TreePart) (key : List Shape) (ds : List (Does Value)) (n : Need) (c c1 new : Code) → c1 ≡ pushed (i.ReadAgg m key) c → LowersParts ps ds key n c1 new →
    LowersValue (AggOf m.0 key ∷ ps) (number_value (read_agg m ds)) shapes.Int (need (max n.frame (sizes_of key + 8)) (16 + n.code)) c new
Lowers-read_agg m ps key ds n c c1 new e1 l =
    Parts-put (i.ReadAgg m key) ps (AggOf m.0 key) ds key shapes.Int _ (λ w vs frame. summed m vs w.actors) (λ w vs frame a. Int a) (λ vs frame a. frame) n c c1 new
    (summed-puts m key ds) (λ s f. let p = fit-head s.scope (AggOf m.0 key) ps f in (agg_names s m key p.0, p.1)) (λ s f. none-read s.ground.payload) e1 l
