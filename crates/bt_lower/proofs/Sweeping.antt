-- Lowering of `print`, `clear` and `zero`.
use Rattle.std.proofs.Common.{◌≡◌, ℕ, List, [], ◌∷◌, ◌++◌, length, refl, sym, ap, ◌∙◌, arith, append-nil, true, Option, Some, None}
use Rattle.std.specs.Prelude.{ℤ, slice_get}
use Rattle.std.proofs.lemmas.Bool.{and_parts}
use Rattle.bt_core.specs.declared.map.MapDecl.{MapDecl}
use Rattle.bt_core.specs.declared.map.MapId.{MapId}
use Rattle.bt_core.specs.declared.map.MapKind.{MapKind}
use Rattle.bt_core.specs.declared.step.Reply.{Reply}
use Rattle.bt_core.specs.declared.value.Value.{Value}
use Rattle.bt_core.specs.Interaction.{Ended, and_then}
use Rattle.bt_core.proofs.InteractionLaws.{and_then_assoc}
use Rattle.typed_tree.specs.Parts.{Shown, Cleared, Zeroed}
use Rattle.typed_tree.specs.Scope.{decl_of, is_there, may_print}
use Rattle.map_ops.specs.declared.sweep.Sweep.TheVariants.{Clear, Zero}
use Rattle.map_ops.specs.Asking.{swept, printed}
use Rattle.map_ops.specs.Holders.{kind_in, kind_of}
use Rattle.walk_meaning.specs.declared.flow.Frame.{Frame}
use Rattle.walk_meaning.specs.declared.flow.Flow.TheVariants.{Next}
use Rattle.walk_meaning.specs.Does.{given, lifted, bind}
use Rattle.walk_meaning.specs.Does.{BodyScene}
use Rattle.walk_meaning.specs.Maps.{kind_in_body}
use Rattle.walk_meaning.specs.Stmts.{print, clear, zero_all}
use Rattle.ir_code.specs.declared.instr.Instr.TheVariants as i
use Rattle.ir_code.specs.Meaning.{instr_run}
use Rattle.bt_lower.specs.Lowers.{state, seen_by}
use Rattle.bt_lower.specs.Sound.{Site}
use Rattle.bt_lower.proofs.Lists.{fit-head}
use Rattle.bt_lower.proofs.Stmts.{Acts}

-- a map that is there has one kind
kind-case : (s : Site) (m : MapId) (o : Option MapDecl) → decl_of m.0 s.scope.maps ≡ o → is_there o ≡ true → kind_of s.ground.maps m ≡ kind_in o
kind-case s m None e h = cc
kind-case s m (Some decl) e h = ap kind_in (s.agrees.maps m.0 decl e)

kind-same : (s : Site) (m : MapId) (w : BodyScene) → w.maps ≡ s.scope.maps → is_there (decl_of m.0 s.scope.maps) ≡ true → kind_of s.ground.maps m ≡ kind_in_body m w.maps
kind-same s m w e h = kind-case s m (decl_of m.0 s.scope.maps) refl h ∙ sym (ap (kind_in_body m) e)

there-case : (s : Site) (m : MapId) (o : Option MapDecl) → decl_of m.0 s.scope.maps ≡ o → is_there o ≡ true → is_there (slice_get s.ground.maps m.0) ≡ true
there-case s m None e h = cc
there-case s m (Some decl) e h = ap is_there (s.agrees.maps m.0 decl e)

pub there-names : (s : Site) (m : MapId) → is_there (decl_of m.0 s.scope.maps) ≡ true → is_there (slice_get s.ground.maps m.0) ≡ true
there-names s m h = there-case s m (decl_of m.0 s.scope.maps) refl h

no_values : (vs : List Value) → length vs ≡ 0 → vs ≡ []
no_values [] h = refl
no_values (v ∷ vs) h = absurd (omega arith)

bare : (values vs : List Value) → length vs ≡ 0 → values ++ vs ≡ values
bare values vs h = ap (λ l. values ++ l) (no_values vs h) ∙ append-nil values

pub print-acts : (m : MapId) (top : ℕ) (div : ℤ) → Acts (λ inside. Shown m.0 top div ∷ []) (i.Print m top div) [] [] (print m top div) (λ w vs frame. printed (kind_in_body m w.maps) m top div w.actors) (λ vs frame a. frame)
unfolding given bind lifted
print-acts m top div = record {
  takes_them = refl;
  reads_none = refl;
  gives_none = refl;
  is = λ w frame. and_then_assoc (printed (kind_in_body m w.maps) m top div w.actors) (λ (u : Unit {0}). Ended (u, frame)) (λ (p : Unit {0} × Frame). Ended (Next, p.1));
  runs = λ s inside fit w same frame values vs long.
      let p = fit-head s.scope (Shown m.0 top div) [] fit in
      let q = and_parts (is_there (decl_of m.0 s.scope.maps)) (may_print top div) p.0 in
      ap (λ l. instr_run (i.Print m top div) (seen_by s.ground.maps w) (state frame l)) (bare values vs long)
      ∙ ap (λ (k : MapKind). and_then (printed k m top div w.actors) (λ u. Ended (state frame values))) (kind-same s m w same q.0);
  turns = λ vs frame a. refl;
}

pub clear-acts : (m : MapId) → Acts (λ inside. Cleared m.0 ∷ []) (i.Clear m) [] [] (clear m) (λ w vs frame. swept Clear (kind_in_body m w.maps) m w.actors) (λ vs frame a. frame)
unfolding given bind lifted
clear-acts m = record {
  takes_them = refl;
  reads_none = refl;
  gives_none = refl;
  is = λ w frame. and_then_assoc (swept Clear (kind_in_body m w.maps) m w.actors) (λ (rs : List Reply). Ended (rs, frame)) (λ (p : List Reply × Frame). Ended (Next, p.1));
  runs = λ s inside fit w same frame values vs long.
      let p = fit-head s.scope (Cleared m.0) [] fit in
      ap (λ l. instr_run (i.Clear m) (seen_by s.ground.maps w) (state frame l)) (bare values vs long)
      ∙ ap (λ (k : MapKind). and_then (swept Clear k m w.actors) (λ u. Ended (state frame values))) (kind-same s m w same p.0);
  turns = λ vs frame a. refl;
}

pub zero-acts : (m : MapId) → Acts (λ inside. Zeroed m.0 ∷ []) (i.Zero m) [] [] (zero_all m) (λ w vs frame. swept Zero (kind_in_body m w.maps) m w.actors) (λ vs frame a. frame)
unfolding given bind lifted
zero-acts m = record {
  takes_them = refl;
  reads_none = refl;
  gives_none = refl;
  is = λ w frame. and_then_assoc (swept Zero (kind_in_body m w.maps) m w.actors) (λ (rs : List Reply). Ended (rs, frame)) (λ (p : List Reply × Frame). Ended (Next, p.1));
  runs = λ s inside fit w same frame values vs long.
      let p = fit-head s.scope (Zeroed m.0) [] fit in
      ap (λ l. instr_run (i.Zero m) (seen_by s.ground.maps w) (state frame l)) (bare values vs long)
      ∙ ap (λ (k : MapKind). and_then (swept Zero k m w.actors) (λ u. Ended (state frame values))) (kind-same s m w same p.0);
  turns = λ vs frame a. refl;
}
