-- What a body names stands in its script at its number, and so on the ground of its instructions.
use Rattle.std.proofs.Common.{◌≡◌, ℕ, zero, suc, ◌≤◌, List, [], ◌∷◌, length, Option, Some, None, true, refl, ap, ◌∙◌, subst, arith, inl, inr}
use Rattle.std.specs.Prelude.{◌==◌, All, slice_get, nat_le, map, option_map}
use Rattle.std.specs.List.{list_any}
use Rattle.std.proofs.lemmas.Bool.{and_parts, or_cases, leb-true}
use Rattle.std.proofs.lemmas.Option.{slice_get_within, get_or_from_slice_get}
use Rattle.std.proofs.Math.Logic.{∥∥₁_elim}
use Rattle.std.proofs.Props.{props}
use Rattle.bt_core.specs.declared.context.Context.{Context}
use Rattle.bt_core.specs.declared.limits.TheConstants.{KEY_PARTS}
use Rattle.bt_core.specs.declared.map.MapDecl.{MapDecl}
use Rattle.bt_core.specs.declared.map.Shape.{Shape}
use Rattle.fmt_text.specs.Arguments.{argument_shapes}
use Rattle.fmt_text.specs.declared.piece.Piece.{Piece}
use Rattle.event_layout.specs.declared.field.Field.{Field}
use Rattle.event_layout.specs.declared.layout.Layout.{Layout}
use Rattle.event_layout.specs.Sizes.{end_of, greatest_end}
use Rattle.typed_tree.specs.declared.body.TypedBody.{TypedBody}
use Rattle.typed_tree.specs.Bodies.{scope_of}
use Rattle.typed_tree.specs.Scope.{format_of, is_fine_kind, has_field, same_field}
use Rattle.typed_tree.specs.Script.{IsIn, AreIn}
use Rattle.walk_meaning.specs.Does.{BodyScene}
use Rattle.walk_meaning.specs.Walk.{walk}
use Rattle.walk_meaning.specs.Walk.{first_frame}
use Rattle.walk_meaning.specs.Served.{least_length}
use Rattle.walk_meaning.proofs.Declared.{served, served_pick, fine, same_field-end}
use Rattle.ir_code.specs.declared.blocks.Block.{Block}
use Rattle.ir_code.specs.declared.probe.IrProbe.{IrProbe}
use Rattle.ir_code.specs.declared.state.State.{State}
use Rattle.ir_code.specs.Serving.{payload_need}
use Rattle.ir_code.specs.Meaning.{fresh, blocks_run, ir_run}
use Rattle.ir_code.specs.Typing.{are_typed}
use Rattle.ir_code.specs.Ways.{lead_forward}
use Rattle.bt_lower.specs.Bodies.{footing_of, HasPlace, LowersTree}
use Rattle.bt_lower.specs.Lowers.{state}
use Rattle.bt_lower.specs.Needs.{tree_need}
use Rattle.bt_lower.specs.Sound.{Agrees, Site}

slice_get-map : {A B : Type 0} (f : A → B) (xs : List A) (n : ℕ) (x : A) → slice_get xs n ≡ Some x → slice_get (map f xs) n ≡ Some (f x)
slice_get-map f [] n x e = cc
slice_get-map f (y ∷ ys) zero x e = ap (λ o. option_map f o) e
slice_get-map f (y ∷ ys) (suc n) x e = slice_get-map f ys n x e

format-there : (formats : List (List Piece)) (n : ℕ) (fs : List (ℕ × List Piece)) (pieces : List Piece) → All (λ (f : ℕ × List Piece). slice_get formats f.0 ≡ Some f.1) fs → format_of n fs ≡ Some pieces → slice_get formats n ≡ Some pieces
format-there formats n [] pieces a h = cc
format-there formats n (f ∷ fs) pieces a h =
    served_pick formats n f.0 f.1 pieces (format_of n fs) (a 0 f (omega arith)) (format-there formats n fs pieces (λ k d l. a (suc k) d (omega (arith, l)))) (f.0 == n) refl h

any-inside : (f : Field) (fs : List Field) → list_any (same_field f) fs ≡ true → end_of f ≤ greatest_end fs
any-inside f [] h = cc
any-inside f (g ∷ gs) h =
    elim (or_cases (same_field f g) (list_any (same_field f) gs) h) [
      | inl e ↦ (let same : end_of f ≡ end_of g = same_field-end f g e in omega (arith, same))
      | inr e ↦ (let below : end_of f ≤ greatest_end gs = any-inside f gs e in omega (arith, below))
    ]

layout-inside : (o : Option Layout) (f : Field) → has_field o f ≡ true → end_of f ≤ least_length o
layout-inside None f h = cc
layout-inside (Some layout) f h = let inside : end_of f ≤ greatest_end layout.fields = any-inside f layout.fields h in omega (arith, inside, layout.covers)

-- a body of a script agrees with the footing of its probe
agrees : (maps : List MapDecl) (formats : List (List Piece)) (body : TypedBody) (frame : ℕ) → IsIn maps formats body →
    Agrees (scope_of body.maps body.formats body.layout body.tree.variables) (footing_of maps (map argument_shapes formats) body.tree.variables frame (least_length body.layout))
agrees maps formats body frame p = record {
  variables = refl;
  maps = λ n decl e. served maps n body.maps decl p.maps_there e;
  few = λ n decl e. leb-true (length decl.key_shape) KEY_PARTS (and_parts (is_fine_kind decl.kind) (nat_le (length decl.key_shape) KEY_PARTS) (fine n body.maps decl body.fine e)).1;
  formats = λ n pieces e. slice_get-map argument_shapes formats n pieces (format-there formats n body.formats pieces p.formats_there e);
  fields = λ f e. layout-inside body.layout f e;
}

-- the body of this number is in the script
pub body-in : (maps : List MapDecl) (formats : List (List Piece)) (bodies : List TypedBody) (number : ℕ) (body : TypedBody) → ∥ AreIn maps formats bodies ∥₁ → slice_get bodies number ≡ Some body → IsIn maps formats body
body-in maps formats bodies number body placed here = record {
  maps_there = λ k m low. ∥∥₁_elim placed (hlevel props) (λ are. (one are).maps_there k m low);
  formats_there = λ k f low. ∥∥₁_elim placed (hlevel props) (λ are. (one are).formats_there k f low);
}
  where
    one : AreIn maps formats bodies → IsIn maps formats body
    one are = subst (λ (b : TypedBody). IsIn maps formats b) (get_or_from_slice_get bodies number body body here) (are number body (slice_get_within bodies number body here))

fresh-same : (ss : List Shape) → fresh ss ≡ state (first_frame ss) []
fresh-same ss = refl

-- ---- a body of a script, and blocks that do its tree

module _ (maps : List MapDecl) (formats : List (List Piece)) (body : TypedBody) (placed : IsIn maps formats body) (list : List Block) (l : LowersTree body.tree list) where
  abbrev site : Site
  site = record {
    scope = scope_of body.maps body.formats body.layout body.tree.variables;
    ground = footing_of maps (map argument_shapes formats) body.tree.variables (tree_need body.tree).frame (least_length body.layout);
    agrees = agrees maps formats body (tree_need body.tree).frame placed;
  }

  place : HasPlace body.tree site
  place = record { named = body.typed; room = record { within = omega arith } }

  abbrev seen : Context → List ℕ → ℕ → ℕ → BodyScene
  seen context payload actor actors = record { context = context; payload = payload; actor = actor; actors = actors; maps = body.maps }

  pub placed-runs : (context : Context) (payload : List ℕ) (actor actors : ℕ) →
      blocks_run list (record { context = context; payload = payload; actor = actor; actors = actors; maps = maps }) (fresh body.tree.variables) ≡ walk body context payload actor actors
  unfolding walk
  placed-runs context payload actor actors =
      ap (λ (s : State). blocks_run list (record { context = context; payload = payload; actor = actor; actors = actors; maps = maps }) s) (fresh-same body.tree.variables)
      ∙ l.runs site body.typed (seen context payload actor actors) refl (first_frame body.tree.variables)

  pub placed-leads : lead_forward list ≡ true
  placed-leads = l.leads site place

  pub placed-typed : are_typed (record { variables = body.tree.variables; maps = maps; formats = map argument_shapes formats; frame = (tree_need body.tree).frame }) list ≡ true
  placed-typed = l.typed site place

  pub placed-reads : payload_need list ≤ least_length body.layout
  placed-reads = l.reads site place

  pub placed-typed-at : (variables : List Shape) (ms : List MapDecl) (fs : List (List Shape)) (frame : ℕ) → variables ≡ body.tree.variables → ms ≡ maps → fs ≡ map argument_shapes formats → frame ≡ (tree_need body.tree).frame →
      are_typed (record { variables = variables; maps = ms; formats = fs; frame = frame }) list ≡ true
  placed-typed-at variables ms fs frame ev em ef eb =
      ap (λ (x : List Shape). are_typed (record { variables = x; maps = ms; formats = fs; frame = frame }) list) ev
      ∙ ap (λ (x : List MapDecl). are_typed (record { variables = body.tree.variables; maps = x; formats = fs; frame = frame }) list) em
      ∙ ap (λ (x : List (List Shape)). are_typed (record { variables = body.tree.variables; maps = maps; formats = x; frame = frame }) list) ef
      ∙ ap (λ (x : ℕ). are_typed (record { variables = body.tree.variables; maps = maps; formats = map argument_shapes formats; frame = x }) list) eb
      ∙ placed-typed

  pub placed-runs-at : (probe : IrProbe) → probe.blocks.list ≡ list → probe.variables ≡ body.tree.variables → probe.maps ≡ maps → (context : Context) (payload : List ℕ) (actor actors : ℕ) →
      ir_run probe context payload actor actors ≡ walk body context payload actor actors
  unfolding ir_run
  placed-runs-at probe el ev em context payload actor actors =
      ap (λ (x : List Block). blocks_run x (record { context = context; payload = payload; actor = actor; actors = actors; maps = probe.maps }) (fresh probe.variables)) el
      ∙ ap (λ (x : List Shape). blocks_run list (record { context = context; payload = payload; actor = actor; actors = actors; maps = probe.maps }) (fresh x)) ev
      ∙ ap (λ (x : List MapDecl). blocks_run list (record { context = context; payload = payload; actor = actor; actors = actors; maps = x }) (fresh body.tree.variables)) em
      ∙ placed-runs context payload actor actors
