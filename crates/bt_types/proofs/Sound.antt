-- What is known is well formed: declarations are fine, and the pieces of formats are theirs.
use Rattle.std.proofs.Common.{◌≡◌, ◌++◌, ◌&&◌, ◌==◌, ℕ, Bool, true, false, cond, List, [], ◌∷◌, unwrap_or, Option, Some, None, Result, Ok, refl, ap, subst}
use Rattle.std.specs.List.{AllByRecursion, list_all, list_any}
use Rattle.bt_core.specs.declared.map.MapDecl.{MapDecl}
use Rattle.bt_core.specs.declared.map.MapKind.{MapKind}
use Rattle.bt_core.specs.declared.map.MapKind.TheVariants.{Ints, Aggs}
use Rattle.bt_core.specs.declared.map.Shape.{Shape}
use Rattle.bt_core.specs.declared.place.Place.{Place}
use Rattle.fmt_text.specs.Deciding.{format_pieces}
use Rattle.fmt_text.specs.declared.piece.Piece.{Piece}
use Rattle.typed_tree.specs.Scope.{is_fine_decl, takes}
use Rattle.expr_types.specs.declared.fault.Fault.{Fault}
use Rattle.expr_types.specs.declared.fault.Rule.{Rule}
use Rattle.expr_types.specs.declared.fault.Rule.TheVariants.{BadFormat}
use Rattle.expr_types.specs.declared.known.Known.{Known}
use Rattle.expr_types.specs.declared.known.Printed.{Printed as Call}
use Rattle.expr_types.specs.declared.known.Var.{Var}
use Rattle.expr_types.specs.Mentions.{Mention, Begins, Names, Uses, Reads, Steps, Sets, Gathers, NeedsShared, Deletes, ReadsVar, SetsVar, Args, ReadsField, NeedsWhole, NeedsSame, NeedsShort, NeedsBounds, NeedsTurns, NeedsRows, Prints, Jumps, Point}
use Rattle.expr_types.specs.Known.{has_name, place_of, decl_in, var_in, has_call, printed, shapes_in, kind_for, add_name, with_name, with_mention, decide_after, set_after, add_call, with_call, decides, learn}
use Rattle.expr_types.specs.Rules.{broken_at}
use Rattle.expr_types.specs.Judge.{unless_broken, judged}
use Rattle.bt_types.proofs.MapCalls.{holds_not}

pub record Sound (k : Known) : Type 0 where
  pub decls : list_all is_fine_decl k.decided ≡ true
  pub calls : AllByRecursion (λ (p : Call). format_pieces p.text ≡ Some p.pieces) k.printed

either : (test : Bool) (a b : Known) → Sound a → Sound b → Sound (cond test a b)
either true a b f g = f
either false a b f g = g

name_sound : (k : Known) (name : List ℕ) → Sound k → Sound (with_name k name)
name_sound k name s =
    let added = either (has_name name k.names) k (record k { names = k.names ++ name ∷ [] }) s (record { decls = s.decls; calls = s.calls }) in
    let a : Known = add_name k name in
    let n : ℕ = place_of name a.names in
    either (list_any (λ m. m == n) a.named) a (record a { named = a.named ++ n ∷ [] }) added (record { decls = added.decls; calls = added.calls })

mention_sound : (k : Known) (name : List ℕ) → Sound k → Sound (with_mention k name)
mention_sound k name s = either (has_name name k.mentioned) k (record k { mentioned = k.mentioned ++ name ∷ [] }) s (record { decls = s.decls; calls = s.calls })

one_more : {A : Type 0} (f : A → Bool) (xs : List A) (x : A) → list_all f xs ≡ true → f x ≡ true → list_all f (xs ++ x ∷ []) ≡ true
one_more f [] x h g = ap (λ (b : Bool). b && true) g
one_more f (y ∷ ys) x h g = elim (f y) as (λ b. (b && list_all f ys) ≡ true → (b && list_all f (ys ++ x ∷ [])) ≡ true) [ true ↦ λ e. one_more f ys x e g | false ↦ λ e. e ] h

decl_sound : (k : Known) (d : MapDecl) (o : Option MapDecl) → Sound k → Sound (decide_after k d o)
decl_sound k d None s =
    let P : Bool → Type 0 = λ b. is_fine_decl d ≡ b → Sound (cond b (record k { decided = k.decided ++ d ∷ [] }) k) in
    let yes_case : P true = λ e. record { decls = one_more is_fine_decl k.decided d s.decls e; calls = s.calls } in
    let no_case : P false = λ e. s in
    elim (is_fine_decl d) as P [ true ↦ yes_case | false ↦ no_case ] refl
decl_sound k d (Some first) s = s

decides_sound : (k : Known) (name : List ℕ) (kind : MapKind) (shapes : List Shape) → Sound k → Sound (decides k name kind shapes)
decides_sound k name kind shapes s =
    let m = with_mention k name in
    decl_sound m (record { name = name; kind = kind; key_shape = shapes }) (decl_in name m.decided) (mention_sound k name s)

var_sound : (k : Known) (v : Var) (o : Option Shape) → Sound k → Sound (set_after k v o)
var_sound k v None s = record { decls = s.decls; calls = s.calls }
var_sound k v (Some first) s = s

more_calls : (P : Call → Type 0) (xs : List Call) (x : Call) → AllByRecursion P xs → P x → AllByRecursion P (xs ++ x ∷ [])
more_calls P [] x h g = (g, tt)
more_calls P (y ∷ ys) x h g = (h.0, more_calls P ys x h.1 g)

-- what takes arguments is a format
is_format : (o : Option (List Piece)) (shapes : List Shape) → takes o shapes ≡ true → o ≡ Some (unwrap_or o [])
is_format None shapes h = cc
is_format (Some pieces) shapes h = refl

call_sound : (k : Known) (format : List ℕ) (place : Place) → Sound k → format_pieces format ≡ Some (unwrap_or (format_pieces format) []) → Sound (with_call k format place)
call_sound k format place s h =
    let added : Sound (add_call k format place) = either (has_call format place k.printed) k (record k { printed = k.printed ++ printed format place ∷ [] }) s
    (record { decls = s.decls; calls = more_calls (λ (p : Call). format_pieces p.text ≡ Some p.pieces) k.printed (printed format place) s.calls h }) in
    record { decls = added.decls; calls = added.calls }

sound_learn : (k : Known) (m : Mention) → Sound k → broken_at k m ≡ None → Sound (learn k m)
sound_learn k (Begins event) s h = record { decls = s.decls; calls = s.calls }
sound_learn k (Names name) s h = name_sound k name s
sound_learn k (Uses name) s h = mention_sound k name s
sound_learn k (Reads name keys) s h = decides_sound k name Ints (shapes_in k keys) s
sound_learn k (Steps name keys) s h = decides_sound k name Ints (shapes_in k keys) s
sound_learn k (Sets name keys value) s h = decides_sound k name (kind_for k value) (shapes_in k keys) s
sound_learn k (Gathers name keys kind) s h = decides_sound k name (Aggs kind) (shapes_in k keys) s
sound_learn k (NeedsShared name) s h = s
sound_learn k (Deletes name keys) s h = decides_sound k name Ints (shapes_in k keys) s
sound_learn k (SetsVar name value) s h = var_sound k _ (var_in name k.vars) s
sound_learn k (ReadsVar name) s h = s
sound_learn k Args s h = s
sound_learn k (ReadsField name) s h = s
sound_learn k (NeedsWhole value) s h = s
sound_learn k (NeedsSame left right) s h = s
sound_learn k (NeedsShort text) s h = s
sound_learn k (NeedsBounds kind) s h = s
sound_learn k (NeedsTurns turns) s h = s
sound_learn k (NeedsRows top div) s h = s
sound_learn k (Prints format place values) s h =
    call_sound k format place s (is_format (format_pieces format) (shapes_in k values) (holds_not (takes (format_pieces format) (shapes_in k values)) BadFormat h))
sound_learn k (Jumps inside) s h = s

unbroken : (b : Option Rule) (place : Place) (u : Result Known Fault) (k : Known) → unless_broken b place u ≡ Ok k → (b ≡ None) × (u ≡ Ok k)
unbroken None place u k h = (refl, h)
unbroken (Some rule) place u k h = cc

pub sound_judged : (ps : List Point) (a b : Known) → Sound a → judged ps a ≡ Ok b → Sound b
sound_judged [] a b s h = let e : a ≡ b = cc in subst (λ (k : Known). Sound k) e s
sound_judged (p ∷ ps) a b s h =
    let u = unbroken (broken_at a p.mention) p.place (judged ps (learn a p.mention)) b h in
    sound_judged ps (learn a p.mention) b (sound_learn a p.mention s u.0) u.1
