-- A typed tree stays one when more is known.
use Rattle.std.proofs.Common.{◌≡◌, ◌++◌, ◌==◌, ◌||◌, ℕ, zero, suc, Bool, true, List, [], ◌∷◌, length, map, Option, Some, None, slice_get, refl, sym, ap, ◌∙◌}
use Rattle.std.specs.List.{list_any}
use Rattle.std.proofs.lemmas.List.{map-append}
use Rattle.std.proofs.lemmas.List.Folds.{list_any-append}
use Rattle.bt_core.specs.declared.map.MapKind.{MapKind}
use Rattle.bt_core.specs.declared.map.Shape.{Shape}
use Rattle.bt_core.specs.declared.place.Place.{Place}
use Rattle.expr_types.specs.declared.known.Known.{Known}
use Rattle.expr_types.specs.declared.known.Printed.{Printed as Call}
use Rattle.expr_types.specs.declared.known.Var.{Var}
use Rattle.expr_types.specs.Mentions.{Sort, Word, VarWord, MapWord, GatherWord, DeleteWord, PrintfWord, ShowWord, ClearWord, ZeroWord}
use Rattle.expr_types.specs.Known.{event_field}
use Rattle.expr_types.specs.Grows.{IsFrontOf, Grows}
use Rattle.typed_tree.specs.Parts.{TreePart, Constant, Literal, Numeric, Command, FieldOf, VarOf, MapOf, AggOf, Stepped, Prefixed, Joined, Both, Either, Chosen}
use Rattle.typed_tree.specs.Parts.{Assigned, Gathered, Deleted, Printed, Shown, Cleared, Zeroed, Jumped, Looped, Unrolled, Arm, Otherwise, NoOtherwise, Ending, Made}
use Rattle.expr_types.specs.Typing.{IsDeclared, IsNamed, IsMap, IsMapOf, Fits, AllFit, Titles, no_format, format_of_call, titles_of, title, format_title, word_of, words_by, IsTyping}
use Rattle.expr_types.proofs.Growing.{decl_later, shape_later}

-- what stands at a place of a list stands there in a longer one
get_more : {A : Type 0} (xs ys : List A) (i : ℕ) (x : A) → slice_get xs i ≡ Some x → slice_get (xs ++ ys) i ≡ Some x
get_more [] ys i x h = cc
get_more (z ∷ zs) ys zero x h = h
get_more (z ∷ zs) ys (suc i) x h = get_more zs ys i x h

pub get_later : {A : Type 0} (xs ys : List A) (i : ℕ) (x : A) → IsFrontOf xs ys → slice_get xs i ≡ Some x → slice_get ys i ≡ Some x
get_later xs ys i x f h = ap (λ l. slice_get l i) f.1 ∙ get_more xs f.0 i x h

pub get_mapped : {A B : Type 0} (f : A → B) (xs : List A) (i : ℕ) (x : A) → slice_get xs i ≡ Some x → slice_get (map f xs) i ≡ Some (f x)
get_mapped f [] i x h = cc
get_mapped f (z ∷ zs) zero x h = cc
get_mapped f (z ∷ zs) (suc i) x h = get_mapped f zs i x h

or_true : (a b : Bool) → a ≡ true → (a || b) ≡ true
or_true a b h = rw h refl

pub any_later : {A : Type 0} (test : A → Bool) (xs ys : List A) → IsFrontOf xs ys → list_any test xs ≡ true → list_any test ys ≡ true
any_later test xs ys f h = ap (list_any test) f.1 ∙ (list_any-append test xs f.0 ∙ or_true (list_any test xs) (list_any test f.0) h)

pub declared_later : (a b : Known) → Grows a b → (name : List ℕ) (kind : MapKind) (keys : List Shape) → IsDeclared a name kind keys → IsDeclared b name kind keys
declared_later a b g name kind keys h = record { decl = h.decl; found = decl_later a b g name h.decl h.found; kinds = h.kinds; shapes = h.shapes }

pub named_later : (a b : Known) → Grows a b → (number : ℕ) (name : List ℕ) → IsNamed a number name → IsNamed b number name
named_later a b g number name h =
    record { numbered = get_later a.names b.names number name g.names h.numbered; here = any_later (λ n. n == number) a.named b.named g.named h.here }

map_later : (a b : Known) → Grows a b → (number : ℕ) → IsMap a number → IsMap b number
map_later a b g number h = record { name = h.name; named = named_later a b g number h.name h.named }

map_of_later : (a b : Known) → Grows a b → (number : ℕ) (kind : MapKind) (keys : List Shape) → IsMapOf a number kind keys → IsMapOf b number kind keys
map_of_later a b g number kind keys h =
    record { name = h.name; named = named_later a b g number h.name h.named; declared = declared_later a b g h.name kind keys h.declared }

fits_later : (a b : Known) → Grows a b → (p : TreePart) → Fits a p → Fits b p
fits_later a b g (FieldOf f shape) h = (ap (λ e. event_field e f.name) g.event ∙ h.0, h.1)
fits_later a b g (VarOf number shape) h = record { var = h.var; numbered = get_later a.vars b.vars number h.var g.vars h.numbered; shapes = h.shapes }
fits_later a b g (MapOf number keys shape) h = map_of_later a b g number _ keys h
fits_later a b g (AggOf number keys) h = record { kind = h.kind; summed = h.summed; map = map_of_later a b g number h.kind keys h.map }
fits_later a b g (Gathered number keys kind counts) h = (map_of_later a b g number _ keys h.0, h.1)
fits_later a b g (Deleted number keys) h = record { kind = h.kind; shared = h.shared; map = map_of_later a b g number h.kind keys h.map }
fits_later a b g (Printed number shapes) h =
    record {
      call = h.call;
      numbered = get_later a.printed b.printed number h.call g.printed h.numbered;
      here = any_later (λ n. n == number) a.calls b.calls g.calls h.here;
      wanted = h.wanted;
    }
fits_later a b g (Shown number top div) h = (map_later a b g number h.0, h.1)
fits_later a b g (Cleared number) h = map_later a b g number h
fits_later a b g (Zeroed number) h = map_later a b g number h
fits_later a b g (Jumped jump inside) h = h
fits_later a b g (Unrolled turns line) h = h
fits_later a b g (Constant number) h = tt
fits_later a b g (Literal text) h = tt
fits_later a b g (Numeric builtin) h = tt
fits_later a b g Command h = tt
fits_later a b g (Stepped plus prefix) h = tt
fits_later a b g (Prefixed op) h = tt
fits_later a b g (Joined op) h = tt
fits_later a b g Both h = tt
fits_later a b g Either h = tt
fits_later a b g Chosen h = tt
fits_later a b g (Assigned op) h = tt
fits_later a b g (Looped line) h = tt
fits_later a b g Arm h = tt
fits_later a b g Otherwise h = tt
fits_later a b g NoOtherwise h = tt
fits_later a b g Ending h = tt

-- a title that was there stays
pub title_is : (names : List (List ℕ)) (number : ℕ) (name : List ℕ) → slice_get names number ≡ Some name → title names number ≡ name
title_is names number name h = ap (λ (o : Option (List ℕ)). elim o [ None ↦ [] | Some n ↦ n ]) h

pub map_title : (a b : Known) → Grows a b → (number : ℕ) (name : List ℕ) → slice_get a.names number ≡ Some name → title b.names number ≡ title a.names number
map_title a b g number name h = title_is b.names number name (get_later a.names b.names number name g.names h) ∙ sym (title_is a.names number name h)

var_title : (a b : Known) → Grows a b → (number : ℕ) (var : Var) → slice_get a.vars number ≡ Some var → title (titles_of b).variables number ≡ title (titles_of a).variables number
var_title a b g number var h =
    let of : Var → List ℕ = λ v. v.name in
    title_is (map of b.vars) number var.name (get_mapped of b.vars number var (get_later a.vars b.vars number var g.vars h)) ∙ sym (title_is (map of a.vars) number var.name (get_mapped of a.vars number var h))

-- the format of a call
pub format_is : (calls : List Call) (number : ℕ) (call : Call) → slice_get calls number ≡ Some call → format_title (map format_of_call calls) number ≡ format_of_call call
format_is calls number call h =
    ap (λ (o : Option (List ℕ × Place)). elim o [ None ↦ no_format | Some format ↦ format ]) (get_mapped format_of_call calls number call h)

format_later : (a b : Known) → Grows a b → (number : ℕ) (call : Call) → slice_get a.printed number ≡ Some call → format_title (titles_of b).formats number ≡ format_title (titles_of a).formats number
format_later a b g number call h = format_is b.printed number call (get_later a.printed b.printed number call g.printed h) ∙ sym (format_is a.printed number call h)

word_later : (a b : Known) → Grows a b → (p : TreePart) → Fits a p → word_of (titles_of b) p ≡ word_of (titles_of a) p
word_later a b g (VarOf number shape) h = ap VarWord (var_title a b g number h.var h.numbered)
word_later a b g (MapOf number keys shape) h = ap (λ n. MapWord n (length keys)) (map_title a b g number h.name h.named.numbered)
word_later a b g (AggOf number keys) h = ap (λ n. MapWord n (length keys)) (map_title a b g number h.map.name h.map.named.numbered)
word_later a b g (Gathered number keys kind counts) h = ap (λ n. GatherWord n (length keys) kind) (map_title a b g number h.0.name h.0.named.numbered)
word_later a b g (Deleted number keys) h = ap (λ n. DeleteWord n (length keys)) (map_title a b g number h.map.name h.map.named.numbered)
word_later a b g (Printed number shapes) h = ap (λ (f : List ℕ × Place). PrintfWord f.0 f.1) (format_later a b g number h.call h.numbered)
word_later a b g (Shown number top div) h = ap (λ n. ShowWord n top div) (map_title a b g number h.0.name h.0.named.numbered)
word_later a b g (Cleared number) h = ap ClearWord (map_title a b g number h.name h.named.numbered)
word_later a b g (Zeroed number) h = ap ZeroWord (map_title a b g number h.name h.named.numbered)
word_later a b g (FieldOf f shape) h = refl
word_later a b g (Jumped jump inside) h = refl
word_later a b g (Unrolled turns line) h = refl
word_later a b g (Constant number) h = refl
word_later a b g (Literal text) h = refl
word_later a b g (Numeric builtin) h = refl
word_later a b g Command h = refl
word_later a b g (Stepped plus prefix) h = refl
word_later a b g (Prefixed op) h = refl
word_later a b g (Joined op) h = refl
word_later a b g Both h = refl
word_later a b g Either h = refl
word_later a b g Chosen h = refl
word_later a b g (Assigned op) h = refl
word_later a b g (Looped line) h = refl
word_later a b g Arm h = refl
word_later a b g Otherwise h = refl
word_later a b g NoOtherwise h = refl
word_later a b g Ending h = refl

pub all_later : (a b : Known) → Grows a b → (ps : List TreePart) → AllFit a ps → AllFit b ps
all_later a b g [] h = tt
all_later a b g (p ∷ ps) h = (fits_later a b g p h.0, all_later a b g ps h.1)

pub words_later : (a b : Known) → Grows a b → (ps : List TreePart) → AllFit a ps → words_by (titles_of b) ps ≡ words_by (titles_of a) ps
words_later a b g [] h = refl
words_later a b g (p ∷ ps) h =
    ap (λ w. w ∷ words_by (titles_of b) ps) (word_later a b g p h.0) ∙ ap (λ (ws : List Word). word_of (titles_of a) p ∷ ws) (words_later a b g ps h.1)

pub typing_later : (a b : Known) → Grows a b → (sort : Sort) (words : List Word) (m : Made) → IsTyping a sort words m → IsTyping b sort words m
typing_later a b g sort words m t =
    record {
      shape = shape_later a b g sort m.shape t.shape;
      fits = all_later a b g m.parts t.fits;
      written = words_later a b g m.parts t.fits ∙ t.written;
    }

pub fits_both : (k : Known) (ps qs : List TreePart) → AllFit k ps → AllFit k qs → AllFit k (ps ++ qs)
fits_both k [] qs f g = g
fits_both k (p ∷ ps) qs f g = (f.0, fits_both k ps qs f.1 g)

pub words_both : (t : Titles) (ps qs : List TreePart) → words_by t (ps ++ qs) ≡ words_by t ps ++ words_by t qs
words_both t ps qs = map-append (word_of t) ps qs
