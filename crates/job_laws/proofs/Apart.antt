-- The names of maps, the variables and the calls of `printf` that are known are apart: each is found by its own key.
use Rattle.std.proofs.Common.{◌≡◌, ◌++◌, ◌+◌, ◌==◌, ◌||◌, ℕ, Bool, true, false, cond, List, [], ◌∷◌, Option, Some, None, Result, Ok, refl, ap, subst}
use Rattle.std.specs.Prelude.{if◌then◌else◌}
use Rattle.std.specs.List.{list_any}
use Rattle.std.specs.Str.{bytes_eq}
use Rattle.bt_core.specs.declared.map.MapDecl.{MapDecl}
use Rattle.bt_core.specs.declared.map.MapKind.{MapKind}
use Rattle.bt_core.specs.declared.map.MapKind.TheVariants.{Ints, Aggs}
use Rattle.bt_core.specs.declared.map.Shape.{Shape}
use Rattle.bt_core.specs.declared.place.Place.{Place}
use Rattle.typed_tree.specs.Scope.{is_fine_decl}
use Rattle.expr_types.specs.declared.fault.Fault.{Fault}
use Rattle.expr_types.specs.declared.fault.Rule.{Rule}
use Rattle.expr_types.specs.declared.known.Known.{Known}
use Rattle.expr_types.specs.declared.known.Printed.{Printed as Call}
use Rattle.expr_types.specs.declared.known.Var.{Var}
use Rattle.expr_types.specs.Judge.{unless_broken, judged}
use Rattle.expr_types.specs.Known.{has_name, place_of, decl_in, var_in, is_call, has_call, call_at, printed, shapes_in, kind_for, add_name, add_number, with_name, with_mention, decide_after, set_after, with_var, add_call, with_call, decides, learn}
use Rattle.expr_types.specs.Mentions.{Mention, Begins, Names, Uses, Reads, Steps, Sets, Gathers, NeedsShared, Deletes, ReadsVar, SetsVar, Args, ReadsField, Point}
use Rattle.expr_types.specs.Mentions.{NeedsWhole, NeedsSame, NeedsShort, NeedsBounds, NeedsTurns, NeedsRows, Prints, Jumps}
use Rattle.expr_types.specs.Rules.{broken_at}
use Rattle.expr_types.proofs.Calling.{same_place}
use Rattle.expr_types.proofs.Finding.{same_self}
use Rattle.job_laws.proofs.Finding.{first_at, IsApart, apart_more}

-- ---- keys

abbrev pub named : List ℕ → List ℕ → Bool
named name other = bytes_eq other name

abbrev pub var_named : Var → Var → Bool
var_named var other = bytes_eq other.name var.name

abbrev pub same_call : Call → Call → Bool
same_call call other = is_call call.text call.place other

own_call : (call : Call) → same_call call call ≡ true
own_call call = (let a = same_place call.place.line in let b = same_place call.place.column in let c = same_self call.text in cc)

pub place_first : (name : List ℕ) (names : List (List ℕ)) → place_of name names ≡ first_at (named name) names
place_first name [] = refl
place_first name (n ∷ ns) = ap (λ i. if bytes_eq n name then 0 else i + 1) (place_first name ns)

pub call_first : (format : List ℕ) (place : Place) (calls : List Call) → call_at format place calls ≡ first_at (is_call format place) calls
call_first format place [] = refl
call_first format place (c ∷ cs) = ap (λ i. if is_call format place c then 0 else i + 1) (call_first format place cs)

no_var : (var : Var) (vars : List Var) → var_in var.name vars ≡ None → list_any (var_named var) vars ≡ false
no_var var [] h = refl
no_var var (v ∷ vs) h =
    elim (bytes_eq v.name var.name) as (λ b. cond b (Some v.shape) (var_in var.name vs) ≡ None → (b || list_any (var_named var) vs) ≡ false)
    [ true ↦ λ e. cc | false ↦ λ e. no_var var vs e ] h

-- ---- what is known

pub record AreApart (k : Known) : Type 0 where
  pub names : IsApart named k.names
  pub vars : IsApart var_named k.vars
  pub calls : IsApart same_call k.printed

either : (test : Bool) (a b : Known) → AreApart a → AreApart b → AreApart (cond test a b)
either true a b f g = f
either false a b f g = g

added_apart : (k : Known) (name : List ℕ) → AreApart k → AreApart (add_name k name)
added_apart k name s =
    let P : Bool → Type 0 = λ b. has_name name k.names ≡ b → AreApart (cond b k (record k { names = k.names ++ name ∷ [] })) in
    let yes_case : P true = λ e. s in
    let no_case : P false = λ e. record { names = apart_more named k.names name same_self e s.names; vars = s.vars; calls = s.calls } in
    elim (has_name name k.names) as P [ true ↦ yes_case | false ↦ no_case ] refl

number_apart : (k : Known) (number : ℕ) → AreApart k → AreApart (add_number k number)
number_apart k number s =
    either (list_any (λ n. n == number) k.named) k (record k { named = k.named ++ number ∷ [] }) s (record { names = s.names; vars = s.vars; calls = s.calls })

name_apart : (k : Known) (name : List ℕ) → AreApart k → AreApart (with_name k name)
name_apart k name s = number_apart (add_name k name) (place_of name (add_name k name).names) (added_apart k name s)

mention_apart : (k : Known) (name : List ℕ) → AreApart k → AreApart (with_mention k name)
mention_apart k name s =
    either (has_name name k.mentioned) k (record k { mentioned = k.mentioned ++ name ∷ [] }) s (record { names = s.names; vars = s.vars; calls = s.calls })

decl_apart : (k : Known) (d : MapDecl) (o : Option MapDecl) → AreApart k → AreApart (decide_after k d o)
decl_apart k d None s = either (is_fine_decl d) (record k { decided = k.decided ++ d ∷ [] }) k (record { names = s.names; vars = s.vars; calls = s.calls }) s
decl_apart k d (Some first) s = s

decides_apart : (k : Known) (name : List ℕ) (kind : MapKind) (shapes : List Shape) → AreApart k → AreApart (decides k name kind shapes)
decides_apart k name kind shapes s =
    let m = with_mention k name in decl_apart m (record { name = name; kind = kind; key_shape = shapes }) (decl_in name m.decided) (mention_apart k name s)

call_added : (k : Known) (format : List ℕ) (place : Place) → AreApart k → AreApart (add_call k format place)
call_added k format place s =
    let P : Bool → Type 0 = λ b. has_call format place k.printed ≡ b → AreApart (cond b k (record k { printed = k.printed ++ printed format place ∷ [] })) in
    let yes_case : P true = λ e. s in
    let no_case : P false = λ e. record { names = s.names; vars = s.vars; calls = apart_more same_call k.printed (printed format place) own_call e s.calls } in
    elim (has_call format place k.printed) as P [ true ↦ yes_case | false ↦ no_case ] refl

call_apart : (k : Known) (format : List ℕ) (place : Place) → AreApart k → AreApart (with_call k format place)
call_apart k format place s = let added = call_added k format place s in record { names = added.names; vars = added.vars; calls = added.calls }

var_apart : (k : Known) (var : Var) → AreApart k → AreApart (with_var k var)
var_apart k var s = by (var_in var.name k.vars) refl
  where
    by : (o : Option Shape) → var_in var.name k.vars ≡ o → AreApart (set_after k var o)
    by None e = record { names = s.names; vars = apart_more var_named k.vars var (λ v. same_self v.name) (no_var var k.vars e) s.vars; calls = s.calls }
    by (Some first) e = s

learn_apart : (k : Known) (m : Mention) → AreApart k → AreApart (learn k m)
learn_apart k (Begins event) s = record { names = s.names; vars = λ i v e. cc; calls = s.calls }
learn_apart k (Names name) s = name_apart k name s
learn_apart k (Uses name) s = mention_apart k name s
learn_apart k (Reads name keys) s = decides_apart k name Ints (shapes_in k keys) s
learn_apart k (Steps name keys) s = decides_apart k name Ints (shapes_in k keys) s
learn_apart k (Sets name keys value) s = decides_apart k name (kind_for k value) (shapes_in k keys) s
learn_apart k (Gathers name keys kind) s = decides_apart k name (Aggs kind) (shapes_in k keys) s
learn_apart k (NeedsShared name) s = s
learn_apart k (Deletes name keys) s = decides_apart k name Ints (shapes_in k keys) s
learn_apart k (SetsVar name value) s = var_apart k _ s
learn_apart k (ReadsVar name) s = s
learn_apart k Args s = s
learn_apart k (ReadsField name) s = s
learn_apart k (NeedsWhole value) s = s
learn_apart k (NeedsSame left right) s = s
learn_apart k (NeedsShort text) s = s
learn_apart k (NeedsBounds kind) s = s
learn_apart k (NeedsTurns turns) s = s
learn_apart k (NeedsRows top div) s = s
learn_apart k (Prints format place values) s = call_apart k format place s
learn_apart k (Jumps inside) s = s

not_broken : (b : Option Rule) (place : Place) (u : Result Known Fault) (k : Known) → unless_broken b place u ≡ Ok k → u ≡ Ok k
not_broken None place u k h = h
not_broken (Some rule) place u k h = cc

pub judged_apart : (ps : List Point) (a b : Known) → AreApart a → judged ps a ≡ Ok b → AreApart b
judged_apart [] a b s h = let e : a ≡ b = cc in subst AreApart e s
judged_apart (p ∷ ps) a b s h =
    judged_apart ps (learn a p.mention) b (learn_apart a p.mention s) (not_broken (broken_at a p.mention) p.place (judged ps (learn a p.mention)) b h)
