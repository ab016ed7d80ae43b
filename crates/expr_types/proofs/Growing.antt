-- What is known stays known.
use Rattle.std.proofs.Common.{◌≡◌, ◌++◌, ◌==◌, ℕ, Bool, true, false, cond, List, [], ◌∷◌, Option, Some, None, refl, sym, ap, ◌∙◌, append_assoc, append-nil}
use Rattle.std.specs.List.{list_any}
use Rattle.std.specs.Str.{bytes_eq}
use Rattle.bt_core.specs.declared.place.Place.{Place}
use Rattle.bt_core.specs.declared.map.MapDecl.{MapDecl}
use Rattle.bt_core.specs.declared.map.MapKind.{MapKind}
use Rattle.bt_core.specs.declared.map.MapKind.TheVariants.{Ints, Aggs}
use Rattle.bt_core.specs.declared.map.Shape.{Shape}
use Rattle.typed_tree.specs.Scope.{is_fine_decl}
use Rattle.expr_types.specs.declared.known.Known.{Known}
use Rattle.expr_types.specs.declared.known.Printed.{Printed}
use Rattle.expr_types.specs.declared.known.Var.{Var}
use Rattle.expr_types.specs.Mentions.{Sort, Whole, Text, OfMap, OfVar, OfField}
use Rattle.expr_types.specs.Mentions.{Mention, Begins, Names, Uses, Reads, Steps, Sets, Gathers, NeedsShared, Deletes, ReadsVar, SetsVar, Args, ReadsField}
use Rattle.expr_types.specs.Mentions.{NeedsWhole, NeedsSame, NeedsShort, NeedsBounds, NeedsTurns, NeedsRows, Prints, Jumps}
use Rattle.expr_types.specs.Known.{has_name, place_of, decl_in, var_in, shape_in, decl_shape, has_call, call_at, printed, add_name, with_name, with_mention, with_decl, with_var, add_call, with_call, decide_after, set_after, shapes_in, kind_for, decides, learn}
use Rattle.expr_types.specs.Grows.{IsFrontOf, Grows}

front_none : {A : Type 0} (xs : List A) → IsFrontOf xs xs
front_none xs = ([], sym (append-nil xs))

front_one : {A : Type 0} (xs : List A) (x : A) → IsFrontOf xs (xs ++ x ∷ [])
front_one xs x = (x ∷ [], refl)

front_on : {A : Type 0} (xs ys zs : List A) → IsFrontOf xs ys → IsFrontOf ys zs → IsFrontOf xs zs
front_on xs ys zs f g = (f.0 ++ g.0, g.1 ∙ (ap (λ l. l ++ g.0) f.1 ∙ append_assoc xs f.0 g.0))

pub grows_none : (a : Known) → Grows a a
grows_none a =
    record {
      event = refl;
      vars = front_none a.vars;
      named = front_none a.named;
      calls = front_none a.calls;
      names = front_none a.names;
      decided = front_none a.decided;
      printed = front_none a.printed;
    }

pub grows_on : (a b c : Known) → Grows a b → Grows b c → Grows a c
grows_on a b c g h =
    record {
      event = h.event ∙ g.event;
      vars = front_on a.vars b.vars c.vars g.vars h.vars;
      named = front_on a.named b.named c.named g.named h.named;
      calls = front_on a.calls b.calls c.calls g.calls h.calls;
      names = front_on a.names b.names c.names g.names h.names;
      decided = front_on a.decided b.decided c.decided g.decided h.decided;
      printed = front_on a.printed b.printed c.printed g.printed h.printed;
    }

-- one list grows by one
grows_vars : (k : Known) (v : Var) → Grows k (record k { vars = k.vars ++ v ∷ [] })
grows_vars k v =
    record { event = refl; vars = front_one k.vars v; named = front_none k.named; calls = front_none k.calls; names = front_none k.names; decided = front_none k.decided; printed = front_none k.printed }

grows_named : (k : Known) (n : ℕ) → Grows k (record k { named = k.named ++ n ∷ [] })
grows_named k n =
    record { event = refl; vars = front_none k.vars; named = front_one k.named n; calls = front_none k.calls; names = front_none k.names; decided = front_none k.decided; printed = front_none k.printed }

grows_called : (k : Known) (n : ℕ) → Grows k (record k { calls = k.calls ++ n ∷ [] })
grows_called k n =
    record { event = refl; vars = front_none k.vars; named = front_none k.named; calls = front_one k.calls n; names = front_none k.names; decided = front_none k.decided; printed = front_none k.printed }

grows_names : (k : Known) (name : List ℕ) → Grows k (record k { names = k.names ++ name ∷ [] })
grows_names k name =
    record { event = refl; vars = front_none k.vars; named = front_none k.named; calls = front_none k.calls; names = front_one k.names name; decided = front_none k.decided; printed = front_none k.printed }

grows_decided : (k : Known) (d : MapDecl) → Grows k (record k { decided = k.decided ++ d ∷ [] })
grows_decided k d =
    record { event = refl; vars = front_none k.vars; named = front_none k.named; calls = front_none k.calls; names = front_none k.names; decided = front_one k.decided d; printed = front_none k.printed }

grows_printed : (k : Known) (p : Printed) → Grows k (record k { printed = k.printed ++ p ∷ [] })
grows_printed k p =
    record { event = refl; vars = front_none k.vars; named = front_none k.named; calls = front_none k.calls; names = front_none k.names; decided = front_none k.decided; printed = front_one k.printed p }

grows_mentioned : (k : Known) (name : List ℕ) → Grows k (record k { mentioned = k.mentioned ++ name ∷ [] })
grows_mentioned k name =
    record { event = refl; vars = front_none k.vars; named = front_none k.named; calls = front_none k.calls; names = front_none k.names; decided = front_none k.decided; printed = front_none k.printed }

-- one of two
grows_either : (k a b : Known) (test : Bool) → Grows k a → Grows k b → Grows k (cond test a b)
grows_either k a b true g h = g
grows_either k a b false g h = h

pub grows_name : (k : Known) (name : List ℕ) → Grows k (with_name k name)
grows_name k name =
    let l = add_name k name in
    let n = place_of name l.names in
    grows_on k l (with_name k name)
    (grows_either k k (record k { names = k.names ++ name ∷ [] }) (has_name name k.names) (grows_none k) (grows_names k name))
    (grows_either l l (record l { named = l.named ++ n ∷ [] }) (list_any (λ m. m == n) l.named) (grows_none l) (grows_named l n))

pub grows_mention : (k : Known) (name : List ℕ) → Grows k (with_mention k name)
grows_mention k name = grows_either k k (record k { mentioned = k.mentioned ++ name ∷ [] }) (has_name name k.mentioned) (grows_none k) (grows_mentioned k name)

grows_decl : (k : Known) (d : MapDecl) (o : Option MapDecl) → Grows k (decide_after k d o)
grows_decl k d None = grows_either k (record k { decided = k.decided ++ d ∷ [] }) k (is_fine_decl d) (grows_decided k d) (grows_none k)
grows_decl k d (Some e) = grows_none k

grows_var : (k : Known) (v : Var) (o : Option Shape) → Grows k (set_after k v o)
grows_var k v None = grows_vars k v
grows_var k v (Some e) = grows_none k

pub grows_set : (k : Known) (v : Var) → Grows k (with_var k v)
grows_set k v = grows_var k v (var_in v.name k.vars)

pub grows_decides : (k : Known) (name : List ℕ) (kind : MapKind) (shapes : List Shape) → Grows k (decides k name kind shapes)
grows_decides k name kind shapes =
    let d : MapDecl = record { name = name; kind = kind; key_shape = shapes } in
    let m = with_mention k name in
    grows_on k m (with_decl m d) (grows_mention k name) (grows_decl m d (decl_in d.name m.decided))

pub grows_call : (k : Known) (format : List ℕ) (place : Place) → Grows k (with_call k format place)
grows_call k format place =
    let l = add_call k format place in
    grows_on k l (with_call k format place)
    (grows_either k k (record k { printed = k.printed ++ printed format place ∷ [] }) (has_call format place k.printed) (grows_none k) (grows_printed k (printed format place)))
    (grows_called l (call_at format place l.printed))

-- a mention inside a body
abbrev pub IsInner : Mention → Type 0
IsInner (Begins event) = ⊥
IsInner m = Unit {0}

pub grows_learn : (k : Known) (m : Mention) → IsInner m → Grows k (learn k m)
grows_learn k (Begins event) h = absurd h
grows_learn k (Names name) h = grows_name k name
grows_learn k (Uses name) h = grows_mention k name
grows_learn k (Reads name keys) h = grows_decides k name Ints (shapes_in k keys)
grows_learn k (Steps name keys) h = grows_decides k name Ints (shapes_in k keys)
grows_learn k (Sets name keys value) h = grows_decides k name (kind_for k value) (shapes_in k keys)
grows_learn k (Gathers name keys kind) h = grows_decides k name (Aggs kind) (shapes_in k keys)
grows_learn k (NeedsShared name) h = grows_none k
grows_learn k (Deletes name keys) h = grows_decides k name Ints (shapes_in k keys)
grows_learn k (ReadsVar name) h = grows_none k
grows_learn k (SetsVar name value) h = grows_set k _
grows_learn k Args h = grows_none k
grows_learn k (ReadsField name) h = grows_none k
grows_learn k (NeedsWhole value) h = grows_none k
grows_learn k (NeedsSame left right) h = grows_none k
grows_learn k (NeedsShort text) h = grows_none k
grows_learn k (NeedsBounds kind) h = grows_none k
grows_learn k (NeedsTurns turns) h = grows_none k
grows_learn k (NeedsRows top div) h = grows_none k
grows_learn k (Prints format place values) h = grows_call k format place
grows_learn k (Jumps inside) h = grows_none k

-- what is found in a list is found in a longer one
decl_more : (name : List ℕ) (xs ys : List MapDecl) (d : MapDecl) → decl_in name xs ≡ Some d → decl_in name (xs ++ ys) ≡ Some d
decl_more name [] ys d h = cc
decl_more name (x ∷ xs) ys d h =
    elim (bytes_eq x.name name) as (λ b. cond b (Some x) (decl_in name xs) ≡ Some d → cond b (Some x) (decl_in name (xs ++ ys)) ≡ Some d)
    [ true ↦ λ e. e | false ↦ λ e. decl_more name xs ys d e ] h

var_more : (name : List ℕ) (xs ys : List Var) (s : Shape) → var_in name xs ≡ Some s → var_in name (xs ++ ys) ≡ Some s
var_more name [] ys s h = cc
var_more name (x ∷ xs) ys s h =
    elim (bytes_eq x.name name) as (λ b. cond b (Some x.shape) (var_in name xs) ≡ Some s → cond b (Some x.shape) (var_in name (xs ++ ys)) ≡ Some s)
    [ true ↦ λ e. e | false ↦ λ e. var_more name xs ys s e ] h

pub decl_later : (a b : Known) → Grows a b → (name : List ℕ) (d : MapDecl) → decl_in name a.decided ≡ Some d → decl_in name b.decided ≡ Some d
decl_later a b g name d h = rw g.decided.1 (decl_more name a.decided g.decided.0 d h)

pub var_later : (a b : Known) → Grows a b → (name : List ℕ) (s : Shape) → var_in name a.vars ≡ Some s → var_in name b.vars ≡ Some s
var_later a b g name s h = rw g.vars.1 (var_more name a.vars g.vars.0 s h)

shape_found : (o : Option MapDecl) (s : Shape) → decl_shape o ≡ Some s → (d : MapDecl) × (o ≡ Some d)
shape_found None s h = cc
shape_found (Some d) s h = (d, refl)

-- the type of an expression stays
pub shape_later : (a b : Known) → Grows a b → (s : Sort) (t : Shape) → shape_in a s ≡ Some t → shape_in b s ≡ Some t
shape_later a b g Whole t h = h
shape_later a b g Text t h = h
shape_later a b g (OfMap name) t h =
    let f = shape_found (decl_in name a.decided) t h in
    ap decl_shape (decl_later a b g name f.0 f.1) ∙ (sym (ap decl_shape f.1) ∙ h)
shape_later a b g (OfVar name) t h = var_later a b g name t h
shape_later a b g (OfField name) t h = rw g.event h
