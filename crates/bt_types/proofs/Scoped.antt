-- A body that fits what is known at the end fits its own declarations.
use Rattle.std.proofs.Common.{◌≡◌, ◌&&◌, ◌||◌, ◌==◌, int_eq, ◌≤◌, ℕ, ℤ, zero, suc, T, Bool, true, false, cond, nat_le, nat_lt, List, [], ◌∷◌, length, map, find, Option, Some, None, slice_get, All, refl, sym, ap, subst, ◌∙◌, arith}
use Rattle.std.specs.List.{AllByRecursion, AllZip, cons_option, list_all, list_any}
use Rattle.std.specs.Option.{option_map}
use Rattle.std.specs.Str.{bytes_eq}
use Rattle.std.proofs.lemmas.Bool.{eq-eqb, eqb-true}
use Rattle.std.proofs.lemmas.Bool.Decides.{nat_tests, Decides-int_eq}
use Rattle.std.proofs.lemmas.List.Elements.{All-from_recursion}
use Rattle.bt_core.specs.declared.map.AggKind.{AggKind}
use Rattle.bt_core.specs.declared.map.AggKind.TheVariants as agg
use Rattle.bt_core.specs.declared.map.MapDecl.{MapDecl}
use Rattle.bt_core.specs.declared.map.MapId.{MapId}
use Rattle.bt_core.specs.declared.map.MapKind.{MapKind}
use Rattle.bt_core.specs.declared.map.MapKind.TheVariants.{Ints, Strs, Aggs}
use Rattle.bt_core.specs.declared.map.Shape.{Shape}
use Rattle.bt_core.specs.declared.map.Shape.TheVariants.{Int, Str}
use Rattle.fmt_text.specs.Deciding.{format_pieces}
use Rattle.fmt_text.specs.declared.piece.Piece.{Piece}
use Rattle.event_layout.specs.ByName.{field_called}
use Rattle.event_layout.specs.declared.field.Field.{Field}
use Rattle.event_layout.specs.declared.field.FieldKind.{FieldKind}
use Rattle.event_layout.specs.declared.field.FieldKind.TheVariants as field
use Rattle.event_layout.specs.declared.layout.Layout.{Layout}
use Rattle.typed_tree.specs.Bodies.{scope_of, tree_parts}
use Rattle.typed_tree.specs.Parts.{TreePart, Constant, Literal, Numeric, Command, FieldOf, VarOf, MapOf, AggOf, Stepped, Prefixed, Joined, Both, Either, Chosen}
use Rattle.typed_tree.specs.Parts.{Assigned, Gathered, Deleted, Printed, Shown, Cleared, Zeroed, Jumped, Looped, Unrolled, Arm, Otherwise, NoOtherwise, Ending}
use Rattle.typed_tree.specs.Scope.{Scope, decl_of, format_of, same_shape, same_shapes, same_agg, same_kind, same_bool, same_field_kind, same_field, kind_of_shape, is_agg, is_summed_kind, is_fine_decl, is_shape, has_field, is_declared, is_shared, is_summed, is_there, takes, fits, all_fit, shape_of_field, may_print}
use Rattle.bt_ast.specs.declared.attached.BodyId.{BodyId}
use Rattle.bt_ast.specs.declared.probe.Script.{Script}
use Rattle.event_layout.specs.declared.format.Format.{Format}
use Rattle.bt_types.specs.declared.body.OpenBody.{OpenBody}
use Rattle.expr_types.specs.declared.known.Known.{Known}
use Rattle.expr_types.specs.declared.known.Printed.{Printed as Call}
use Rattle.expr_types.specs.declared.known.Var.{Var}
use Rattle.expr_types.specs.Known.{decl_in, event_field}
use Rattle.bt_types.specs.Listed.{maps_at, formats_at}
use Rattle.bt_types.specs.Open.{IsOpen, Closes, again}
use Rattle.bt_types.specs.Script.{decl_or_none, maps_of}
use Rattle.expr_types.specs.Typing.{IsNamed, IsMapOf, IsCallOf, Fits, AllFit}
use Rattle.typed_tree.proofs.Same.{both_hold}
use Rattle.expr_types.proofs.Finding.{same_self}
use Rattle.expr_types.proofs.Later.{get_mapped, all_later}
use Rattle.bt_types.proofs.Sound.{Sound}

both_true : (a b : Bool) → a ≡ true → b ≡ true → (a && b) ≡ true
both_true true b e f = f
both_true false b e f = cc

-- what is equal is the same
shape_self : (s : Shape) → same_shape s s ≡ true
shape_self Int = refl
shape_self Str = refl

shapes_self : (ss : List Shape) → same_shapes ss ss ≡ true
shapes_self [] = refl
shapes_self (s ∷ ss) = both_true (same_shape s s) (same_shapes ss ss) (shape_self s) (shapes_self ss)

int_self : (z : ℤ) → int_eq z z ≡ true
int_self z = (Decides-int_eq z z).1 refl

agg_self : (a : AggKind) → same_agg a a ≡ true
agg_self (agg.Lhist min max step) = both_true (int_eq min min) (int_eq max max && int_eq step step) (int_self min) (both_true (int_eq max max) (int_eq step step) (int_self max) (int_self step))
agg_self kind = refl

kind_self : (k : MapKind) → same_kind k k ≡ true
kind_self Ints = refl
kind_self Strs = refl
kind_self (Aggs a) = agg_self a

bool_self : (b : Bool) → same_bool b b ≡ true
bool_self true = refl
bool_self false = refl

field_kind_self : (k : FieldKind) → same_field_kind k k ≡ true
field_kind_self field.Number = refl
field_kind_self field.Chars = refl
field_kind_self field.DataLoc = refl
field_kind_self field.Other = refl

equal_self : (n : ℕ) → (n == n) ≡ true
equal_self n = eq-eqb n n refl

field_self : (f : Field) → same_field f f ≡ true
field_self f = (let a = same_self f.name in let b = equal_self f.offset in let d = equal_self f.size in let e = bool_self f.signed in let g = field_kind_self f.kind in cc)

either_true : (a b : Bool) → b ≡ true → (a || b) ≡ true
either_true true b h = refl
either_true false b h = h

-- fields
found_there : (test : Field → Bool) (fs : List Field) (f : Field) → find test fs ≡ Some f → list_any (same_field f) fs ≡ true
found_there test [] f h = cc
found_there test (x ∷ xs) f h =
    let P : Bool → Type 0 = λ b. cond b (Some x) (find test xs) ≡ Some f → (same_field f x || list_any (same_field f) xs) ≡ true in
    let yes_case : P true = λ e. (let same : x ≡ f = cc in let s = field_self f in let t : same_field f x ≡ true = ap (same_field f) same ∙ s in ap (λ (b : Bool). b || list_any (same_field f) xs) t) in
    let no_case : P false = λ e. either_true (same_field f x) (list_any (same_field f) xs) (found_there test xs f e) in
    elim (test x) as P [ true ↦ yes_case | false ↦ no_case ] h

named_there : (test : Bool) (o : Option Field) (fs : List Field) (f : Field) → (o ≡ Some f → list_any (same_field f) fs ≡ true) → cond test o None ≡ Some f → list_any (same_field f) fs ≡ true
named_there true o fs f g h = g h
named_there false o fs f g h = cc

field_there : (event : Option Layout) (f : Field) → event_field event f.name ≡ Some f → has_field event f ≡ true
field_there None f h = cc
field_there (Some layout) f h =
    named_there (nat_lt 0 (length f.name)) (field_called f.name layout.fields) layout.fields f (found_there (λ g. bytes_eq g.name f.name) layout.fields f) h

-- maps and formats by their numbers
map_skipped : (number n : ℕ) (o : Option MapDecl) (rest : List (MapId × MapDecl)) → (n == number) ≡ false → decl_of number (cons_option (option_map (λ (d : MapDecl). (record { 0 = n }, d)) o) rest) ≡ decl_of number rest
map_skipped number n None rest h = refl
map_skipped number n (Some d) rest h = ap (λ (b : Bool). cond b (Some d) (decl_of number rest)) h

map_first : (number n : ℕ) (o : Option MapDecl) (d : MapDecl) (rest : List (MapId × MapDecl)) → (n == number) ≡ true → o ≡ Some d → decl_of number (cons_option (option_map (λ (d : MapDecl). (record { 0 = n }, d)) o) rest) ≡ Some d
map_first number n o d rest h e =
    ap (λ (x : Option MapDecl). decl_of number (cons_option (option_map (λ (d : MapDecl). (record { 0 = n }, d)) x) rest)) e ∙ ap (λ (b : Bool). cond b (Some d) (decl_of number rest)) h

pub map_found : (maps : List MapDecl) (named : List ℕ) (number : ℕ) (d : MapDecl) → list_any (λ n. n == number) named ≡ true → slice_get maps number ≡ Some d → decl_of number (maps_at maps named) ≡ Some d
map_found maps [] number d h e = cc
map_found maps (n ∷ ns) number d h e =
    let P : Bool → Type 0 = λ b. (n == number) ≡ b → (b || list_any (λ m. m == number) ns) ≡ true → decl_of number (maps_at maps (n ∷ ns)) ≡ Some d in
    let yes_case : P true = λ same g. map_first number n (slice_get maps n) d (maps_at maps ns) same (ap (slice_get maps) (eqb-true n number same) ∙ e) in
    let no_case : P false = λ other g. map_skipped number n (slice_get maps n) (maps_at maps ns) other ∙ map_found maps ns number d g e in
    elim (n == number) as P [ true ↦ yes_case | false ↦ no_case ] refl h

format_skipped : (number n : ℕ) (o : Option (List Piece)) (rest : List (ℕ × List Piece)) → (n == number) ≡ false → format_of number (cons_option (option_map (λ (p : List Piece). (n, p)) o) rest) ≡ format_of number rest
format_skipped number n None rest h = refl
format_skipped number n (Some p) rest h = ap (λ (b : Bool). cond b (Some p) (format_of number rest)) h

format_first : (number n : ℕ) (o : Option (List Piece)) (p : List Piece) (rest : List (ℕ × List Piece)) → (n == number) ≡ true → o ≡ Some p → format_of number (cons_option (option_map (λ (p : List Piece). (n, p)) o) rest) ≡ Some p
format_first number n o p rest h e =
    ap (λ (x : Option (List Piece)). format_of number (cons_option (option_map (λ (p : List Piece). (n, p)) x) rest)) e ∙ ap (λ (b : Bool). cond b (Some p) (format_of number rest)) h

pub format_found : (formats : List (List Piece)) (calls : List ℕ) (number : ℕ) (p : List Piece) → list_any (λ n. n == number) calls ≡ true → slice_get formats number ≡ Some p → format_of number (formats_at formats calls) ≡ Some p
format_found formats [] number p h e = cc
format_found formats (n ∷ ns) number p h e =
    let P : Bool → Type 0 = λ b. (n == number) ≡ b → (b || list_any (λ m. m == number) ns) ≡ true → format_of number (formats_at formats (n ∷ ns)) ≡ Some p in
    let yes_case : P true = λ same g. format_first number n (slice_get formats n) p (formats_at formats ns) same (ap (slice_get formats) (eqb-true n number same) ∙ e) in
    let no_case : P false = λ other g. format_skipped number n (slice_get formats n) (formats_at formats ns) other ∙ format_found formats ns number p g e in
    elim (n == number) as P [ true ↦ yes_case | false ↦ no_case ] refl h

-- the scope of a body, by what is known
abbrev pub pieces_of : Known → List (List Piece)
pieces_of k = map (λ (p : Call). p.pieces) k.printed

abbrev pub scope_at : Known → Scope
scope_at k = scope_of (maps_at (maps_of k) k.named) (formats_at (pieces_of k) k.calls) k.event (map (λ (v : Var). v.shape) k.vars)

-- the declaration of a map that the body has named
named_decl : (k : Known) (number : ℕ) (name : List ℕ) → IsNamed k number name → decl_of number (maps_at (maps_of k) k.named) ≡ Some (decl_or_none name (decl_in name k.decided))
named_decl k number name h =
    map_found (maps_of k) k.named number (decl_or_none name (decl_in name k.decided)) h.here (get_mapped (λ (n : List ℕ). decl_or_none n (decl_in n k.decided)) k.names number name h.numbered)

declared_there : (k : Known) (number : ℕ) (kind : MapKind) (keys : List Shape) → (m : IsMapOf k number kind keys) → decl_of number (maps_at (maps_of k) k.named) ≡ Some m.declared.decl
declared_there k number kind keys m = named_decl k number m.name m.named ∙ ap (λ (o : Option MapDecl). Some (decl_or_none m.name o)) m.declared.found

map_fits : (k : Known) (number : ℕ) (kind : MapKind) (keys : List Shape) → IsMapOf k number kind keys → is_declared (decl_of number (maps_at (maps_of k) k.named)) kind keys ≡ true
map_fits k number kind keys m =
    let d = m.declared.decl in
    ap (λ (o : Option MapDecl). is_declared o kind keys) (declared_there k number kind keys m)
    ∙ both_true (same_kind d.kind kind) (same_shapes d.key_shape keys) (ap (λ (x : MapKind). same_kind x kind) m.declared.kinds ∙ kind_self kind) (ap (λ (x : List Shape). same_shapes x keys) m.declared.shapes ∙ shapes_self keys)

shared_fits : (k : Known) (number : ℕ) (kind : MapKind) (keys : List Shape) → is_agg kind ≡ false → IsMapOf k number kind keys → is_shared (decl_of number (maps_at (maps_of k) k.named)) keys ≡ true
shared_fits k number kind keys shared m =
    let d = m.declared.decl in
    ap (λ (o : Option MapDecl). is_shared o keys) (declared_there k number kind keys m)
    ∙ both_true (cond (is_agg d.kind) false true) (same_shapes d.key_shape keys) (ap (λ (x : MapKind). cond (is_agg x) false true) m.declared.kinds ∙ ap (λ (b : Bool). cond b false true) shared)
    (ap (λ (x : List Shape). same_shapes x keys) m.declared.shapes ∙ shapes_self keys)

summed_fits : (k : Known) (number : ℕ) (kind : MapKind) (keys : List Shape) → is_summed_kind kind ≡ true → IsMapOf k number kind keys → is_summed (decl_of number (maps_at (maps_of k) k.named)) keys ≡ true
summed_fits k number kind keys summed m =
    let d = m.declared.decl in
    ap (λ (o : Option MapDecl). is_summed o keys) (declared_there k number kind keys m)
    ∙ both_true (is_summed_kind d.kind) (same_shapes d.key_shape keys) (ap is_summed_kind m.declared.kinds ∙ summed)
    (ap (λ (x : List Shape). same_shapes x keys) m.declared.shapes ∙ shapes_self keys)

there_fits : (k : Known) (number : ℕ) (name : List ℕ) → IsNamed k number name → is_there (decl_of number (maps_at (maps_of k) k.named)) ≡ true
there_fits k number name h = ap (λ (o : Option MapDecl). is_there o) (named_decl k number name h)

call_at_number : (P : Call → Type 0) (xs : List Call) (i : ℕ) (x : Call) → AllByRecursion P xs → slice_get xs i ≡ Some x → P x
call_at_number P [] i x h e = cc
call_at_number P (y ∷ ys) zero x h e = let same : y ≡ x = cc in subst P same h.0
call_at_number P (y ∷ ys) (suc i) x h e = call_at_number P ys i x h.1 e

call_fits : (k : Known) (number : ℕ) (shapes : List Shape) → Sound k → IsCallOf k number shapes → takes (format_of number (formats_at (pieces_of k) k.calls)) shapes ≡ true
call_fits k number shapes s c =
    let read = call_at_number (λ (p : Call). format_pieces p.text ≡ Some p.pieces) k.printed number c.call s.calls c.numbered in
    let found = format_found (pieces_of k) k.calls number c.call.pieces c.here (get_mapped (λ (p : Call). p.pieces) k.printed number c.call c.numbered) in
    ap (λ (o : Option (List Piece)). takes o shapes) (found ∙ sym read) ∙ c.wanted

test_true : (b : Bool) → T b → b ≡ true
test_true true h = refl
test_true false h = absurd h

within_true : (n : ℕ) → 1 ≤ n → n ≤ 100 → (nat_le 1 n && nat_le n 100) ≡ true
within_true n low high = both_true (nat_le 1 n) (nat_le n 100) (grind (arith, nat_tests)) (grind (arith, nat_tests))

part_fits : (k : Known) → Sound k → (p : TreePart) → Fits k p → fits (scope_at k) p ≡ true
part_fits k s (FieldOf f shape) h =
    both_true (has_field k.event f) (is_shape (shape_of_field f.kind) shape) (field_there k.event f h.0) (ap (λ (o : Option Shape). is_shape o shape) h.1 ∙ shape_self shape)
part_fits k s (VarOf number shape) h =
    ap (λ (o : Option Shape). is_shape o shape) (get_mapped (λ (v : Var). v.shape) k.vars number h.var h.numbered) ∙ (ap (λ (x : Shape). same_shape x shape) h.shapes ∙ shape_self shape)
part_fits k s (MapOf number keys shape) h = map_fits k number (kind_of_shape shape) keys h
part_fits k s (AggOf number keys) h = summed_fits k number h.kind keys h.summed h.map
part_fits k s (Gathered number keys kind counts) h = both_true (is_declared (decl_of number (maps_at (maps_of k) k.named)) (Aggs kind) keys) _ (map_fits k number (Aggs kind) keys h.0) h.1
part_fits k s (Deleted number keys) h = shared_fits k number h.kind keys h.shared h.map
part_fits k s (Printed number shapes) h = call_fits k number shapes s h
part_fits k s (Shown number top div) h = both_true (is_there (decl_of number (maps_at (maps_of k) k.named))) (may_print top div) (there_fits k number h.0.name h.0.named) h.1
part_fits k s (Cleared number) h = there_fits k number h.name h.named
part_fits k s (Zeroed number) h = there_fits k number h.name h.named
part_fits k s (Jumped jump inside) h = h
part_fits k s (Unrolled turns line) h = within_true turns h.0 h.1
part_fits k s (Constant number) h = refl
part_fits k s (Literal text) h = refl
part_fits k s (Numeric builtin) h = refl
part_fits k s Command h = refl
part_fits k s (Stepped plus prefix) h = refl
part_fits k s (Prefixed op) h = refl
part_fits k s (Joined op) h = refl
part_fits k s Both h = refl
part_fits k s Either h = refl
part_fits k s Chosen h = refl
part_fits k s (Assigned op) h = refl
part_fits k s (Looped line) h = refl
part_fits k s Arm h = refl
part_fits k s Otherwise h = refl
part_fits k s NoOtherwise h = refl
part_fits k s Ending h = refl

parts_fit : (k : Known) → Sound k → (ps : List TreePart) → AllFit k ps → all_fit (scope_at k) ps ≡ true
parts_fit k s [] h = refl
parts_fit k s (p ∷ ps) h = both_true (fits (scope_at k) p) (all_fit (scope_at k) ps) (part_fits k s p h.0) (parts_fit k s ps h.1)

-- a checked body is closed by what its script decides
body_closes : (script : Script) (formats : List Format) (k : Known) (id : BodyId) (body : OpenBody) → Sound k → IsOpen script formats k id body → Closes (maps_of k) (pieces_of k) body
body_closes script formats k id body s o =
    let b : Known = again o.past k in
    let fit = parts_fit b (record { decls = s.decls; calls = s.calls }) (tree_parts body.tree) (all_later o.past b o.grows (tree_parts body.tree) o.fits) in
    rw (o.keeps.named, o.keeps.calls, ← o.keeps.event, o.keeps.variables) fit

all_close : (script : Script) (formats : List Format) (k : Known) (ids : List BodyId) (bodies : List OpenBody) → Sound k → AllZip (IsOpen script formats k) ids bodies → AllByRecursion (Closes (maps_of k) (pieces_of k)) bodies
all_close script formats k [] [] s h = tt
all_close script formats k [] (b ∷ bs) s h = absurd h
all_close script formats k (i ∷ is) [] s h = absurd h
all_close script formats k (i ∷ is) (b ∷ bs) s h = (body_closes script formats k i b s h.0, all_close script formats k is bs s h.1)

pub bodies_close : (script : Script) (formats : List Format) (k : Known) (ids : List BodyId) (bodies : List OpenBody) → Sound k → AllZip (IsOpen script formats k) ids bodies → All (Closes (maps_of k) (pieces_of k)) bodies
bodies_close script formats k ids bodies s h = All-from_recursion (Closes (maps_of k) (pieces_of k)) bodies (all_close script formats k ids bodies s h)

-- declarations are fine
either_fine : (b : Bool) (d : MapDecl) (name : List ℕ) (rest : Option MapDecl) → is_fine_decl d ≡ true → is_fine_decl (decl_or_none name rest) ≡ true → is_fine_decl (decl_or_none name (cond b (Some d) rest)) ≡ true
either_fine true d name rest h g = h
either_fine false d name rest h g = g

decl_fine : (name : List ℕ) (ds : List MapDecl) → list_all is_fine_decl ds ≡ true → is_fine_decl (decl_or_none name (decl_in name ds)) ≡ true
decl_fine name [] h = refl
decl_fine name (d ∷ ds) h =
    let p = both_hold (is_fine_decl d) (list_all is_fine_decl ds) h in
    either_fine (bytes_eq d.name name) d name (decl_in name ds) p.0 (decl_fine name ds p.1)

names_fine : (ds : List MapDecl) (names : List (List ℕ)) → list_all is_fine_decl ds ≡ true → list_all is_fine_decl (map (λ name. decl_or_none name (decl_in name ds)) names) ≡ true
names_fine ds [] h = refl
names_fine ds (n ∷ ns) h = both_true (is_fine_decl (decl_or_none n (decl_in n ds))) _ (decl_fine n ds h) (names_fine ds ns h)

pub maps_fine : (k : Known) → Sound k → list_all is_fine_decl (maps_of k) ≡ true
maps_fine k s = names_fine k.decided k.names s.decls

fine_at : (maps : List MapDecl) (i : ℕ) (d : MapDecl) → list_all is_fine_decl maps ≡ true → slice_get maps i ≡ Some d → is_fine_decl d ≡ true
fine_at [] i d h e = cc
fine_at (x ∷ xs) zero d h e = let p = both_hold (is_fine_decl x) (list_all is_fine_decl xs) h in let same : x ≡ d = cc in ap is_fine_decl (sym same) ∙ p.0
fine_at (x ∷ xs) (suc i) d h e = let p = both_hold (is_fine_decl x) (list_all is_fine_decl xs) h in fine_at xs i d p.1 e

fine_cons : (n : ℕ) (o : Option MapDecl) (rest : List (MapId × MapDecl)) → ((d : MapDecl) → o ≡ Some d → is_fine_decl d ≡ true) → list_all (λ (m : MapId × MapDecl). is_fine_decl m.1) rest ≡ true
    → list_all (λ (m : MapId × MapDecl). is_fine_decl m.1) (cons_option (option_map (λ (d : MapDecl). (record { 0 = n }, d)) o) rest) ≡ true
fine_cons n None rest h g = g
fine_cons n (Some d) rest h g = both_true (is_fine_decl d) (list_all (λ (m : MapId × MapDecl). is_fine_decl m.1) rest) (h d refl) g

pub named_fine : (maps : List MapDecl) (named : List ℕ) → list_all is_fine_decl maps ≡ true → list_all (λ (m : MapId × MapDecl). is_fine_decl m.1) (maps_at maps named) ≡ true
named_fine maps [] h = refl
named_fine maps (n ∷ ns) h = fine_cons n (slice_get maps n) (maps_at maps ns) (λ d e. fine_at maps n d h e) (named_fine maps ns h)
