-- Aggregations, and calls on maps.
use Rattle.std.proofs.Common.{◌≡◌, ◌++◌, ◌^◌, ◌&&◌, ℕ, ℤ, pos, negsuc, nat_lt, w64, FitsSigned, arith, Bool, true, false, not, List, [], ◌∷◌, length, map, Option, Some, None, Result, Ok, Err, OnOk, IfOk, IsErrAnd, MatchResult, is_none, unsigned_abs, refl, sym, ap, subst, ◌∙◌, append-nil, append_assoc}
use Rattle.std.specs.Prelude.{int_le}
use Rattle.std.proofs.lemmas.Bool.Decides.{nat_tests}
use Rattle.bt_core.specs.declared.place.Place.{Place}
use Rattle.bt_ast.specs.declared.gathering.Gathering.{Gathering}
use Rattle.bt_ast.specs.declared.gathering.Gathering.TheVariants.{Sum}
use Rattle.bt_ast.specs.declared.gathering.TheConstants.{GATHERINGS}
use Rattle.bt_ast.specs.declared.stmt.AggCall.{AggCall}
use Rattle.bt_ast.specs.declared.stmt.AggCall.TheVariants.{Count, Gather, Lhist}
use Rattle.bt_core.specs.declared.map.AggKind.{AggKind}
use Rattle.bt_core.specs.declared.map.MapKind.TheVariants.{Ints, Aggs}
use Rattle.bt_core.specs.declared.map.Shape.{Shape}
use Rattle.typed_tree.specs.declared.expr.NumExpr.{NumExpr}
use Rattle.typed_tree.specs.declared.stmt.TypedStmt.{TypedStmt}
use Rattle.typed_tree.specs.Scope.{is_count, is_fine_agg, same_bool, may_print}
use Rattle.expr_types.specs.declared.fault.Rule.{Rule}
use Rattle.expr_types.specs.declared.fault.Rule.TheVariants.{BadBounds, OtherKeys, TooManyMaps, WrongType}
use Rattle.expr_types.specs.declared.fault.TypeError.{TypeError}
use Rattle.expr_types.specs.declared.known.Known.{Known}
use Rattle.expr_types.specs.Grows.{Grows}
use Rattle.expr_types.specs.Mentions.{Sort, Uses, Gathers, NeedsBounds, NeedsShared, NeedsRows, Deletes, GatherWord, ShowWord, ClearWord, ZeroWord, DeleteWord, Point}
use Rattle.expr_types.specs.Known.{shape_in, shapes_in, decl_in, with_mention, decides}
use Rattle.expr_types.specs.Judge.{judged, Says, SaysFault, IsBreach}
use Rattle.expr_types.specs.Rules.{breaks, are_rows, write_breaks, is_agg_in, is_one_too_many, has_other_keys}
use Rattle.expr_types.specs.Walk.{Seen, MapSeen, at, points_of, words_of}
use Rattle.typed_tree.specs.Parts.{stmt_parts, TreePart, Gathered, Deleted, Shown, Cleared, Zeroed, Made, gather_parts, number_parts, delete_parts, key_shapes, parts_in}
use Rattle.expr_types.specs.Typing.{IsDeclared, title, titles_of}
use Rattle.expr_types.specs.Maps.{kind_held}
use Rattle.expr_types.specs.Checked.{Checked, KeyChecked}
use Rattle.bt_types.specs.Told.{Told, used, function_kind, kind_of_call, number_of_call, gather_told, print_told, clear_told, zero_told, delete_points, delete_told}
use Rattle.bt_types.specs.Done.{Done, DoesIn, UseChecked, Removed}
use Rattle.expr_types.proofs.Growing.{grows_on, grows_mention, grows_decides, shape_later}
use Rattle.expr_types.proofs.Later.{named_later, title_is}
use Rattle.expr_types.proofs.Reading.{shared_declares, shapes_known, same_number}
use Rattle.bt_types.proofs.MapStatements.{Decided, keys_now, decided_went, decided_fault, map_there, map_title}
use Rattle.bt_types.proofs.Turns.{Went, went_none, went_both, went_at, went_seen, went_key, went_done, fault_first, fault_behind, fault_here, Held, held_none, held_more, held_both, held_seen, held_key, held_done, held_later, done_of}

-- a test that breaks no rule
pub holds_not : (b : Bool) (r : Rule) → breaks (not b) r ≡ None → b ≡ true
holds_not true r h = refl
holds_not false r h = cc

-- only `count` has no number
pub counts_alone : (call : AggCall) → same_bool (is_none (number_of_call call)) (is_count (kind_of_call call)) ≡ true
counts_alone Count = refl
counts_alone (Gather function e) = by function
  where
    by : (f : Gathering) → same_bool false (is_count (function_kind GATHERINGS f)) ≡ true
    by Sum = refl
    by _ = refl
counts_alone (Lhist e min max step) = refl

gathers_decide : (m : MapSeen) (kind : AggKind) (keys : List Made) (k : Known) → shapes_in k m.keys ≡ key_shapes keys → Decided m (Gathers m.name m.keys kind) (Aggs kind) keys k
gathers_decide m kind keys k g = record { inner = tt; breaks = ap (write_breaks k m.name (Aggs kind)) g; learns = ap (decides k m.name (Aggs kind)) g }

pub gather_done : (m : MapSeen) (kind : AggKind) (t : Told) (word : Place) (k0 k1 k2 k3 : Known) (number : ℕ) (keys : List Made) (e : Option NumExpr) → KeyChecked m k0 k1 number keys → Done t k1 k2 (number_parts e)
    → breaks (not (is_fine_agg kind)) BadBounds ≡ None → write_breaks k2 m.name (Aggs kind) (key_shapes keys) ≡ None → k3 ≡ decides k2 m.name (Aggs kind) (key_shapes keys) → same_bool (is_none e) (is_count kind) ≡ true
    → Done (gather_told m kind t word) k0 k3 (gather_parts number keys kind e)
gather_done m kind t word k0 k1 k2 k3 number keys e c d fine h is counts =
    let last = decided_went m (Gathers m.name m.keys kind) (Aggs kind) keys k2 k3 (gathers_decide m kind keys k2 (keys_now m k0 k1 k2 number keys c d.grows)) h is in
    let g = grows_on k1 k2 k3 d.grows last.grows in
    let there = map_there m (Aggs kind) k0 k1 k2 k3 number keys c g (holds_not (is_fine_agg kind) BadBounds fine) h is in
    done_of (gather_told m kind t word) k0 k3 (gather_parts number keys kind e)
    (went_both m.points (t.points ++ at word (NeedsBounds kind) ∷ at m.place (Gathers m.name m.keys kind) ∷ []) k0 k1 k3 (went_key m k0 k1 number keys c)
    (went_both t.points (at word (NeedsBounds kind) ∷ at m.place (Gathers m.name m.keys kind) ∷ []) k1 k2 k3 (went_done t k1 k2 (number_parts e) d)
    (went_both (at word (NeedsBounds kind) ∷ []) (at m.place (Gathers m.name m.keys kind) ∷ []) k2 k2 k3 (went_at word (NeedsBounds kind) k2 k2 tt fine refl) last)))
    (held_more k3 (Gathered number (key_shapes keys) kind (is_none e)) (GatherWord m.name (length m.keys) kind) (parts_in keys ++ number_parts e) (m.key_words ++ t.words) (there, counts)
    (map_title m k0 k1 k3 number keys c g (λ name long. GatherWord name long kind))
    (held_both k3 (parts_in keys) (number_parts e) m.key_words t.words (held_later k1 k3 (parts_in keys) m.key_words g (held_key m k0 k1 number keys c))
    (held_later k2 k3 (number_parts e) t.words last.grows (held_done t k1 k2 (number_parts e) d))))

pub gather_bounds : (m : MapSeen) (kind : AggKind) (t : Told) (word : Place) (k0 k1 k2 : Known) (number : ℕ) (keys : List Made) (ps : List TreePart) (e : TypeError) → KeyChecked m k0 k1 number keys → Done t k1 k2 ps
    → IsBreach (breaks (not (is_fine_agg kind)) BadBounds) word e → SaysFault (judged (gather_told m kind t word).points k0) e
gather_bounds m kind t word k0 k1 k2 number keys ps e c d h =
    fault_behind m.points (t.points ++ at word (NeedsBounds kind) ∷ at m.place (Gathers m.name m.keys kind) ∷ []) k0 k1 e (went_key m k0 k1 number keys c)
    (fault_behind t.points (at word (NeedsBounds kind) ∷ at m.place (Gathers m.name m.keys kind) ∷ []) k1 k2 e (went_done t k1 k2 ps d)
    (fault_here word (NeedsBounds kind) (at m.place (Gathers m.name m.keys kind) ∷ []) k2 e h))

pub gather_refused : (m : MapSeen) (kind : AggKind) (t : Told) (word : Place) (k0 k1 k2 : Known) (number : ℕ) (keys : List Made) (ps : List TreePart) (e : TypeError) → KeyChecked m k0 k1 number keys → Done t k1 k2 ps
    → breaks (not (is_fine_agg kind)) BadBounds ≡ None → IsBreach (write_breaks k2 m.name (Aggs kind) (key_shapes keys)) m.place e → SaysFault (judged (gather_told m kind t word).points k0) e
gather_refused m kind t word k0 k1 k2 number keys ps e c d fine h =
    fault_behind m.points (t.points ++ at word (NeedsBounds kind) ∷ at m.place (Gathers m.name m.keys kind) ∷ []) k0 k1 e (went_key m k0 k1 number keys c)
    (fault_behind t.points (at word (NeedsBounds kind) ∷ at m.place (Gathers m.name m.keys kind) ∷ []) k1 k2 e (went_done t k1 k2 ps d)
    (fault_behind (at word (NeedsBounds kind) ∷ []) (at m.place (Gathers m.name m.keys kind) ∷ []) k2 k2 e (went_at word (NeedsBounds kind) k2 k2 tt fine refl)
    (decided_fault m (Gathers m.name m.keys kind) (Aggs kind) keys [] k2 e (gathers_decide m kind keys k2 (keys_now m k0 k1 k2 number keys c d.grows)) h)))

-- a map as a whole
pub use_done : (m : MapSeen) (k0 k1 k2 : Known) (number : ℕ) (keys : List Made) → KeyChecked m k0 k1 number keys → breaks (is_one_too_many k1 m.name) TooManyMaps ≡ None → k2 ≡ with_mention k1 m.name → UseChecked m k0 k2 number
use_done m k0 k1 k2 number keys c h is =
    let last = went_at m.place (Uses m.name) k1 k2 tt h (sym is) in
    let all = went_both m.points (at m.place (Uses m.name) ∷ []) k0 k1 k2 (went_key m k0 k1 number keys c) last in
    record { whole = all.whole; grows = all.grows; named = named_later k1 k2 last.grows number m.name c.named }

pub use_refused : (m : MapSeen) (k0 k1 : Known) (number : ℕ) (keys : List Made) (e : TypeError) → KeyChecked m k0 k1 number keys → IsBreach (breaks (is_one_too_many k1 m.name) TooManyMaps) m.place e → SaysFault (judged (used m) k0) e
use_refused m k0 k1 number keys e c h =
    fault_behind m.points (at m.place (Uses m.name) ∷ []) k0 k1 e (went_key m k0 k1 number keys c) (fault_here m.place (Uses m.name) [] k1 e h)

pub use_err : {A : Type 0} (P : A → Type 0) (m : MapSeen) (k0 : Known) (r : Result A TypeError) (f : TypeError) → IsErrAnd r (λ e. e ≡ f) → SaysFault (judged (used m) k0) f
    → MatchResult r P (λ e. SaysFault (judged (used m) k0) e)
use_err P m k0 (Ok a) f is h = absurd is
use_err P m k0 (Err e) f is h = subst (λ (x : TypeError). SaysFault (judged (used m) k0) x) (sym is) h

pub says_err : {A : Type 0} (ps : List Point) (k0 now : Known) (r : Result A TypeError) (f : TypeError) → IsErrAnd r (λ e. e ≡ f) → SaysFault (judged ps k0) f → Says (judged ps k0) now r
says_err ps k0 now (Ok a) f is h = absurd is
says_err ps k0 now (Err e) f is h = subst (λ (x : TypeError). SaysFault (judged ps k0) x) (sym is) h

used_went : (m : MapSeen) (k0 k1 : Known) (number : ℕ) → UseChecked m k0 k1 number → Went (used m) k0 k1
used_went m k0 k1 number u = record { whole = u.whole; grows = u.grows }

pub clear_done : (m : MapSeen) (k0 k1 : Known) (number : ℕ) → UseChecked m k0 k1 number → Done (clear_told m) k0 k1 (Cleared number ∷ [])
clear_done m k0 k1 number u =
    done_of (clear_told m) k0 k1 (Cleared number ∷ []) (used_went m k0 k1 number u)
    (held_more k1 (Cleared number) (ClearWord m.name) [] [] (record { name = m.name; named = u.named }) (ap (λ (n : List ℕ). ClearWord n) (title_is k1.names number m.name u.named.numbered)) (held_none k1))

pub zero_done : (m : MapSeen) (k0 k1 : Known) (number : ℕ) → UseChecked m k0 k1 number → Done (zero_told m) k0 k1 (Zeroed number ∷ [])
zero_done m k0 k1 number u =
    done_of (zero_told m) k0 k1 (Zeroed number ∷ []) (used_went m k0 k1 number u)
    (held_more k1 (Zeroed number) (ZeroWord m.name) [] [] (record { name = m.name; named = u.named }) (ap (λ (n : List ℕ). ZeroWord n) (title_is k1.names number m.name u.named.numbered)) (held_none k1))

second_holds : (a b : Bool) → (a && b) ≡ true → b ≡ true
second_holds true b h = h
second_holds false b h = cc

both_true : (a b : Bool) → a ≡ true → b ≡ true → (a && b) ≡ true
both_true true true x y = refl
both_true true false x y = y
both_true false b x y = x

first_holds : (a b : Bool) → (a && b) ≡ true → a ≡ true
first_holds true b h = refl
first_holds false b h = cc

few_rows : (top : ℤ) → FitsSigned w64 top → int_le (pos 0) top ≡ true → nat_lt (unsigned_abs top) (2 ^ 63) ≡ true
few_rows (pos n) fits h = grind (arith, nat_tests)
few_rows (negsuc n) fits h = cc

rows_may : (top div : ℤ) → FitsSigned w64 top → are_rows top div ≡ true → may_print (unsigned_abs top) div ≡ true
rows_may top div fits h =
    both_true (int_le (pos 1) div) (nat_lt (unsigned_abs top) (2 ^ 63)) (second_holds (int_le (pos 0) top) (int_le (pos 1) div) h)
    (few_rows top fits (first_holds (int_le (pos 0) top) (int_le (pos 1) div) h))

pub print_done : (m : MapSeen) (top div : ℤ) (place : Place) (k0 k1 : Known) (number rows : ℕ) → FitsSigned w64 top → UseChecked m k0 k1 number → breaks (not (are_rows top div)) WrongType ≡ None → rows ≡ unsigned_abs top
    → Done (print_told m top div place) k0 k1 (Shown number rows div ∷ [])
print_done m top div place k0 k1 number rows fits u h is =
    rw is (done_of (print_told m top div place) k0 k1 (Shown number (unsigned_abs top) div ∷ [])
    (went_both (used m) (at place (NeedsRows top div) ∷ []) k0 k1 k1 (used_went m k0 k1 number u) (went_at place (NeedsRows top div) k1 k1 tt h refl))
    (held_more k1 (Shown number (unsigned_abs top) div) (ShowWord m.name (unsigned_abs top) div) [] [] (record { name = m.name; named = u.named }, rows_may top div fits (holds_not (are_rows top div) WrongType h))
    (ap (λ (n : List ℕ). ShowWord n (unsigned_abs top) div) (title_is k1.names number m.name u.named.numbered)) (held_none k1)))

pub print_refused : (m : MapSeen) (top div : ℤ) (place : Place) (k0 k1 : Known) (number : ℕ) (e : TypeError) → UseChecked m k0 k1 number → IsBreach (breaks (not (are_rows top div)) WrongType) place e → SaysFault (judged (print_told m top div place).points k0) e
print_refused m top div place k0 k1 number e u h =
    fault_behind (used m) (at place (NeedsRows top div) ∷ []) k0 k1 e (used_went m k0 k1 number u) (fault_here place (NeedsRows top div) [] k1 e h)

-- a deletion
pub types_later : (a b : Known) → Grows a b → (sorts : List Sort) (ms : List Made) → map (shape_in a) sorts ≡ map (λ m. Some m.shape) ms → map (shape_in b) sorts ≡ map (λ m. Some m.shape) ms
types_later a b g [] [] h = refl
types_later a b g [] (m ∷ ms) h = cc
types_later a b g (s ∷ ss) [] h = cc
types_later a b g (s ∷ ss) (m ∷ ms) h =
    let first : shape_in a s ≡ Some m.shape = cc in
    let rest : map (shape_in a) ss ≡ map (λ m. Some m.shape) ms = cc in
    let x = shape_later a b g s m.shape first in
    let y = types_later a b g ss ms rest in
    cc

not_broken : (b : Bool) (r : Rule) → breaks b r ≡ None → b ≡ false
not_broken true r h = cc
not_broken false r h = refl

-- the mentions of a deletion
pub record Deletion (name : List ℕ) (at_map place : Place) (sorts : List Sort) (keys : List Made) (k0 k1 : Known) : Type 0 where
  pub used : breaks (is_one_too_many k0 name) TooManyMaps ≡ None
  pub mentioned : k1 ≡ with_mention k0 name
  pub types : map (shape_in k0) sorts ≡ map (λ m. Some m.shape) keys

use_went : (name : List ℕ) (at_map place : Place) (sorts : List Sort) (keys : List Made) (k0 k1 : Known) → Deletion name at_map place sorts keys k0 k1 → Went (at at_map (Uses name) ∷ []) k0 k1
use_went name at_map place sorts keys k0 k1 d = went_at at_map (Uses name) k0 k1 tt d.used (sym d.mentioned)

deletes_is : (name : List ℕ) (at_map place : Place) (sorts : List Sort) (keys : List Made) (k0 k1 : Known) → Deletion name at_map place sorts keys k0 k1 → shapes_in k1 sorts ≡ key_shapes keys
deletes_is name at_map place sorts keys k0 k1 d =
    shapes_known k1 sorts keys (types_later k0 k1 (use_went name at_map place sorts keys k0 k1 d).grows sorts keys d.types)

pub delete_went : (name : List ℕ) (at_map place : Place) (sorts : List Sort) (keys : List Made) (k0 k1 k2 : Known) → Deletion name at_map place sorts keys k0 k1 → breaks (is_agg_in (decl_in name k1.decided)) WrongType ≡ None
    → breaks (has_other_keys k1 name (key_shapes keys)) OtherKeys ≡ None → k2 ≡ decides k1 name Ints (key_shapes keys) → Went (delete_points name at_map place sorts) k0 k2
delete_went name at_map place sorts keys k0 k1 k2 d shared h is =
    let e = deletes_is name at_map place sorts keys k0 k1 d in
    went_both (at at_map (Uses name) ∷ []) (at place (NeedsShared name) ∷ at at_map (Deletes name sorts) ∷ []) k0 k1 k2 (use_went name at_map place sorts keys k0 k1 d)
    (went_both (at place (NeedsShared name) ∷ []) (at at_map (Deletes name sorts) ∷ []) k1 k1 k2 (went_at place (NeedsShared name) k1 k1 tt shared refl)
    (went_at at_map (Deletes name sorts) k1 k2 tt (ap (λ (l : List Shape). breaks (has_other_keys k1 name l) OtherKeys) e ∙ h) (ap (decides k1 name Ints) e ∙ sym is)))

pub delete_first : (name : List ℕ) (at_map place : Place) (sorts : List Sort) (k0 : Known) (e : TypeError) → IsBreach (breaks (is_one_too_many k0 name) TooManyMaps) at_map e → SaysFault (judged (delete_points name at_map place sorts) k0) e
delete_first name at_map place sorts k0 e h = fault_here at_map (Uses name) (at place (NeedsShared name) ∷ at at_map (Deletes name sorts) ∷ []) k0 e h

pub delete_second : (name : List ℕ) (at_map place : Place) (sorts : List Sort) (keys : List Made) (k0 k1 : Known) (e : TypeError) → Deletion name at_map place sorts keys k0 k1
    → IsBreach (breaks (is_agg_in (decl_in name k1.decided)) WrongType) place e → SaysFault (judged (delete_points name at_map place sorts) k0) e
delete_second name at_map place sorts keys k0 k1 e d h =
    fault_behind (at at_map (Uses name) ∷ []) (at place (NeedsShared name) ∷ at at_map (Deletes name sorts) ∷ []) k0 k1 e (use_went name at_map place sorts keys k0 k1 d)
    (fault_here place (NeedsShared name) (at at_map (Deletes name sorts) ∷ []) k1 e h)

pub delete_third : (name : List ℕ) (at_map place : Place) (sorts : List Sort) (keys : List Made) (k0 k1 : Known) (e : TypeError) → Deletion name at_map place sorts keys k0 k1 → breaks (is_agg_in (decl_in name k1.decided)) WrongType ≡ None
    → IsBreach (breaks (has_other_keys k1 name (key_shapes keys)) OtherKeys) at_map e → SaysFault (judged (delete_points name at_map place sorts) k0) e
delete_third name at_map place sorts keys k0 k1 e d shared h =
    fault_behind (at at_map (Uses name) ∷ []) (at place (NeedsShared name) ∷ at at_map (Deletes name sorts) ∷ []) k0 k1 e (use_went name at_map place sorts keys k0 k1 d)
    (fault_behind (at place (NeedsShared name) ∷ []) (at at_map (Deletes name sorts) ∷ []) k1 k1 e (went_at place (NeedsShared name) k1 k1 tt shared refl)
    (fault_here at_map (Deletes name sorts) [] k1 e
    (subst (λ (l : List Shape). IsBreach (breaks (has_other_keys k1 name l) OtherKeys) at_map e) (sym (deletes_is name at_map place sorts keys k0 k1 d)) h)))

-- the map of a deletion, whatever its keys are called
pub delete_leaves : (name : List ℕ) (keys : List Shape) (k0 k1 k2 : Known) → k1 ≡ with_mention k0 name → breaks (is_agg_in (decl_in name k1.decided)) WrongType ≡ None → breaks (has_other_keys k1 name keys) OtherKeys ≡ None
    → k2 ≡ decides k1 name Ints keys → Removed k0 k2 name keys
delete_leaves name keys k0 k1 k2 mentioned shared h is =
    let k : Known = decides k1 name Ints keys in
    let there = shared_declares k1 name keys (not_broken (is_agg_in (decl_in name k1.decided)) WrongType shared) (not_broken (has_other_keys k1 name keys) OtherKeys h) in
    let first = subst (λ (x : Known). Grows k0 x) (sym mentioned) (grows_mention k0 name) in
    record {
      grows = grows_on k0 k1 k2 first (subst (λ (x : Known). Grows k1 x) (sym is) (grows_decides k1 name Ints keys));
      kind = kind_held (decl_in name k.decided);
      shared = there.1;
      declared = subst (λ (x : Known). IsDeclared x name (kind_held (decl_in name k.decided)) keys) (sym is) there.0;
    }

parts_both : (ms ns : List Made) → parts_in (ms ++ ns) ≡ parts_in ms ++ parts_in ns
parts_both [] ns = refl
parts_both (m ∷ ms) ns = ap (λ (l : List TreePart). m.parts ++ l) (parts_both ms ns) ∙ sym (append_assoc m.parts (parts_in ms) (parts_in ns))

deleted_word : (a b : List ℕ) (m n : ℕ) → a ≡ b → m ≡ n → DeleteWord a m ≡ DeleteWord b n
deleted_word a b m n g h = cc

pub delete_done : (m : MapSeen) (apart : List Seen) (place : Place) (k0 k1 k2 k3 : Known) (number : ℕ) (keys more : List Made) → KeyChecked m k0 k1 number keys → Went (points_of apart) k1 k2 → Held k2 (parts_in more) (words_of apart)
    → map (shape_in k2) (m.keys ++ map (λ s. s.sort) apart) ≡ map (λ m. Some m.shape) (keys ++ more) → judged (delete_points m.name m.place place (m.keys ++ map (λ s. s.sort) apart)) k2 ≡ Ok k3
    → Removed k2 k3 m.name (key_shapes (keys ++ more)) → Done (delete_told m apart place) k0 k3 (delete_parts number (keys ++ more))
delete_done m apart place k0 k1 k2 k3 number keys more c w held types whole r =
    let last : Went (delete_points m.name m.place place (m.keys ++ map (λ s. s.sort) apart)) k2 k3 = record { whole = whole; grows = r.grows } in
    let g = grows_on k1 k2 k3 w.grows r.grows in
    let named = named_later k1 k3 g number m.name c.named in
    let name = title_is k3.names number m.name named.numbered in
    let long = same_number k2 (m.keys ++ map (λ s. s.sort) apart) (keys ++ more) types in
    done_of (delete_told m apart place) k0 k3 (delete_parts number (keys ++ more))
    (went_both m.points (points_of apart ++ delete_points m.name m.place place (m.keys ++ map (λ s. s.sort) apart)) k0 k1 k3 (went_key m k0 k1 number keys c)
    (went_both (points_of apart) (delete_points m.name m.place place (m.keys ++ map (λ s. s.sort) apart)) k1 k2 k3 w last))
    (held_more k3 (Deleted number (key_shapes (keys ++ more))) (DeleteWord m.name (length (m.keys ++ map (λ s. s.sort) apart))) (parts_in (keys ++ more)) (m.key_words ++ words_of apart)
    (record { kind = r.kind; shared = r.shared; map = record { name = m.name; named = named; declared = r.declared } })
    (deleted_word (title (titles_of k3).maps number) m.name (length (key_shapes (keys ++ more))) (length (m.keys ++ map (λ s. s.sort) apart)) name long)
    (subst (λ (ps : List TreePart). Held k3 ps (m.key_words ++ words_of apart)) (sym (parts_both keys more))
    (held_both k3 (parts_in keys) (parts_in more) m.key_words (words_of apart) (held_later k1 k3 (parts_in keys) m.key_words g (held_key m k0 k1 number keys c)) (held_later k2 k3 (parts_in more) (words_of apart) r.grows held))))

delete_does : (m : MapSeen) (apart : List Seen) (place : Place) (k0 k1 k2 k3 : Known) (number : ℕ) (keys more : List Made) (r : Result TypedStmt TypeError) → KeyChecked m k0 k1 number keys → Went (points_of apart) k1 k2
    → Held k2 (parts_in more) (words_of apart) → map (shape_in k2) (m.keys ++ map (λ s. s.sort) apart) ≡ map (λ m. Some m.shape) (keys ++ more)
    → Says (judged (delete_points m.name m.place place (m.keys ++ map (λ s. s.sort) apart)) k2) k3 r → OnOk r (Removed k2 k3 m.name (key_shapes (keys ++ more)))
    → IfOk r (λ s. (inside : Bool) → stmt_parts s inside ≡ delete_parts number (keys ++ more)) → DoesIn (delete_told m apart place) stmt_parts k0 k3 r
delete_does m apart place k0 k1 k2 k3 number keys more (Ok s) c w held types says removed made = λ (inside : Bool).
    subst (λ (ps : List TreePart). Done (delete_told m apart place) k0 k3 ps) (sym (made inside)) (delete_done m apart place k0 k1 k2 k3 number keys more c w held types says removed)
delete_does m apart place k0 k1 k2 k3 number keys more (Err e) c w held types says removed made =
    fault_behind m.points (points_of apart ++ delete_points m.name m.place place (m.keys ++ map (λ s. s.sort) apart)) k0 k1 e (went_key m k0 k1 number keys c)
    (fault_behind (points_of apart) (delete_points m.name m.place place (m.keys ++ map (λ s. s.sort) apart)) k1 k2 e w says)

-- the key stands in brackets
pub delete_alone : (m : MapSeen) (place : Place) (k0 k1 k3 : Known) (number : ℕ) (keys : List Made) (r : Result TypedStmt TypeError) → KeyChecked m k0 k1 number keys
    → ((sorts : List Sort) → map (shape_in k1) sorts ≡ map (λ (m : Made). Some m.shape) keys → Says (judged (delete_points m.name m.place place sorts) k1) k3 r) → OnOk r (Removed k1 k3 m.name (key_shapes keys))
    → IfOk r (λ s. (inside : Bool) → stmt_parts s inside ≡ delete_parts number keys) → DoesIn (delete_told m [] place) stmt_parts k0 k3 r
delete_alone m place k0 k1 k3 number keys r c says removed made =
    let e = append-nil keys in
    let types : map (shape_in k1) (m.keys ++ []) ≡ map (λ (m : Made). Some m.shape) keys = ap (λ (l : List Sort). map (shape_in k1) l) (append-nil m.keys) ∙ c.sorts in
    delete_does m [] place k0 k1 k1 k3 number keys [] r c (went_none k1) (held_none k1) (types ∙ ap (λ (l : List Made). map (λ (m : Made). Some m.shape) l) (sym e)) (says (m.keys ++ []) types)
    (subst (λ (l : List Made). OnOk r (Removed k1 k3 m.name (key_shapes l))) (sym e) removed)
    (subst (λ (l : List Made). IfOk r (λ s. (inside : Bool) → stmt_parts s inside ≡ delete_parts number l)) (sym e) made)

types_more : (k : Known) (sorts : List Sort) (ms : List Made) (s : Sort) (v : Made) → map (shape_in k) sorts ≡ map (λ (m : Made). Some m.shape) ms → shape_in k s ≡ Some v.shape → map (shape_in k) (sorts ++ s ∷ []) ≡ map (λ (m : Made). Some m.shape) (ms ++ v ∷ [])
types_more k [] [] s v h e = ap (λ (o : Option Shape). o ∷ []) e
types_more k [] (m ∷ ms) s v h e = cc
types_more k (x ∷ xs) [] s v h e = cc
types_more k (x ∷ xs) (m ∷ ms) s v h e =
    let first : shape_in k x ≡ Some m.shape = cc in
    let rest : map (shape_in k) xs ≡ map (λ (m : Made). Some m.shape) ms = cc in
    let more = types_more k xs ms s v rest e in
    cc

-- the key stands behind the map
pub delete_with : (m : MapSeen) (s : Seen) (place : Place) (k0 k1 k2 k3 : Known) (number : ℕ) (keys : List Made) (v : Made) (all : List Made) (r : Result TypedStmt TypeError) → KeyChecked m k0 k1 number keys → Checked s k1 k2 v
    → all ≡ keys ++ v ∷ [] → ((sorts : List Sort) → map (shape_in k2) sorts ≡ map (λ (m : Made). Some m.shape) all → Says (judged (delete_points m.name m.place place sorts) k2) k3 r) → OnOk r (Removed k2 k3 m.name (key_shapes all))
    → IfOk r (λ s. (inside : Bool) → stmt_parts s inside ≡ delete_parts number all) → DoesIn (delete_told m (s ∷ []) place) stmt_parts k0 k3 r
delete_with m s place k0 k1 k2 k3 number keys v all r c d e says removed made =
    let types = types_more k2 m.keys keys s.sort v (types_later k1 k2 d.grows m.keys keys c.sorts) d.typing.shape in
    let seen : Went (s.points ++ []) k1 k2 = subst (λ (ps : List Point). Went ps k1 k2) (sym (append-nil s.points)) (went_seen s k1 k2 v d) in
    let held : Held k2 (v.parts ++ []) (s.words ++ []) = held_both k2 v.parts [] s.words [] (held_seen s k1 k2 v d) (held_none k2) in
    delete_does m (s ∷ []) place k0 k1 k2 k3 number keys (v ∷ []) r c seen held types (says (m.keys ++ s.sort ∷ []) (types ∙ ap (λ (l : List Made). map (λ (m : Made). Some m.shape) l) (sym e)))
    (subst (λ (l : List Made). OnOk r (Removed k2 k3 m.name (key_shapes l))) e removed)
    (subst (λ (l : List Made). IfOk r (λ s. (inside : Bool) → stmt_parts s inside ≡ delete_parts number l)) e made)

pub delete_key_fault : (m : MapSeen) (s : Seen) (place : Place) (k0 k1 : Known) (number : ℕ) (keys : List Made) (e : TypeError) → KeyChecked m k0 k1 number keys → SaysFault (judged s.points k1) e → SaysFault (judged (delete_told m (s ∷ []) place).points k0) e
delete_key_fault m s place k0 k1 number keys e c h =
    let last = delete_points m.name m.place place (m.keys ++ s.sort ∷ []) in
    fault_behind m.points ((s.points ++ []) ++ last) k0 k1 e (went_key m k0 k1 number keys c) (fault_first (s.points ++ []) last k1 e (fault_first s.points [] k1 e h))
