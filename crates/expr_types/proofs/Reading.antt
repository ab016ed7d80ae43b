-- What mentions of maps decide, and reads and steps of maps.
use Rattle.std.proofs.Common.{◌≡◌, ◌++◌, ℕ, suc, Bool, true, false, cond, not, ◌&&◌, ◌||◌, nat_lt, nat_le, List, [], ◌∷◌, length, map, unwrap_or, Option, Some, None, Result, Ok, Err, OnOk, IfOk, refl, sym, ap, subst, ◌∙◌}
use Rattle.std.specs.Prelude.{if◌then◌else◌}
use Rattle.std.specs.Str.{bytes_eq}
use Rattle.std.proofs.lemmas.Bool.{ltb-false, le-leb}
use Rattle.bt_core.specs.declared.limits.TheConstants.{KEY_PARTS}
use Rattle.bt_core.specs.declared.place.Place.{Place}
use Rattle.bt_core.specs.declared.map.MapDecl.{MapDecl}
use Rattle.bt_core.specs.declared.map.MapKind.{MapKind}
use Rattle.bt_core.specs.declared.map.MapKind.TheVariants.{Ints, Strs, Aggs}
use Rattle.bt_core.specs.declared.map.Shape.{Shape}
use Rattle.bt_core.specs.declared.map.Shape.TheVariants.{Int}
use Rattle.typed_tree.specs.declared.expr.AnyExpr.{AnyExpr}
use Rattle.typed_tree.specs.declared.expr.NumExpr.{NumExpr}
use Rattle.typed_tree.specs.Parts.{Made, made, made_of, num_parts, parts_in, key_shapes, keyed_parts, Stepped}
use Rattle.typed_tree.specs.Scope.{same_kind, same_shapes, is_agg, is_hist, is_number, is_fine_kind, is_fine_decl}
use Rattle.typed_tree.proofs.Same.{kind_is, shapes_are}
use Rattle.expr_types.specs.declared.fault.Fault.{Fault}
use Rattle.expr_types.specs.declared.fault.Rule.{Rule}
use Rattle.expr_types.specs.declared.fault.Rule.TheVariants as rule
use Rattle.expr_types.specs.declared.fault.TypeError.{TypeError}
use Rattle.expr_types.specs.declared.known.Known.{Known}
use Rattle.expr_types.specs.Mentions.{Sort, Reads, Steps, Word, MapWord, StepWord}
use Rattle.expr_types.specs.Known.{has_name, decl_in, decl_shape, shape_of_kind, shape_in, shapes_in, with_mention, decide_after, decides}
use Rattle.expr_types.specs.Grows.{Grows}
use Rattle.expr_types.specs.Judge.{unless_broken, judged, SaysFault, Refuses}
use Rattle.expr_types.specs.Rules.{is_agg_in, is_hist_in, is_other_kind, is_other_key, has_other_keys, is_one_too_many, first_of_rules, read_breaks, write_breaks}
use Rattle.expr_types.specs.Walk.{MapSeen, OnMap, at, map_read, map_words, step_seen}
use Rattle.expr_types.specs.Typing.{IsDeclared, IsNamed, AllFit, Titles, titles_of, title, words_by}
use Rattle.expr_types.specs.Checked.{Checked, Checks, ChecksNumber, KeyChecked}
use Rattle.expr_types.specs.Maps.{kind_held, read_made}
use Rattle.expr_types.proofs.Judging.{judged_ok}
use Rattle.expr_types.proofs.Growing.{grows_on, grows_decides}
use Rattle.expr_types.proofs.Later.{named_later, all_later, words_later, title_is}
use Rattle.expr_types.proofs.Composing.{behind_refused, breach}
use Rattle.expr_types.proofs.Finding.{same_self}

-- the last one is found where no other has its name
last_found : (name : List ℕ) (ds : List MapDecl) (d : MapDecl) → bytes_eq d.name name ≡ true → decl_in name ds ≡ None → decl_in name (ds ++ d ∷ []) ≡ Some d
last_found name [] d s h = ap (λ (b : Bool). cond b (Some d) None) s
last_found name (x ∷ xs) d s h =
    elim (bytes_eq x.name name) as (λ b. cond b (Some x) (decl_in name xs) ≡ None → cond b (Some x) (decl_in name (xs ++ d ∷ [])) ≡ Some d)
    [ true ↦ λ e. cc | false ↦ λ e. last_found name xs d s e ] h

-- tests that all fail
none_hold : (a b c : Bool) (r s t : Rule) → first_of_rules ((a, r) ∷ (b, s) ∷ (c, t) ∷ []) ≡ None → (b ≡ false) × (c ≡ false)
none_hold true b c r s t h = cc
none_hold false true c r s t h = cc
none_hold false false true r s t h = cc
none_hold false false false r s t h = (refl, refl)

or_none : (a b : Bool) → (a || b) ≡ false → (a ≡ false) × (b ≡ false)
or_none true b h = cc
or_none false b h = (refl, h)

not_false : (a : Bool) → not a ≡ false → a ≡ true
not_false true h = refl
not_false false h = cc

-- a key that is no other than was decided has at most four parts
pub few_parts : (k : Known) (name : List ℕ) (shapes : List Shape) → has_other_keys k name shapes ≡ false → nat_le (length shapes) KEY_PARTS ≡ true
few_parts k name shapes h =
    let n = or_none (nat_lt KEY_PARTS (length shapes)) (is_other_key (decl_in name k.decided) shapes) h in
    le-leb (length shapes) KEY_PARTS (ltb-false KEY_PARTS (length shapes) n.0)

-- what a read breaks, and what a write does
pub read_keeps : (k : Known) (name : List ℕ) (shapes : List Shape) → read_breaks k name shapes ≡ None → (is_hist_in (decl_in name k.decided) ≡ false) × (has_other_keys k name shapes ≡ false)
read_keeps k name shapes = none_hold (is_one_too_many k name) (is_hist_in (decl_in name k.decided)) (has_other_keys k name shapes) rule.TooManyMaps rule.AggregationRead rule.OtherKeys

pub write_keeps : (k : Known) (name : List ℕ) (kind : MapKind) (shapes : List Shape) → write_breaks k name kind shapes ≡ None → (is_other_kind (decl_in name k.decided) kind ≡ false) × (has_other_keys k name shapes ≡ false)
write_keeps k name kind shapes = none_hold (is_one_too_many k name) (is_other_kind (decl_in name k.decided) kind) (has_other_keys k name shapes) rule.TooManyMaps rule.OtherKind rule.OtherKeys

both_true : (a b : Bool) → a ≡ true → b ≡ true → (a && b) ≡ true
both_true a b h g = rw (h, g) refl

pub fine_decl : (k : Known) (name : List ℕ) (kind : MapKind) (shapes : List Shape) → is_fine_kind kind ≡ true → has_other_keys k name shapes ≡ false → is_fine_decl (record { name = name; kind = kind; key_shape = shapes }) ≡ true
fine_decl k name kind shapes f h = both_true (is_fine_kind kind) (nat_le (length shapes) KEY_PARTS) f (few_parts k name shapes h)

pub write_fine : (k : Known) (name : List ℕ) (kind : MapKind) (shapes : List Shape) → is_fine_kind kind ≡ true → write_breaks k name kind shapes ≡ None → is_fine_decl (record { name = name; kind = kind; key_shape = shapes }) ≡ true
write_fine k name kind shapes f h = fine_decl k name kind shapes f (write_keeps k name kind shapes h).1

-- the first declaration, or this one
first_decided : (k : Known) (d : MapDecl) (o : Option MapDecl) → decl_in d.name k.decided ≡ o → is_fine_decl d ≡ true → decl_in d.name (decide_after k d o).decided ≡ Some (unwrap_or o d)
first_decided k d None e f =
    subst (λ (b : Bool). decl_in d.name (cond b (record k { decided = k.decided ++ d ∷ [] }) k).decided ≡ Some d) (sym f) (last_found d.name k.decided d (same_self d.name) e)
first_decided k d (Some first) e f = e

mention_keeps : (k : Known) (name : List ℕ) → (with_mention k name).decided ≡ k.decided
mention_keeps k name = elim (has_name name k.mentioned) as (λ b. (cond b k (record k { mentioned = k.mentioned ++ name ∷ [] })).decided ≡ k.decided) [ true ↦ refl | false ↦ refl ]

pub decides_first : (k : Known) (name : List ℕ) (kind : MapKind) (shapes : List Shape) → is_fine_decl (record { name = name; kind = kind; key_shape = shapes }) ≡ true
    → decl_in name (decides k name kind shapes).decided ≡ Some (unwrap_or (decl_in name k.decided) (record { name = name; kind = kind; key_shape = shapes }))
decides_first k name kind shapes f =
    let d : MapDecl = record { name = name; kind = kind; key_shape = shapes } in
    first_decided (with_mention k name) d (decl_in name (with_mention k name).decided) refl f
    ∙ ap (λ (ds : List MapDecl). Some (unwrap_or (decl_in name ds) d)) (mention_keeps k name)

keys_kept : (o : Option MapDecl) (d : MapDecl) (shapes : List Shape) → d.key_shape ≡ shapes → is_other_key o shapes ≡ false → (unwrap_or o d).key_shape ≡ shapes
keys_kept None d shapes e h = e
keys_kept (Some first) d shapes e h = shapes_are first.key_shape shapes (not_false (same_shapes first.key_shape shapes) h)

kind_kept : (o : Option MapDecl) (d : MapDecl) (kind : MapKind) → d.kind ≡ kind → is_other_kind o kind ≡ false → (unwrap_or o d).kind ≡ kind
kind_kept None d kind e h = e
kind_kept (Some first) d kind e h = kind_is first.kind kind (not_false (same_kind first.kind kind) h)

-- a mention that decides a kind leaves it decided
pub write_declares : (k : Known) (name : List ℕ) (kind : MapKind) (shapes : List Shape) → is_fine_kind kind ≡ true → write_breaks k name kind shapes ≡ None → IsDeclared (decides k name kind shapes) name kind shapes
write_declares k name kind shapes f h =
    let d : MapDecl = record { name = name; kind = kind; key_shape = shapes } in
    let n = write_keeps k name kind shapes h in
    let o = or_none (nat_lt KEY_PARTS (length shapes)) (is_other_key (decl_in name k.decided) shapes) n.1 in
    record {
      decl = unwrap_or (decl_in name k.decided) d;
      found = decides_first k name kind shapes (fine_decl k name kind shapes f n.1);
      kinds = kind_kept (decl_in name k.decided) d kind refl n.0;
      shapes = keys_kept (decl_in name k.decided) d shapes refl o.1;
    }

-- a mention of a map that decides no other keys leaves it with what it holds
held_declares : (k : Known) (name : List ℕ) (shapes : List Shape) → has_other_keys k name shapes ≡ false
    → IsDeclared (decides k name Ints shapes) name (kind_held (decl_in name (decides k name Ints shapes).decided)) shapes
held_declares k name shapes h =
    let d : MapDecl = record { name = name; kind = Ints; key_shape = shapes } in
    let found = decides_first k name Ints shapes (fine_decl k name Ints shapes refl h) in
    let o = or_none (nat_lt KEY_PARTS (length shapes)) (is_other_key (decl_in name k.decided) shapes) h in
    record {
      decl = unwrap_or (decl_in name k.decided) d;
      found = found;
      kinds = sym (ap kind_held found);
      shapes = keys_kept (decl_in name k.decided) d shapes refl o.1;
    }

shared_kept : (o : Option MapDecl) (d : MapDecl) → is_agg d.kind ≡ false → is_agg_in o ≡ false → is_agg (unwrap_or o d).kind ≡ false
shared_kept None d e h = e
shared_kept (Some first) d e h = h

-- a mention of a map that is no aggregation leaves it one
pub shared_declares : (k : Known) (name : List ℕ) (shapes : List Shape) → is_agg_in (decl_in name k.decided) ≡ false → has_other_keys k name shapes ≡ false
    → IsDeclared (decides k name Ints shapes) name (kind_held (decl_in name (decides k name Ints shapes).decided)) shapes
    × (is_agg (kind_held (decl_in name (decides k name Ints shapes).decided)) ≡ false)
shared_declares k name shapes a h =
    let d : MapDecl = record { name = name; kind = Ints; key_shape = shapes } in
    let found = decides_first k name Ints shapes (fine_decl k name Ints shapes refl h) in
    (held_declares k name shapes h, ap (λ (x : Option MapDecl). is_agg (kind_held x)) found ∙ shared_kept (decl_in name k.decided) d refl a)

no_hist_kept : (o : Option MapDecl) (d : MapDecl) → is_hist d.kind ≡ false → is_hist_in o ≡ false → is_hist (unwrap_or o d).kind ≡ false
no_hist_kept None d e h = e
no_hist_kept (Some first) d e h = h

-- a map that is read is declared, and no histogram
read_declares : (k : Known) (name : List ℕ) (shapes : List Shape) → read_breaks k name shapes ≡ None
    → IsDeclared (decides k name Ints shapes) name (kind_held (decl_in name (decides k name Ints shapes).decided)) shapes
    × (is_hist (kind_held (decl_in name (decides k name Ints shapes).decided)) ≡ false)
read_declares k name shapes h =
    let n = read_keeps k name shapes h in
    let d : MapDecl = record { name = name; kind = Ints; key_shape = shapes } in
    let found = decides_first k name Ints shapes (fine_decl k name Ints shapes refl n.1) in
    (held_declares k name shapes n.1, ap (λ (x : Option MapDecl). is_hist (kind_held x)) found ∙ no_hist_kept (decl_in name k.decided) d refl n.0)

-- what a read makes has the type of what the map holds, fits, and is written as the map and its key
made_shape : (kind : MapKind) (number : ℕ) (keys : List Made) → is_hist kind ≡ false → shape_of_kind kind ≡ Some (read_made kind number keys).shape
made_shape Ints number keys h = refl
made_shape Strs number keys h = refl
made_shape (Aggs a) number keys h = ap (λ (b : Bool). if b then Some Int else None) (not_false (is_number a) h)

held_shape : (o : Option MapDecl) (d : MapDecl) (number : ℕ) (keys : List Made) → o ≡ Some d → is_hist (kind_held o) ≡ false → decl_shape o ≡ Some (read_made (kind_held o) number keys).shape
held_shape None d number keys e h = cc
held_shape (Some first) d number keys e h = made_shape first.kind number keys h

made_fits : (k : Known) (name : List ℕ) (kind : MapKind) (number : ℕ) (keys : List Made) → is_hist kind ≡ false → IsNamed k number name → IsDeclared k name kind (key_shapes keys) → AllFit k (parts_in keys)
    → AllFit k (read_made kind number keys).parts
made_fits k name Ints number keys h n d f = (record { name = name; named = n; declared = d }, f)
made_fits k name Strs number keys h n d f = (record { name = name; named = n; declared = d }, f)
made_fits k name (Aggs a) number keys h n d f =
    (record { kind = Aggs a; summed = not_false (is_number a) h; map = record { name = name; named = n; declared = d } }, f)

made_words : (t : Titles) (kind : MapKind) (number : ℕ) (keys : List Made) → words_by t (read_made kind number keys).parts ≡ (MapWord (title t.maps number) (length (key_shapes keys)) ∷ words_by t (parts_in keys))
made_words t Ints number keys = refl
made_words t Strs number keys = refl
made_words t (Aggs a) number keys = refl

-- the types of a key's parts, as they are known
pub shapes_known : (k : Known) (sorts : List Sort) (ms : List Made) → map (shape_in k) sorts ≡ map (λ m. Some m.shape) ms → shapes_in k sorts ≡ key_shapes ms
shapes_known k [] [] h = refl
shapes_known k [] (m ∷ ms) h = cc
shapes_known k (s ∷ ss) [] h = cc
shapes_known k (s ∷ ss) (m ∷ ms) h =
    let first : shape_in k s ≡ Some m.shape = cc in
    let rest : map (shape_in k) ss ≡ map (λ m. Some m.shape) ms = cc in
    let x = ap (λ (o : Option Shape). unwrap_or o Int) first in
    let y = shapes_known k ss ms rest in
    cc

pub same_number : (k : Known) (sorts : List Sort) (ms : List Made) → map (shape_in k) sorts ≡ map (λ m. Some m.shape) ms → length (key_shapes ms) ≡ length sorts
same_number k [] [] h = refl
same_number k [] (m ∷ ms) h = cc
same_number k (s ∷ ss) [] h = cc
same_number k (s ∷ ss) (m ∷ ms) h =
    let rest : map (shape_in k) ss ≡ map (λ m. Some m.shape) ms = cc in
    ap suc (same_number k ss ms rest)

-- a map and its key, written back
pub key_written : (m : MapSeen) (k0 k1 k2 : Known) (number : ℕ) (keys : List Made) → KeyChecked m k0 k1 number keys → Grows k1 k2 → (MapWord (title k2.names number) (length (key_shapes keys)) ∷ words_by (titles_of k2) (parts_in keys)) ≡ map_words m
key_written m k0 k1 k2 number keys c g =
    let named = title_is k2.names number m.name (named_later k1 k2 g number m.name c.named).numbered in
    let many = same_number k1 m.keys keys c.sorts in
    let words = words_later k1 k2 g (parts_in keys) c.fits in
    let written = c.written in
    cc

read_judged : (m : MapSeen) (k : Known) (shapes : List Shape) → shapes_in k m.keys ≡ shapes → judged (at m.place (Reads m.name m.keys) ∷ []) k ≡ unless_broken (read_breaks k m.name shapes) m.place (Ok (decides k m.name Ints shapes))
read_judged m k shapes h = ap (λ (s : List Shape). unless_broken (read_breaks k m.name s) m.place (Ok (decides k m.name Ints s))) h

read_checked : (m : MapSeen) (k0 k1 : Known) (number : ℕ) (keys : List Made) → KeyChecked m k0 k1 number keys → read_breaks k1 m.name (key_shapes keys) ≡ None
    → (let k : Known = decides k1 m.name Ints (key_shapes keys) in Checked (map_read m) k0 k (read_made (kind_held (decl_in m.name k.decided)) number keys))
read_checked m k0 k1 number keys c h =
    let k : Known = decides k1 m.name Ints (key_shapes keys) in
    let g : Grows k1 k = grows_decides k1 m.name Ints (key_shapes keys) in
    let d = read_declares k1 m.name (key_shapes keys) h in
    record {
      whole = judged_ok m.points (at m.place (Reads m.name m.keys) ∷ []) k0 k1 c.whole
          ∙ (read_judged m k1 (key_shapes keys) (shapes_known k1 m.keys keys c.sorts) ∙ ap (λ (o : Option Rule). unless_broken o m.place (Ok k)) h);
      grows = grows_on k0 k1 k c.grows g;
      typing = record {
        shape = held_shape (decl_in m.name k.decided) d.0.decl number keys d.0.found d.1;
        fits = made_fits k m.name (kind_held (decl_in m.name k.decided)) number keys d.1 (named_later k1 k g number m.name c.named) d.0 (all_later k1 k g (parts_in keys) c.fits);
        written = made_words (titles_of k) (kind_held (decl_in m.name k.decided)) number keys ∙ key_written m k0 k1 k number keys c g;
      };
    }

pub read_checks : (m : MapSeen) (k0 k1 k2 : Known) (number : ℕ) (keys : List Made) (r : Result AnyExpr TypeError) → KeyChecked m k0 k1 number keys → Refuses (read_breaks k1 m.name (key_shapes keys)) m.place r
    → OnOk r (k2 ≡ decides k1 m.name Ints (key_shapes keys)) → IfOk r (λ e. made_of e ≡ read_made (kind_held (decl_in m.name k2.decided)) number keys) → Checks (map_read m) k0 k2 r
read_checks m k0 k1 k2 number keys (Ok e) c h l g = rw (g, l) (read_checked m k0 k1 number keys c h)
read_checks m k0 k1 k2 number keys (Err e) c h l g =
    behind_refused m.points (at m.place (Reads m.name m.keys) ∷ []) k0 k1 e c.whole
    (subst (λ (v : Result Known Fault). SaysFault v e) (sym (read_judged m k1 (key_shapes keys) (shapes_known k1 m.keys keys c.sorts)))
    (breach (read_breaks k1 m.name (key_shapes keys)) m.place (Ok (decides k1 m.name Ints (key_shapes keys))) e h))

-- `++` and `--` of a map
step_judged : (m : MapSeen) (k : Known) (shapes : List Shape) → shapes_in k m.keys ≡ shapes → judged (at m.place (Steps m.name m.keys) ∷ []) k ≡ unless_broken (write_breaks k m.name Ints shapes) m.place (Ok (decides k m.name Ints shapes))
step_judged m k shapes h = ap (λ (s : List Shape). unless_broken (write_breaks k m.name Ints s) m.place (Ok (decides k m.name Ints s))) h

step_checked : (m : MapSeen) (place : Place) (plus prefix : Bool) (k0 k1 : Known) (number : ℕ) (keys : List Made) → KeyChecked m k0 k1 number keys → write_breaks k1 m.name Ints (key_shapes keys) ≡ None
    → Checked (step_seen plus prefix place (OnMap m)) k0 (decides k1 m.name Ints (key_shapes keys)) (made Int (Stepped plus prefix ∷ keyed_parts number keys Int))
step_checked m place plus prefix k0 k1 number keys c h =
    let k : Known = decides k1 m.name Ints (key_shapes keys) in
    let g : Grows k1 k = grows_decides k1 m.name Ints (key_shapes keys) in
    record {
      whole = judged_ok m.points (at m.place (Steps m.name m.keys) ∷ []) k0 k1 c.whole
          ∙ (step_judged m k1 (key_shapes keys) (shapes_known k1 m.keys keys c.sorts) ∙ ap (λ (o : Option Rule). unless_broken o m.place (Ok k)) h);
      grows = grows_on k0 k1 k c.grows g;
      typing = record {
        shape = refl;
        fits = (tt, (record { name = m.name; named = named_later k1 k g number m.name c.named; declared = write_declares k1 m.name Ints (key_shapes keys) refl h }, all_later k1 k g (parts_in keys) c.fits));
        written = ap (λ (l : List Word). (StepWord plus prefix ∷ l)) (key_written m k0 k1 k number keys c g);
      };
    }

pub step_checks : (m : MapSeen) (place : Place) (plus prefix : Bool) (k0 k1 k2 : Known) (number : ℕ) (keys : List Made) (r : Result NumExpr TypeError) → KeyChecked m k0 k1 number keys → Refuses (write_breaks k1 m.name Ints (key_shapes keys)) m.place r
    → OnOk r (k2 ≡ decides k1 m.name Ints (key_shapes keys)) → IfOk r (λ n. num_parts n ≡ (Stepped plus prefix ∷ keyed_parts number keys Int)) → ChecksNumber (step_seen plus prefix place (OnMap m)) k0 k2 r
step_checks m place plus prefix k0 k1 k2 number keys (Ok n) c h l g = rw (g, l) (step_checked m place plus prefix k0 k1 number keys c h)
step_checks m place plus prefix k0 k1 k2 number keys (Err e) c h l g =
    behind_refused m.points (at m.place (Steps m.name m.keys) ∷ []) k0 k1 e c.whole
    (subst (λ (v : Result Known Fault). SaysFault v e) (sym (step_judged m k1 (key_shapes keys) (shapes_known k1 m.keys keys c.sorts)))
    (breach (write_breaks k1 m.name Ints (key_shapes keys)) m.place (Ok (decides k1 m.name Ints (key_shapes keys))) e h))
