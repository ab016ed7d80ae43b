-- Statements that write to a map.
use Rattle.std.proofs.Common.{◌≡◌, ◌++◌, ℕ, true, List, [], ◌∷◌, length, unwrap_or, Option, Some, None, refl, sym, ap, subst, ◌∙◌}
use Rattle.bt_core.specs.declared.place.Place.{Place}
use Rattle.bt_core.specs.declared.map.MapKind.{MapKind}
use Rattle.bt_core.specs.declared.map.MapKind.TheVariants.{Ints}
use Rattle.bt_core.specs.declared.map.Shape.{Shape}
use Rattle.bt_core.specs.declared.map.Shape.TheVariants.{Int, Str}
use Rattle.bt_core.specs.declared.operator.BinOp.{BinOp}
use Rattle.expr_types.specs.declared.fault.Rule.{Rule}
use Rattle.expr_types.specs.declared.fault.TypeError.{TypeError}
use Rattle.expr_types.specs.declared.known.Known.{Known}
use Rattle.typed_tree.specs.Scope.{kind_of_shape, is_fine_kind}
use Rattle.expr_types.specs.Grows.{Grows}
use Rattle.expr_types.specs.Mentions.{Sort, Mention, NeedsWhole, Sets, Steps, Word, MapWord, AssignWord, Point}
use Rattle.expr_types.specs.Known.{shape_in, shapes_in, kind_for, decides, learn}
use Rattle.expr_types.specs.Judge.{judged, SaysFault, IsBreach}
use Rattle.expr_types.specs.Rules.{broken_at, write_breaks}
use Rattle.expr_types.specs.Walk.{Seen, MapSeen, OnMap, at, map_words}
use Rattle.typed_tree.specs.Parts.{TreePart, MapOf, Assigned, Made, keyed_parts, key_shapes, parts_in, set_map_parts, update_map_parts}
use Rattle.expr_types.specs.Typing.{IsDeclared, IsMapOf, title, titles_of}
use Rattle.expr_types.specs.Join.{whole_breaks}
use Rattle.expr_types.specs.Checked.{Checked, KeyChecked}
use Rattle.bt_types.specs.Told.{set_told, update_told}
use Rattle.bt_types.specs.Done.{Done}
use Rattle.expr_types.proofs.Growing.{grows_on, shape_later, IsInner}
use Rattle.expr_types.proofs.Later.{named_later, title_is}
use Rattle.expr_types.proofs.Keys.{key_sorts_later}
use Rattle.expr_types.proofs.Reading.{write_declares, shapes_known, same_number}
use Rattle.bt_types.proofs.Numbers.{whole_went, whole_fault}
use Rattle.bt_types.proofs.Turns.{Went, went_both, went_at, went_seen, went_key, fault_behind, fault_here, held_more, held_both, held_key, held_seen, held_later, done_of}

-- a mention that decides a kind, at a key whose types are known
pub record Decided (m : MapSeen) (mention : Mention) (kind : MapKind) (keys : List Made) (k : Known) : Type 0 where
  pub inner : IsInner mention
  pub breaks : broken_at k mention ≡ write_breaks k m.name kind (key_shapes keys)
  pub learns : learn k mention ≡ decides k m.name kind (key_shapes keys)

-- the types of a key's parts, where more is known
pub keys_now : (m : MapSeen) (k0 k1 k2 : Known) (number : ℕ) (keys : List Made) → KeyChecked m k0 k1 number keys → Grows k1 k2 → shapes_in k2 m.keys ≡ key_shapes keys
keys_now m k0 k1 k2 number keys c g = shapes_known k2 m.keys keys (key_sorts_later m k0 k1 k2 number keys c g)

pair_is : {A B C : Type 0} (f : A → B → C) (a c : A) (b d : B) → a ≡ c → b ≡ d → f a b ≡ f c d
pair_is f a c b d g h = cc

pub sets_decide : (m : MapSeen) (sort : Sort) (s : Shape) (keys : List Made) (k : Known) → shape_in k sort ≡ Some s → shapes_in k m.keys ≡ key_shapes keys → Decided m (Sets m.name m.keys sort) (kind_of_shape s) keys k
sets_decide m sort s keys k h g =
    let kind : kind_for k sort ≡ kind_of_shape s = ap (λ (o : Option Shape). kind_of_shape (unwrap_or o Int)) h in
    record {
      inner = tt;
      breaks = pair_is (write_breaks k m.name) (kind_for k sort) (kind_of_shape s) (shapes_in k m.keys) (key_shapes keys) kind g;
      learns = pair_is (decides k m.name) (kind_for k sort) (kind_of_shape s) (shapes_in k m.keys) (key_shapes keys) kind g;
    }

pub steps_decide : (m : MapSeen) (keys : List Made) (k : Known) → shapes_in k m.keys ≡ key_shapes keys → Decided m (Steps m.name m.keys) Ints keys k
steps_decide m keys k g = record { inner = tt; breaks = ap (write_breaks k m.name Ints) g; learns = ap (decides k m.name Ints) g }

pub decided_went : (m : MapSeen) (mention : Mention) (kind : MapKind) (keys : List Made) (k now : Known) → Decided m mention kind keys k → write_breaks k m.name kind (key_shapes keys) ≡ None
    → now ≡ decides k m.name kind (key_shapes keys) → Went (at m.place mention ∷ []) k now
decided_went m mention kind keys k now d h is = went_at m.place mention k now d.inner (d.breaks ∙ h) (d.learns ∙ sym is)

pub decided_fault : (m : MapSeen) (mention : Mention) (kind : MapKind) (keys : List Made) (qs : List Point) (k : Known) (e : TypeError) → Decided m mention kind keys k
    → IsBreach (write_breaks k m.name kind (key_shapes keys)) m.place e → SaysFault (judged (at m.place mention ∷ qs) k) e
decided_fault m mention kind keys qs k e d h = fault_here m.place mention qs k e (subst (λ (r : Option Rule). IsBreach r m.place e) (sym d.breaks) h)

-- the map that was decided, by its number
pub map_there : (m : MapSeen) (kind : MapKind) (k0 k1 k2 k3 : Known) (number : ℕ) (keys : List Made) → KeyChecked m k0 k1 number keys → Grows k1 k3 → is_fine_kind kind ≡ true
    → write_breaks k2 m.name kind (key_shapes keys) ≡ None → k3 ≡ decides k2 m.name kind (key_shapes keys) → IsMapOf k3 number kind (key_shapes keys)
map_there m kind k0 k1 k2 k3 number keys c g fine h is =
    record {
      name = m.name;
      named = named_later k1 k3 g number m.name c.named;
      declared = subst (λ (k : Known). IsDeclared k m.name kind (key_shapes keys)) (sym is) (write_declares k2 m.name kind (key_shapes keys) fine h);
    }

pub map_title : (m : MapSeen) (k0 k1 k : Known) (number : ℕ) (keys : List Made) → KeyChecked m k0 k1 number keys → Grows k1 k → (word : List ℕ → ℕ → Word)
    → word (title (titles_of k).maps number) (length (key_shapes keys)) ≡ word m.name (length m.keys)
map_title m k0 k1 k number keys c g word =
    let name = title_is k.names number m.name (named_later k1 k g number m.name c.named).numbered in
    let long = same_number k1 m.keys keys c.sorts in
    pair_is word (title (titles_of k).maps number) m.name (length (key_shapes keys)) (length m.keys) name long

fine_shape : (s : Shape) → is_fine_kind (kind_of_shape s) ≡ true
fine_shape Int = refl
fine_shape Str = refl

pub set_map_done : (m : MapSeen) (s : Seen) (k0 k1 k2 k3 : Known) (number : ℕ) (keys : List Made) (v : Made) → KeyChecked m k0 k1 number keys → Checked s k1 k2 v
    → write_breaks k2 m.name (kind_of_shape v.shape) (key_shapes keys) ≡ None → k3 ≡ decides k2 m.name (kind_of_shape v.shape) (key_shapes keys) → Done (set_told (OnMap m) s) k0 k3 (set_map_parts number keys v)
set_map_done m s k0 k1 k2 k3 number keys v c d h is =
    let last = decided_went m (Sets m.name m.keys s.sort) (kind_of_shape v.shape) keys k2 k3 (sets_decide m s.sort v.shape keys k2 d.typing.shape (keys_now m k0 k1 k2 number keys c d.grows)) h is in
    let g = grows_on k1 k2 k3 d.grows last.grows in
    let there = map_there m (kind_of_shape v.shape) k0 k1 k2 k3 number keys c g (fine_shape v.shape) h is in
    done_of (set_told (OnMap m) s) k0 k3 (set_map_parts number keys v)
    (went_both m.points (s.points ++ at m.place (Sets m.name m.keys s.sort) ∷ []) k0 k1 k3 (went_key m k0 k1 number keys c)
    (went_both s.points (at m.place (Sets m.name m.keys s.sort) ∷ []) k1 k2 k3 (went_seen s k1 k2 v d) last))
    (held_more k3 (Assigned None) (AssignWord None) (keyed_parts number keys v.shape ++ v.parts) (map_words m ++ s.words) tt refl
    (held_more k3 (MapOf number (key_shapes keys) v.shape) (MapWord m.name (length m.keys)) (parts_in keys ++ v.parts) (m.key_words ++ s.words) there (map_title m k0 k1 k3 number keys c g (λ name long. MapWord name long))
    (held_both k3 (parts_in keys) v.parts m.key_words s.words (held_later k1 k3 (parts_in keys) m.key_words g (held_key m k0 k1 number keys c)) (held_later k2 k3 v.parts s.words last.grows (held_seen s k1 k2 v d)))))

pub set_map_refused : (m : MapSeen) (s : Seen) (k0 k1 k2 : Known) (number : ℕ) (keys : List Made) (v : Made) (e : TypeError) → KeyChecked m k0 k1 number keys → Checked s k1 k2 v
    → IsBreach (write_breaks k2 m.name (kind_of_shape v.shape) (key_shapes keys)) m.place e → SaysFault (judged (set_told (OnMap m) s).points k0) e
set_map_refused m s k0 k1 k2 number keys v e c d h =
    fault_behind m.points (s.points ++ at m.place (Sets m.name m.keys s.sort) ∷ []) k0 k1 e (went_key m k0 k1 number keys c)
    (fault_behind s.points (at m.place (Sets m.name m.keys s.sort) ∷ []) k1 k2 e (went_seen s k1 k2 v d)
    (decided_fault m (Sets m.name m.keys s.sort) (kind_of_shape v.shape) keys [] k2 e (sets_decide m s.sort v.shape keys k2 d.typing.shape (keys_now m k0 k1 k2 number keys c d.grows)) h))

pub update_map_done : (op : BinOp) (m : MapSeen) (s : Seen) (place : Place) (k0 k1 k2 k3 : Known) (number : ℕ) (keys : List Made) (v : Made) (value : List TreePart) → KeyChecked m k0 k1 number keys → Checked s k1 k2 v
    → write_breaks k2 m.name Ints (key_shapes keys) ≡ None → k3 ≡ decides k2 m.name Ints (key_shapes keys) → whole_breaks v.shape ≡ None → value ≡ v.parts
    → Done (update_told op (OnMap m) s place) k0 k3 (update_map_parts op number keys value)
update_map_done op m s place k0 k1 k2 k3 number keys v value c d h is w same =
    let step = decided_went m (Steps m.name m.keys) Ints keys k2 k3 (steps_decide m keys k2 (keys_now m k0 k1 k2 number keys c d.grows)) h is in
    let g = grows_on k1 k2 k3 d.grows step.grows in
    let last = whole_went k3 place s.sort v.shape (shape_later k2 k3 step.grows s.sort v.shape d.typing.shape) w in
    let there = map_there m Ints k0 k1 k2 k3 number keys c g refl h is in
    rw same (done_of (update_told op (OnMap m) s place) k0 k3 (update_map_parts op number keys v.parts)
    (went_both m.points (s.points ++ at m.place (Steps m.name m.keys) ∷ at place (NeedsWhole s.sort) ∷ []) k0 k1 k3 (went_key m k0 k1 number keys c)
    (went_both s.points (at m.place (Steps m.name m.keys) ∷ at place (NeedsWhole s.sort) ∷ []) k1 k2 k3 (went_seen s k1 k2 v d)
    (went_both (at m.place (Steps m.name m.keys) ∷ []) (at place (NeedsWhole s.sort) ∷ []) k2 k3 k3 step last)))
    (held_more k3 (Assigned (Some op)) (AssignWord (Some op)) (keyed_parts number keys Int ++ v.parts) (map_words m ++ s.words) tt refl
    (held_more k3 (MapOf number (key_shapes keys) Int) (MapWord m.name (length m.keys)) (parts_in keys ++ v.parts) (m.key_words ++ s.words) there (map_title m k0 k1 k3 number keys c g (λ name long. MapWord name long))
    (held_both k3 (parts_in keys) v.parts m.key_words s.words (held_later k1 k3 (parts_in keys) m.key_words g (held_key m k0 k1 number keys c)) (held_later k2 k3 v.parts s.words step.grows (held_seen s k1 k2 v d))))))

pub update_map_missing : (op : BinOp) (m : MapSeen) (s : Seen) (place : Place) (k0 k1 k2 : Known) (number : ℕ) (keys : List Made) (v : Made) (e : TypeError) → KeyChecked m k0 k1 number keys → Checked s k1 k2 v
    → IsBreach (write_breaks k2 m.name Ints (key_shapes keys)) m.place e → SaysFault (judged (update_told op (OnMap m) s place).points k0) e
update_map_missing op m s place k0 k1 k2 number keys v e c d h =
    fault_behind m.points (s.points ++ at m.place (Steps m.name m.keys) ∷ at place (NeedsWhole s.sort) ∷ []) k0 k1 e (went_key m k0 k1 number keys c)
    (fault_behind s.points (at m.place (Steps m.name m.keys) ∷ at place (NeedsWhole s.sort) ∷ []) k1 k2 e (went_seen s k1 k2 v d)
    (decided_fault m (Steps m.name m.keys) Ints keys (at place (NeedsWhole s.sort) ∷ []) k2 e (steps_decide m keys k2 (keys_now m k0 k1 k2 number keys c d.grows)) h))

pub update_map_refused : (op : BinOp) (m : MapSeen) (s : Seen) (place : Place) (k0 k1 k2 k3 : Known) (number : ℕ) (keys : List Made) (v : Made) (e : TypeError) → KeyChecked m k0 k1 number keys → Checked s k1 k2 v
    → write_breaks k2 m.name Ints (key_shapes keys) ≡ None → k3 ≡ decides k2 m.name Ints (key_shapes keys) → IsBreach (whole_breaks v.shape) place e → SaysFault (judged (update_told op (OnMap m) s place).points k0) e
update_map_refused op m s place k0 k1 k2 k3 number keys v e c d h is b =
    let step = decided_went m (Steps m.name m.keys) Ints keys k2 k3 (steps_decide m keys k2 (keys_now m k0 k1 k2 number keys c d.grows)) h is in
    fault_behind m.points (s.points ++ at m.place (Steps m.name m.keys) ∷ at place (NeedsWhole s.sort) ∷ []) k0 k1 e (went_key m k0 k1 number keys c)
    (fault_behind s.points (at m.place (Steps m.name m.keys) ∷ at place (NeedsWhole s.sort) ∷ []) k1 k2 e (went_seen s k1 k2 v d)
    (fault_behind (at m.place (Steps m.name m.keys) ∷ []) (at place (NeedsWhole s.sort) ∷ []) k2 k3 e step
    (whole_fault k3 place s.sort v.shape [] e (shape_later k2 k3 step.grows s.sort v.shape d.typing.shape) b)))
