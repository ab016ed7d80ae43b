-- A map and its key.
use Rattle.std.proofs.Common.{◌≡◌, ℕ, List, [], ◌∷◌, map, Some, refl, sym, ap, subst, ◌∙◌}
use Rattle.bt_core.specs.declared.place.Place.{Place}
use Rattle.typed_tree.specs.Parts.{Made, parts_in}
use Rattle.expr_types.specs.declared.fault.TypeError.{TypeError}
use Rattle.expr_types.specs.declared.known.Known.{Known}
use Rattle.expr_types.specs.Mentions.{Sort}
use Rattle.expr_types.specs.Known.{shape_in, with_name}
use Rattle.expr_types.specs.Grows.{Grows}
use Rattle.expr_types.specs.Judge.{judged, SaysFault}
use Rattle.expr_types.specs.Walk.{Seen, MapSeen, points_of, words_of, key_seen}
use Rattle.expr_types.specs.Typing.{IsNamed, AreTyping, AllFit, titles_of, words_by}
use Rattle.expr_types.specs.Checked.{AllChecked, KeyChecked}
use Rattle.expr_types.proofs.Growing.{grows_on, grows_name, shape_later}
use Rattle.expr_types.proofs.Later.{named_later, all_later, words_later, fits_both, words_both}

pub all_sorts : (k : Known) (ss : List Seen) (ms : List Made) → AreTyping k ss ms → map (shape_in k) (map (λ s. s.sort) ss) ≡ map (λ m. Some m.shape) ms
all_sorts k [] [] h = refl
all_sorts k [] (m ∷ ms) h = absurd h
all_sorts k (s ∷ ss) [] h = absurd h
all_sorts k (s ∷ ss) (m ∷ ms) h = let a = h.0.shape in let b = all_sorts k ss ms h.1 in cc

pub all_fit : (k : Known) (ss : List Seen) (ms : List Made) → AreTyping k ss ms → AllFit k (parts_in ms)
all_fit k [] [] h = tt
all_fit k [] (m ∷ ms) h = absurd h
all_fit k (s ∷ ss) [] h = absurd h
all_fit k (s ∷ ss) (m ∷ ms) h = fits_both k m.parts (parts_in ms) h.0.fits (all_fit k ss ms h.1)

pub all_words : (k : Known) (ss : List Seen) (ms : List Made) → AreTyping k ss ms → words_by (titles_of k) (parts_in ms) ≡ words_of ss
all_words k [] [] h = refl
all_words k [] (m ∷ ms) h = absurd h
all_words k (s ∷ ss) [] h = absurd h
all_words k (s ∷ ss) (m ∷ ms) h = let a = words_both (titles_of k) m.parts (parts_in ms) in let b = h.0.written in let d = all_words k ss ms h.1 in cc

pub key_checked : (name : List ℕ) (ss : List Seen) (place : Place) (k0 k1 k2 : Known) (number : ℕ) (ms : List Made) → k1 ≡ with_name k0 name → IsNamed k1 number name → AllChecked ss k1 k2 ms → KeyChecked (key_seen name ss place) k0 k2 number ms
key_checked name ss place k0 k1 k2 number ms h n c =
    record {
      whole = ap (λ (k : Known). judged (points_of ss) k) (sym h) ∙ c.whole;
      grows = grows_on k0 k1 k2 (subst (λ (k : Known). Grows k0 k) (sym h) (grows_name k0 name)) c.grows;
      named = named_later k1 k2 c.grows number name n;
      sorts = all_sorts k2 ss ms c.typing;
      fits = all_fit k2 ss ms c.typing;
      written = all_words k2 ss ms c.typing;
    }

pub key_refused : (name : List ℕ) (ss : List Seen) (place : Place) (k0 k1 : Known) (e : TypeError) → k1 ≡ with_name k0 name → SaysFault (judged (points_of ss) k1) e → SaysFault (judged (key_seen name ss place).points k0) e
key_refused name ss place k0 k1 e h f = subst (λ (k : Known). SaysFault (judged (points_of ss) k) e) h f

-- a checked key stays one
pub key_later : (m : MapSeen) (k0 k1 k2 : Known) (number : ℕ) (keys : List Made) → KeyChecked m k0 k1 number keys → Grows k1 k2 → IsNamed k2 number m.name × AllFit k2 (parts_in keys) × (words_by (titles_of k2) (parts_in keys) ≡ m.key_words)
key_later m k0 k1 k2 number keys c g = (named_later k1 k2 g number m.name c.named, all_later k1 k2 g (parts_in keys) c.fits, words_later k1 k2 g (parts_in keys) c.fits ∙ c.written)

-- the types of several expressions stay
sort_later : (a b : Known) → Grows a b → (sorts : List Sort) (ms : List Made) → map (shape_in a) sorts ≡ map (λ m. Some m.shape) ms → map (shape_in b) sorts ≡ map (λ m. Some m.shape) ms
sort_later a b g [] [] h = refl
sort_later a b g [] (m ∷ ms) h = cc
sort_later a b g (s ∷ ss) [] h = cc
sort_later a b g (s ∷ ss) (m ∷ ms) h =
    let first : shape_in a s ≡ Some m.shape = cc in
    let rest : map (shape_in a) ss ≡ map (λ m. Some m.shape) ms = cc in
    let x = shape_later a b g s m.shape first in
    let y = sort_later a b g ss ms rest in
    cc

-- the types of a checked key's parts stay
pub key_sorts_later : (m : MapSeen) (k0 k1 k2 : Known) (number : ℕ) (keys : List Made) → KeyChecked m k0 k1 number keys → Grows k1 k2 → map (shape_in k2) m.keys ≡ map (λ k. Some k.shape) keys
key_sorts_later m k0 k1 k2 number keys c g = sort_later k1 k2 g m.keys keys c.sorts
